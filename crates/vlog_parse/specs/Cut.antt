-- What reading a part of the tokens says of them all. No public contract cites it.
use Rattle.std.specs.Prelude.{◌≡◌, ◌+◌, [], length, Result, Ok, Err}
use Rattle.parsing.specs.Parser.{Refused}
use Rattle.vlog_tree.specs.declared.fault.VlogCode.TheVariants.{VlogSyntax, VlogDeep}
use Rattle.vlog_tree.specs.declared.fault.VlogFault.{VlogFault}
use Rattle.vlog_tree.specs.declared.fault.VlogFault.TheVariants.{NoMemory, At}
use Rattle.vlog_tree.specs.declared.token.VTokens.{VTokens}
use Rattle.vlog_tree.specs.declared.tree_modules.VlogFile.{VlogFile}
use Rattle.vlog_tree.specs.Terminals.{Tokens}
use Rattle.vlog_tree.specs.Modules.{IsReading}
use Rattle.vlog_parse.specs.Nesting.{most_levels, source_in}
use Rattle.vlog_parse.specs.Refusal.{HasNoReading, IsFirstFault, IsFirstNested, IsFlat}

-- The rows that bear only so many levels stop with so many tokens left.
abbrev pub StopsWith : Tokens → Tokens → Type 0
StopsWith ts rest = source_in (length ts + 1) most_levels ts ≡ Err (Refused rest)

-- Why they stop.
abbrev pub Tells : VTokens → Result VlogFile VlogFault → Type 0
Tells tokens (Ok file) = IsReading tokens.list file × IsFlat tokens.list
Tells tokens (Err NoMemory) = Unit {0}
Tells tokens (Err (At VlogDeep place names path)) = IsFirstNested tokens.list place × ((names ≡ []) × (path ≡ []))
Tells tokens (Err (At VlogSyntax place names path)) = (IsFlat tokens.list × (HasNoReading tokens.list × IsFirstFault tokens place)) × ((names ≡ []) × (path ≡ []))
Tells tokens (Err (At _ place names path)) = ⊥
