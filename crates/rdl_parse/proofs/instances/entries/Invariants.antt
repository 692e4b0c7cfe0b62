use Rattle.std.proofs.Common.{◌≡◌, ◌-◌}
use Rattle.parsing.specs.Parser.{many, many_from}
use Rattle.rdl_tree.specs.Tree.{is_name}
use Rattle.rdl_parse.specs.Grammar.{entry}
use Rattle.rdl_parse.proofs.instances.entries.Given as goal

abbrev pub invariant-loop-turn : goal.invariant-loop-turn
invariant-loop-turn l = many (is_name) entry l.fn.tokens ≡ many_from (is_name) entry (l._turn-end - l._turn) l.found l.tokens
