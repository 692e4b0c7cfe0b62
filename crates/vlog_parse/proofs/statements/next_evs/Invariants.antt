use Rattle.std.proofs.Common.{◌≡◌, ◌-◌}
use Rattle.parsing.specs.Parser.{many, many_from}
use Rattle.vlog_tree.specs.Terminals.{is_separator}
use Rattle.vlog_tree.specs.ReadStatements.{next_ev}
use Rattle.vlog_parse.proofs.statements.next_evs.Given as goal

abbrev pub invariant-loop-turn : goal.invariant-loop-turn
invariant-loop-turn l = many is_separator next_ev l.fn.tokens ≡ many_from is_separator next_ev (l._turn-end - l._turn) l.found l.tokens
