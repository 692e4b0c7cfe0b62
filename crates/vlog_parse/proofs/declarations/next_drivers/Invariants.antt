use Rattle.std.proofs.Common.{◌≡◌, ◌-◌, codes}
use Rattle.parsing.specs.Parser.{many, many_from}
use Rattle.vlog_tree.specs.Terminals.{is_mark}
use Rattle.vlog_tree.specs.ReadModules.{next_driver}
use Rattle.vlog_parse.proofs.declarations.next_drivers.Given as goal

abbrev pub invariant-loop-turn : goal.invariant-loop-turn
invariant-loop-turn l = many (is_mark (codes ",")) (next_driver l.room) l.fn.tokens ≡ many_from (is_mark (codes ",")) (next_driver l.room) (l._turn-end - l._turn) l.found l.tokens
