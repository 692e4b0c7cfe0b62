use Rattle.std.proofs.Common.{◌≡◌, ◌-◌, codes}
use Rattle.parsing.specs.Parser.{many, many_from}
use Rattle.vlog_tree.specs.Terminals.{is_word}
use Rattle.vlog_parse.specs.Nesting.{module_in}
use Rattle.vlog_parse.proofs.items.modules.Given as goal

abbrev pub invariant-loop-turn : goal.invariant-loop-turn
invariant-loop-turn l = many (is_word (codes "module")) (module_in l.room l.levels) l.fn.tokens ≡ many_from (is_word (codes "module")) (module_in l.room l.levels) (l._turn-end - l._turn) l.found l.tokens
