use Rattle.std.proofs.Common.{◌≡◌, ◌-◌, codes}
use Rattle.parsing.specs.Parser.{many, many_from}
use Rattle.rdl_tree.specs.Tree.{is_text}
use Rattle.rdl_parse.specs.Grammar.{next_step}
use Rattle.rdl_parse.proofs.properties.next_steps.Given as goal

abbrev pub invariant-loop-turn : goal.invariant-loop-turn
invariant-loop-turn l = many (is_text (codes ".")) next_step l.fn.tokens ≡ many_from (is_text (codes ".")) next_step (l._turn-end - l._turn) l.found l.tokens
