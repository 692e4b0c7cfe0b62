use Rattle.std.proofs.Common.{◌≡◌, ◌+◌, ◌*◌, ◌-◌, codes}
use Rattle.parsing.specs.Parser.{many, many_from}
use Rattle.vlog_tree.specs.Terminals.{is_mark}
use Rattle.vlog_tree.specs.ReadExpressions.{next_lval, lval}
use Rattle.vlog_parse.proofs.expressions.+lval.Given as goal

abbrev pub decreases-left_side : goal.decreases-left_side
decreases-left_side l = 4 * l.room

abbrev pub decreases-next_lval : goal.decreases-next_lval
decreases-next_lval l = 4 * l.room + 1

abbrev pub decreases-next_lvals : goal.decreases-next_lvals
decreases-next_lvals l = 4 * l.room + 2

abbrev pub decreases-lval_join : goal.decreases-lval_join
decreases-lval_join l = 4 * l.room + 3

abbrev pub invariant-next_lvals-loop-turn : goal.invariant-next_lvals-loop-turn
invariant-next_lvals-loop-turn l = many (is_mark (codes ",")) (next_lval (lval l.room)) l.fn.tokens ≡ many_from (is_mark (codes ",")) (next_lval (lval l.room)) (l._turn-end - l._turn) l.found l.tokens

abbrev pub decreases-boxed_left : goal.decreases-boxed_left
decreases-boxed_left l = 4 * l.room + 1
