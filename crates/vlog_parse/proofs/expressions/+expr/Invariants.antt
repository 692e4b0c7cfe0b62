use Rattle.std.proofs.Common.{◌≡◌, ◌+◌, ◌*◌, ◌-◌, codes}
use Rattle.parsing.specs.Parser.{many, many_from}
use Rattle.vlog_tree.specs.Terminals.{is_mark}
use Rattle.vlog_tree.specs.ReadExpressions.{next_expr, expr, operand, operand_of, upto, chained}
use Rattle.vlog_parse.proofs.Chains.{chain_from}
use Rattle.vlog_parse.proofs.expressions.+expr.Given as goal

abbrev pub decreases-boxed : goal.decreases-boxed
decreases-boxed l = 64 * l.room

abbrev pub decreases-expression : goal.decreases-expression
decreases-expression l = 64 * l.room + 1

abbrev pub decreases-next_expr : goal.decreases-next_expr
decreases-next_expr l = 64 * l.room + 2

abbrev pub decreases-next_exprs : goal.decreases-next_exprs
decreases-next_exprs l = 64 * l.room + 3

abbrev pub decreases-select_more : goal.decreases-select_more
decreases-select_more l = 64 * l.room + 2

abbrev pub decreases-select : goal.decreases-select
decreases-select l = 64 * l.room + 3

abbrev pub decreases-any_select : goal.decreases-any_select
decreases-any_select l = 64 * l.room + 4

abbrev pub decreases-joined : goal.decreases-joined
decreases-joined l = 64 * l.room + 4

abbrev pub decreases-repeated : goal.decreases-repeated
decreases-repeated l = 64 * l.room + 4

abbrev pub decreases-braced : goal.decreases-braced
decreases-braced l = 64 * l.room + 5

abbrev pub decreases-named : goal.decreases-named
decreases-named l = 64 * l.room + 5

abbrev pub decreases-group : goal.decreases-group
decreases-group l = 64 * l.room + 2

abbrev pub decreases-call : goal.decreases-call
decreases-call l = 64 * l.room + 2

abbrev pub decreases-prim : goal.decreases-prim
decreases-prim l = 64 * l.room + 6

abbrev pub decreases-boxed_prim : goal.decreases-boxed_prim
decreases-boxed_prim l = 64 * l.room + 7

abbrev pub decreases-operand_of : goal.decreases-operand_of
decreases-operand_of l = 64 * l.room + 8

abbrev pub decreases-operand : goal.decreases-operand
decreases-operand l = 64 * l.room

abbrev pub decreases-step : goal.decreases-step
decreases-step l = 64 * l.room + 3 * l.level + 7

abbrev pub decreases-chained : goal.decreases-chained
decreases-chained l = 64 * l.room + 3 * l.level + 8

abbrev pub decreases-upto : goal.decreases-upto
decreases-upto l = 64 * l.room + 3 * l.level + 9

abbrev pub decreases-arms : goal.decreases-arms
decreases-arms l = 64 * l.room + 2

abbrev pub decreases-choice : goal.decreases-choice
decreases-choice l = 64 * l.room + 60

abbrev pub invariant-next_exprs-loop-turn : goal.invariant-next_exprs-loop-turn
invariant-next_exprs-loop-turn l = many (is_mark (codes ",")) (next_expr (expr l.room)) l.fn.tokens ≡ many_from (is_mark (codes ",")) (next_expr (expr l.room)) (l._turn-end - l._turn) l.found l.tokens

abbrev pub invariant-chained-loop-turn : goal.invariant-chained-loop-turn
invariant-chained-loop-turn l =
    chained l.level (upto (operand_of (operand l.room) (expr l.room)) (l.level - 1)) l.fn.tokens
    ≡ chain_from l.level (upto (operand_of (operand l.room) (expr l.room)) (l.level - 1)) (l._turn-end - l._turn) l.left l.tokens
