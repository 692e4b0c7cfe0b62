use Rattle.std.proofs.Common.{◌≡◌, ◌+◌, ◌*◌, ◌-◌}
use Rattle.parsing.specs.Parser.{many, many_from}
use Rattle.vlog_tree.specs.ReadExpressions.{begins_expr}
use Rattle.vlog_tree.specs.ReadStatements.{begins_stmt, labelled}
use Rattle.vlog_parse.specs.Nesting.{stmt_in}
use Rattle.vlog_parse.proofs.statements.+stmt.Given as goal

abbrev pub decreases-stmts : goal.decreases-stmts
decreases-stmts l = 9 * l.inner + 1

abbrev pub decreases-block : goal.decreases-block
decreases-block l = 9 * l.inner + 2

abbrev pub decreases-else_part : goal.decreases-else_part
decreases-else_part l = 9 * l.inner + 2

abbrev pub decreases-any_else : goal.decreases-any_else
decreases-any_else l = 9 * l.inner + 3

abbrev pub decreases-conditional : goal.decreases-conditional
decreases-conditional l = 9 * l.inner + 4

abbrev pub decreases-labelled : goal.decreases-labelled
decreases-labelled l = 9 * l.inner + 2

abbrev pub decreases-all_labelled : goal.decreases-all_labelled
decreases-all_labelled l = 9 * l.inner + 3

abbrev pub decreases-default_item : goal.decreases-default_item
decreases-default_item l = 9 * l.inner + 2

abbrev pub decreases-default_and_more : goal.decreases-default_and_more
decreases-default_and_more l = 9 * l.inner + 4

abbrev pub decreases-citems : goal.decreases-citems
decreases-citems l = 9 * l.inner + 5

abbrev pub decreases-cases_end : goal.decreases-cases_end
decreases-cases_end l = 9 * l.inner + 6

abbrev pub decreases-cases : goal.decreases-cases
decreases-cases l = 9 * l.inner + 7

abbrev pub decreases-stmt_of : goal.decreases-stmt_of
decreases-stmt_of l = 9 * l.inner + 8

abbrev pub decreases-stmt : goal.decreases-stmt
decreases-stmt l = 9 * l.room

abbrev pub invariant-stmts-loop-turn : goal.invariant-stmts-loop-turn
invariant-stmts-loop-turn l = many begins_stmt (stmt_in l.inner l.levels) l.fn.tokens ≡ many_from begins_stmt (stmt_in l.inner l.levels) (l._turn-end - l._turn) l.found l.tokens

abbrev pub invariant-all_labelled-loop-turn : goal.invariant-all_labelled-loop-turn
invariant-all_labelled-loop-turn l = many begins_expr (labelled l.room (stmt_in l.inner l.levels)) l.fn.tokens ≡ many_from begins_expr (labelled l.room (stmt_in l.inner l.levels)) (l._turn-end - l._turn) l.found l.tokens
