use Rattle.std.proofs.Common.{◌∙◌, sym, ap}
use Rattle.flat_design.specs.declared.stmt.FlatStmt.TheVariants as s
use Rattle.flat_clocks.proofs.Outermost.{tests_Block, tests_If, no_tests}
use Rattle.flat_clocks.proofs.role.+outermost.Goals as goal

pub outermost_tests-returns-in-Block : goal.outermost_tests-returns-in-Block
outermost_tests-returns-in-Block t c = c.only_tests.ensures ∙ sym (ap (λ f. f c.args.event) (tests_Block c.args.body.now c.as_slice-body.result.now (c.in-Block.is ∙ ap s.Block (sym c.as_slice-body.ensures))))

pub outermost_tests-returns-in-If : goal.outermost_tests-returns-in-If
outermost_tests-returns-in-If t c = c.tests.ensures ∙ sym (ap (λ f. f c.args.event) (tests_If c.args.body.now c.in-If.test _ _ c.in-If.is))

pub outermost_tests-returns-in_default : goal.outermost_tests-returns-in_default
outermost_tests-returns-in_default t c = sym (ap (λ f. f c.args.event) (no_tests c.args.body.now c.in_default.not-Block c.in_default.not-If))
