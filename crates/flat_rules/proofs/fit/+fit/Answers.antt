use Rattle.std.proofs.Common.{◌≡◌, ◌∙◌, ◌&&◌, Bool, true, false, refl, sym, ap}
use Rattle.flat_design.specs.declared.stmt.FlatStmt.TheVariants as s
use Rattle.flat_rules.specs.Fits.{stmt_fits, label_fits}
use Rattle.std.specs.List.{list_all}
use Rattle.flat_rules.proofs.Nodes as nodes
use Rattle.flat_rules.proofs.fit.+fit.Goals as goal

pub arm_fits-returns : goal.arm_fits-returns
arm_fits-returns t c =
    c.both.ensures ∙ (λ i. (c.labels_fit-labels_fit.ensures ∙ ap (list_all (label_fits c.args.nets.now c.args.size)) c.as_slice-labels.ensures) i && c.stmt_fits-body_fits.ensures i)
    ∙ sym (nodes.arm_is c.args.nets.now c.args.arm.now c.args.size)

pub stmt_fits-returns-in-Block : goal.stmt_fits-returns-in-Block
stmt_fits-returns-in-Block t c = c.all_fit.ensures ∙ sym (nodes.fits_Block c.args.nets.now c.args.stmt.now c.as_slice-body.result.now (c.in-Block.is ∙ ap s.Block (sym c.as_slice-body.ensures)))

pub stmt_fits-returns-in-Assign : goal.stmt_fits-returns-in-Assign
stmt_fits-returns-in-Assign t c = c.assign_fits.ensures ∙ sym (nodes.fits_Assign c.args.nets.now c.args.stmt.now c.as_slice-left.result.now c.in-Assign.value c.in-Assign.later (c.in-Assign.is ∙ ap (λ x. s.Assign x c.in-Assign.value c.in-Assign.later) (sym c.as_slice-left.ensures)))

pub stmt_fits-returns-in-If : goal.stmt_fits-returns-in-If
stmt_fits-returns-in-If t c =
    c.all_of.ensures ∙ (λ i. c.obeys.ensures i && (c.stmt_fits-a.ensures i && c.other_fits-b.ensures i))
    ∙ sym (nodes.fits_If c.args.nets.now c.args.stmt.now c.in-If.test c.get-yes.result.now c.in-If.no (c.in-If.is ∙ ap (λ x. s.If c.in-If.test x c.in-If.no) (sym c.get-yes.ensures)))

pub stmt_fits-returns-in-Case : goal.stmt_fits-returns-in-Case
stmt_fits-returns-in-Case t c =
    c.all_of-in-Case.ensures ∙ (λ i. c.obeys-in-Case.ensures i && (c.arms_fit-a.ensures i && c.other_fits-b-in-Case.ensures i))
    ∙ sym (nodes.fits_Case c.args.nets.now c.args.stmt.now c.in-Case.selector c.as_slice-arms.result.now c.in-Case.other (c.in-Case.is ∙ ap (λ x. s.Case c.in-Case.selector x c.in-Case.other) (sym c.as_slice-arms.ensures)))
