use Rattle.std.proofs.Common.{◌≡◌, ◌++◌, ◌∙◌, sym, ap, subst, append_assoc, ℕ, List}
use Rattle.std.specs.Prelude.{OnOk}
use Rattle.flat_design.specs.declared.stmt.FlatStmt.TheVariants as s
use Rattle.flat_races.specs.Assigns as spec
use Rattle.flat_races.proofs.Statements as nodes
use Rattle.flat_races.proofs.assigns.+nets.Goals as goal

pub push_arm-returns : goal.push_arm-returns
push_arm-returns t c = subst (λ ns. OnOk c.push_stmt.result (c.push_stmt.new.out.items ≡ c.args.out.now.items ++ ns)) (sym (nodes.arm_is c.args.nonblocking c.args.arm.now)) c.push_stmt.ensures

pub push_stmt-returns-in-Block : goal.push_stmt-returns-in-Block
push_stmt-returns-in-Block t c =
    subst (λ ns. OnOk c.push_all.result (c.push_all.new.out.items ≡ c.args.out.now.items ++ ns)) (sym (nodes.nets_Block c.args.nonblocking c.args.stmt.now c.as_slice-body.result.now (c.in-Block.is ∙ ap s.Block (sym c.as_slice-body.ensures)))) c.push_all.ensures

pub push_stmt-returns-in-Assign : goal.push_stmt-returns-in-Assign
push_stmt-returns-in-Assign t c =
    subst (λ ns. OnOk c.push_left.result (c.push_left.new.out.items ≡ c.args.out.now.items ++ ns)) (sym (nodes.nets_Assign c.args.nonblocking c.args.stmt.now c.as_slice-left.result.now _ _ (c.in-Assign.is ∙ ap (λ x. s.Assign x c.in-Assign.value c.in-Assign.later) (sym c.as_slice-left.ensures)))) c.push_left.ensures

-- what was put first, and then the rest
after_both : (old mid first rest all : List ℕ) → mid ≡ old ++ first → all ≡ first ++ rest → mid ++ rest ≡ old ++ all
after_both old mid first rest all h k = ap (λ l. l ++ rest) h ∙ append_assoc old first rest ∙ ap (λ l. old ++ l) (sym k)

pub push_stmt-returns-in_ok-push_stmt-in-If : goal.push_stmt-returns-in_ok-push_stmt-in-If
push_stmt-returns-in_ok-push_stmt-in-If t c =
    subst (λ ns. OnOk c.push_other.result (c.push_other.new.out.items ≡ ns))
    (after_both c.args.out.now.items c.push_stmt.new.out.items _ (spec.option_nets_by c.args.nonblocking c.in-If.no) _ (c.in_ok-push_stmt-in-If.ensures)
    (nodes.nets_If c.args.nonblocking c.args.stmt.now c.in-If.test c.get-yes.result.now c.in-If.no (c.in-If.is ∙ ap (λ x. s.If c.in-If.test x c.in-If.no) (sym c.get-yes.ensures))))
    c.push_other.ensures

pub push_stmt-returns-in_ok-push_arms-in-Case : goal.push_stmt-returns-in_ok-push_arms-in-Case
push_stmt-returns-in_ok-push_arms-in-Case t c =
    subst (λ ns. OnOk c.push_other-in-Case.result (c.push_other-in-Case.new.out.items ≡ ns))
    (after_both c.args.out.now.items c.push_arms.new.out.items _ (spec.option_nets_by c.args.nonblocking c.in-Case.other) _ (c.in_ok-push_arms-in-Case.ensures)
    (nodes.nets_Case c.args.nonblocking c.args.stmt.now c.in-Case.selector c.as_slice-arms.result.now c.in-Case.other (c.in-Case.is ∙ ap (λ x. s.Case c.in-Case.selector x c.in-Case.other) (sym c.as_slice-arms.ensures))))
    c.push_other-in-Case.ensures
