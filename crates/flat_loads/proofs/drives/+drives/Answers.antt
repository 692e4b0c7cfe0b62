use Rattle.std.proofs.Common.{◌≡◌, ◌∙◌, ◌||◌, ap, sym, subst, ℕ, List, Bool, map}
use Rattle.std.specs.Prelude.{OnOk}
use Rattle.flat_design.specs.declared.stmt.FlatStmt.TheVariants as s
use Rattle.flat_design.specs.Bits.{Set}
use Rattle.flat_design.specs.Prices.{load, arms_drive}
use Rattle.flat_loads.specs.Parts.{arm_load, other_drives}
use Rattle.flat_loads.proofs.Loads as loads
use Rattle.flat_loads.proofs.Gathered.{Has, on_ok, has_both}
use Rattle.flat_loads.proofs.drives.+drives.Goals as goal

pub add_arm-returns-clause-has : goal.add_arm-returns-clause-has
add_arm-returns-clause-has t c = subst (λ (d : Set). OnOk c.add_stmt.result (Has c.args.set.now d c.add_stmt.new.set)) (ap (λ a. a.body.drives) (sym (loads.arm_is c.args.nets.now c.args.arm.now))) c.add_stmt.ensures.has

pub add_stmt-returns-in-Block-clause-has : goal.add_stmt-returns-in-Block-clause-has
add_stmt-returns-in-Block-clause-has t c =
    subst (λ (d : Set). OnOk c.add_all.result (Has c.args.set.now d c.add_all.new.set)) (ap (λ l. l.drives) (sym (loads.load_Block c.args.nets.now c.args.stmt.now c.as_slice-body.result.now (c.in-Block.is ∙ ap s.Block (sym c.as_slice-body.ensures))))) c.add_all.ensures.has

pub add_stmt-returns-in-Assign-clause-has : goal.add_stmt-returns-in-Assign-clause-has
add_stmt-returns-in-Assign-clause-has t c =
    subst (λ (d : Set). OnOk c.add_left.result (Has c.args.set.now d c.add_left.new.set))
    (ap (λ l. l.drives) (sym (loads.load_Assign c.args.nets.now c.args.stmt.now c.as_slice-left.result.now c.in-Assign.value c.in-Assign.later (c.in-Assign.is ∙ ap (λ x. s.Assign x c.in-Assign.value c.in-Assign.later) (sym c.as_slice-left.ensures)))))
    c.add_left.ensures.has

pub add_stmt-returns-in_ok-add_stmt-in-If-clause-has : goal.add_stmt-returns-in_ok-add_stmt-in-If-clause-has
add_stmt-returns-in_ok-add_stmt-in-If-clause-has t c =
    let nets = c.args.nets.now in
    let both : Set = λ i. (load nets c.get-yes.result.now).drives i || other_drives nets c.in-If.no i in
    let e : both ≡ (load nets c.args.stmt.now).drives = ap (λ l. l.drives) (sym (loads.load_If nets c.args.stmt.now c.in-If.test c.get-yes.result.now c.in-If.no (c.in-If.is ∙ ap (λ x. s.If c.in-If.test x c.in-If.no) (sym c.get-yes.ensures)))) in
    subst (λ (d : Set). OnOk c.add_other.result (Has c.args.set.now d c.add_other.new.set)) e
    (on_ok c.add_other.result (Has c.add_stmt.new.set (other_drives nets c.in-If.no) c.add_other.new.set) (Has c.args.set.now both c.add_other.new.set)
    (has_both c.args.set.now c.add_stmt.new.set c.add_other.new.set _ _ c.in_ok-add_stmt-in-If.ensures.long c.in_ok-add_stmt-in-If.ensures.has)
    c.add_other.ensures.has)

pub add_stmt-returns-in_ok-add_arms-in-Case-clause-has : goal.add_stmt-returns-in_ok-add_arms-in-Case-clause-has
add_stmt-returns-in_ok-add_arms-in-Case-clause-has t c =
    let nets = c.args.nets.now in
    let both : Set = λ i. arms_drive (map (arm_load nets) c.as_slice-arms.result.now) i || other_drives nets c.in-Case.other i in
    let e : both ≡ (load nets c.args.stmt.now).drives =
    ap (λ l. l.drives) (sym (loads.load_Case nets c.args.stmt.now c.in-Case.selector c.as_slice-arms.result.now c.in-Case.other (c.in-Case.is ∙ ap (λ x. s.Case c.in-Case.selector x c.in-Case.other) (sym c.as_slice-arms.ensures)))) in
    subst (λ (d : Set). OnOk c.add_other-in-Case.result (Has c.args.set.now d c.add_other-in-Case.new.set)) e
    (on_ok c.add_other-in-Case.result (Has c.add_arms.new.set (other_drives nets c.in-Case.other) c.add_other-in-Case.new.set) (Has c.args.set.now both c.add_other-in-Case.new.set)
    (has_both c.args.set.now c.add_arms.new.set c.add_other-in-Case.new.set _ _ c.in_ok-add_arms-in-Case.ensures.long c.in_ok-add_arms-in-Case.ensures.has)
    c.add_other-in-Case.ensures.has)
