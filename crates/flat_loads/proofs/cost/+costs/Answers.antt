use Rattle.std.proofs.Common.{◌≡◌, ◌∙◌, ◌+◌, ◌*◌, ap, sym, subst, refl, ℕ, List, Bool, map, min, sum}
use Rattle.std.specs.Prelude.{IfOk}
use Rattle.flat_design.specs.declared.stmt.FlatStmt.TheVariants as s
use Rattle.flat_design.specs.Prices.{load, price, assign_cost}
use Rattle.flat_cost.specs.Cuts.{limit}
use Rattle.flat_loads.specs.Parts.{arm_load, arm_cost, other_cost, labels_cost, if_bits, case_bits}
use Rattle.flat_loads.proofs.Loads as loads
use Rattle.flat_loads.proofs.Labels.{arm_cost_is}
use Rattle.flat_loads.proofs.cost.+costs.Goals as goal

pub arm_cost-returns-clause-cost : goal.arm_cost-returns-clause-cost
arm_cost-returns-clause-cost t c =
    c.together.ensures (labels_cost c.args.nets.now c.args.bits c.args.arm.now.labels) (load c.args.nets.now c.args.arm.now.body).cost 0
    (c.labels_cost-labels.ensures ∙ ap (λ ls. min (labels_cost c.args.nets.now c.args.bits ls) limit) c.as_slice-labels.ensures) c.in_ok-body.ensures.cost refl
    ∙ ap (λ n. min n limit) (arm_cost_is c.args.nets.now c.args.bits c.args.arm.now)

pub stmt_cost-returns-in-Block-clause-cost : goal.stmt_cost-returns-in-Block-clause-cost
stmt_cost-returns-in-Block-clause-cost t c =
    subst (λ (n : ℕ). IfOk c.all_cost.result (λ c. c ≡ min n limit)) (ap (λ l. l.cost) (sym (loads.load_Block c.args.nets.now c.args.stmt.now c.as_slice-body.result.now (c.in-Block.is ∙ ap s.Block (sym c.as_slice-body.ensures))))) c.all_cost.ensures.cost

pub stmt_cost-returns-in-Assign-clause-cost : goal.stmt_cost-returns-in-Assign-clause-cost
stmt_cost-returns-in-Assign-clause-cost t c =
    c.assign_cost.ensures
    ∙ ap (λ l. min l.cost limit) (sym (loads.load_Assign c.args.nets.now c.args.stmt.now c.as_slice-left.result.now c.in-Assign.value c.in-Assign.later (c.in-Assign.is ∙ ap (λ x. s.Assign x c.in-Assign.value c.in-Assign.later) (sym c.as_slice-left.ensures))))

pub stmt_cost-returns-in_ok-bits-in-If-clause-cost : goal.stmt_cost-returns-in_ok-bits-in-If-clause-cost
stmt_cost-returns-in_ok-bits-in-If-clause-cost t c =
    let nets = c.args.nets.now in
    c.if_cost.ensures (price nets c.in-If.test) (load nets c.get-yes.result.now).cost (other_cost nets c.in-If.no) c.price_of-price.ensures c.in_ok-a-in-If.ensures.cost c.in_ok-b-in-If.ensures.cost
    ∙ ap (λ b. min ((price nets c.in-If.test).cost + (load nets c.get-yes.result.now).cost + other_cost nets c.in-If.no + (3 * b + (price nets c.in-If.test).size)) limit) c.in_ok-bits-in-If.ensures.bits
    ∙ ap (λ l. min l.cost limit) (sym (loads.load_If nets c.args.stmt.now c.in-If.test c.get-yes.result.now c.in-If.no (c.in-If.is ∙ ap (λ x. s.If c.in-If.test x c.in-If.no) (sym c.get-yes.ensures))))

pub stmt_cost-returns-in_ok-b-in-Case-clause-cost : goal.stmt_cost-returns-in_ok-b-in-Case-clause-cost
stmt_cost-returns-in_ok-b-in-Case-clause-cost t c =
    let nets = c.args.nets.now in
    let arms = c.as_slice-arms.result.now in
    c.together.ensures (price nets c.in-Case.selector).cost (sum (map (arm_cost (case_bits nets arms c.in-Case.other)) (map (arm_load nets) arms))) (other_cost nets c.in-Case.other) (ap (λ p. p.cost) c.price_of-price-in-Case.ensures)
    (c.in_ok-a-in-Case.ensures.cost ∙ ap (λ b. min (sum (map (arm_cost b) (map (arm_load nets) arms))) limit) c.in_ok-bits-in-Case.ensures.bits) c.in_ok-b-in-Case.ensures.cost
    ∙ ap (λ l. min l.cost limit) (sym (loads.load_Case nets c.args.stmt.now c.in-Case.selector arms c.in-Case.other (c.in-Case.is ∙ ap (λ x. s.Case c.in-Case.selector x c.in-Case.other) (sym c.as_slice-arms.ensures))))
