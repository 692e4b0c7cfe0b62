use Rattle.std.proofs.Common.{◌≡◌, ◌∙◌, ap, sym, subst, refl, ℕ, List, min, Bool}
use Rattle.std.specs.Prelude.{IfOk}
use Rattle.bit_base.specs.declared.place.Place.{Place}
use Rattle.flat_design.specs.declared.net.Net.{Net}
use Rattle.flat_design.specs.declared.expr.FlatExpr.{FlatExpr}
use Rattle.flat_design.specs.declared.stmt.FlatLeft.{FlatLeft}
use Rattle.flat_design.specs.declared.stmt.FlatStmt.{FlatStmt}
use Rattle.flat_design.specs.declared.item.FlatEvent.{FlatEvent}
use Rattle.flat_design.specs.declared.item.FlatItem.{FlatItem}
use Rattle.flat_design.specs.declared.item.FlatItem.TheVariants as I
use Rattle.flat_design.specs.Prices.{load, assign_cost, item_cost}
use Rattle.flat_cost.specs.Cuts.{limit}
use Rattle.flat_loads.proofs.cost.item_cost.Goals as goal

of_Assign : (nets : List Net) (x : FlatItem) (place : Place) (targets : List ℕ) (left : List FlatLeft) (val : FlatExpr) (connection : Bool) → x ≡ I.Assign place targets left val connection → assign_cost nets left val ≡ item_cost nets x
unfolding item_cost
of_Assign nets x place targets left val connection e = ap (item_cost nets) (sym e)

of_Comb : (nets : List Net) (x : FlatItem) (place : Place) (targets : List ℕ) (body : FlatStmt) → x ≡ I.Comb place targets body → (load nets body).cost ≡ item_cost nets x
unfolding item_cost
of_Comb nets x place targets body e = ap (item_cost nets) (sym e)

of_Clocked : (nets : List Net) (x : FlatItem) (place : Place) (targets : List ℕ) (events : List FlatEvent) (body : FlatStmt) → x ≡ I.Clocked place targets events body → (load nets body).cost ≡ item_cost nets x
unfolding item_cost
of_Clocked nets x place targets events body e = ap (item_cost nets) (sym e)

pub returns-in-Assign-clause-cost : goal.returns-in-Assign-clause-cost
returns-in-Assign-clause-cost c =
    c.assign_cost.ensures ∙ ap (λ l. min (assign_cost c.args.nets.now l c.in-Assign.value) limit) c.as_slice.ensures
    ∙ ap (λ n. min n limit) (of_Assign c.args.nets.now c.args.item.now c.in-Assign.place c.in-Assign.targets c.in-Assign.left c.in-Assign.value c.in-Assign.connection c.in-Assign.is)

pub returns-in-Comb-clause-cost : goal.returns-in-Comb-clause-cost
returns-in-Comb-clause-cost c = subst (λ (n : ℕ). IfOk c.stmt_cost.result (λ c. c ≡ min n limit)) (of_Comb c.args.nets.now c.args.item.now c.in-Comb.place c.in-Comb.targets c.in-Comb.body c.in-Comb.is) c.stmt_cost.ensures.cost

pub returns-in-Clocked-clause-cost : goal.returns-in-Clocked-clause-cost
returns-in-Clocked-clause-cost c =
    subst (λ (n : ℕ). IfOk c.stmt_cost-in-Clocked.result (λ c. c ≡ min n limit)) (of_Clocked c.args.nets.now c.args.item.now c.in-Clocked.place c.in-Clocked.targets c.in-Clocked.events c.in-Clocked.body c.in-Clocked.is) c.stmt_cost-in-Clocked.ensures.cost
