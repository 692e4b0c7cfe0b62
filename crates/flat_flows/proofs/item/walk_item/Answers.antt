use Rattle.std.proofs.Common.{◌∙◌, false, sym, ap, subst}
use Rattle.std.specs.Prelude.{IfOk}
use Rattle.flat_design.specs.Flows.{Flow, assign_flow}
use Rattle.flat_design.specs.Systems.{item_flow}
use Rattle.flat_flows.specs.Walks.{Walked}
use Rattle.flat_flows.proofs.item.walk_item.Goals as goal

pub returns-in-Assign-clause-walked : goal.returns-in-Assign-clause-walked
unfolding item_flow
returns-in-Assign-clause-walked c =
    subst (λ (f : Flow). IfOk c.walk_assign.result (λ fixed. Walked f c.args.sure.now c.args.found.now c.walk_assign.new.found fixed.items))
    (ap (λ l. assign_flow c.args.nets.now l c.in-Assign.value false) c.as_slice.ensures ∙ ap (item_flow c.args.nets.now) (sym c.in-Assign.is)) c.walk_assign.ensures

pub returns-in-Comb-clause-walked : goal.returns-in-Comb-clause-walked
unfolding item_flow
returns-in-Comb-clause-walked c =
    subst (λ (f : Flow). IfOk c.walk_stmt.result (λ fixed. Walked f c.args.sure.now c.args.found.now c.walk_stmt.new.found fixed.items)) (ap (item_flow c.args.nets.now) (sym c.in-Comb.is)) c.walk_stmt.ensures.walked

pub returns-in-Clocked-clause-walked : goal.returns-in-Clocked-clause-walked
unfolding item_flow
returns-in-Clocked-clause-walked c =
    subst (λ (f : Flow). IfOk c.walk_stmt-in-Clocked.result (λ fixed. Walked f c.args.sure.now c.args.found.now c.walk_stmt-in-Clocked.new.found fixed.items)) (ap (item_flow c.args.nets.now) (sym c.in-Clocked.is)) c.walk_stmt-in-Clocked.ensures.walked
