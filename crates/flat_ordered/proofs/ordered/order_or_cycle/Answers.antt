use Rattle.std.proofs.Common.{◌∙◌, length, subst}
use Rattle.std.specs.Prelude.{Ok}
use Rattle.flat_loops.specs.Sortings.{IsSorting}
use Rattle.flat_loops.specs.Orderings.{IsOrdering}
use Rattle.flat_loops.proofs.OrderLemmas.{bounded, ordered}
use Rattle.flat_ordered.specs.Bests.{AreShut, IsSoFar}
use Rattle.flat_ordered.proofs.CycleLemmas.{first_cycle, no_loop, as_many}
use Rattle.flat_ordered.proofs.ordered.order_or_cycle.Goals as goal

pub returns-in-Order : goal.returns-in-Order
returns-in-Order c =
    subst (IsOrdering c.args.nets.now c.args.items.now) c.in-Order.is
    (ordered {E = Unit {0}} (Ok c.in_ok-order.field-0) c.args.nets.now c.args.items.now c.in_ok-graph.graph c.in_ok-numbers.numbers.items c.as_slice.result.now c.in_ok-graph.ensures c.in_ok-numbers.ensures c.as_slice.ensures.value c.in_ok-order.ensures)

pub first_round-requires : goal.first_round-requires
first_round-requires c = record { bounded = bounded c.args.nets.now c.args.items.now c.in_ok-graph.graph c.in_ok-graph.ensures }

pub returns-in-None : goal.returns-in-None
returns-in-None c =
    absurd (no_loop c.in_ok-graph.graph (length c.in_ok-graph.graph) c.in-Loop.found.items (bounded c.args.nets.now c.args.items.now c.in_ok-graph.graph c.in_ok-graph.ensures)
    (subst (AreShut c.in_ok-graph.graph) (as_many c.args.nets.now c.args.items.now c.in_ok-graph.graph c.as_slice-in-Loop.result.now c.in_ok-graph.ensures (c.as_slice-in-Loop.ensures.value ∙ c.in_ok-places-in-Loop.ensures))
    (subst (IsSoFar c.in_ok-graph.graph c.as_slice-in-Loop.result.now (length c.as_slice-in-Loop.result.now)) c.in-None.is c.in_ok-first_round-in-Loop.ensures))
    (subst (IsSorting c.in_ok-graph.graph c.as_slice.result.now) c.in-Loop.is c.in_ok-order.ensures))

pub returns : goal.returns
returns c =
    first_cycle c.args.nets.now c.args.items.now c.in_ok-graph.graph c.as_slice-in-Loop.result.now c.in-Some.best c.in_ok-graph.ensures (c.as_slice-in-Loop.ensures.value ∙ c.in_ok-places-in-Loop.ensures)
    (subst (IsSoFar c.in_ok-graph.graph c.as_slice-in-Loop.result.now (length c.as_slice-in-Loop.result.now)) c.in-Some.is c.in_ok-first_round-in-Loop.ensures)
