-- A sorted graph of items is an order of them, and a loop in it a cycle.
use Rattle.std.proofs.Common.{◌≡◌, ℕ, ◌<◌, true, List, [], ◌∷◌, length, slice_get, sym, ◌∙◌, ap, subst, arith}
use Rattle.std.specs.Prelude.{◌==◌, Result, Ok, Err, IfOk}
use Rattle.flat_design.specs.declared.net.Net.{Net}
use Rattle.flat_design.specs.declared.item.FlatItem.{FlatItem}
use Rattle.flat_design.specs.Systems.{is_clocked}
use Rattle.flat_orders.specs.Orders.{among, IsOrder}
use Rattle.flat_orders.specs.Cycles.{LeadsTo, IsCycle, IsClosedOrder}
use Rattle.flat_orders.proofs.Settling.{any_from}
use Rattle.flat_orders.proofs.CycleLemmas.{closed_is_order}
use Rattle.flat_loops.specs.declared.sort.Sorting.{Sorting}
use Rattle.flat_loops.specs.declared.sort.Sorting.TheVariants as S
use Rattle.flat_loops.specs.Graphs.{Graph, leads, LeadsOver, IsLoop}
use Rattle.flat_loops.specs.Sortings.{IsOrderOf, IsSorting}
use Rattle.flat_loops.specs.Feeding.{IsGraphOf, AreUnclocked}
use Rattle.flat_loops.specs.Orderings.{IsOrdering}
use Rattle.flat_loops.proofs.FeedLemmas.{inside, one_item}
use Rattle.flat_loops.proofs.SortLemmas.{itself}

pub bounded : (nets : List Net) (items : List FlatItem) (graph : Graph) → IsGraphOf nets items graph → (k j : ℕ) → leads graph k j ≡ true → j < length graph
bounded nets items graph is k j on = let f = is.feeds.found k j on in let low : j < length items = inside items j f.driver f.is_driver.0 in let n : length graph ≡ length items = is.nodes in omega arith

pub numbered : (nets : List Net) (items : List FlatItem) (graph : Graph) (numbers view : List ℕ) → IsGraphOf nets items graph → AreUnclocked items numbers → view ≡ numbers → (k : ℕ) → among k view ≡ true → k < length graph
numbered nets items graph numbers view is are same k on =
    let f = are.found k (sym (ap (among k) same) ∙ on) in let low : k < length items = inside items k f.0 f.1.0 in let n : length graph ≡ length items = is.nodes in omega arith

over_to : (nets : List Net) (items : List FlatItem) (graph : Graph) → IsGraphOf nets items graph → (k : ℕ) (ks : List ℕ) (last : ℕ) → LeadsOver graph k ks last → LeadsTo nets items k ks last
over_to nets items graph is k [] last h = is.feeds.found k last h
over_to nets items graph is k (j ∷ js) last h = (is.feeds.found k j h.0, over_to nets items graph is j js last h.1)

is_cycle : (nets : List Net) (items : List FlatItem) (graph : Graph) (ks : List ℕ) → IsGraphOf nets items graph → IsLoop graph ks → IsCycle nets items ks
is_cycle nets items graph [] is h = h
is_cycle nets items graph (k ∷ ks) is h = over_to nets items graph is k ks k h

is_order : (nets : List Net) (items : List FlatItem) (graph : Graph) (numbers order : List ℕ) → IsGraphOf nets items graph → AreUnclocked items numbers → IsOrderOf graph numbers order → IsOrder nets items order
is_order nets items graph numbers order is are o = closed_is_order nets items order closed (λ k x u. o.covers k (are.all k x u)) where
  only : (k : ℕ) → among k order ≡ true → among k numbers ≡ true
  only = o.only (λ i. among i numbers) (λ k j on l. let f = is.feeds.found k j l in are.all j f.driver f.is_driver) (λ i on. on)

  closed : IsClosedOrder nets items order
  closed = record {
    only = λ p k x at found. let u = are.found k (only k (any_from order (λ j. j == k) p k at (itself k))) in ap is_clocked (one_item (slice_get items k) x u.0 found u.1.0) ∙ u.1.1;
    once = o.sorted.once;
    before = λ p k j at feeds. o.sorted.before p k j at (is.feeds.all k j (inside items k feeds.reader feeds.is_reader.0) feeds);
  }

is_ordering : (nets : List Net) (items : List FlatItem) (graph : Graph) (numbers : List ℕ) (s : Sorting) → IsGraphOf nets items graph → AreUnclocked items numbers → IsSorting graph numbers s → IsOrdering nets items s
is_ordering nets items graph numbers (S.Order order) is are h = is_order nets items graph numbers order.items is are h
is_ordering nets items graph numbers (S.Loop found) is are h = is_cycle nets items graph found.items is h

pub ordered : {E : Type 0} (r : Result Sorting E) (nets : List Net) (items : List FlatItem) (graph : Graph) (numbers view : List ℕ) → IsGraphOf nets items graph → AreUnclocked items numbers → view ≡ numbers → IfOk r (IsSorting graph view) → IfOk r (IsOrdering nets items)
ordered (Ok s) nets items graph numbers view is are same h = is_ordering nets items graph numbers s is are (subst (λ l. IsSorting graph l s) same h)
ordered (Err e) nets items graph numbers view is are same h = h
