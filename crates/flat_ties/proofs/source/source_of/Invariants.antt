use Rattle.std.proofs.Common.{◌≡◌, ℕ, List, length}
use Rattle.flat_design.specs.declared.item.FlatItem.{FlatItem}
use Rattle.flat_ties.specs.Ties.{net_in, tied}
use Rattle.flat_ties.specs.Steps.{IsOnWay}
use Rattle.flat_ties.proofs.source.source_of.Given as goal

abbrev pub invariant-loop-step : goal.invariant-loop-step
invariant-loop-step l = record {
  long : length l.seen ≡ length l.nets;
  way : (items : List FlatItem) → ((m : ℕ) → net_in l.ties m ≡ tied items m) → IsOnWay l.nets items l.net l.at l._step l.seen;
}
