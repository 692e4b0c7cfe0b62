use Rattle.std.proofs.Common.{◌≡◌, ◌<◌, ℕ, replicate, false, length}
use Rattle.std.specs.Prelude.{slice_get, Some}
use Rattle.flat_design.specs.declared.item.FlatItem.{FlatItem}
use Rattle.flat_design.specs.Systems.{targets_of}
use Rattle.flat_raw.specs.Assigned.{item_nets, AreTargets}
use Rattle.flat_raw.proofs.raw.have_targets.Given as goal

abbrev pub invariant-loop-item : goal.invariant-loop-item
invariant-loop-item l = record { empty : l.set ≡ replicate l.bound false; targets : (k : ℕ) (x : FlatItem) → k < l.item-index → slice_get l.items k ≡ Some x → AreTargets l.bound (targets_of x) (item_nets x) }
