use Rattle.std.proofs.Common.{◌≡◌, ℕ, length, Option, Some}
use Rattle.std.specs.Prelude.{slice_get}
use Rattle.flat_design.specs.declared.item.FlatItem.{FlatItem}
use Rattle.flat_latched.specs.Least.{IsNetOf}
use Rattle.flat_latched.proofs.latched.item_nets.Given as goal

abbrev pub invariant-loop-item : goal.invariant-loop-item
invariant-loop-item l = record {
  long : length l.found.items ≡ l.item-index;
  each : (k : ℕ) (x : FlatItem) (o : Option ℕ) → slice_get l.items k ≡ Some x → slice_get l.found.items k ≡ Some o → IsNetOf l.nets x o;
}
