use Rattle.std.proofs.Common.{◌≡◌, ◌<◌, ℕ, List, length, take, Option, Some}
use Rattle.std.specs.Prelude.{slice_get}
use Rattle.flat_design.specs.declared.item.FlatItem.{FlatItem}
use Rattle.flat_flows.specs.Tables.{in_table}
use Rattle.flat_drives.specs.Drives as spec
use Rattle.flat_drives.specs.Least.{IsLeastNet}
use Rattle.flat_drives.proofs.offending.item_nets.Given as goal

abbrev pub invariant-loop-item : goal.invariant-loop-item
invariant-loop-item l = record {
  long : length l.found.items ≡ l.item-index;
  before : (i : ℕ) → in_table l.before i ≡ spec.driven l.nets (take l.item-index l.items) i;
  each : (k : ℕ) (x : FlatItem) (o : Option ℕ) → slice_get l.items k ≡ Some x → slice_get l.found.items k ≡ Some o → IsLeastNet l.owners (spec.offending l.nets (take k l.items) l.items x) o;
}
