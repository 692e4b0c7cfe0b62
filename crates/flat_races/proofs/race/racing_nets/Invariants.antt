use Rattle.std.proofs.Common.{◌≡◌, ℕ, length, Option, Some}
use Rattle.std.specs.Prelude.{slice_get}
use Rattle.flat_design.specs.declared.item.FlatItem.{FlatItem}
use Rattle.flat_races.specs.Readers.{IsLeastIn, racing}
use Rattle.flat_races.proofs.race.racing_nets.Given as goal

abbrev pub invariant-loop-number : goal.invariant-loop-number
invariant-loop-number l = record {
  long : length l.found.items ≡ l.number;
  each : (k : ℕ) (x : FlatItem) (o : Option ℕ) → slice_get l.items k ≡ Some x → slice_get l.found.items k ≡ Some o → IsLeastIn (racing l.nets l.readers k x) o;
}
