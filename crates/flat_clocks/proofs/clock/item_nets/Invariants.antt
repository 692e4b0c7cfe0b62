use Rattle.std.proofs.Common.{◌≡◌, ℕ, length, take, Option, Some}
use Rattle.std.specs.Prelude.{slice_get}
use Rattle.flat_design.specs.declared.item.FlatItem.{FlatItem}
use Rattle.flat_clocks.specs.declared.signal.Signal.{Signal}
use Rattle.flat_clocks.specs.Signals.{differs_from}
use Rattle.flat_clocks.specs.Events.{other_clock, other_reset}
use Rattle.flat_clocks.specs.Least.{IsLeastOf, OffendsBy}
use Rattle.flat_clocks.proofs.clock.item_nets.Given as goal

abbrev pub invariant-loop-item : goal.invariant-loop-item
invariant-loop-item l = record {
  long : length l.found.items ≡ l.item-index;
  clocks : (s : Option Signal) → differs_from l.clocks s ≡ other_clock l.sources (take l.item-index l.items) s;
  resets : (s : Option Signal) → differs_from l.resets s ≡ other_reset l.sources (take l.item-index l.items) s;
  each : (k : ℕ) (x : FlatItem) (o : Option ℕ) → slice_get l.items k ≡ Some x → slice_get l.found.items k ≡ Some o → IsLeastOf (OffendsBy l.nets l.sources l.table (take k l.items) x) o;
}
