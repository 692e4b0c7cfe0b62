-- Events by their wires.
use Rattle.std.proofs.Common.{◌≡◌, ℕ, Bool, true, false, not, ◌&&◌, ◌==◌, if◌then◌else◌, refl}
use Rattle.std.specs.Prelude.{List}
use Rattle.apb_rules.specs.declared.event.BusEvent.TheVariants.{Nothing, Read, Write}
use Rattle.gate_graph.specs.declared.nodes.Node.{Node}
use Rattle.gate_graph.specs.Gates.{Extends}
use Rattle.gate_graph.proofs.GateLemmas.{are_of_later}
use Rattle.std.proofs.Common.{arith}
use Rattle.reg_machine.specs.Steps.{is_read_of, is_write_of}
use Rattle.event_gates.specs.declared.hits.EventGates.{EventGates}
use Rattle.event_gates.specs.Graphs.{AreEvents}

pub read_bits : (read write : Bool) (a p s n : ℕ) → (read && (a == n)) ≡ is_read_of (if read then Read a else (if write then Write a p s else Nothing)) n
read_bits true write a p s n = refl
read_bits false true a p s n = refl
read_bits false false a p s n = refl

pub write_bits : (read write : Bool) (a p s n : ℕ) → ((write && not read) && (a == n)) ≡ is_write_of (if read then Read a else (if write then Write a p s else Nothing)) n
write_bits true true a p s n = refl
write_bits true false a p s n = refl
write_bits false true a p s n = refl
write_bits false false a p s n = refl

pub events_later : (old new : List Node) (k : ℕ) (e : EventGates) → Extends old new k → AreEvents old e → AreEvents new e
events_later old new k e x a = record {
  read_of = omega (arith, a.read_of, x.grows);
  write_of = omega (arith, a.write_of, x.grows);
  address_of = are_of_later _ _ _ k x a.address_of;
  payload_of = are_of_later _ _ _ k x a.payload_of;
  strobe_of = are_of_later _ _ _ k x a.strobe_of;
}
