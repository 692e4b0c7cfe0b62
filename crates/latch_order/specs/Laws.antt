-- The laws that latches as wires have the values of latches as bits.
use Rattle.std.specs.Prelude.{◌≡◌, ℕ, Bool, true, false, List, map}
use Rattle.field_policies.specs.declared.field.Field.{Field}
use Rattle.gate_graph.specs.declared.wires.Wire.{Wire}
use Rattle.gate_graph.specs.Gates.{wire_value}
use Rattle.word_gates.specs.Graphs.{off, on}
use Rattle.word_gates.specs.Words.{values}
use Rattle.latch_order.specs.Latches.{Stored, all_stored, all_latches}
use Rattle.latch_order.specs.Wires.{stored_at}

abbrev pub StoredWiresAreBits : Type 0
StoredWiresAreBits = (v : ℕ → Bool) (fields : List Field) (latches : List Wire) → wire_value v off ≡ false → wire_value v on ≡ true
    → map (stored_at v) (all_stored off on fields latches) ≡ all_stored false true fields (values v latches)

abbrev pub LatchWiresAreBits : Type 0
LatchWiresAreBits = (v : ℕ → Bool) (fields : List Field) (states : List (Stored Wire)) → values v (all_latches fields states) ≡ all_latches fields (map (stored_at v) states)
