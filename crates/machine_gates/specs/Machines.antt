-- The outputs of a register machine as wires, and how many gates the machine takes.
use Rattle.std.specs.Prelude.{◌≡◌, ℕ, ◌+◌, ◌*◌, Bool, List, length, map, slice_get, Some}
use Rattle.std.specs.List.{sum_by}
use Rattle.std.specs.declared.vec.Vec.{Vec}
use Rattle.std.specs.declared.alloc.Global.{Global}
use Rattle.bit_base.specs.Numbers.{low_bits}
use Rattle.field_policies.specs.declared.field.Field.{Field}
use Rattle.field_policies.specs.declared.map.RegMap.{RegMap}
use Rattle.field_policies.specs.declared.signal.OutSignal.{OutSignal}
use Rattle.gate_graph.specs.declared.wires.Wire.{Wire}
use Rattle.gate_graph.specs.declared.nodes.Node.{Node}
use Rattle.gate_graph.specs.Gates.{wire_value}
use Rattle.reg_machine.specs.Steps.{Edge}
use Rattle.reg_machine.specs.Machines.{output_of, output_width}
use Rattle.latch_order.specs.declared.latches.StateGates.{StateGates}
use Rattle.output_gates.specs.Outputs.{ShowsAll, shown_signals}

-- the bits at an output of the field of this number
abbrev pub output_bits : Edge → List Bool → ℕ → Field → OutSignal → List Bool
output_bits e used n f s = low_bits (output_width f s) (output_of e used n s)

-- for each field one list of wires for each output that it shows, in order: they are those of the edge e v where each node i has
-- the value v i, and the used flags are used v there
pub record AreOutputs (nodes : List Node) (fields : List Field) (e : (ℕ → Bool) → Edge) (used : (ℕ → Bool) → List Bool) (rows : List (Vec (Vec Wire Global) Global)) : Type 0 where
  pub one_each : length rows ≡ length fields
  pub each : (n : ℕ) (ws : Vec (Vec Wire Global) Global) → slice_get rows n ≡ Some ws → (f : Field) → slice_get fields n ≡ Some f
      → ShowsAll nodes ws.items (λ v. map (output_bits (e v) (used v) n f) (shown_signals f))

abbrev pub used_at : List StateGates → (ℕ → Bool) → List Bool
used_at states v = map (λ s. wire_value v s.used) states

-- how many gates a machine may add
abbrev pub machine_nodes : RegMap → ℕ
machine_nodes map_of = 64 * length map_of.words.items + 181 * sum_by (λ f. f.width) map_of.fields.items + 35
