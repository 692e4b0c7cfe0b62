use Rattle.std.proofs.Common.{◌≡◌, ℕ, List, length, slice_get, Some}
use Rattle.std.specs.declared.vec.Vec.{Vec}
use Rattle.std.specs.declared.alloc.Global.{Global}
use Rattle.field_policies.specs.declared.signal.HwInput.{HwInput}
use Rattle.gate_graph.specs.declared.wires.Wire.{Wire}
use Rattle.gate_graph.specs.declared.nodes.Node.{Node}
use Rattle.gate_graph.specs.Gates.{AreOf}
use Rattle.machine_map_tests.proofs.built.hw_words.Given as goal

abbrev pub invariant-loop-k : goal.invariant-loop-k
invariant-loop-k l = record {
  size : length l.hw.items ≡ l.k;
  of : (nodes : List Node) → AreOf l.wires nodes → (j : ℕ) (x : Vec Wire Global) → slice_get l.hw.items j ≡ Some x → AreOf x.items nodes;
  width : (j : ℕ) (x : Vec Wire Global) → slice_get l.hw.items j ≡ Some x → (h : HwInput) → slice_get l.map.inputs.items j ≡ Some h → length x.items ≡ h.width;
}
