-- Wires and nodes in each of 64 runs.
use Rattle.std.proofs.Common.{◌≡◌, ◌≢◌, ℕ, ◌+◌, ◌/◌, ◌%◌, ◌^◌, ◌<◌, Bool, List, length, set, w64, Some, slice_get, slice_index, refl, ap, ◌∙◌, arith, get_or-set_other, get_or-set_same}
use Rattle.std.specs.Int.{bit_not}
use Rattle.std.proofs.lemmas.Bool.{ne_eqb}
use Rattle.gate_graph.specs.declared.wires.Wire.{Wire}
use Rattle.gate_graph.specs.declared.nodes.Node.{Node}
use Rattle.gate_graph.specs.Gates.{wire_value, IsGraph}
use Rattle.gate_graph.specs.Values.{node_value}
use Rattle.gate_graph.proofs.ValueLemmas.{AreDone, done_more}
use Rattle.invariant_miner.specs.Lanes.{bit, lane_at}
use Rattle.invariant_miner.proofs.BitLemmas.{bit_inverted}

pub wire_inverted : (t : List ℕ) (w : Wire) (r : ℕ) → w.0 % 2 ≡ 1 → slice_index t (w.0 / 2) < 2 ^ 64 → r < 64 → bit r (bit_not w64 (slice_index t (w.0 / 2))) ≡ wire_value (lane_at r t) w
unfolding wire_value
wire_inverted t w r odd small lt = rw odd (bit_inverted (slice_index t (w.0 / 2)) r small lt)

pub wire_plain : (t : List ℕ) (w : Wire) (r : ℕ) → w.0 % 2 ≢ 1 → bit r (slice_index t (w.0 / 2)) ≡ wire_value (lane_at r t) w
unfolding wire_value
wire_plain t w r even = rw (ne_eqb (w.0 % 2) 1 even) refl

-- a word is written behind those that are done
pub lanes_more : (s x : List Bool) (t : List ℕ) (nodes : List Node) (i word r : ℕ) (n : Node) → IsGraph nodes → AreDone s x (lane_at r t) nodes i → slice_get nodes i ≡ Some n → i < length t → bit r word ≡ node_value s x (lane_at r t) n → AreDone s x (lane_at r (set t i word)) nodes (i + 1)
lanes_more s x t nodes i word r n g done here within is =
    done_more s x (lane_at r t) (lane_at r (set t i word)) nodes i n g done here
    (λ j lt. let ne : j ≢ i = omega arith in ap (bit r) (get_or-set_other t i j word 0 ne))
    (ap (bit r) (get_or-set_same t i word 0 within) ∙ is)
