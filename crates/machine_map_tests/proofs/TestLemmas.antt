-- Maps' bounds, and lists that are made one after the other.
use Rattle.std.proofs.Common.{◌≡◌, ℕ, ◌<◌, ◌≤◌, Bool, true, false, if◌then◌else◌, List, length, take, drop, get_or, slice_get, Some, sym, subst, arith}
use Rattle.field_policies.specs.declared.field.Field.{Field}
use Rattle.field_policies.specs.declared.map.RegMap.{RegMap}
use Rattle.field_policies.specs.declared.signal.HwInput.{HwInput}
use Rattle.field_policies.specs.declared.signal.InSignal.{InSignal}
use Rattle.field_policies.specs.declared.signal.InSignal.TheVariants as in_signal
use Rattle.field_policies.specs.Maps.{input_width}
use Rattle.gate_graph.specs.declared.wires.Wire.{Wire}
use Rattle.gate_graph.specs.declared.nodes.Node.{Node}
use Rattle.gate_graph.specs.Gates.{AreOf, IsOf}
use Rattle.word_gates.proofs.WordLemmas.{of_here, no_wire}
use Rattle.word_gates.proofs.RippleLemmas.{are_of_take}
use Rattle.field_edges.proofs.GivenLemmas.{are_of_drop}
use Rattle.latch_order.specs.Latches.{latch_bits}
use Rattle.reg_machine.proofs.Views.{got, field_of}

flag_small : (b : Bool) → (if b then 1 else 0) ≤ 1
flag_small true = omega arith
flag_small false = omega arith

flag_small' : (b : Bool) → (if b then 0 else 1) ≤ 1
flag_small' true = omega arith
flag_small' false = omega arith

bits_small : (b : Bool) (w : ℕ) → (if b then 0 else w) ≤ w
bits_small true w = omega arith
bits_small false w = omega arith

pub latches_small : (map_of : RegMap) (n : ℕ) (f : Field) → slice_get map_of.fields.items n ≡ Some f → latch_bits f ≤ 34
latches_small map_of n f at = omega (arith, bits_small f.wire f.width, flag_small f.once, flag_small' f.starts_known, (field_of map_of n f at).inside)

input_small : (s : InSignal) (w : ℕ) → w ≤ 32 → input_width s w ≤ 32
input_small in_signal.Data w h = h
input_small in_signal.We w h = omega arith
input_small in_signal.Wel w h = omega arith
input_small in_signal.HwSet w h = omega arith
input_small in_signal.HwClr w h = omega arith
input_small in_signal.SwWe w h = omega arith
input_small in_signal.SwWel w h = omega arith
input_small in_signal.Incr w h = omega arith
input_small in_signal.Decr w h = omega arith

pub inputs_small : (map_of : RegMap) (k : ℕ) (h : HwInput) → slice_get map_of.inputs.items k ≡ Some h → h.width ≤ 32
inputs_small map_of k h at =
    let f = got map_of.fields.items h.field (map_of.in_range.owners k h at) in
    subst (λ w. w ≤ 32) (sym (map_of.widths.each_input k h f.0 at f.1)) (input_small h.signal f.0.width (omega (arith, (field_of map_of h.field f.0 f.1).inside)))

-- a part of a word
pub first_of : (nodes : List Node) (ws front : List Wire) (n i : ℕ) → front ≡ take n ws → i < length front → AreOf ws nodes → IsOf (get_or front i no_wire) nodes
first_of nodes ws front n i is lt h = of_here front nodes i (rw is (are_of_take ws n nodes h)) lt

pub front_of : (nodes : List Node) (ws front a : List Wire) (n : ℕ) → a ≡ front → front ≡ take n ws → AreOf ws nodes → AreOf a nodes
front_of nodes ws front a n same is h = rw (same, is) (are_of_take ws n nodes h)

pub back_of : (nodes : List Node) (ws back : List Wire) (n : ℕ) → back ≡ drop n ws → AreOf ws nodes → AreOf back nodes
back_of nodes ws back n is h = rw is (are_of_drop n ws nodes h)
