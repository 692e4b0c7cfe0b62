-- Wires of moved words.
use Rattle.std.proofs.Common.{◌≡◌, ℕ, zero, suc, ◌-◌, Bool, true, false, min, List, [], ◌∷◌, length, take, drop, replicate, arith, refl, ap}
use Rattle.std.specs.List.{take-map}
use Rattle.std.proofs.lemmas.List.{map-append, length-map, drop-map, length-append, length-replicate, length-take, length-drop}
use Rattle.gate_graph.specs.declared.wires.Wire.{Wire}
use Rattle.gate_graph.specs.declared.nodes.Node.{Node}
use Rattle.gate_graph.specs.Gates.{wire_value, IsOf, AreOf}
use Rattle.word_gates.specs.Moving.{moved_by}
use Rattle.word_gates.specs.Words.{values}
use Rattle.word_gates.proofs.WordLemmas.{are_of_cons, are_of_none, are_of_append}
use Rattle.word_gates.proofs.RippleLemmas.{are_of_take}

values_replicate : (v : ℕ → Bool) (n : ℕ) (w : Wire) → values v (replicate n w) ≡ replicate n (wire_value v w)
values_replicate v zero w = refl
values_replicate v (suc n) w = ap (λ l. wire_value v w ∷ l) (values_replicate v n w)

are_of_replicate : (n : ℕ) (w : Wire) (nodes : List Node) → IsOf w nodes → AreOf (replicate n w) nodes
are_of_replicate zero w nodes h = are_of_none nodes
are_of_replicate (suc n) w nodes h = are_of_cons w (replicate n w) nodes h (are_of_replicate n w nodes h)

pub are_of_drop : (a : List Wire) (n : ℕ) (nodes : List Node) → AreOf a nodes → AreOf (drop n a) nodes
are_of_drop [] zero nodes h = h
are_of_drop [] (suc n) nodes h = h
are_of_drop (w ∷ a) zero nodes h = h
are_of_drop (w ∷ a) (suc n) nodes h = are_of_drop a n nodes (record { each = λ i u at. h.each (suc i) u at })

-- the values of a moved word are the moved values
pub values_moved : (left : Bool) (v : ℕ → Bool) (n : ℕ) (w : Wire) (a : List Wire) → values v (moved_by left n w a) ≡ moved_by left n (wire_value v w) (values v a)
values_moved true v n w a =
    rw (length-map a (wire_value v), map-append (wire_value v) (replicate (min n (length a)) w) (take (length a - n) a), values_replicate v (min n (length a)) w, take-map (wire_value v) (length a - n) a) refl
values_moved false v n w a =
    rw (length-map a (wire_value v), map-append (wire_value v) (drop n a) (replicate (min n (length a)) w), values_replicate v (min n (length a)) w, drop-map (wire_value v) n a) refl

pub are_of_moved : (left : Bool) (n : ℕ) (w : Wire) (a : List Wire) (nodes : List Node) → AreOf a nodes → IsOf w nodes → AreOf (moved_by left n w a) nodes
are_of_moved true n w a nodes h k = are_of_append (replicate (min n (length a)) w) (take (length a - n) a) nodes (are_of_replicate (min n (length a)) w nodes k) (are_of_take a (length a - n) nodes h)
are_of_moved false n w a nodes h k = are_of_append (drop n a) (replicate (min n (length a)) w) nodes (are_of_drop a n nodes h) (are_of_replicate (min n (length a)) w nodes k)

pub length_moved : (left : Bool) (n : ℕ) (w : Wire) (a : List Wire) → length (moved_by left n w a) ≡ length a
length_moved true n w a = rw (length-append, length-replicate, length-take) (omega arith)
length_moved false n w a = rw (length-append, length-replicate, length-drop) (omega arith)
