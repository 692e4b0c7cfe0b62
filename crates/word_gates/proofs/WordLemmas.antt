-- Words of wires that are built place by place.
use Rattle.std.proofs.Common.{◌≡◌, ℕ, zero, suc, ◌+◌, ◌*◌, ◌^◌, ◌<◌, ◌≤◌, Bool, List, [], ◌∷◌, ◌++◌, length, drop, get_or, slice_get, Some, arith, refl, sym, ap, ◌∙◌, inl, inr, subst, append_assoc}
use Rattle.std.proofs.lemmas.List.{length-map, drop_more, drop_all, map-append, append-nil}
use Rattle.std.proofs.lemmas.Option.{slice_get-get_or}
use Rattle.std.proofs.lemmas.Nat.{row_fits}
use Rattle.gate_graph.specs.declared.wires.Wire.{Wire}
use Rattle.gate_graph.specs.declared.nodes.Node.{Node}
use Rattle.gate_graph.specs.Gates.{wire_value, Respects, IsOf, AreOf, Extends, Keeps, Means}
use Rattle.gate_graph.proofs.ListLemmas.{get_push}
use Rattle.gate_graph.proofs.GateLemmas.{respects_old, extends_more, are_of_later}
use Rattle.word_gates.specs.Words.{values, Shows}

-- what an index past the end reads
abbrev pub no_wire : Wire
no_wire = record { 0 = 0 }

-- a wire of a word is one of the graph's
pub of_at : (wires : List Wire) (old new : List Node) (k i : ℕ) → AreOf wires old → Extends old new k → i < length wires → IsOf (get_or wires i no_wire) new
of_at wires old new k i a e lt = omega (arith, a.each i (get_or wires i no_wire) (slice_get-get_or wires i no_wire lt), e.grows)

pub of_here : (wires : List Wire) (nodes : List Node) (i : ℕ) → AreOf wires nodes → i < length wires → IsOf (get_or wires i no_wire) nodes
of_here wires nodes i a lt = a.each i (get_or wires i no_wire) (slice_get-get_or wires i no_wire lt)

pub are_of_push : (wires : List Wire) (w : Wire) (nodes : List Node) → AreOf wires nodes → IsOf w nodes → AreOf (wires ++ w ∷ []) nodes
are_of_push wires w nodes a h = record {
  each = λ i u at. elim (get_push wires w u i at) [
    | inl p ↦ a.each i u p
    | inr p ↦ subst (λ (x : Wire). IsOf x nodes) p.1 h
  ];
}

pub are_of_cons : (x : Wire) (wires : List Wire) (nodes : List Node) → IsOf x nodes → AreOf wires nodes → AreOf (x ∷ wires) nodes
are_of_cons x wires nodes h rest = record { each = λ i w at. each_of x wires nodes h rest i w at }
  where
    each_of : (x : Wire) (wires : List Wire) (nodes : List Node) → IsOf x nodes → AreOf wires nodes → (i : ℕ) (w : Wire) → slice_get (x ∷ wires) i ≡ Some w → IsOf w nodes
    each_of x wires nodes h rest zero w at = let e : x ≡ w = cc in subst (λ (u : Wire). IsOf u nodes) e h
    each_of x wires nodes h rest (suc i) w at = rest.each i w at

pub are_of_append : (xs ys : List Wire) (nodes : List Node) → AreOf xs nodes → AreOf ys nodes → AreOf (xs ++ ys) nodes
are_of_append [] ys nodes a b = b
are_of_append (x ∷ xs) ys nodes a b = are_of_cons x (xs ++ ys) nodes (a.each 0 x refl) (are_of_append xs ys nodes (record { each = λ i w h. a.each (suc i) w h }) b)

pub are_of_none : (nodes : List Node) → AreOf [] nodes
are_of_none nodes = record { each = λ i w h. absurd (let e : ⊥ = cc in e) }

-- the values from a place on
pub values_drop : (v : ℕ → Bool) (wires : List Wire) (i : ℕ) → i < length wires → values v (drop i wires) ≡ wire_value v (get_or wires i no_wire) ∷ values v (drop (i + 1) wires)
values_drop v wires i lt = rw (drop_more wires i no_wire lt) refl

pub values_end : (v : ℕ → Bool) (wires : List Wire) (i : ℕ) → length wires ≤ i → values v (drop i wires) ≡ []
values_end v wires i le = rw (drop_all i wires le) refl

-- a word of an earlier graph
pub shows_later : (old new : List Node) (k : ℕ) (wires : List Wire) (f : (ℕ → Bool) → List Bool) → Extends old new k → Shows old wires f → Shows new wires f
shows_later old new k wires f e s = record { of = are_of_later wires old new k e s.of; value = λ v r. s.value v (respects_old v old new k e r) }

pub shows_itself : (nodes : List Node) (wires : List Wire) → AreOf wires nodes → Shows nodes wires (λ v. values v wires)
shows_itself nodes wires a = record { of = a; value = λ v r. refl }

-- the same values, said otherwise
pub shows_same : (nodes : List Node) (wires : List Wire) (f g : (ℕ → Bool) → List Bool) → Shows nodes wires f → ((v : ℕ → Bool) → Respects v nodes → f v ≡ g v) → Shows nodes wires g
shows_same nodes wires f g s e = record { of = s.of; value = λ v r. s.value v r ∙ e v r }

-- the wires so far, with the rest, show all
pub record SoFar (nodes : List Node) (wires : List Wire) (rest all : (ℕ → Bool) → List Bool) : Type 0 where
  pub of : AreOf wires nodes
  pub value : (v : ℕ → Bool) → Respects v nodes → values v wires ++ rest v ≡ all v

pub so_far_none : (nodes : List Node) (all : (ℕ → Bool) → List Bool) → SoFar nodes [] all all
so_far_none nodes all = record { of = are_of_none nodes; value = λ v r. refl }

pub so_far_more : (old new : List Node) (k : ℕ) (wires : List Wire) (w : Wire) (bit : (ℕ → Bool) → Bool) (rest next all : (ℕ → Bool) → List Bool)
    → Extends old new k → SoFar old wires rest all → Means new w bit → ((v : ℕ → Bool) → Respects v new → rest v ≡ bit v ∷ next v) → SoFar new (wires ++ w ∷ []) next all
so_far_more old new k wires w bit rest next all e s m step = record {
  of = are_of_push wires w new (are_of_later wires old new k e s.of) m.of;
  value = λ v r.
      let before : values v wires ++ rest v ≡ all v = s.value v (respects_old v old new k e r) in
      let here : wire_value v w ≡ bit v = m.value v r in
      let grown : values v (wires ++ w ∷ []) ≡ values v wires ++ wire_value v w ∷ [] = map-append (wire_value v) wires (w ∷ []) in
      rw (grown, append_assoc, here) (rw (step v r) at before);
}

pub so_far_all : (nodes : List Node) (wires : List Wire) (rest all : (ℕ → Bool) → List Bool) → SoFar nodes wires rest all → ((v : ℕ → Bool) → rest v ≡ []) → Shows nodes wires all
so_far_all nodes wires rest all s none = record {
  of = s.of;
  value = λ v r. let whole : values v wires ++ rest v ≡ all v = s.value v r in sym (append-nil (values v wires)) ∙ (rw (none v) at whole);
}

-- room for the gates of one place more
pub room_at : (gates i n before now : ℕ) → now ≤ before + i * gates → i < n → before + n * gates < 2 ^ 31 → now + gates < 2 ^ 31
room_at gates i n before now grown lt room = omega (arith, row_fits i gates n gates lt (let e : gates ≤ gates = omega arith in e))

pub within_all : (gates i n : ℕ) → i ≤ n → i * gates ≤ n * gates
within_all gates i n le = grind arith

-- the same bound, or a greater one
pub extends_at : (old new : List Node) (k m : ℕ) → Extends old new k → k ≤ m → Extends old new m
extends_at old new k m e le = record { kept = e.kept; grows = e.grows; bound = omega (arith, e.bound); latches = e.latches; inputs = e.inputs }

-- a wire along which a bit goes: with the rest it gives all
pub record Along (nodes : List Node) (w : Wire) (rest : (ℕ → Bool) → Bool → Bool) (all : (ℕ → Bool) → Bool) : Type 0 where
  pub of : IsOf w nodes
  pub value : (v : ℕ → Bool) → Respects v nodes → rest v (wire_value v w) ≡ all v

pub along_start : (nodes : List Node) (w : Wire) (rest : (ℕ → Bool) → Bool → Bool) → IsOf w nodes → Along nodes w rest (λ v. rest v (wire_value v w))
along_start nodes w rest h = record { of = h; value = λ v r. refl }

pub along_more : (old new : List Node) (k : ℕ) (w u : Wire) (bit : (ℕ → Bool) → Bool) (rest next : (ℕ → Bool) → Bool → Bool) (all : (ℕ → Bool) → Bool)
    → Extends old new k → Along old w rest all → Means new u bit → ((v : ℕ → Bool) → rest v (wire_value v w) ≡ next v (bit v)) → Along new u next all
along_more old new k w u bit rest next all e s m step = record {
  of = m.of;
  value = λ v r.
      let before : rest v (wire_value v w) ≡ all v = s.value v (respects_old v old new k e r) in
      rw (m.value v r) (sym (step v) ∙ before);
}

pub along_all : (nodes : List Node) (w : Wire) (rest : (ℕ → Bool) → Bool → Bool) (all : (ℕ → Bool) → Bool) → Along nodes w rest all → ((v : ℕ → Bool) (x : Bool) → rest v x ≡ x) → Means nodes w all
along_all nodes w rest all s none = record { of = s.of; value = λ v r. sym (none v (wire_value v w)) ∙ s.value v r }

-- a word of one wire
pub shows_one : (nodes : List Node) (w : Wire) (bit : (ℕ → Bool) → Bool) → Means nodes w bit → Shows nodes (w ∷ []) (λ v. bit v ∷ [])
shows_one nodes w bit m = record { of = are_of_cons w [] nodes m.of (are_of_none nodes); value = λ v r. ap (λ x. x ∷ []) (m.value v r) }

pub means_same : (nodes : List Node) (w : Wire) (f g : (ℕ → Bool) → Bool) → Means nodes w f → ((v : ℕ → Bool) → Respects v nodes → f v ≡ g v) → Means nodes w g
means_same nodes w f g m e = record { of = m.of; value = λ v r. m.value v r ∙ e v r }

pub length-values : (v : ℕ → Bool) (a : List Wire) → length (values v a) ≡ length a
length-values v a = length-map a (wire_value v)

pub same_length : (v : ℕ → Bool) (a b : List Wire) → length a ≡ length b → length (values v a) ≡ length (values v b)
same_length v a b h = (length-values v a ∙ h) ∙ sym (length-values v b)

pub extends_sum : (a b c : List Node) (m n : ℕ) → Extends a b m → Extends b c n → Extends a c (m + n)
extends_sum a b c m n p q = extends_more a b c m n (m + n) p q (omega arith)

pub are_of_kept : (wires : List Wire) (old new : List Node) → Keeps old new → AreOf wires old → AreOf wires new
are_of_kept wires old new e a = record { each = λ i w h. omega (arith, a.each i w h, e.grows) }
