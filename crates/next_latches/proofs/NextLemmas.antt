-- Latches after an edge.
use Rattle.std.proofs.Common.{◌≡◌, ℕ, zero, suc, ◌+◌, ◌<◌, ◌≤◌, Bool, true, false, cond, if◌then◌else◌, List, [], ◌∷◌, ◌++◌, length, map, drop, get_or, slice_get, slice_index, slice_index_or, Some, refl, sym, ap, ◌∙◌, arith}
use Rattle.std.specs.List.{enumerate_from, range_with_len}
use Rattle.std.proofs.lemmas.List.{append_assoc, append-nil, drop_more, drop_all, get_or-map, length-map}
use Rattle.std.proofs.lemmas.List.FromFn.{get_or-enumerate_from, length-enumerate_from, length-map-range_with_len}
use Rattle.std.proofs.lemmas.Option.{slice_get_within, get_or_from_slice_get, slice_get-map}
use Rattle.bit_base.specs.Numbers.{number_of, low_bits}
use Rattle.bit_base.proofs.Numbers.{low_bits-number_of}
use Rattle.field_policies.specs.declared.field.Field.{Field}
use Rattle.gate_graph.specs.declared.wires.Wire.{Wire}
use Rattle.gate_graph.specs.declared.nodes.Node.{Node}
use Rattle.gate_graph.specs.Gates.{wire_value, Respects, IsOf, AreOf}
use Rattle.reg_machine.specs.Steps.{Edge, next_bit, next_used, next_known}
use Rattle.reg_machine.specs.States.{State, for_each, next_state, number_of_bits, next_value, value_in, used_in, known_in}
use Rattle.reg_machine.proofs.Views.{got}
use Rattle.word_gates.specs.Words.{values, Shows}
use Rattle.word_gates.proofs.WordLemmas.{are_of_append, are_of_cons, are_of_none}
use Rattle.latch_order.specs.declared.latches.StateGates.{StateGates}
use Rattle.latch_order.specs.Latches.{Stored, latches_of, all_latches, stored_in, state_bits}
use Rattle.latch_order.specs.Wires.{stored_by, stored_at}
use Rattle.latch_order.proofs.LatchLemmas.{latches_are}
use Rattle.field_edges.specs.declared.edge.EdgeGates.{EdgeGates}
use Rattle.field_edges.specs.Edges.{IsNext, AreEdges}
use Rattle.field_edges.proofs.LoopLemmas.{index_map}
use Rattle.map_edges.specs.Edges.{AllEdges, AllNext, stored_number}
use Rattle.next_latches.specs.Next.{next_stored, all_next_stored, state_at, NextAreMachines}

-- field by field
pub latches_more : (fields : List Field) (edges : List EdgeGates) (n : ℕ) (f : Field) (g : EdgeGates) (done : List Wire) → n < length fields → n < length edges → get_or fields n f ≡ f → get_or edges n g ≡ g
    → done ++ all_latches (drop n fields) (all_next_stored (drop n edges)) ≡ all_latches fields (all_next_stored edges)
    → (done ++ latches_of f (next_stored g)) ++ all_latches (drop (n + 1) fields) (all_next_stored (drop (n + 1) edges)) ≡ all_latches fields (all_next_stored edges)
latches_more fields edges n f g done p q is here before =
    let first : drop n fields ≡ f ∷ drop (n + 1) fields = drop_more fields n f p ∙ ap (λ x. x ∷ drop (n + 1) fields) is in
    let second : drop n edges ≡ g ∷ drop (n + 1) edges = drop_more edges n g q ∙ ap (λ x. x ∷ drop (n + 1) edges) here in
    append_assoc done (latches_of f (next_stored g)) (all_latches (drop (n + 1) fields) (all_next_stored (drop (n + 1) edges)))
    ∙ (ap (λ l. done ++ l) (sym (ap (λ fs. all_latches fs (all_next_stored (drop n edges))) first ∙ ap (λ gs. all_latches (f ∷ drop (n + 1) fields) (all_next_stored gs)) second)) ∙ before)

pub latches_end : (fields : List Field) (edges : List EdgeGates) (n : ℕ) (done : List Wire) → length fields ≤ n → done ++ all_latches (drop n fields) (all_next_stored (drop n edges)) ≡ all_latches fields (all_next_stored edges)
    → done ≡ all_latches fields (all_next_stored edges)
latches_end fields edges n done le before =
    let none : drop n fields ≡ [] = drop_all n fields le in
    sym (append-nil done) ∙ (ap (λ fs. done ++ all_latches fs (all_next_stored (drop n edges))) (sym none) ∙ before)

-- the latches' wires are of the graph
flag_of : (nodes : List Node) (b : Bool) (w : Wire) → IsOf w nodes → AreOf (if b then w ∷ [] else []) nodes
flag_of nodes true w h = are_of_cons w [] nodes h (are_of_none nodes)
flag_of nodes false w h = are_of_none nodes

hidden_flag_of : (nodes : List Node) (b : Bool) (w : Wire) → IsOf w nodes → AreOf (if b then [] else w ∷ []) nodes
hidden_flag_of nodes true w h = are_of_none nodes
hidden_flag_of nodes false w h = are_of_cons w [] nodes h (are_of_none nodes)

bits_of : (nodes : List Node) (b : Bool) (ws : List Wire) → AreOf ws nodes → AreOf (if b then [] else ws) nodes
bits_of nodes true ws h = are_of_none nodes
bits_of nodes false ws h = h

latches_of_graph : (nodes : List Node) (fields : List Field) (edges : List EdgeGates) → ((n : ℕ) (g : EdgeGates) → slice_get edges n ≡ Some g → (f : Field) → slice_get fields n ≡ Some f → AreEdges nodes f.width g) → AreOf (all_latches fields (all_next_stored edges)) nodes
latches_of_graph nodes [] edges each = are_of_none nodes
latches_of_graph nodes (f ∷ fields) [] each = are_of_none nodes
latches_of_graph nodes (f ∷ fields) (g ∷ edges) each =
    let here : AreEdges nodes f.width g = each 0 g refl f refl in
    are_of_append (latches_of f (next_stored g)) (all_latches fields (all_next_stored edges)) nodes
    (are_of_append _ _ nodes (are_of_append _ _ nodes (bits_of nodes f.wire g.step.value.items here.value_of) (flag_of nodes f.once g.step.used here.used_of)) (hidden_flag_of nodes f.starts_known g.step.known here.known_of))
    (latches_of_graph nodes fields edges (λ n x there h at. each (suc n) x there h at))

-- latches that are the same field by field
all_same : (fields : List Field) (xs ys : List (Stored Bool)) → length xs ≡ length fields → length ys ≡ length fields
    → ((n : ℕ) (f : Field) (x y : Stored Bool) → slice_get fields n ≡ Some f → slice_get xs n ≡ Some x → slice_get ys n ≡ Some y → latches_of f x ≡ latches_of f y) → all_latches fields xs ≡ all_latches fields ys
all_same [] xs ys p q each = refl
all_same (f ∷ fields) [] ys p q each = absurd (omega arith)
all_same (f ∷ fields) (x ∷ xs) [] p q each = absurd (omega arith)
all_same (f ∷ fields) (x ∷ xs) (y ∷ ys) p q each =
    ap (λ l. l ++ all_latches fields xs) (each 0 f x y refl refl refl) ∙ ap (λ l. latches_of f y ++ l) (all_same fields xs ys (omega arith) (omega arith) (λ n h u w at a b. each (suc n) h u w at a b))

each_at : {A : Type 0} (each : ℕ → Field → A) (fields : List Field) (i : ℕ) (f : Field) (d : A) → slice_get fields i ≡ Some f → get_or (for_each each fields) i d ≡ each i f
each_at each fields i f d at =
    let within = slice_get_within fields i f at in
    get_or-map (λ p. each p.0 p.1) (enumerate_from 0 fields) i (0, f) d (rw (length-enumerate_from 0 fields) within)
    ∙ ap (λ p. each p.0 p.1) (get_or-enumerate_from 0 fields i (0, f) within)
    ∙ ap (λ g. each (0 + i) g) (get_or_from_slice_get fields i f f at)
    ∙ ap (λ n. each n f) (omega arith)

each_long : {A : Type 0} (each : ℕ → Field → A) (fields : List Field) → length (for_each each fields) ≡ length fields
each_long each fields = length-map (enumerate_from 0 fields) (λ p. each p.0 p.1) ∙ length-enumerate_from 0 fields

-- a number of bits has these bits
bits_back : (w : ℕ) (bits : ℕ → Bool) → low_bits w (number_of_bits w bits) ≡ map bits (range_with_len 0 w)
bits_back w bits = ap (λ k. low_bits k (number_of_bits w bits)) (sym (length-map-range_with_len bits 0 w)) ∙ low_bits-number_of (map bits (range_with_len 0 w))

-- one field's latches
one_field : (wire once starts : Bool) (a b : List Bool) (u u' k k' : Bool) → (wire ≡ false → a ≡ b) → u ≡ u' → k ≡ k'
    → (((if wire then [] else a) ++ (if once then u ∷ [] else [])) ++ (if starts then [] else k ∷ [])) ≡ (((if wire then [] else b) ++ (if once then u' ∷ [] else [])) ++ (if starts then [] else k' ∷ []))
one_field true once starts a b u u' k k' same p q = rw (p, q) refl
one_field false once starts a b u u' k k' same p q = rw (same refl, p, q) refl

flag_at : (v : ℕ → Bool) (flag : StateGates → Wire) (states : List StateGates) (n : ℕ) (s : StateGates) → slice_get states n ≡ Some s → slice_index_or (map (λ s. wire_value v (flag s)) states) n false ≡ wire_value v (flag s)
flag_at v flag states n s at = get_or-map (λ s. wire_value v (flag s)) states n s false (slice_get_within states n s at) ∙ ap (λ s. wire_value v (flag s)) (get_or_from_slice_get states n s s at)

one_next : (nodes : List Node) (fields : List Field) (states : List StateGates) (e : (ℕ → Bool) → Edge) (v : ℕ → Bool) (n : ℕ) (f : Field) (s : StateGates) (g : EdgeGates) → (e v).view.fields ≡ fields → Respects v nodes → slice_get fields n ≡ Some f → slice_get states n ≡ Some s
    → IsNext nodes f e (stored_number s) s g → latches_of f (stored_at v (next_stored g)) ≡ latches_of f (stored_in (next_state (e v) (state_at v states)) n f)
unfolding next_state
one_next nodes fields states e v n f s g same r at here is =
    let there : slice_get (e v).view.fields n ≡ Some f = ap (λ fs. slice_get fs n) same ∙ at in
    let old : State = state_at v states in
    let number : value_in old n ≡ stored_number s v = index_map (λ s. number_of (values v s.value.items)) states n s here in
    let used : used_in old n ≡ wire_value v s.used = flag_at v (λ s. s.used) states n s here in
    let known : known_in old n ≡ wire_value v s.known = flag_at v (λ s. s.known) states n s here in
    let value_next : value_in (next_state (e v) old) n ≡ next_value (e v) old n f = each_at (next_value (e v) old) (e v).view.fields n f 0 there in
    let used_next : used_in (next_state (e v) old) n ≡ next_used (e v) f (used_in old n) = each_at (λ n f. next_used (e v) f (used_in old n)) (e v).view.fields n f false there in
    let known_next : known_in (next_state (e v) old) n ≡ next_known (e v) f (used_in old n) (known_in old n) (value_in old n) = each_at (λ n f. next_known (e v) f (used_in old n) (known_in old n) (value_in old n)) (e v).view.fields n f false there in
    one_field f.wire f.once f.starts_known (values v g.step.value.items) (low_bits f.width (value_in (next_state (e v) old) n)) _ _ _ _
    (λ stored. is.value.value v r ∙ sym (ap (low_bits f.width) (value_next ∙ rw stored refl) ∙ (bits_back f.width (next_bit (e v) f (used_in old n) (value_in old n)) ∙ rw (used, number) refl)))
    (is.used.value v r ∙ sym (used_next ∙ ap (next_used (e v) f) used))
    (is.known.value v r ∙ sym (known_next ∙ rw (used, known, number) refl))

pub next_are : NextAreMachines
next_are nodes fields states edges e same long of next = record {
  of = latches_of_graph nodes fields edges of.each;
  value = λ v r. latches_are v fields (all_next_stored edges) ∙ all_same fields (map (stored_at v) (all_next_stored edges)) (for_each (stored_in (next_state (e v) (state_at v states))) fields)
      (length-map (all_next_stored edges) (stored_at v) ∙ (length-map edges next_stored ∙ of.one_each)) (each_long (stored_in (next_state (e v) (state_at v states))) fields)
      (λ n f x y at a b.
      let g = got edges n (omega (arith, slice_get_within fields n f at, of.one_each)) in
      let s = got states n (omega (arith, slice_get_within fields n f at, long)) in
      let first : x ≡ stored_at v (next_stored g.0) = sym (get_or_from_slice_get _ n x x a) ∙ (get_or-map (stored_at v) (all_next_stored edges) n (next_stored g.0) x (omega (arith, slice_get_within edges n g.0 g.1, length-map edges next_stored))
      ∙ ap (stored_at v) (get_or-map next_stored edges n g.0 (next_stored g.0) (slice_get_within edges n g.0 g.1) ∙ ap next_stored (get_or_from_slice_get edges n g.0 g.0 g.1))) in
      let second : y ≡ stored_in (next_state (e v) (state_at v states)) n f = sym (get_or_from_slice_get _ n y y b) ∙ each_at (stored_in (next_state (e v) (state_at v states))) fields n f y at in
      ap (latches_of f) first ∙ (one_next nodes fields states e v n f s.0 g.0 (same v) r at s.1 (next n g.0 g.1 f at s.0 s.1) ∙ sym (ap (latches_of f) second)));
}
