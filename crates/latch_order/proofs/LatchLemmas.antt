-- Latches as wires, and as bits.
use Rattle.std.proofs.Common.{◌≡◌, ℕ, zero, suc, ◌+◌, ◌≤◌, ◌<◌, Bool, true, false, if◌then◌else◌, List, [], ◌∷◌, ◌++◌, length, map, take, drop, get_or, replicate, refl, sym, ap, ◌∙◌, arith}
use Rattle.std.specs.List.{take-map, drop-map}
use Rattle.std.proofs.lemmas.List.{map-append, append_assoc, append-nil, drop_more, drop_all, drop-drop}
use Rattle.std.proofs.Math.ListN.{get_or-map}
use Rattle.field_policies.specs.declared.field.Field.{Field}
use Rattle.gate_graph.specs.declared.wires.Wire.{Wire}
use Rattle.gate_graph.specs.Gates.{wire_value}
use Rattle.word_gates.specs.Graphs.{off, on}
use Rattle.word_gates.specs.Words.{values}
use Rattle.latch_order.specs.Latches.{Stored, stored_of, all_stored, latches_of, all_latches, latch_bits, value_bits}
use Rattle.latch_order.specs.Wires.{stored_at, stored_by}
use Rattle.latch_order.specs.Laws.{StoredWiresAreBits, LatchWiresAreBits}

values_off : (v : ℕ → Bool) (w : ℕ) → wire_value v off ≡ false → values v (replicate w off) ≡ replicate w false
values_off v zero z = refl
values_off v (suc w) z = rw (z, values_off v w z) refl

at_or : (v : ℕ → Bool) (ws : List Wire) (i : ℕ) (d : Wire) (b : Bool) → wire_value v d ≡ b → wire_value v (get_or ws i d) ≡ get_or (values v ws) i b
at_or v ws i d b e = sym (get_or-map (wire_value v) ws i d) ∙ ap (get_or (values v ws) i) e

value_is : (v : ℕ → Bool) (b : Bool) (width : ℕ) (ws : List Wire) → wire_value v off ≡ false
    → values v (if b then replicate width off else take width ws) ≡ (if b then replicate width false else take width (values v ws))
value_is v true width ws z = values_off v width z
value_is v false width ws z = sym (take-map (wire_value v) width ws)

used_is : (v : ℕ → Bool) (b : Bool) (i : ℕ) (ws : List Wire) → wire_value v off ≡ false → wire_value v (if b then get_or ws i off else off) ≡ (if b then get_or (values v ws) i false else false)
used_is v true i ws z = at_or v ws i off false z
used_is v false i ws z = z

known_is : (v : ℕ → Bool) (b : Bool) (i : ℕ) (ws : List Wire) → wire_value v on ≡ true → wire_value v (if b then on else get_or ws i on) ≡ (if b then true else get_or (values v ws) i true)
known_is v true i ws o = o
known_is v false i ws o = at_or v ws i on true o

stored_is : (v : ℕ → Bool) (f : Field) (ws : List Wire) → wire_value v off ≡ false → wire_value v on ≡ true → stored_at v (stored_of off on f ws) ≡ stored_of false true f (values v ws)
stored_is v f ws z o = rw (value_is v f.wire f.width ws z, used_is v f.once (value_bits f) ws z, known_is v f.starts_known (value_bits f + (if f.once then 1 else 0)) ws o) refl

pub stored_are : StoredWiresAreBits
stored_are v [] ws z o = refl
stored_are v (f ∷ fs) ws z o =
    ap (λ s. s ∷ map (stored_at v) (all_stored off on fs (drop (latch_bits f) ws))) (stored_is v f ws z o)
    ∙ ap (λ rest. stored_of false true f (values v ws) ∷ rest) (stored_are v fs (drop (latch_bits f) ws) z o ∙ ap (all_stored false true fs) (sym (drop-map (wire_value v) (latch_bits f) ws)))

latches_are_of : (v : ℕ → Bool) (a b c : Bool) (value : List Wire) (used known : Wire)
    → values v (((if a then [] else value) ++ (if b then used ∷ [] else [])) ++ (if c then [] else known ∷ []))
    ≡ ((if a then [] else values v value) ++ (if b then wire_value v used ∷ [] else [])) ++ (if c then [] else wire_value v known ∷ [])
latches_are_of v a b c value used known =
    map-append (wire_value v) ((if a then [] else value) ++ (if b then used ∷ [] else [])) (if c then [] else known ∷ [])
    ∙ (ap (λ l. l ++ values v (if c then [] else known ∷ [])) (map-append (wire_value v) (if a then [] else value) (if b then used ∷ [] else []))
    ∙ rw (first a, second b, third c) refl)
  where
    first : (a : Bool) → values v (if a then [] else value) ≡ (if a then [] else values v value)
    first true = refl
    first false = refl

    second : (b : Bool) → values v (if b then used ∷ [] else []) ≡ (if b then wire_value v used ∷ [] else [])
    second true = refl
    second false = refl

    third : (c : Bool) → values v (if c then [] else known ∷ []) ≡ (if c then [] else wire_value v known ∷ [])
    third true = refl
    third false = refl

pub latches_are : LatchWiresAreBits
latches_are v [] ss = refl
latches_are v (f ∷ fs) [] = refl
latches_are v (f ∷ fs) (s ∷ ss) = map-append (wire_value v) (latches_of f s) (all_latches fs ss) ∙ rw (latches_are_of v f.wire f.once f.starts_known s.value s.used s.known, latches_are v fs ss) refl

-- what is stored, field by field
pub stored_more : (fields : List Field) (latches : List Wire) (n start count : ℕ) (f : Field) (done : List (Stored Wire)) (s : Stored Wire) → n < length fields → get_or fields n f ≡ f → s ≡ stored_of off on f (drop start latches) → count ≡ latch_bits f
    → done ++ all_stored off on (drop n fields) (drop start latches) ≡ all_stored off on fields latches
    → (done ++ s ∷ []) ++ all_stored off on (drop (n + 1) fields) (drop (start + count) latches) ≡ all_stored off on fields latches
stored_more fields latches n start count f done s lt is made long before =
    let here : drop n fields ≡ f ∷ drop (n + 1) fields = drop_more fields n f lt ∙ ap (λ x. x ∷ drop (n + 1) fields) is in
    let far : drop (start + count) latches ≡ drop (latch_bits f) (drop start latches) = ap (λ k. drop (start + k) latches) long ∙ sym (drop-drop (latch_bits f) start latches) in
    let step : all_stored off on (drop n fields) (drop start latches) ≡ s ∷ all_stored off on (drop (n + 1) fields) (drop (start + count) latches) =
    ap (λ fs. all_stored off on fs (drop start latches)) here ∙ (ap (λ x. x ∷ all_stored off on (drop (n + 1) fields) (drop (latch_bits f) (drop start latches))) (sym made) ∙ ap (λ l. s ∷ all_stored off on (drop (n + 1) fields) l) (sym far)) in
    append_assoc done (s ∷ []) (all_stored off on (drop (n + 1) fields) (drop (start + count) latches)) ∙ (ap (λ l. done ++ l) (sym step) ∙ before)

pub stored_end : (fields : List Field) (latches : List Wire) (n start : ℕ) (done : List (Stored Wire)) → length fields ≤ n
    → done ++ all_stored off on (drop n fields) (drop start latches) ≡ all_stored off on fields latches → done ≡ all_stored off on fields latches
stored_end fields latches n start done le before =
    let none : drop n fields ≡ [] = drop_all n fields le in
    sym (append-nil done) ∙ (ap (λ fs. done ++ all_stored off on fs (drop start latches)) (sym none) ∙ before)
