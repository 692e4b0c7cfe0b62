-- Which graph a loop has built so far.
use Rattle.std.proofs.Common.{◌≡◌, ℕ, suc, ◌+◌, ◌-◌, ◌/◌, ◌%◌, ◌<◌, ◌≤◌, ◌==◌, min, Bool, true, false, not, if◌then◌else◌, eqb, cond, List, [], ◌∷◌, ◌++◌, length, take, drop, map, get_or, refl, sym, ◌∙◌, ap, subst, arith, inl, inr, drop-cons}
use Rattle.std.proofs.lemmas.Bool.{cases_Bool, eqb-true, eqb-false}
use Rattle.std.proofs.lemmas.List.{take_more, take_all, drop_all, map_push, get_or_default}
use Rattle.std.proofs.lemmas.List.Sums.{fold_push}
use Rattle.std.proofs.lemmas.Simd.{get_or-zip2, length-zip2}
use Rattle.gate_graph.specs.declared.wires.Wire.{Wire}
use Rattle.gate_graph.specs.declared.nodes.Node.{Node}
use Rattle.gate_graph.specs.Gates.{wire_value}
use Rattle.word_gates.specs.Graphs.{off, inverse, behind, lanes, carried, pairs, triples, any_made, masked_made, forced_made, barrel_made, shifted_made, shifted_signed_made}
use Rattle.word_gates.proofs.WordLemmas.{no_wire}

-- the inverse of a wire, by its node and its value
other_bit : (b d : Bool) → cond b (not false) false ≡ not (cond d (not false) false) → b ≡ not d
other_bit true true h = let no : false ≡ true = sym h in cc
other_bit true false h = refl
other_bit false true h = refl
other_bit false false h = let no : false ≡ true = h in cc

not_other : (a : ℕ) → eqb a 1 ≡ true → eqb a 0 ≡ true → ⊥
not_other a p q = omega (arith, eqb-true a 1 p, eqb-true a 0 q)

inverse_number : (u w : ℕ) → u / 2 ≡ w / 2 → eqb (u % 2) 1 ≡ not (eqb (w % 2) 1) → u ≡ (if w % 2 == 0 then w + 1 else w - 1)
inverse_number u w same other = elim (cases_Bool (w % 2 == 0)) [
  | inl t ↦
      let even : w % 2 ≡ 0 = eqb-true (w % 2) 0 t in
      let odd : eqb (u % 2) 1 ≡ true = other ∙ ap (λ m. not (eqb m 1)) even in
      let last : u % 2 ≡ 1 = eqb-true (u % 2) 1 odd in
      let e : u ≡ w + 1 = omega arith in
      rw t e
  | inr f ↦
      let not_even : w % 2 ≡ 0 → ⊥ = eqb-false (w % 2) 0 f in
      let odd : w % 2 ≡ 1 = omega arith in
      let even : eqb (u % 2) 1 ≡ false = other ∙ ap (λ m. not (eqb m 1)) odd in
      let not_odd : u % 2 ≡ 1 → ⊥ = eqb-false (u % 2) 1 even in
      let e : u ≡ w - 1 = omega arith in
      rw f e
]

same_wire : (u w : Wire) → u.0 ≡ w.0 → u ≡ w
same_wire u w e = ap (λ (n : ℕ). record { 0 = n }) e

pub inverse_is : (w u : Wire) → u.0 / 2 ≡ w.0 / 2 → ((v : ℕ → Bool) → wire_value v u ≡ not (wire_value v w)) → u ≡ inverse w
unfolding wire_value
inverse_is w u node value = same_wire u (inverse w) (inverse_number u.0 w.0 node (other_bit (eqb (u.0 % 2) 1) (eqb (w.0 % 2) 1) (value (λ i. false))))

pub off_is : (w : Wire) → w.0 ≡ 0 → w ≡ off
off_is w e = same_wire w off e

-- one place more, and all of them
pub lanes_more : {X : Type 0} (f : List Node → X → Wire × List Node) (ns : List Node) (xs : List X) (i : ℕ) (x : X) (wires : List Wire) (w : Wire) (old new : List Node)
    → i < length xs → get_or xs i x ≡ x → f old x ≡ (w, new) → lanes f ns (take i xs) ≡ (wires, old) → lanes f ns (take (i + 1) xs) ≡ (wires ++ w ∷ [], new)
lanes_more f ns xs i x wires w old new lt is made before =
    ap (lanes f ns) (take_more xs i x lt)
    ∙ (fold_push (λ m y. behind m.0 (f m.1 y)) ([], ns) (take i xs) (get_or xs i x)
    ∙ (ap (λ y. behind (lanes f ns (take i xs)).0 (f (lanes f ns (take i xs)).1 y)) is
    ∙ (ap (λ (m : List Wire × List Node). behind m.0 (f m.1 x)) before ∙ ap (behind wires) made)))

pub lanes_end : {X : Type 0} (f : List Node → X → Wire × List Node) (ns : List Node) (xs : List X) (i : ℕ) (made : List Wire × List Node) → length xs ≤ i → lanes f ns (take i xs) ≡ made → lanes f ns xs ≡ made
lanes_end f ns xs i made le before = ap (lanes f ns) (sym (take_all i xs le)) ∙ before

pub along_step : {S X : Type 0} (f : List Node → S → X → S × List Node) (ns : List Node) (s : S) (xs : List X) (i : ℕ) (x : X) (t u : S) (old new : List Node)
    → i < length xs → get_or xs i x ≡ x → f old t x ≡ (u, new) → carried f ns s (take i xs) ≡ (t, old) → carried f ns s (take (i + 1) xs) ≡ (u, new)
along_step f ns s xs i x t u old new lt is made before =
    ap (carried f ns s) (take_more xs i x lt)
    ∙ (fold_push (λ m y. f m.1 m.0 y) (s, ns) (take i xs) (get_or xs i x)
    ∙ (ap (λ y. f (carried f ns s (take i xs)).1 (carried f ns s (take i xs)).0 y) is
    ∙ (ap (λ (m : _ × List Node). f m.1 m.0 x) before ∙ made)))

pub along_end : {S X : Type 0} (f : List Node → S → X → S × List Node) (ns : List Node) (s : S) (xs : List X) (i : ℕ) (made : S × List Node) → length xs ≤ i → carried f ns s (take i xs) ≡ made → carried f ns s xs ≡ made
along_end f ns s xs i made le before = ap (carried f ns s) (sym (take_all i xs le)) ∙ before

-- pairs of places
pub pair_at : (a b : List Wire) (i : ℕ) → i < length a → i < length b → get_or (pairs a b) i (get_or a i no_wire, get_or b i no_wire) ≡ (get_or a i no_wire, get_or b i no_wire)
pair_at a b i p q = get_or-zip2 (λ x y. (x, y)) a b i no_wire no_wire (get_or a i no_wire, get_or b i no_wire) p q

pub pairs_long : (a b : List Wire) → length a ≡ length b → length (pairs a b) ≡ length a
pairs_long a b h = length-zip2 (λ x y. (x, y)) a b h

-- the same over both words' places, over three words' and over one word's
pub lanes_pair : (f : List Node → Wire × Wire → Wire × List Node) (ns : List Node) (a b : List Wire) (i : ℕ) (wires : List Wire) (w : Wire) (old new : List Node)
    → length a ≡ length b → i < length a → f old (get_or a i no_wire, get_or b i no_wire) ≡ (w, new) → lanes f ns (take i (pairs a b)) ≡ (wires, old) → lanes f ns (take (i + 1) (pairs a b)) ≡ (wires ++ w ∷ [], new)
lanes_pair f ns a b i wires w old new same lt made before =
    lanes_more f ns (pairs a b) i (get_or a i no_wire, get_or b i no_wire) wires w old new (omega (arith, pairs_long a b same)) (pair_at a b i lt (omega arith)) made before

pub lanes_pairs : (f : List Node → Wire × Wire → Wire × List Node) (ns : List Node) (a b : List Wire) (i : ℕ) (made : List Wire × List Node)
    → length a ≡ length b → length a ≤ i → lanes f ns (take i (pairs a b)) ≡ made → lanes f ns (pairs a b) ≡ made
lanes_pairs f ns a b i made same le before = lanes_end f ns (pairs a b) i made (omega (arith, pairs_long a b same)) before

triple_at : (a b c : List Wire) (i : ℕ) → i < length a → i < length b → i < length c → length b ≡ length c → get_or (triples a b c) i (get_or a i no_wire, (get_or b i no_wire, get_or c i no_wire)) ≡ (get_or a i no_wire, (get_or b i no_wire, get_or c i no_wire))
triple_at a b c i p q r same =
    get_or-zip2 (λ x y. (x, y)) a (pairs b c) i no_wire (get_or b i no_wire, get_or c i no_wire) (get_or a i no_wire, (get_or b i no_wire, get_or c i no_wire)) p (omega (arith, pairs_long b c same))
    ∙ ap (λ y. (get_or a i no_wire, y)) (pair_at b c i q r)

triples_long : (a b c : List Wire) → length a ≡ length b → length b ≡ length c → length (triples a b c) ≡ length a
triples_long a b c p q = length-zip2 (λ x y. (x, y)) a (pairs b c) (omega (arith, pairs_long b c q))

pub lanes_triple : (f : List Node → Wire × (Wire × Wire) → Wire × List Node) (ns : List Node) (a b c : List Wire) (i : ℕ) (wires : List Wire) (w : Wire) (old new : List Node)
    → length a ≡ length b → length a ≡ length c → i < length a → f old (get_or a i no_wire, (get_or b i no_wire, get_or c i no_wire)) ≡ (w, new)
    → lanes f ns (take i (triples a b c)) ≡ (wires, old) → lanes f ns (take (i + 1) (triples a b c)) ≡ (wires ++ w ∷ [], new)
lanes_triple f ns a b c i wires w old new p q lt made before =
    let r : length b ≡ length c = sym p ∙ q in
    lanes_more f ns (triples a b c) i (get_or a i no_wire, (get_or b i no_wire, get_or c i no_wire)) wires w old new (omega (arith, triples_long a b c p r)) (triple_at a b c i lt (omega arith) (omega arith) r) made before

pub lanes_triples : (f : List Node → Wire × (Wire × Wire) → Wire × List Node) (ns : List Node) (a b c : List Wire) (i : ℕ) (made : List Wire × List Node)
    → length a ≡ length b → length a ≡ length c → length a ≤ i → lanes f ns (take i (triples a b c)) ≡ made → lanes f ns (triples a b c) ≡ made
lanes_triples f ns a b c i made p q le before = lanes_end f ns (triples a b c) i made (omega (arith, triples_long a b c p (sym p ∙ q))) before

pub lanes_wire : (f : List Node → Wire → Wire × List Node) (ns : List Node) (a : List Wire) (i : ℕ) (wires : List Wire) (w : Wire) (old new : List Node)
    → i < length a → f old (get_or a i no_wire) ≡ (w, new) → lanes f ns (take i a) ≡ (wires, old) → lanes f ns (take (i + 1) a) ≡ (wires ++ w ∷ [], new)
lanes_wire f ns a i wires w old new lt made before = lanes_more f ns a i (get_or a i no_wire) wires w old new lt (get_or_default a i (get_or a i no_wire) no_wire lt) made before

pub along_pair : {S : Type 0} (f : List Node → S → Wire × Wire → S × List Node) (ns : List Node) (s : S) (a b : List Wire) (i : ℕ) (t u : S) (old new : List Node)
    → length a ≡ length b → i < length a → f old t (get_or a i no_wire, get_or b i no_wire) ≡ (u, new) → carried f ns s (take i (pairs a b)) ≡ (t, old) → carried f ns s (take (i + 1) (pairs a b)) ≡ (u, new)
along_pair f ns s a b i t u old new same lt made before =
    along_step f ns s (pairs a b) i (get_or a i no_wire, get_or b i no_wire) t u old new (omega (arith, pairs_long a b same)) (pair_at a b i lt (omega arith)) made before

pub along_pairs : {S : Type 0} (f : List Node → S → Wire × Wire → S × List Node) (ns : List Node) (s : S) (a b : List Wire) (i : ℕ) (made : S × List Node)
    → length a ≡ length b → length a ≤ i → carried f ns s (take i (pairs a b)) ≡ made → carried f ns s (pairs a b) ≡ made
along_pairs f ns s a b i made same le before = along_end f ns s (pairs a b) i made (omega (arith, pairs_long a b same)) before

pub along_wire : {S : Type 0} (f : List Node → S → Wire → S × List Node) (ns : List Node) (s : S) (a : List Wire) (i : ℕ) (t u : S) (old new : List Node)
    → i < length a → f old t (get_or a i no_wire) ≡ (u, new) → carried f ns s (take i a) ≡ (t, old) → carried f ns s (take (i + 1) a) ≡ (u, new)
along_wire f ns s a i t u old new lt made before = along_step f ns s a i (get_or a i no_wire) t u old new lt (get_or_default a i (get_or a i no_wire) no_wire lt) made before

-- words without gates
pub inverses_more : (a : List Wire) (i : ℕ) (wires : List Wire) (w : Wire) → i < length a → w ≡ inverse (get_or a i no_wire) → wires ≡ map inverse (take i a) → wires ++ w ∷ [] ≡ map inverse (take (i + 1) a)
inverses_more a i wires w lt is before =
    ap (λ (ws : List Wire). ws ++ w ∷ []) before ∙ (ap (λ (x : Wire). map inverse (take i a) ++ x ∷ []) is
    ∙ (sym (map_push inverse (take i a) (get_or a i no_wire)) ∙ ap (map inverse) (sym (take_more a i no_wire lt))))

pub inverses_end : (a : List Wire) (i : ℕ) (wires : List Wire) → length a ≤ i → wires ≡ map inverse (take i a) → wires ≡ map inverse a
inverses_end a i wires le before = before ∙ ap (map inverse) (take_all i a le)

pub last_inverse : (a : List Wire) → 0 < length a → map inverse (drop (length a - 1) a) ≡ inverse (get_or a (length a - 1) no_wire) ∷ []
last_inverse a some =
    let lt : length a - 1 < length a = omega arith in
    let one : drop (length a - 1) a ≡ get_or a (length a - 1) no_wire ∷ drop (suc (length a - 1)) a = drop-cons a (length a - 1) no_wire lt in
    let none : drop (suc (length a - 1)) a ≡ [] = drop_all (suc (length a - 1)) a (omega arith) in
    ap (map inverse) (one ∙ ap (λ (rest : List Wire). get_or a (length a - 1) no_wire ∷ rest) none)

-- shifts, where n places of the amount are near
pub shifted_by : (left : Bool) (ns second third new : List Node) (a b kept wires : List Wire) (far : Wire) (n : ℕ) → n ≡ min (length b) 11
    → any_made ns (drop n b) ≡ (far, second) → masked_made second a (inverse far) ≡ (kept, third) → barrel_made left third kept (take n b) off ≡ (wires, new) → shifted_made left ns a b ≡ (wires, new)
unfolding shifted_made
shifted_by left ns second third new a b kept wires far n near p q r = subst (λ i. whole i ≡ (wires, new)) near
    (ap (λ (m : Wire × List Node). rest n (masked_made m.1 a (inverse m.0))) p ∙ (ap (rest n) q ∙ r))
  where
    rest : ℕ → List Wire × List Node → List Wire × List Node
    rest i m = barrel_made left m.1 m.0 (take i b) off

    whole : ℕ → List Wire × List Node
    whole i = rest i (masked_made (any_made ns (drop i b)).1 a (inverse (any_made ns (drop i b)).0))

pub forced_by : (ns second third new : List Node) (a b amount wires : List Wire) (far : Wire) (n : ℕ) → n ≡ min (length b) 11
    → any_made ns (drop n b) ≡ (far, second) → forced_made second (take n b) far ≡ (amount, third) → barrel_made false third a amount (get_or a (length a - 1) no_wire) ≡ (wires, new) → shifted_signed_made ns a b ≡ (wires, new)
unfolding shifted_signed_made
forced_by ns second third new a b amount wires far n near p q r = subst (λ i. whole i ≡ (wires, new)) near
    (ap (λ (m : Wire × List Node). rest (forced_made m.1 (take n b) m.0)) p ∙ (ap rest q ∙ r))
  where
    rest : List Wire × List Node → List Wire × List Node
    rest m = barrel_made false m.1 a m.0 (get_or a (length a - 1) no_wire)

    whole : ℕ → List Wire × List Node
    whole i = rest (forced_made (any_made ns (drop i b)).1 (take i b) (any_made ns (drop i b)).0)
