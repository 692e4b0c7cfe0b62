-- Shared gates: where a gate is found, what a graph keeps as nodes are added, and what a conjunction gives.
use Rattle.std.proofs.Common.{◌≡◌, ◌≢◌, ℕ, suc, ◌+◌, ◌-◌, ◌/◌, ◌^◌, ◌<◌, ◌≤◌, ◌==◌, Bool, true, false, ◌&&◌, ◌||◌, if◌then◌else◌, cond, nat_eq, nat_lt, List, [], ◌∷◌, ◌++◌, length, slice_get, Option, Some, None, arith, refl, sym, ap, ◌∙◌, ◌⊎◌, inl, inr, subst, length-append, eq-eqb, ne_eqb}
use Rattle.std.proofs.lemmas.Bool.{eqb-true, cases_eq}
use Rattle.gate_graph.specs.declared.wires.Wire.{Wire}
use Rattle.gate_graph.specs.declared.nodes.Node.{Node}
use Rattle.gate_graph.specs.declared.nodes.Node.TheVariants.{Zero, Latch, Input, And}
use Rattle.gate_graph.specs.Gates.{wire_value, IsOf, Extends, Means, IsLow, IsSimple}
use Rattle.gate_graph.specs.Held.{IsHeld}
use Rattle.gate_graph.specs.Sharing.{wire_of, is_gate, gate_from, gate_or, gate_of, and_of, HasZero, Gives}
use Rattle.gate_graph.proofs.GraphLemmas.{latches_within, inputs_within, latch_count-push, input_count-push, counted_push, low_push}
use Rattle.gate_graph.proofs.GateLemmas.{and_with_zero, and_with_one, one_with_and, and_of_opposites, and_by_gate, and_at, extends_push, extends_none}

-- a gate that is there stays the first
pub gate_from-kept : (a b : Wire) (i j : ℕ) (ns : List Node) (n : Node) → gate_from a b i ns ≡ Some j → gate_from a b i (ns ++ n ∷ []) ≡ Some j
gate_from-kept a b i j [] n h = absurd (let e : ⊥ = cc in e)
gate_from-kept a b i j (m ∷ ns) n h =
    elim (is_gate a b m) as (λ t. (if t then Some i else gate_from a b (i + 1) ns) ≡ Some j → (if t then Some i else gate_from a b (i + 1) (ns ++ n ∷ [])) ≡ Some j) [
      | true ↦ λ e. e
      | false ↦ λ e. gate_from-kept a b (i + 1) j ns n e
    ] h

-- where none is there, the node that is added is, or none
pub gate_from-push : (a b : Wire) (i : ℕ) (ns : List Node) (n : Node) → gate_from a b i ns ≡ None → gate_from a b i (ns ++ n ∷ []) ≡ (if is_gate a b n then Some (i + length ns) else None)
gate_from-push a b i [] n h = let e : i ≡ i + 0 = omega arith in ap (λ k. if is_gate a b n then Some k else None) e
gate_from-push a b i (m ∷ ns) n h =
    let e : i + 1 + length ns ≡ i + length (m ∷ ns) = omega arith in
    elim (is_gate a b m) as (λ t. (if t then Some i else gate_from a b (i + 1) ns) ≡ None → (if t then Some i else gate_from a b (i + 1) (ns ++ n ∷ [])) ≡ (if is_gate a b n then Some (i + length (m ∷ ns)) else None)) [
      | true ↦ λ f. absurd (let no : ⊥ = cc in no)
      | false ↦ λ f. gate_from-push a b (i + 1) ns n f ∙ ap (λ k. if is_gate a b n then Some k else None) e
    ] h

-- a node that is no gate changes nothing
pub gate_from-other : (a b : Wire) (i : ℕ) (ns : List Node) (n : Node) → is_gate a b n ≡ false → gate_from a b i (ns ++ n ∷ []) ≡ gate_from a b i ns
gate_from-other a b i [] n h = rw h refl
gate_from-other a b i (m ∷ ns) n h = ap (λ (r : Option ℕ). if is_gate a b m then Some i else r) (gate_from-other a b (i + 1) ns n h)

-- the gate that is found is one of the nodes
pub gate_from-within : (a b : Wire) (i j : ℕ) (ns : List Node) → gate_from a b i ns ≡ Some j → j < i + length ns
gate_from-within a b i j [] h = absurd (let e : ⊥ = cc in e)
gate_from-within a b i j (m ∷ ns) h =
    elim (is_gate a b m) as (λ t. (if t then Some i else gate_from a b (i + 1) ns) ≡ Some j → j < i + length (m ∷ ns)) [
      | true ↦ λ e. let same : i ≡ j = cc in omega arith
      | false ↦ λ e. omega (arith, gate_from-within a b (i + 1) j ns e)
    ] h

and_left : (x y : Bool) → (x && y) ≡ true → x ≡ true
and_left true y h = refl
and_left false y h = h

and_right : (x y : Bool) → (x && y) ≡ true → y ≡ true
and_right true y h = h
and_right false y h = absurd (let e : ⊥ = cc in e)

gate_is : (a b : Wire) (m : Node) → is_gate a b m ≡ true → m ≡ And a b
gate_is a b Zero h = absurd (let e : ⊥ = cc in e)
gate_is a b (Latch n) h = absurd (let e : ⊥ = cc in e)
gate_is a b (Input n) h = absurd (let e : ⊥ = cc in e)
gate_is a b (And c d) h =
    let first : a.0 ≡ c.0 = eqb-true a.0 c.0 (and_left (nat_eq a.0 c.0) (nat_eq b.0 d.0) h) in
    let second : b.0 ≡ d.0 = eqb-true b.0 d.0 (and_right (nat_eq a.0 c.0) (nat_eq b.0 d.0) h) in
    let e : (x y : ℕ) → c.0 ≡ x → d.0 ≡ y → And c d ≡ And (record { 0 = x }) (record { 0 = y }) = λ x y p q. rw (← p, ← q) refl in
    e a.0 b.0 (sym first) (sym second)

-- and it has these wires
get_step : (a b : Wire) (i j : ℕ) (m : Node) (ns : List Node) → (gate_from a b (i + 1) ns ≡ Some j → (i + 1 ≤ j) × (slice_get ns (j - (i + 1)) ≡ Some (And a b)))
    → (t : Bool) → is_gate a b m ≡ t → (if t then Some i else gate_from a b (i + 1) ns) ≡ Some j → (i ≤ j) × (slice_get (m ∷ ns) (j - i) ≡ Some (And a b))
get_step a b i j m ns rest true is h =
    let e : i ≡ j = cc in
    let at : 0 ≡ j - i = omega arith in
    (omega arith, subst (λ k. slice_get (m ∷ ns) k ≡ Some (And a b)) at (ap Some (gate_is a b m is)))
get_step a b i j m ns rest false is h =
    let more : (i + 1 ≤ j) × (slice_get ns (j - (i + 1)) ≡ Some (And a b)) = rest h in
    let at : suc (j - (i + 1)) ≡ j - i = omega (arith, more.0) in
    (omega (arith, more.0), subst (λ k. slice_get (m ∷ ns) k ≡ Some (And a b)) at more.1)

pub gate_from-get : (a b : Wire) (i j : ℕ) (ns : List Node) → gate_from a b i ns ≡ Some j → (i ≤ j) × (slice_get ns (j - i) ≡ Some (And a b))
gate_from-get a b i j [] h = absurd (let e : ⊥ = cc in e)
gate_from-get a b i j (m ∷ ns) h = get_step a b i j m ns (λ e. gate_from-get a b (i + 1) j ns e) (is_gate a b m) refl h

-- the counters of a graph fit, and stay right as a node is added
pub held_within : (ns : List Node) (l x : ℕ) (t : ℕ × ℕ → Option ℕ) → IsHeld ns l x t → (l ≤ length ns) × (x ≤ length ns)
held_within ns l x t h = (omega (arith, h.latched, latches_within ns), omega (arith, h.numbered, inputs_within ns))

pub held_latch : (ns : List Node) (l x : ℕ) (t : ℕ × ℕ → Option ℕ) → IsHeld ns l x t → length ns + 1 < 2 ^ 31 → IsHeld (ns ++ Latch l ∷ []) (l + 1) x t
held_latch ns l x t h room = record {
  graph = record { low = low_push ns (Latch l) h.graph.low tt; counted = counted_push ns (Latch l) 0 0 h.graph.counted (omega (arith, h.latched), tt) };
  small = omega (arith, length-append ns (Latch l ∷ []));
  latched = omega (arith, h.latched, latch_count-push ns (Latch l));
  numbered = omega (arith, h.numbered, input_count-push ns (Latch l));
  shared = λ a b. h.shared a b ∙ sym (gate_from-other a b 0 ns (Latch l) refl);
}

pub held_input : (ns : List Node) (l x : ℕ) (t : ℕ × ℕ → Option ℕ) → IsHeld ns l x t → length ns + 1 < 2 ^ 31 → IsHeld (ns ++ Input x ∷ []) l (x + 1) t
held_input ns l x t h room = record {
  graph = record { low = low_push ns (Input x) h.graph.low tt; counted = counted_push ns (Input x) 0 0 h.graph.counted (omega (arith, h.numbered), tt) };
  small = omega (arith, length-append ns (Input x ∷ []));
  latched = omega (arith, h.latched, latch_count-push ns (Input x));
  numbered = omega (arith, h.numbered, input_count-push ns (Input x));
  shared = λ a b. h.shared a b ∙ sym (gate_from-other a b 0 ns (Input x) refl);
}

true_or_false : (b : Bool) → (b ≡ true) ⊎ (b ≡ false)
true_or_false true = inl refl
true_or_false false = inr refl

eqb_swap : (a b : ℕ) → nat_eq a b ≡ nat_eq b a
eqb_swap a b = elim (cases_eq a b) [ inl e ↦ rw (eq-eqb a b e, eq-eqb b a (sym e)) refl | inr ne ↦ rw (ne_eqb a b ne, ne_eqb b a (λ e. ne (sym e))) refl ]

tests_swap : (x y u v : ℕ) → (nat_eq u x && nat_eq v y) ≡ (nat_eq x u && nat_eq y v)
tests_swap x y u v = rw (eqb_swap u x, eqb_swap v y) refl

wires_of : Node → Wire × Wire
wires_of Zero = (wire_of 0, wire_of 0)
wires_of (Latch n) = (wire_of 0, wire_of 0)
wires_of (Input n) = (wire_of 0, wire_of 0)
wires_of (And a b) = (a, b)

also_none : (a b p q : Wire) (ns : List Node) → And a b ≡ And p q → gate_from a b 0 ns ≡ None → gate_from p q 0 ns ≡ None
unfolding wires_of
also_none a b p q ns same none =
    let pair : (a, b) ≡ (p, q) = ap wires_of same in
    subst (λ (w : Wire × Wire). gate_from w.0 w.1 0 ns ≡ None) pair none

-- the table after the new gate is put at its wires
table_more : (a b : Wire) (ns : List Node) (k : ℕ) (old : Option ℕ) (p q : Wire) (found : Option ℕ) → k ≡ length ns → gate_from a b 0 ns ≡ None → gate_from p q 0 ns ≡ old
    → found ≡ cond (nat_eq a.0 p.0 && nat_eq b.0 q.0) (Some k) old → found ≡ gate_from p q 0 (ns ++ And a b ∷ [])
table_more a b ns k old p q found place none before is =
    elim (true_or_false (is_gate p q (And a b))) [
      | inl yes_gate ↦
          let same : And a b ≡ And p q = gate_is p q (And a b) yes_gate in
          let none' : gate_from p q 0 ns ≡ None = also_none a b p q ns same none in
          let test : (nat_eq a.0 p.0 && nat_eq b.0 q.0) ≡ true = tests_swap p.0 q.0 a.0 b.0 ∙ yes_gate in
          let there : gate_from p q 0 (ns ++ And a b ∷ []) ≡ Some k = rw (gate_from-push p q 0 ns (And a b) none', yes_gate) (let e : 0 + length ns ≡ k = omega arith in ap Some e) in
          is ∙ (rw test refl ∙ sym there)
      | inr no_gate ↦
          let test : (nat_eq a.0 p.0 && nat_eq b.0 q.0) ≡ false = tests_swap p.0 q.0 a.0 b.0 ∙ no_gate in
          is ∙ (rw test (sym before) ∙ sym (gate_from-other p q 0 ns (And a b) no_gate))
    ]

pub held_and : (ns : List Node) (l x k : ℕ) (a b : Wire) (old new : ℕ × ℕ → Option ℕ) → k ≡ length ns → IsHeld ns l x old → length ns + 1 < 2 ^ 31 → IsLow (length ns) (And a b) → old (a.0, b.0) ≡ None
    → ((q : ℕ × ℕ) → new q ≡ cond (nat_eq a.0 q.0 && nat_eq b.0 q.1) (Some k) (old q)) → IsHeld (ns ++ And a b ∷ []) l x new
held_and ns l x k a b old new place h room low none more = record {
  graph = record { low = low_push ns (And a b) h.graph.low low; counted = counted_push ns (And a b) 0 0 h.graph.counted tt };
  small = omega (arith, length-append ns (And a b ∷ []));
  latched = omega (arith, h.latched, latch_count-push ns (And a b));
  numbered = omega (arith, h.numbered, input_count-push ns (And a b));
  shared = λ p q. table_more a b ns k (old (p.0, q.0)) p q (new (p.0, q.0)) place (sym (h.shared a b) ∙ none) (sym (h.shared p q)) (more (p.0, q.0));
}

-- laws of conjunctions
gives_same : (ns : List Node) (w : Wire) (f : (ℕ → Bool) → Bool) → Means ns w f → Gives ns (w, ns) 1 f
gives_same ns w f m = record { extends = extends_none ns 1; means = m }

gives_or : (ns : List Node) (a b : Wire) (found : Option ℕ) → gate_from a b 0 ns ≡ found → Gives ns (gate_or ns a b found) 1 (λ v. wire_value v a && wire_value v b)
gives_or ns a b (Some j) is = record {
  extends = extends_none ns 1;
  means = let e : j - 0 ≡ j = omega arith in and_at ns a b (wire_of j) j (subst (λ k. slice_get ns k ≡ Some (And a b)) e (gate_from-get a b 0 j ns is).1) refl;
}
gives_or ns a b None is = record { extends = extends_push ns a b; means = and_by_gate ns a b (wire_of (length ns)) refl }

gives_gate : (ns : List Node) (a b : Wire) → Gives ns (gate_of ns a b) 1 (λ v. wire_value v a && wire_value v b)
unfolding gate_of
gives_gate ns a b = gives_or ns a b (gate_from a b 0 ns) refl

other_order : (ns : List Node) (r : Wire × List Node) (k : ℕ) (f g : (ℕ → Bool) → Bool) → ((v : ℕ → Bool) → f v ≡ g v) → Gives ns r k f → Gives ns r k g
other_order ns r k f g same h = record { extends = h.extends; means = record { of = h.means.of; value = λ v p. h.means.value v p ∙ same v } }

and_swap : (x y : Bool) → (x && y) ≡ (y && x)
and_swap true true = refl
and_swap true false = refl
and_swap false true = refl
and_swap false false = refl

or_cases : (m n x y : ℕ) → ((m == x) || (n == y)) ≡ true → (m ≡ x) ⊎ ((m ≡ x → ⊥) × (n ≡ y))
or_cases m n x y h = elim (cases_eq m x) [
  | inl e ↦ inl e
  | inr ne ↦ inr (ne, eqb-true n y (let first : (m == x) ≡ false = ne_eqb m x ne in rw first at h))
]

not_or : (m n x y : ℕ) → ((m == x) || (n == y)) ≡ false → (m ≢ x) × (n ≢ y)
not_or m n x y h = elim (cases_eq m x) [
  | inl e ↦ absurd (let first : (m == x) ≡ true = eq-eqb m x e in let no : true ≡ false = rw first at h in cc)
  | inr ne ↦ (ne, λ e. let first : (m == x) ≡ false = ne_eqb m x ne in let second : (n == y) ≡ true = eq-eqb n y e in let no : true ≡ false = rw (first, second) at h in cc)
]

differs : (m n : ℕ) → (m == n) ≡ false → m ≢ n
differs m n h = λ e. let yes_equal : (m == n) ≡ true = eq-eqb m n e in cc

pub and_gives : (ns : List Node) (a b : Wire) → HasZero ns → IsOf a ns → IsOf b ns → Gives ns (and_of ns a b) 1 (λ v. wire_value v a && wire_value v b)
unfolding and_of
and_gives ns a b zero_first of_a of_b =
    elim (true_or_false (a.0 == 0 || b.0 == 0)) [
      | inl p ↦ rw p (gives_same ns (wire_of 0) (λ v. wire_value v a && wire_value v b) (and_with_zero ns a b (wire_of 0) zero_first refl (or_cases a.0 b.0 0 0 p)))
      | inr p ↦ rw p (elim (true_or_false (a.0 == 1 || a.0 == b.0)) [
        | inl q ↦ rw q (gives_same ns b (λ v. wire_value v a && wire_value v b) (and_with_one ns a b zero_first of_b (or_cases a.0 a.0 1 b.0 q)))
        | inr q ↦ rw q (elim (true_or_false (b.0 == 1)) [
          | inl r ↦ rw r (gives_same ns a (λ v. wire_value v a && wire_value v b) (one_with_and ns a b zero_first of_a (eqb-true b.0 1 r)))
          | inr r ↦ rw r (elim (true_or_false (a.0 / 2 == b.0 / 2)) [
            | inl s ↦ rw s (gives_same ns (wire_of 0) (λ v. wire_value v a && wire_value v b) (and_of_opposites ns a b (wire_of 0) zero_first refl (eqb-true (a.0 / 2) (b.0 / 2) s) (not_or a.0 a.0 1 b.0 q).1))
            | inr s ↦ rw s (elim (true_or_false (nat_lt a.0 b.0)) [
              | inl t ↦ rw t (gives_gate ns a b)
              | inr t ↦ rw t (other_order ns (gate_of ns b a) 1 (λ v. wire_value v b && wire_value v a) (λ v. wire_value v a && wire_value v b) (λ v. and_swap (wire_value v b) (wire_value v a)) (gives_gate ns b a))
            ])
          ])
        ])
      ])
    ]

never_simple : (a b : Wire) → IsSimple a b → (a.0 ≢ 0) × (b.0 ≢ 0) → (a.0 ≢ 1) × (a.0 ≢ b.0) → b.0 ≢ 1 → a.0 / 2 ≢ b.0 / 2 → ⊥
never_simple a b (inl h) p q r s = let x = p.0 in let y = q.0 in omega arith
never_simple a b (inr (inl h)) p q r s = let x = p.1 in omega arith
never_simple a b (inr (inr h)) p q r s = s h

-- a conjunction that needs no gate leaves the graph as it is
pub and_simple : (ns : List Node) (a b : Wire) → IsSimple a b → (and_of ns a b).1 ≡ ns
unfolding and_of
and_simple ns a b simple =
    elim (true_or_false (a.0 == 0 || b.0 == 0)) [
      | inl p ↦ rw p refl
      | inr p ↦ rw p (elim (true_or_false (a.0 == 1 || a.0 == b.0)) [
        | inl q ↦ rw q refl
        | inr q ↦ rw q (elim (true_or_false (b.0 == 1)) [
          | inl r ↦ rw r refl
          | inr r ↦ rw r (elim (true_or_false (a.0 / 2 == b.0 / 2)) [
            | inl s ↦ rw s refl
            | inr s ↦ absurd (never_simple a b simple (not_or a.0 b.0 0 0 p) (not_or a.0 a.0 1 b.0 q) (differs b.0 1 r) (differs (a.0 / 2) (b.0 / 2) s))
          ])
        ])
      ])
    ]

-- what `and_of` gives, by the equation that a call ensures
pub and_extends : (ns new : List Node) (a b w : Wire) → HasZero ns → IsOf a ns → IsOf b ns → and_of ns a b ≡ (w, new) → Extends ns new 1
and_extends ns new a b w zero_first of_a of_b e =
    subst (λ (r : Wire × List Node). Extends ns r.1 1) e (and_gives ns a b zero_first of_a of_b).extends

pub and_means : (ns new : List Node) (a b w : Wire) → HasZero ns → IsOf a ns → IsOf b ns → and_of ns a b ≡ (w, new) → Means new w (λ v. wire_value v a && wire_value v b)
and_means ns new a b w zero_first of_a of_b e =
    subst (λ (r : Wire × List Node). Means r.1 r.0 (λ v. wire_value v a && wire_value v b)) e (and_gives ns a b zero_first of_a of_b).means

pub and_keeps : (ns new : List Node) (a b w : Wire) → and_of ns a b ≡ (w, new) → IsSimple a b → new ≡ ns
and_keeps ns new a b w e simple = sym (ap (λ (r : Wire × List Node). r.1) e) ∙ and_simple ns a b simple
