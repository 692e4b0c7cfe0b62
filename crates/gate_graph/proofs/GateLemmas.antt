-- Values of wires, graphs that grow, and the values of gates.
use Rattle.std.proofs.Common.{◌≡◌, ◌≢◌, ℕ, ◌+◌, ◌*◌, ◌/◌, ◌%◌, ◌≤◌, Bool, true, false, not, ◌&&◌, eqb, List, [], ◌∷◌, ◌++◌, length, slice_get, Some, arith, refl, sym, ◌∙◌, ◌⊎◌, inl, inr, length-append, eq-eqb, ne_eqb}
use Rattle.std.proofs.lemmas.Option.{slice_get_within}
use Rattle.std.proofs.lemmas.Bool.{cases_eq}
use Rattle.gate_graph.specs.declared.wires.Wire.{Wire}
use Rattle.gate_graph.specs.declared.nodes.Node.{Node}
use Rattle.gate_graph.specs.declared.nodes.Node.TheVariants.{Zero, And}
use Rattle.gate_graph.specs.Gates.{wire_value, Respects, IsOf, AreOf, Extends, Keeps, Means}
use Rattle.gate_graph.specs.Sharing.{HasZero}
use Rattle.gate_graph.proofs.GraphLemmas.{latch_count-push, input_count-push}
use Rattle.gate_graph.proofs.ListLemmas.{get_kept, get_last}

pub respects_old : (v : ℕ → Bool) (old new : List Node) (k : ℕ) → Extends old new k → Respects v new → Respects v old
respects_old v old new k e r = record { gate = λ i n h. r.gate i n (e.kept i n h) }

pub extends_more : (a b c : List Node) (m n k : ℕ) → Extends a b m → Extends b c n → m + n ≤ k → Extends a c k
extends_more a b c m n k p q le = record { kept = λ i x h. q.kept i x (p.kept i x h); grows = omega (arith, p.grows, q.grows); bound = omega (arith, p.bound, q.bound); latches = q.latches ∙ p.latches; inputs = q.inputs ∙ p.inputs }

pub extends_none : (a : List Node) (k : ℕ) → Extends a a k
extends_none a k = record { kept = λ i x h. h; grows = omega arith; bound = omega arith; latches = refl; inputs = refl }

pub extends_push : (ns : List Node) (a b : Wire) → Extends ns (ns ++ And a b ∷ []) 1
extends_push ns a b = record {
  kept = λ i x h. get_kept ns (And a b) x i h;
  grows = omega (arith, length-append ns (And a b ∷ []));
  bound = omega (arith, length-append ns (And a b ∷ []));
  latches = omega (arith, latch_count-push ns (And a b));
  inputs = omega (arith, input_count-push ns (And a b));
}

pub keeps_push : (ns : List Node) (n : Node) → Keeps ns (ns ++ n ∷ [])
keeps_push ns n = record { kept = λ i x h. get_kept ns n x i h; grows = omega (arith, length-append ns (n ∷ [])) }

pub keeps_gates : (old new : List Node) (k : ℕ) → Extends old new k → Keeps old new
keeps_gates old new k e = record { kept = λ i n h. e.kept i n h; grows = e.grows }

pub keeps_more : (a b c : List Node) → Keeps a b → Keeps b c → Keeps a c
keeps_more a b c p q = record { kept = λ i n h. q.kept i n (p.kept i n h); grows = omega (arith, p.grows, q.grows) }

pub respects_kept : (v : ℕ → Bool) (old new : List Node) → Keeps old new → Respects v new → Respects v old
respects_kept v old new e r = record { gate = λ i n h. r.gate i n (e.kept i n h) }

pub means_kept : (old new : List Node) (w : Wire) (f : (ℕ → Bool) → Bool) → Keeps old new → Means old w f → Means new w f
means_kept old new w f e m = record { of = omega (arith, m.of, e.grows); value = λ v r. m.value v (respects_kept v old new e r) }

pub means_later : (old new : List Node) (k : ℕ) (w : Wire) (f : (ℕ → Bool) → Bool) → Extends old new k → Means old w f → Means new w f
means_later old new k w f e m = record { of = omega (arith, m.of, e.grows); value = λ v r. m.value v (respects_old v old new k e r) }

pub are_of_later : (wires : List Wire) (old new : List Node) (k : ℕ) → Extends old new k → AreOf wires old → AreOf wires new
are_of_later wires old new k e a = record { each = λ i w h. omega (arith, a.each i w h, e.grows) }

-- the value of a wire by its number
pub value_even : (v : ℕ → Bool) (w : Wire) → w.0 % 2 ≡ 0 → wire_value v w ≡ v (w.0 / 2)
unfolding wire_value
value_even v w h = let e : eqb (w.0 % 2) 1 ≡ false = ne_eqb _ _ (omega arith) in rw e refl

pub value_odd : (v : ℕ → Bool) (w : Wire) → w.0 % 2 ≡ 1 → wire_value v w ≡ not (v (w.0 / 2))
unfolding wire_value
value_odd v w h = let e : eqb (w.0 % 2) 1 ≡ true = eq-eqb _ _ h in rw e refl

-- the two constants
pub value_zero : (v : ℕ → Bool) (nodes : List Node) (w : Wire) → HasZero nodes → Respects v nodes → w.0 ≡ 0 → wire_value v w ≡ false
value_zero v nodes w g r h =
    let e : w.0 / 2 ≡ 0 = omega arith in
    let first : v 0 ≡ false = r.gate 0 Zero g in
    rw (value_even v w (omega arith), e) first

pub value_one : (v : ℕ → Bool) (nodes : List Node) (w : Wire) → HasZero nodes → Respects v nodes → w.0 ≡ 1 → wire_value v w ≡ true
value_one v nodes w g r h =
    let e : w.0 / 2 ≡ 0 = omega arith in
    let first : v 0 ≡ false = r.gate 0 Zero g in
    rw (value_odd v w (omega arith), e, first) refl

-- two wires of one node are equal or opposite
same_value : (v : ℕ → Bool) (a b : Wire) → a.0 ≡ b.0 → wire_value v a ≡ wire_value v b
unfolding wire_value
same_value v a b h = rw h refl

and_same : (x : Bool) → (x && x) ≡ x
and_same true = refl
and_same false = refl

and_true : (x : Bool) → (x && true) ≡ x
and_true true = refl
and_true false = refl

and_false : (x : Bool) → (x && false) ≡ false
and_false true = refl
and_false false = refl

and_not : (x : Bool) → (x && not x) ≡ false
and_not true = refl
and_not false = refl

not_and : (x : Bool) → (not x && x) ≡ false
not_and true = refl
not_and false = refl

opposites : (v : ℕ → Bool) (a b : Wire) → a.0 / 2 ≡ b.0 / 2 → a.0 ≢ b.0 → (wire_value v a && wire_value v b) ≡ false
opposites v a b same differ = elim (cases_eq (a.0 % 2) 0) [
  | inl p ↦ rw (value_even v a p, value_odd v b (omega arith), same) (and_not (v (b.0 / 2)))
  | inr p ↦ rw (value_odd v a (omega arith), value_even v b (omega arith), same) (not_and (v (b.0 / 2)))
]

-- the constant wire
pub means_zero : (nodes : List Node) (w : Wire) → HasZero nodes → w.0 ≡ 0 → Means nodes w (λ v. false)
means_zero nodes w g h = record {
  of = omega (arith, slice_get_within nodes 0 Zero g);
  value = λ v r. value_zero v nodes w g r h;
}

-- conjunctions that need no gate
pub and_with_zero : (nodes : List Node) (a b w : Wire) → HasZero nodes → w.0 ≡ 0 → (a.0 ≡ 0) ⊎ ((a.0 ≡ 0 → ⊥) × (b.0 ≡ 0)) → Means nodes w (λ v. wire_value v a && wire_value v b)
and_with_zero nodes a b w g h either = record {
  of = omega (arith, slice_get_within nodes 0 Zero g);
  value = λ v r. rw (value_zero v nodes w g r h) (sym (elim either [
    | inl p ↦ rw (value_zero v nodes a g r p) refl
    | inr p ↦ rw (value_zero v nodes b g r p.1) (and_false (wire_value v a))
  ]));
}

pub and_with_one : (nodes : List Node) (a b : Wire) → HasZero nodes → IsOf b nodes → (a.0 ≡ 1) ⊎ ((a.0 ≡ 1 → ⊥) × (a.0 ≡ b.0)) → Means nodes b (λ v. wire_value v a && wire_value v b)
and_with_one nodes a b g of either = record {
  of = of;
  value = λ v r. sym (elim either [
    | inl p ↦ rw (value_one v nodes a g r p) refl
    | inr p ↦ rw (same_value v a b p.1) (and_same (wire_value v b))
  ]);
}

pub one_with_and : (nodes : List Node) (a b : Wire) → HasZero nodes → IsOf a nodes → b.0 ≡ 1 → Means nodes a (λ v. wire_value v a && wire_value v b)
one_with_and nodes a b g of p = record {
  of = of;
  value = λ v r. sym (rw (value_one v nodes b g r p) (and_true (wire_value v a)));
}

pub and_of_opposites : (nodes : List Node) (a b w : Wire) → HasZero nodes → w.0 ≡ 0 → a.0 / 2 ≡ b.0 / 2 → a.0 ≢ b.0 → Means nodes w (λ v. wire_value v a && wire_value v b)
and_of_opposites nodes a b w g h same differ = record {
  of = omega (arith, slice_get_within nodes 0 Zero g);
  value = λ v r. rw (value_zero v nodes w g r h) (sym (opposites v a b same differ));
}

-- a gate added at the end
pub and_by_gate : (nodes : List Node) (a b w : Wire) → w.0 ≡ 2 * length nodes → Means (nodes ++ And a b ∷ []) w (λ v. wire_value v a && wire_value v b)
and_by_gate nodes a b w h = record {
  of = omega (arith, length-append nodes (And a b ∷ []));
  value = λ v r.
      let e : w.0 / 2 ≡ length nodes = omega arith in
      let g : v (length nodes) ≡ (wire_value v a && wire_value v b) = r.gate (length nodes) (And a b) (get_last nodes (And a b)) in
      rw (value_even v w (omega arith), e) g;
}

-- a gate that is there
pub and_at : (nodes : List Node) (a b w : Wire) (j : ℕ) → slice_get nodes j ≡ Some (And a b) → w.0 ≡ 2 * j → Means nodes w (λ v. wire_value v a && wire_value v b)
and_at nodes a b w j is h = record {
  of = omega (arith, slice_get_within nodes j (And a b) is);
  value = λ v r.
      let e : w.0 / 2 ≡ j = omega arith in
      let g : v j ≡ (wire_value v a && wire_value v b) = r.gate j (And a b) is in
      rw (value_even v w (omega arith), e) g;
}
