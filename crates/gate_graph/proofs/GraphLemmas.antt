-- What a graph is stays as nodes are added at its end.
use Rattle.std.proofs.Common.{◌≡◌, ℕ, ◌+◌, ◌<◌, ◌≤◌, List, [], ◌∷◌, ◌++◌, length, slice_get, Some, arith, refl, sym, ◌∙◌, inl, inr, subst, zero, suc}
use Rattle.gate_graph.specs.Values.{IsNumbered}
use Rattle.gate_graph.specs.declared.nodes.Node.{Node}
use Rattle.gate_graph.specs.declared.nodes.Node.TheVariants.{Zero, Latch, Input, And}
use Rattle.gate_graph.specs.Gates.{IsLow, AreLow, AreCounted, IsGraph, latch_count, input_count}
use Rattle.gate_graph.proofs.ListLemmas.{get_kept, get_push}

pub latches_within : (ns : List Node) → latch_count ns ≤ length ns
latches_within [] = omega arith
latches_within (Zero ∷ ns) = omega (arith, latches_within ns)
latches_within (Latch n ∷ ns) = omega (arith, latches_within ns)
latches_within (Input n ∷ ns) = omega (arith, latches_within ns)
latches_within (And a b ∷ ns) = omega (arith, latches_within ns)

pub inputs_within : (ns : List Node) → input_count ns ≤ length ns
inputs_within [] = omega arith
inputs_within (Zero ∷ ns) = omega (arith, inputs_within ns)
inputs_within (Latch n ∷ ns) = omega (arith, inputs_within ns)
inputs_within (Input n ∷ ns) = omega (arith, inputs_within ns)
inputs_within (And a b ∷ ns) = omega (arith, inputs_within ns)

-- how many latches and inputs are among one node more
pub latch_count-push : (ns : List Node) (n : Node) → latch_count (ns ++ n ∷ []) ≡ latch_count ns + latch_count (n ∷ [])
latch_count-push [] n = omega arith
latch_count-push (Zero ∷ ns) n = latch_count-push ns n
latch_count-push (Latch m ∷ ns) n = omega (arith, latch_count-push ns n)
latch_count-push (Input m ∷ ns) n = latch_count-push ns n
latch_count-push (And a b ∷ ns) n = latch_count-push ns n

pub input_count-push : (ns : List Node) (n : Node) → input_count (ns ++ n ∷ []) ≡ input_count ns + input_count (n ∷ [])
input_count-push [] n = omega arith
input_count-push (Zero ∷ ns) n = input_count-push ns n
input_count-push (Latch m ∷ ns) n = input_count-push ns n
input_count-push (Input m ∷ ns) n = omega (arith, input_count-push ns n)
input_count-push (And a b ∷ ns) n = input_count-push ns n

-- counting goes by the value of the numbers
counted_at : (n : Node) (l x l' x' : ℕ) → l' ≡ l → x' ≡ x → AreCounted l' x' (n ∷ []) → AreCounted l x (n ∷ [])
counted_at Zero l x l' x' p q h = tt
counted_at (Latch m) l x l' x' p q h = (h.0 ∙ p, tt)
counted_at (Input m) l x l' x' p q h = (h.0 ∙ q, tt)
counted_at (And a b) l x l' x' p q h = tt

-- one more node keeps the counting, where its own number is the next
pub counted_push : (ns : List Node) (n : Node) (l x : ℕ) → AreCounted l x ns → AreCounted (l + latch_count ns) (x + input_count ns) (n ∷ []) → AreCounted l x (ns ++ n ∷ [])
counted_push [] n l x c h = counted_at n l x (l + 0) (x + 0) (omega arith) (omega arith) h
counted_push (Zero ∷ ns) n l x c h = counted_push ns n l x c h
counted_push (Latch m ∷ ns) n l x c h = (c.0, counted_push ns n (l + 1) x c.1 (counted_at n ((l + 1) + latch_count ns) (x + input_count ns) (l + (latch_count ns + 1)) (x + input_count ns) (omega arith) refl h))
counted_push (Input m ∷ ns) n l x c h = (c.0, counted_push ns n l (x + 1) c.1 (counted_at n (l + latch_count ns) ((x + 1) + input_count ns) (l + latch_count ns) (x + (input_count ns + 1)) refl (omega arith) h))
counted_push (And a b ∷ ns) n l x c h = counted_push ns n l x c h

low_at : (i j : ℕ) (n m : Node) → i ≡ j → n ≡ m → IsLow j n → IsLow i m
low_at i j n m p q h = subst (λ k. IsLow k m) (sym p) (subst (λ k. IsLow j k) q h)

-- one more node that is low
pub low_push : (ns : List Node) (n : Node) → AreLow ns → IsLow (length ns) n → AreLow (ns ++ n ∷ [])
low_push ns n low h = record {
  first = get_kept ns n Zero 0 low.first;
  gate = λ i a b at. elim (get_push ns n (And a b) i at) [
    | inl p ↦ low.gate i a b p
    | inr p ↦ low_at i (length ns) n (And a b) p.0 p.1 h
  ];
}

-- the number of a latch node is below the number of latches
pub latch_within : (ns : List Node) (i n l x : ℕ) → AreCounted l x ns → slice_get ns i ≡ Some (Latch n) → n < l + latch_count ns
latch_within [] i n l x c h = absurd (let e : ⊥ = cc in e)
latch_within (Zero ∷ ns) zero n l x c h = absurd (let e : ⊥ = cc in e)
latch_within (Zero ∷ ns) (suc i) n l x c h = latch_within ns i n l x c h
latch_within (Latch m ∷ ns) zero n l x c h = let e : m ≡ n = cc in omega (arith, c.0)
latch_within (Latch m ∷ ns) (suc i) n l x c h = omega (arith, latch_within ns i n (l + 1) x c.1 h)
latch_within (Input m ∷ ns) zero n l x c h = absurd (let e : ⊥ = cc in e)
latch_within (Input m ∷ ns) (suc i) n l x c h = latch_within ns i n l (x + 1) c.1 h
latch_within (And a b ∷ ns) zero n l x c h = absurd (let e : ⊥ = cc in e)
latch_within (And a b ∷ ns) (suc i) n l x c h = latch_within ns i n l x c h

-- the number of an input node is below the number of inputs
pub input_within : (ns : List Node) (i n l x : ℕ) → AreCounted l x ns → slice_get ns i ≡ Some (Input n) → n < x + input_count ns
input_within [] i n l x c h = absurd (let e : ⊥ = cc in e)
input_within (Zero ∷ ns) zero n l x c h = absurd (let e : ⊥ = cc in e)
input_within (Zero ∷ ns) (suc i) n l x c h = input_within ns i n l x c h
input_within (Latch m ∷ ns) zero n l x c h = absurd (let e : ⊥ = cc in e)
input_within (Latch m ∷ ns) (suc i) n l x c h = input_within ns i n (l + 1) x c.1 h
input_within (Input m ∷ ns) zero n l x c h = let e : m ≡ n = cc in omega (arith, c.0)
input_within (Input m ∷ ns) (suc i) n l x c h = omega (arith, input_within ns i n l (x + 1) c.1 h)
input_within (And a b ∷ ns) zero n l x c h = absurd (let e : ⊥ = cc in e)
input_within (And a b ∷ ns) (suc i) n l x c h = input_within ns i n l x c h

-- each node of a graph is low, and its number is one of the graph's
pub node_low : (ns : List Node) (i : ℕ) (n : Node) → IsGraph ns → slice_get ns i ≡ Some n → IsLow i n
node_low ns i Zero g h = tt
node_low ns i (Latch n) g h = tt
node_low ns i (Input n) g h = tt
node_low ns i (And a b) g h = g.low.gate i a b h

pub node_numbered : (ns : List Node) (i : ℕ) (n : Node) → IsGraph ns → slice_get ns i ≡ Some n → IsNumbered (latch_count ns) (input_count ns) n
node_numbered ns i Zero g h = tt
node_numbered ns i (Latch n) g h = omega (arith, latch_within ns i n 0 0 g.counted h)
node_numbered ns i (Input n) g h = omega (arith, input_within ns i n 0 0 g.counted h)
node_numbered ns i (And a b) g h = tt
