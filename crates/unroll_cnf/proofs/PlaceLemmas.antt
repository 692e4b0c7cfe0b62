-- The nodes of latches and inputs by their numbers.
use Rattle.std.proofs.Common.{◌≡◌, ℕ, zero, suc, ◌+◌, ◌≤◌, List, [], ◌∷◌, length, slice_get, Some, refl, ap, ◌∙◌, subst, arith}
use Rattle.gate_graph.specs.declared.nodes.Node.{Node}
use Rattle.gate_graph.specs.declared.nodes.Node.TheVariants.{Zero, Latch, Input, And}
use Rattle.gate_graph.specs.Gates.{AreCounted, latch_count, input_count}
use Rattle.unroll_cnf.specs.Queries.{latch_places, input_places}

-- latches that come later have higher numbers
latch_from : (ns : List Node) (j n l x : ℕ) → AreCounted l x ns → slice_get ns j ≡ Some (Latch n) → l ≤ n
latch_from [] j n l x c h = absurd (let e : ⊥ = cc in e)
latch_from (Zero ∷ ns) zero n l x c h = absurd (let e : ⊥ = cc in e)
latch_from (Zero ∷ ns) (suc j) n l x c h = latch_from ns j n l x c h
latch_from (Latch m ∷ ns) zero n l x c h = let e : m ≡ n = cc in omega (arith, c.0)
latch_from (Latch m ∷ ns) (suc j) n l x c h = omega (arith, latch_from ns j n (l + 1) x c.1 h)
latch_from (Input m ∷ ns) zero n l x c h = absurd (let e : ⊥ = cc in e)
latch_from (Input m ∷ ns) (suc j) n l x c h = latch_from ns j n l (x + 1) c.1 h
latch_from (And a b ∷ ns) zero n l x c h = absurd (let e : ⊥ = cc in e)
latch_from (And a b ∷ ns) (suc j) n l x c h = latch_from ns j n l x c h

input_from : (ns : List Node) (j n l x : ℕ) → AreCounted l x ns → slice_get ns j ≡ Some (Input n) → x ≤ n
input_from [] j n l x c h = absurd (let e : ⊥ = cc in e)
input_from (Zero ∷ ns) zero n l x c h = absurd (let e : ⊥ = cc in e)
input_from (Zero ∷ ns) (suc j) n l x c h = input_from ns j n l x c h
input_from (Latch m ∷ ns) zero n l x c h = absurd (let e : ⊥ = cc in e)
input_from (Latch m ∷ ns) (suc j) n l x c h = input_from ns j n (l + 1) x c.1 h
input_from (Input m ∷ ns) zero n l x c h = let e : m ≡ n = cc in omega (arith, c.0)
input_from (Input m ∷ ns) (suc j) n l x c h = omega (arith, input_from ns j n l (x + 1) c.1 h)
input_from (And a b ∷ ns) zero n l x c h = absurd (let e : ⊥ = cc in e)
input_from (And a b ∷ ns) (suc j) n l x c h = input_from ns j n l x c h

moved : (places : List ℕ) (m i j : ℕ) → slice_get places m ≡ Some (i + 1 + j) → slice_get places m ≡ Some (i + suc j)
moved places m i j h = let e : i + 1 + j ≡ i + suc j = omega arith in h ∙ ap Some e

renumbered : (ns : List Node) (j l m : ℕ) → slice_get ns j ≡ Some (Latch (l + suc m)) → slice_get ns j ≡ Some (Latch (l + 1 + m))
renumbered ns j l m h = let e : l + suc m ≡ l + 1 + m = omega arith in h ∙ ap (λ k. Some (Latch k)) e

renumbered_input : (ns : List Node) (j x m : ℕ) → slice_get ns j ≡ Some (Input (x + suc m)) → slice_get ns j ≡ Some (Input (x + 1 + m))
renumbered_input ns j x m h = let e : x + suc m ≡ x + 1 + m = omega arith in h ∙ ap (λ k. Some (Input k)) e

-- the place of a latch's node
place_from : (ns : List Node) (j m i l x : ℕ) → AreCounted l x ns → slice_get ns j ≡ Some (Latch (l + m)) → slice_get (latch_places i ns) m ≡ Some (i + j)
place_from [] j m i l x c h = absurd (let e : ⊥ = cc in e)
place_from (Zero ∷ ns) zero m i l x c h = absurd (let e : ⊥ = cc in e)
place_from (Zero ∷ ns) (suc j) m i l x c h = moved (latch_places (i + 1) ns) m i j (place_from ns j m (i + 1) l x c h)
place_from (Latch k ∷ ns) zero zero i l x c h = let e : i ≡ i + 0 = omega arith in ap Some e
place_from (Latch k ∷ ns) zero (suc m) i l x c h = absurd (let e : k ≡ l + suc m = cc in omega (arith, c.0))
place_from (Latch k ∷ ns) (suc j) zero i l x c h = absurd (omega (arith, latch_from ns j (l + 0) (l + 1) x c.1 h))
place_from (Latch k ∷ ns) (suc j) (suc m) i l x c h = moved (latch_places (i + 1) ns) m i j (place_from ns j m (i + 1) (l + 1) x c.1 (renumbered ns j l m h))
place_from (Input k ∷ ns) zero m i l x c h = absurd (let e : ⊥ = cc in e)
place_from (Input k ∷ ns) (suc j) m i l x c h = moved (latch_places (i + 1) ns) m i j (place_from ns j m (i + 1) l (x + 1) c.1 h)
place_from (And a b ∷ ns) zero m i l x c h = absurd (let e : ⊥ = cc in e)
place_from (And a b ∷ ns) (suc j) m i l x c h = moved (latch_places (i + 1) ns) m i j (place_from ns j m (i + 1) l x c h)

pub latch_place : (ns : List Node) (j n : ℕ) → AreCounted 0 0 ns → slice_get ns j ≡ Some (Latch n) → slice_get (latch_places 0 ns) n ≡ Some j
latch_place ns j n c h =
    let e : n ≡ 0 + n = omega arith in
    let f : 0 + j ≡ j = omega arith in
    place_from ns j n 0 0 0 c (h ∙ ap (λ k. Some (Latch k)) e) ∙ ap Some f

input_place_from : (ns : List Node) (j m i l x : ℕ) → AreCounted l x ns → slice_get ns j ≡ Some (Input (x + m)) → slice_get (input_places i ns) m ≡ Some (i + j)
input_place_from [] j m i l x c h = absurd (let e : ⊥ = cc in e)
input_place_from (Zero ∷ ns) zero m i l x c h = absurd (let e : ⊥ = cc in e)
input_place_from (Zero ∷ ns) (suc j) m i l x c h = moved (input_places (i + 1) ns) m i j (input_place_from ns j m (i + 1) l x c h)
input_place_from (Latch k ∷ ns) zero m i l x c h = absurd (let e : ⊥ = cc in e)
input_place_from (Latch k ∷ ns) (suc j) m i l x c h = moved (input_places (i + 1) ns) m i j (input_place_from ns j m (i + 1) (l + 1) x c.1 h)
input_place_from (Input k ∷ ns) zero zero i l x c h = let e : i ≡ i + 0 = omega arith in ap Some e
input_place_from (Input k ∷ ns) zero (suc m) i l x c h = absurd (let e : k ≡ x + suc m = cc in omega (arith, c.0))
input_place_from (Input k ∷ ns) (suc j) zero i l x c h = absurd (omega (arith, input_from ns j (x + 0) l (x + 1) c.1 h))
input_place_from (Input k ∷ ns) (suc j) (suc m) i l x c h = moved (input_places (i + 1) ns) m i j (input_place_from ns j m (i + 1) l (x + 1) c.1 (renumbered_input ns j x m h))
input_place_from (And a b ∷ ns) zero m i l x c h = absurd (let e : ⊥ = cc in e)
input_place_from (And a b ∷ ns) (suc j) m i l x c h = moved (input_places (i + 1) ns) m i j (input_place_from ns j m (i + 1) l x c h)

pub input_place : (ns : List Node) (j n : ℕ) → AreCounted 0 0 ns → slice_get ns j ≡ Some (Input n) → slice_get (input_places 0 ns) n ≡ Some j
input_place ns j n c h =
    let e : n ≡ 0 + n = omega arith in
    let f : 0 + j ≡ j = omega arith in
    input_place_from ns j n 0 0 0 c (h ∙ ap (λ k. Some (Input k)) e) ∙ ap Some f

-- the node at a latch's place
pub record IsNodeOf (ns : List Node) (i l m p : ℕ) : Type 0 where
  pub place : ℕ
  pub is : p ≡ i + place
  pub node : slice_get ns place ≡ Some (Latch (l + m))

node_kept : (n : Node) (ns : List Node) (i l k m p : ℕ) → IsNodeOf ns (i + 1) l m p → l + m ≡ k → IsNodeOf (n ∷ ns) i 0 k p
node_kept n ns i l k m p h e = record { place = suc h.place; is = omega (arith, h.is); node = let f : l + m ≡ 0 + k = omega arith in h.node ∙ ap (λ q. Some (Latch q)) f }

node_from : (ns : List Node) (i l x m p : ℕ) → AreCounted l x ns → slice_get (latch_places i ns) m ≡ Some p → IsNodeOf ns i 0 (l + m) p
node_from [] i l x m p c h = absurd (let e : ⊥ = cc in e)
node_from (Zero ∷ ns) i l x m p c h = node_kept Zero ns i 0 (l + m) (l + m) p (node_from ns (i + 1) l x m p c h) (omega arith)
node_from (Latch k ∷ ns) i l x zero p c h = record { place = 0; is = let e : i ≡ p = cc in omega arith; node = let e : k ≡ 0 + (l + 0) = omega (arith, c.0) in ap (λ q. Some (Latch q)) e }
node_from (Latch k ∷ ns) i l x (suc m) p c h = node_kept (Latch k) ns i 0 (l + suc m) (l + 1 + m) p (node_from ns (i + 1) (l + 1) x m p c.1 h) (omega arith)
node_from (Input k ∷ ns) i l x m p c h = node_kept (Input k) ns i 0 (l + m) (l + m) p (node_from ns (i + 1) l (x + 1) m p c.1 h) (omega arith)
node_from (And a b ∷ ns) i l x m p c h = node_kept (And a b) ns i 0 (l + m) (l + m) p (node_from ns (i + 1) l x m p c h) (omega arith)

pub latch_node : (ns : List Node) (n p : ℕ) → AreCounted 0 0 ns → slice_get (latch_places 0 ns) n ≡ Some p → slice_get ns p ≡ Some (Latch n)
latch_node ns n p c h =
    let r : IsNodeOf ns 0 0 (0 + n) p = node_from ns 0 0 0 n p c h in
    let e : r.place ≡ p = omega (arith, r.is) in
    let f : 0 + (0 + n) ≡ n = omega arith in
    subst (λ q. slice_get ns q ≡ Some (Latch n)) e (r.node ∙ ap (λ q. Some (Latch q)) f)

pub length-latch_places : (i : ℕ) (ns : List Node) → length (latch_places i ns) ≡ latch_count ns
length-latch_places i [] = refl
length-latch_places i (Zero ∷ ns) = length-latch_places (i + 1) ns
length-latch_places i (Latch n ∷ ns) = omega (arith, length-latch_places (i + 1) ns)
length-latch_places i (Input n ∷ ns) = length-latch_places (i + 1) ns
length-latch_places i (And a b ∷ ns) = length-latch_places (i + 1) ns

pub length-input_places : (i : ℕ) (ns : List Node) → length (input_places i ns) ≡ input_count ns
length-input_places i [] = refl
length-input_places i (Zero ∷ ns) = length-input_places (i + 1) ns
length-input_places i (Latch n ∷ ns) = length-input_places (i + 1) ns
length-input_places i (Input n ∷ ns) = omega (arith, length-input_places (i + 1) ns)
length-input_places i (And a b ∷ ns) = length-input_places (i + 1) ns
