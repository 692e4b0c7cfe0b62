-- Lists that are built one after the other, with the graph.
use Rattle.std.proofs.Common.{◌≡◌, ℕ, zero, suc, ◌+◌, ◌<◌, ◌≤◌, List, [], ◌∷◌, ◌++◌, length, take, get_or, map, slice_get, slice_index, Some, refl, sym, ap, ◌∙◌, subst, inl, inr, arith}
use Rattle.std.proofs.lemmas.List.{take_more, take_all}
use Rattle.std.proofs.lemmas.List.Sums.{fold_push}
use Rattle.gate_graph.specs.declared.nodes.Node.{Node}
use Rattle.gate_graph.proofs.ListLemmas.{get_push}
use Rattle.field_edges.specs.Made.{each_made}

pub each_more : {X A : Type 0} (f : List Node → X → A × List Node) (ns : List Node) (xs : List X) (i : ℕ) (x : X) (so_far : List A) (a : A) (old new : List Node)
    → i < length xs → get_or xs i x ≡ x → f old x ≡ (a, new) → each_made f ns (take i xs) ≡ (so_far, old) → each_made f ns (take (i + 1) xs) ≡ (so_far ++ a ∷ [], new)
each_more f ns xs i x so_far a old new lt is made before =
    ap (each_made f ns) (take_more xs i x lt)
    ∙ (fold_push (λ m y. (m.0 ++ (f m.1 y).0 ∷ [], (f m.1 y).1)) ([], ns) (take i xs) (get_or xs i x)
    ∙ (ap (λ y. ((each_made f ns (take i xs)).0 ++ (f (each_made f ns (take i xs)).1 y).0 ∷ [], (f (each_made f ns (take i xs)).1 y).1)) is
    ∙ (ap (λ (m : List _ × List Node). (m.0 ++ (f m.1 x).0 ∷ [], (f m.1 x).1)) before ∙ ap (λ (m : _ × List Node). (so_far ++ m.0 ∷ [], m.1)) made)))

pub each_end : {X A : Type 0} (f : List Node → X → A × List Node) (ns : List Node) (xs : List X) (i : ℕ) (made : List A × List Node) → length xs ≤ i → each_made f ns (take i xs) ≡ made → each_made f ns xs ≡ made
each_end f ns xs i made le before = ap (each_made f ns) (sym (take_all i xs le)) ∙ before

-- what holds of each element
pub facts_push : {A : Type 0} (P : ℕ → A → Type 0) (xs : List A) (x : A) (i : ℕ) → length xs ≡ i → ((k : ℕ) (g : A) → slice_get xs k ≡ Some g → P k g) → P i x
    → (k : ℕ) (g : A) → slice_get (xs ++ x ∷ []) k ≡ Some g → P k g
facts_push P xs x i long before here k g at = elim (get_push xs x g k at) [
  | inl p ↦ before k g p
  | inr p ↦ subst (λ y. P k y) p.1 (subst (λ j. P j x) (sym (p.0 ∙ long)) here)
]

pub index_map : {A : Type 0} (f : A → ℕ) (xs : List A) (n : ℕ) (x : A) → slice_get xs n ≡ Some x → slice_index (map f xs) n ≡ f x
index_map f [] n x at = absurd (let e : ⊥ = cc in e)
index_map f (y ∷ xs) zero x at = ap f (let e : y ≡ x = cc in e)
index_map f (y ∷ xs) (suc n) x at = index_map f xs n x at
