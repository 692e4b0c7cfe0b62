-- One net more.
use Rattle.std.proofs.Common.{◌≡◌, inl, inr, ℕ, ◌+◌, true, List, [], ◌∷◌, ◌++◌, length, Option, Some, None, sym, ◌∙◌, ap, subst}
use Rattle.std.specs.Prelude.{slice_get, IsSomeAnd}
use Rattle.std.proofs.lemmas.List.{length-append}
use Rattle.flat_drives.proofs.Steps.{pushed_at, some_same}
use Rattle.flat_design.specs.declared.item.FlatItem.{FlatItem}
use Rattle.flat_orders.specs.Orders.{among}
use Rattle.flat_raw.specs.Assigned.{item_nets}
use Rattle.flat_checks.specs.Cycles.{IsFirstNet, AreAssigning}

pub found_here : (x : FlatItem) (o : Option ℕ) (n : ℕ) (old new : List ℕ) → o ≡ Some n → IsSomeAnd o (IsFirstNet x) → new ≡ old ++ n ∷ [] → (m : ℕ) × (IsFirstNet x m × (new ≡ old ++ m ∷ []))
found_here x None n old new is h e = absurd h
found_here x (Some m) n old new is h e = (m, (h, e ∙ ap (λ k. old ++ k ∷ []) (sym (some_same is))))

pub not_none : (x : FlatItem) (o : Option ℕ) → o ≡ None → IsSomeAnd o (IsFirstNet x) → ⊥
not_none x None is h = h
not_none x (Some m) is h = absurd (differ m is) where
  differ : (m : ℕ) → Some m ≡ None → ⊥
  differ m e = cc

-- those of the items before a place
pub record AreFirstTo (items : List FlatItem) (ks ns : List ℕ) (bound : ℕ) : Type 0 where
  pub as_many : length ns ≡ bound
  pub each : (p k n : ℕ) (x : FlatItem) → slice_get ks p ≡ Some k → slice_get ns p ≡ Some n → slice_get items k ≡ Some x → IsFirstNet x n

pub one_more : (items : List FlatItem) (ks old new : List ℕ) (place number : ℕ) → slice_get ks place ≡ Some number → AreAssigning items ks → AreFirstTo items ks old place
    → ((x : FlatItem) (n : ℕ) → slice_get items number ≡ Some x → among n (item_nets x) ≡ true → (m : ℕ) × (IsFirstNet x m × (new ≡ old ++ m ∷ []))) → AreFirstTo items ks new (place + 1)
one_more items ks old new place number here all so push = record {
  as_many = ap length pushed ∙ length-append old (added.0 ∷ []) ∙ (λ i. so.as_many i + 1);
  each = λ p k n x at is there. elim (pushed_at old added.0 p n (ap (λ l. slice_get l p) (sym pushed) ∙ is)) [
    | inl before ↦ so.each p k n x at before there
    | inr now ↦
        let place_is : place ≡ p = sym so.as_many ∙ sym now.0 in
        let number_is : number ≡ k = some_same (sym here ∙ ap (slice_get ks) place_is ∙ at) in
        let item_is = some_same (sym a.1.0 ∙ ap (slice_get items) number_is ∙ there) in
        subst (λ m. IsFirstNet x m) now.1 (subst (λ y. IsFirstNet y added.0) item_is added.1.0)
  ];
} where
  a : (x : FlatItem) × ((slice_get items number ≡ Some x) × ((n : ℕ) × (among n (item_nets x) ≡ true)))
  a = all.assigns place number here

  added : (m : ℕ) × (IsFirstNet a.0 m × (new ≡ old ++ m ∷ []))
  added = push a.0 a.1.1.0 a.1.0 a.1.1.1

  pushed : new ≡ old ++ added.0 ∷ []
  pushed = added.1.1
