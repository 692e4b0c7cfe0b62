-- Where no item offends no bit has two drivers.
use Rattle.std.proofs.Common.{◌≡◌, ◌⊎◌, inl, inr, ℕ, zero, suc, ◌<◌, ◌≤◌, Bool, true, false, not, ◌&&◌, ◌||◌, List, [], ◌∷◌, take, Option, Some, None, refl, sym, ◌∙◌, ap, subst, arith}
use Rattle.std.specs.Prelude.{slice_get, IfSome, IfNone}
use Rattle.std.proofs.lemmas.Bool.{cases_lt}
use Rattle.std.specs.List.{list_any}
use Rattle.flat_design.specs.declared.net.Net.{Net}
use Rattle.flat_design.specs.declared.item.FlatItem.{FlatItem}
use Rattle.flat_design.specs.Systems.{item_flow}
use Rattle.flat_orders.specs.Orders.{HaveSingleDrivers}
use Rattle.flat_drives.specs.Drives.{driven, input_bits, given_bits, item_twice, Offends, IsOpen}
use Rattle.flat_offences.specs.declared.offence.Offence.{Offence}
use Rattle.flat_driven.specs.Driven.{IsDriverOffence, open_offence}
use Rattle.flat_driven.proofs.Inside.{drives_inside}

any_before : {A : Type 0} (p : A → Bool) (xs : List A) (j k : ℕ) (x : A) → slice_get xs j ≡ Some x → j < k → p x ≡ true → list_any p (take k xs) ≡ true
any_before p [] j k x at less h = cc
any_before p (y ∷ ys) j zero x at less h = absurd (omega arith)
any_before p (y ∷ ys) zero (suc k) x at less h = left (p y) _ (ap p (same at) ∙ h) where
  same : {A : Type 0} {a b : A} → Some a ≡ Some b → a ≡ b
  same {A} {a} {b} e = cc

  left : (a b : Bool) → a ≡ true → a || b ≡ true
  left true b h = refl
  left false b h = cc
any_before p (y ∷ ys) (suc j) (suc k) x at less h = right (p y) _ (any_before p ys j k x at (omega arith) h) where
  right : (a b : Bool) → b ≡ true → a || b ≡ true
  right true b h = refl
  right false b h = h

two_offend : (d e i t r : Bool) → d ≡ true → e ≡ true → (d && (e || i)) || (t || r) ≡ true
two_offend true true i t r h k = refl
two_offend true false i t r h k = cc
two_offend false e i t r h k = cc

-- the later of two drivers offends
later_offends : (nets : List Net) (items : List FlatItem) (j k : ℕ) (x y : FlatItem) (i : ℕ) → j < k → slice_get items j ≡ Some x → slice_get items k ≡ Some y → (item_flow nets x).drives i ≡ true → (item_flow nets y).drives i ≡ true
    → (n : ℕ) × Offends nets items k n
later_offends nets items j k x y i less at there h d =
    let b = drives_inside nets y i d in
    (b.0, record { item = y; is = there; bit = i; inside = b.1; offends = two_offend ((item_flow nets y).drives i) (driven nets (take k items) i) (input_bits nets i) (item_twice nets y i) ((item_flow nets y).reads i && not (driven nets items i || given_bits nets i)) d (any_before (λ x. (item_flow nets x).drives i) items j k x at less h) })

apart : (j k : ℕ) → (j < k → ⊥) → (k < j → ⊥) → k ≡ j
apart j k a b = elim (cases j k) [ inl less ↦ absurd (a less) | inr more ↦ elim (cases k j) [ inl less ↦ absurd (b less) | inr other ↦ omega arith ] ] where
  cases : (m n : ℕ) → (m < n) ⊎ (n ≤ m)
  cases m n = cases_lt m n

pub are_single : (nets : List Net) (items : List FlatItem) → ((k n : ℕ) → Offends nets items k n → ⊥) → HaveSingleDrivers nets items
are_single nets items none = record {
  single = λ k j x y i at there d e.
      apart j k
      (λ less. let o = later_offends nets items j k y x i less there at e d in none k o.0 o.1)
      (λ less. let o = later_offends nets items k j x y i less at there d e in none j o.0 o.1);
}

pub from_none : {A : Type 0} (o : Option A) (P : Type 0) → o ≡ None → IfNone o P → P
from_none None P e h = h
from_none (Some x) P e h = absurd (cc e)

pub from_some : {A : Type 0} (o : Option A) (x : A) (P : A → Type 0) → o ≡ Some x → IfSome o P → P x
from_some None x P e h = absurd (cc e)
from_some (Some y) x P e h = subst P (same e) h where
  same : {A : Type 0} {a b : A} → Some a ≡ Some b → a ≡ b
  same {A} {a} {b} e = cc

-- an open output is answered, where no item offends
pub open_answer : (nets : List Net) (items : List FlatItem) (n : ℕ) (o : Offence) → o ≡ open_offence n → IsOpen nets items n → ((m : ℕ) → IsOpen nets items m → n ≤ m) → ((k m : ℕ) → Offends nets items k m → ⊥) → IsDriverOffence nets items o
open_answer nets items n o e shown first none = subst (IsDriverOffence nets items) (sym e) (inr (record { place = refl; open_net = shown; first = first; no_item = none }))
