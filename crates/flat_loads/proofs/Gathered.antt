-- Sets of bits that grow, and how many they have.
use Rattle.std.proofs.Common.{◌≡◌, ℕ, zero, suc, ◌+◌, ◌<◌, Bool, true, false, ◌&&◌, ◌||◌, List, [], ◌∷◌, length, replicate, refl, sym, ◌∙◌, ap, arith}
use Rattle.std.specs.Prelude.{slice_index_or, nat_lt, if◌then◌else◌, Result, Ok, Err, OnOk}
use Rattle.std.proofs.lemmas.Bool.Decides.{nat_tests}
use Rattle.bit_base.specs.Operators.{count_of_true}
use Rattle.flat_design.specs.Bits.{Set, count_below}

-- the table has what it had and what of the set it has room for
abbrev pub Has : List Bool → Set → List Bool → Type 0
Has old set new = (i : ℕ) → slice_index_or new i false ≡ slice_index_or old i false || (nat_lt i (length old) && set i)

pub on_ok : {A E : Type 0} (r : Result A E) (P Q : Type 0) → (P → Q) → OnOk r P → OnOk r Q
on_ok (Ok x) P Q f h = f h
on_ok (Err e) P Q f h = h

joined : (a n d e : Bool) → (a || (n && d)) || (n && e) ≡ a || (n && (d || e))
joined true n d e = refl
joined false true d e = refl
joined false false d e = refl

pub has_both : (old mid new : List Bool) (d e : Set) → length mid ≡ length old → Has old d mid → Has mid e new → Has old (λ i. d i || e i) new
has_both old mid new d e long first second i =
    second i ∙ (λ j. first i j || (nat_lt i (long j) && e i)) ∙ joined (slice_index_or old i false) (nat_lt i (length old)) (d i) (e i)

-- ---- counting

-- the numbers of a table, counted from its front
from_front : (n : ℕ) (f : Set) → count_below (suc n) f ≡ (if f zero then 1 else 0) + count_below n (λ i. f (suc i))
from_front zero f = omega arith
from_front (suc n) f = let e = from_front n f in omega arith

count_table : (table : List Bool) → count_below (length table) (λ i. slice_index_or table i false) ≡ count_of_true table
count_table [] = refl
count_table (x ∷ xs) = from_front (length xs) (λ i. slice_index_or (x ∷ xs) i false) ∙ ap (λ n. (if x then 1 else 0) + n) (count_table xs)

count_same : (n : ℕ) (f g : Set) → ((i : ℕ) → i < n → f i ≡ g i) → count_below n f ≡ count_below n g
count_same zero f g h = refl
count_same (suc n) f g h = λ j. count_same n f g (λ i less. h i (omega arith)) j + (if h n (omega arith) j then 1 else 0)

none_there : (n i : ℕ) → slice_index_or (replicate n false) i false ≡ false
none_there zero i = refl
none_there (suc n) zero = refl
none_there (suc n) (suc i) = none_there n i

there : (b : Bool) (n i : ℕ) → i < n → nat_lt i n && b ≡ b
there b n i h = ap (λ x. x && b) (inside n i h) where
  inside : (n i : ℕ) → i < n → nat_lt i n ≡ true
  inside n i h = grind (arith, nat_tests)

-- a table that has a set from an empty one on has as many entries as the set has bits
pub counted : (n : ℕ) (d : Set) (old new : List Bool) → old ≡ replicate n false → length old ≡ n → length new ≡ length old → Has old d new → count_of_true new ≡ count_below n d
counted n d old new empty long same has =
    sym (count_table new) ∙ ap (λ m. count_below m (λ i. slice_index_or new i false)) (same ∙ long)
    ∙ count_same n (λ i. slice_index_or new i false) d (λ i less. has i ∙ (λ j. slice_index_or (empty j) i false || (nat_lt i (long j) && d i)) ∙ (λ j. none_there n i j || there (d i) n i less j))
