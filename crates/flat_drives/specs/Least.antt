-- The least net that has one of a set of bits.
use Rattle.std.specs.Prelude.{◌≡◌, ◌≤◌, ℕ, true, List, Option, Some, None, slice_get}
use Rattle.flat_design.specs.Bits.{Set}

-- by a table that has the net of each bit
pub record HasNet (owners : List ℕ) (bits : Set) (n : ℕ) : Type 0 where
  pub bit : ℕ
  pub at : slice_get owners bit ≡ Some n
  pub is : bits bit ≡ true

pub record IsLeast (owners : List ℕ) (bits : Set) (n : ℕ) : Type 0 where
  pub has : HasNet owners bits n
  pub least : (m : ℕ) → HasNet owners bits m → n ≤ m

abbrev pub IsLeastNet : List ℕ → Set → Option ℕ → Type 0
IsLeastNet owners bits None = (m : ℕ) → HasNet owners bits m → ⊥
IsLeastNet owners bits (Some n) = IsLeast owners bits n
