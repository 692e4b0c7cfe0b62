-- The bits of a field, and the number that they are kept as: bit i of a number counts 2^i
-- (IEEE 1364-2005, 4.3 Vectors).
use Rattle.std.specs.Prelude.{◌≡◌, ℕ, zero, suc, ◌/◌, ◌%◌, ◌^◌, ◌<◌, Bool, true, false, ◌==◌, ◌||◌, ◌&&◌}
use Rattle.bit_base.specs.Operators.{differ}

unfoldable pub bit : ℕ → ℕ → Bool
bit n i = n / 2 ^ i % 2 == 1

-- the reductions of the first places (IEEE 1364-2005, 5.1.11): some is true, all are, an odd number of them are
abbrev pub any_below : ℕ → (ℕ → Bool) → Bool
any_below zero bits = false
any_below (suc n) bits = any_below n bits || bits n

abbrev pub all_below : ℕ → (ℕ → Bool) → Bool
all_below zero bits = true
all_below (suc n) bits = all_below n bits && bits n

abbrev pub odd_below : ℕ → (ℕ → Bool) → Bool
odd_below zero bits = false
odd_below (suc n) bits = differ (odd_below n bits) (bits n)

-- the number is that of these bits, so many
pub record AreBitsOf (width : ℕ) (bits : ℕ → Bool) (number : ℕ) : Type 0 where
  pub below : number < 2 ^ width
  pub each : (i : ℕ) → i < width → bit number i ≡ bits i
