-- Places before place 0, by the number of the inverted word.
use Rattle.std.proofs.Common.{◌≡◌, ℕ, ◌+◌, ◌^◌, Bool, true, false, not, List, [], ◌∷◌, length, map, refl, arith}
use Rattle.std.proofs.Math.Nat.{pow-succ'}
use Rattle.bit_base.specs.Numbers.{number_of, sign_of}
use Rattle.flat_design.specs.Bits.{offset_of}

pub complement : (bits : List Bool) → number_of bits + number_of (map not bits) + 1 ≡ 2 ^ length bits
complement [] = refl
complement (true ∷ bits) = omega (arith, complement bits, pow-succ' 2 (length bits))
complement (false ∷ bits) = omega (arith, complement bits, pow-succ' 2 (length bits))

pub offset_before : (signed : Bool) (index : List Bool) (lsb : ℕ) → signed ≡ true → sign_of index ≡ true → offset_of signed index lsb ≡ (number_of index, lsb + 2 ^ length index)
offset_before signed index lsb on set = rw (on, set) refl
