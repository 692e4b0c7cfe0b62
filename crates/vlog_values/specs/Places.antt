-- Places of nets, and their bits (IEEE 1364-2005, 5.2.1).
use Rattle.std.specs.Prelude.{ℕ, zero, suc, ◌+◌, ◌-◌, ◌^◌, ℤ, pos, negsuc, ◌+ℤ◌, Bool, false, ◌&&◌, nat_lt, nat_le, if◌then◌else◌, Option, Some, None, List, [], ◌∷◌}
use Rattle.bit_base.specs.Numbers.{number_of, signed_number_of, sign_of}
use Rattle.vlog_values.specs.declared.sized.Signal.{Signal}

-- the nets' bits, each net's lowest at 0, and the bits of numbers with `x` digits, by where a number stands: the numbers of the
-- parts on the way to it
pub record Values : Type 0 where
  pub net : ℕ → ℕ → Bool
  pub hidden : List ℕ → ℕ → Bool

-- those of a part
abbrev pub in_part : ℕ → Values → Values
in_part k values = record { net = values.net; hidden = λ path. values.hidden (k ∷ path) }

-- no bit is true
abbrev pub no_values : Values
no_values = record { net = λ n i. false; hidden = λ path i. false }

-- so many bits, by their places from one on
abbrev pub places_from : (ℕ → Bool) → ℕ → ℕ → List Bool
places_from f start zero = []
places_from f start (suc count) = f start ∷ places_from f (start + 1) count

-- the whole number of a word, by its sign
abbrev pub whole_number : Bool → List Bool → ℤ
whole_number signed bits = if signed then signed_number_of bits else pos (number_of bits)

-- the bit of a net at a place; false outside the net
abbrev pub net_bit : Values → Signal → ℤ → Bool
net_bit values signal (pos place) = nat_le signal.lsb place && nat_lt place (signal.lsb + signal.width) && values.net signal.net (place - signal.lsb)
net_bit values signal (negsuc n) = false

unfoldable pub net_bits : Values → Signal → List Bool
net_bits values signal = places_from (values.net signal.net) 0 signal.width

unfoldable pub select_bits : Values → Signal → ℤ → ℕ → List Bool
select_bits values signal low width = places_from (λ k. net_bit values signal (low +ℤ pos k)) 0 width

-- a constant as a place: None below 0 and from 2^32 on, where no net has a place
abbrev pub place_of : Bool → List Bool → Option ℕ
place_of signed bits = if signed && sign_of bits then None else if nat_lt (number_of bits) (2 ^ 32) then Some (number_of bits) else None

-- the places from one on, so many, are places of the net
abbrev pub lies_in : Signal → Option ℕ → ℕ → Bool
lies_in signal None width = false
lies_in signal (Some low) width = nat_le signal.lsb low && nat_le (low + width) (signal.lsb + signal.width)
