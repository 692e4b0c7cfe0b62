-- Rows of flat bits, and constants as words.
use Rattle.std.specs.Prelude.{◌≡◌, ℕ, Bool, ◌&&◌, nat_le, nat_lt, List, Option, Some, None}
use Rattle.flat_design.specs.Values.{Value}
use Rattle.flat_flows.specs.declared.range.BitRange.{BitRange}

-- the numbers of a row
abbrev pub in_range : BitRange → ℕ → Bool
in_range r i = nat_le r.first i && nat_lt i r.end

-- the word of a constant of this sign
abbrev pub constant_is : Bool → Option (List Bool) → Option Value → Type 0
constant_is signed None v = v ≡ None
constant_is signed (Some word) v = v ≡ Some (signed, word)
