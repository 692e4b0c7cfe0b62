-- Numbers by their sign and their distance from 0.
use Rattle.std.specs.Prelude.{ℕ, ℤ, pos, neg_ℤ, Bool, if◌then◌else◌}

abbrev pub with_sign : Bool → ℕ → ℤ
with_sign negative number = if negative then neg_ℤ (pos number) else pos number
