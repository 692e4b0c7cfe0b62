-- The bits of one byte.
use Rattle.std.specs.Prelude.{ℕ, ◌+◌, ◌*◌, Bool, ◌&&◌, nat_le, nat_lt}
use Rattle.field_policies.specs.Bits.{bit}

-- bit j lies in byte k, whose bit of the strobe is 1
unfoldable pub in_byte : ℕ → ℕ → ℕ → Bool
in_byte strobe k j = bit strobe k && (nat_le (8 * k) j && nat_lt j (8 * k + 8))
