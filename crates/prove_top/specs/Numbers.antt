-- Plain decimal numbers: those that Rattle's own decimal text writes, without a sign or a leading zero.
use Rattle.std.specs.Prelude.{ℕ, ◌^◌, nat_lt, ◌&&◌, if◌then◌else◌, Option, Some, None, List}
use Rattle.std.specs.Str.{bytes_eq}
use Rattle.std.specs.Str.Parse.{digits_value}
use Rattle.std.specs.Fmt.{decimal}

-- the number below 2^64 whose decimal text these bytes are
unfoldable pub plain_value : List ℕ → Option ℕ
plain_value bytes =
    if nat_lt (digits_value 10 bytes) (2 ^ 64) && bytes_eq bytes (decimal (digits_value 10 bytes))
    then Some (digits_value 10 bytes) else None
