-- Which net each flat bit belongs to.
use Rattle.std.specs.Prelude.{◌≡◌, ◌<◌, ℕ, true, List, Some, slice_get}
use Rattle.flat_design.specs.declared.net.Net.{Net}
use Rattle.flat_design.specs.Bits.{net_at, of_net}

-- the table has the net of each bit
pub record AreOwners (nets : List Net) (owners : List ℕ) : Type 0 where
  pub only : (i n : ℕ) → slice_get owners i ≡ Some n → of_net (net_at nets n) i ≡ true
  pub all : (i n : ℕ) → of_net (net_at nets n) i ≡ true → slice_get owners i ≡ Some n
