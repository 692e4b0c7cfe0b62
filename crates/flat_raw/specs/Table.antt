-- The table of the paths that were seen. No public contract cites it.
use Rattle.std.specs.Prelude.{◌≡◌, ◌<◌, ℕ, false, List, Option, Some, bytes_eq, slice_get}
use Rattle.std.specs.HashMap.{get_by}
use Rattle.flat_design.specs.declared.net.Net.{Net}
use Rattle.flat_raw.specs.Nets.{is_hidden}
use Rattle.flat_raw.specs.declared.path.Paths.{Paths}

abbrev pub found : Paths → List ℕ → Option ℕ
found m q = get_by (λ k. bytes_eq q k.now) m.table

-- a net of this number, before the first that wasn't seen, has this path
pub record HasPath (nets : List Net) (seen j : ℕ) (path : List ℕ) : Type 0 where
  pub net : Net
  pub before : j < seen
  pub is : slice_get nets j ≡ Some net
  pub shown : is_hidden net.kind ≡ false
  pub path_is : net.path ≡ path

-- the table has the paths of the nets before this number, each with its net
pub record AreSeen (paths : Paths) (nets : List Net) (seen : ℕ) : Type 0 where
  pub only : (q : List ℕ) (j : ℕ) → found paths q ≡ Some j → HasPath nets seen j q
  pub all : (j : ℕ) (n : Net) → j < seen → slice_get nets j ≡ Some n → is_hidden n.kind ≡ false → found paths n.path ≡ Some j
