-- Going along a chain of plain port connections. No public contract cites it.
use Rattle.std.specs.Prelude.{◌≡◌, ◌⊎◌, ℕ, Bool, true, List, Some, length}
use Rattle.bit_base.specs.Operators.{count_of_true}
use Rattle.flat_design.specs.declared.net.Net.{Net}
use Rattle.flat_design.specs.declared.item.FlatItem.{FlatItem}
use Rattle.flat_flows.specs.Tables.{in_table}
use Rattle.flat_ties.specs.Ties.{tied}
use Rattle.flat_ties.specs.Sources.{IsInner, IsSource}

-- so many nets were seen on the way from one to another
pub record IsOnWay (nets : List Net) (items : List FlatItem) (net at steps : ℕ) (seen : List Bool) : Type 0 where
  pub long : length seen ≡ length nets
  pub counted : count_of_true seen ≡ steps
  pub inner : (m : ℕ) → in_table seen m ≡ true → IsInner nets m
  pub next : (m n : ℕ) → in_table seen m ≡ true → tied items m ≡ Some n → (in_table seen n ≡ true) ⊎ (n ≡ at)
  pub onward : (source : ℕ) → IsSource nets items net source → IsSource nets items at source
  pub back : (source : ℕ) → IsSource nets items at source → IsSource nets items net source
