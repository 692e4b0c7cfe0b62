-- What is known of the bits of a design. No public contract cites it.
use Rattle.std.specs.Prelude.{◌≡◌, ℕ, List}
use Rattle.flat_design.specs.declared.net.Net.{Net}
use Rattle.flat_design.specs.declared.item.FlatItem.{FlatItem}
use Rattle.flat_flows.specs.Tables.{in_table}
use Rattle.flat_drives.specs.Drives.{driven, input_bits, given_bits}
use Rattle.flat_drives.specs.declared.offending.Known.{Known}

pub record IsKnown (nets : List Net) (items : List FlatItem) (known : Known) : Type 0 where
  pub driven_is : (i : ℕ) → in_table known.driven i ≡ driven nets items i
  pub inputs_is : (i : ℕ) → in_table known.inputs i ≡ input_bits nets i
  pub given_is : (i : ℕ) → in_table known.given i ≡ given_bits nets i
