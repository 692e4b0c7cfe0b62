-- Designs that are too large.
use Rattle.std.specs.Prelude.{Bool, ◌||◌, nat_lt, List}
use Rattle.flat_design.specs.declared.net.Net.{Net}
use Rattle.flat_design.specs.declared.item.FlatItem.{FlatItem}
use Rattle.flat_design.specs.Prices.{design_cost, register_bits}

-- over 4,096 register bits, or a cost over 100,000 (this project's own)
abbrev pub is_too_large : List Net → List FlatItem → Bool
is_too_large nets items = nat_lt 4096 (register_bits nets) || nat_lt 100000 (design_cost nets items)
