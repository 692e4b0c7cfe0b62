-- Prices whose cost is counted up to a limit.
use Rattle.std.specs.Prelude.{ℕ, min}
use Rattle.flat_design.specs.Prices as spec
use Rattle.flat_cost.specs.declared.price.Price.{Price}

-- one more than the greatest cost that a design may have
abbrev pub limit : ℕ
limit = 100001

abbrev pub cut : spec.Price → Price
cut p = record { size = p.size; constant = p.constant; cost = min p.cost limit }
