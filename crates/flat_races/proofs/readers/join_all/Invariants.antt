use Rattle.std.proofs.Common.{◌≡◌, ℕ, drop}
use Rattle.std.specs.Prelude.{if◌then◌else◌}
use Rattle.flat_orders.specs.Orders.{among}
use Rattle.flat_races.specs.Readers as spec
use Rattle.flat_races.proofs.readers.join_all.Given as goal

abbrev pub invariant-loop-net : goal.invariant-loop-net
invariant-loop-net l = (n : ℕ) → (if among n (drop l.net-index l.nets) then spec.joined_by l.number (spec.readers_of l.table.items n) else spec.readers_of l.table.items n)
    ≡ (if among n l.nets then spec.joined_by l.number (spec.readers_of l.fn.table.items n) else spec.readers_of l.fn.table.items n)
