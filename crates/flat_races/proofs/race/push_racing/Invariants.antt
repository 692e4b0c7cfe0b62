use Rattle.std.proofs.Common.{◌≡◌, ◌&&◌, ◌||◌, ℕ, drop}
use Rattle.flat_design.specs.Bits.{net_at}
use Rattle.flat_orders.specs.Orders.{among}
use Rattle.flat_flows.specs.Tables.{in_table}
use Rattle.flat_races.specs.Readers as table
use Rattle.flat_races.proofs.race.push_racing.Given as goal

abbrev pub invariant-loop-net : goal.invariant-loop-net
invariant-loop-net l = (n : ℕ) → among n l.out.items || (among n (drop l.net-index l.blocking) && (in_table l.nonblocking n || (table.has_other l.number (table.readers_of l.readers n) || (net_at l.nets n).output)))
    ≡ among n l.fn.out.items || (among n l.blocking && (in_table l.nonblocking n || (table.has_other l.number (table.readers_of l.readers n) || (net_at l.nets n).output)))
