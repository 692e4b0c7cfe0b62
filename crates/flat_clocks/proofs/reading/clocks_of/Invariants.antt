use Rattle.std.proofs.Common.{◌≡◌, ◌||◌, ℕ, drop}
use Rattle.flat_flows.specs.Tables.{in_table}
use Rattle.flat_clocks.specs.Signals.{is_clock}
use Rattle.flat_clocks.proofs.reading.clocks_of.Given as goal

abbrev pub invariant-loop-item : goal.invariant-loop-item
invariant-loop-item l = (n : ℕ) → in_table l.clocks n || is_clock l.sources (drop l.item-index l.items) n ≡ is_clock l.sources l.items n
