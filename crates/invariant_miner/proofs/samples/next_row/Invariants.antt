use Rattle.std.proofs.Common.{◌≡◌, ℕ, ◌<◌, map, take, length}
use Rattle.gate_graph.specs.Gates.{wire_value}
use Rattle.invariant_miner.specs.Lanes.{lane, lane_at}
use Rattle.invariant_miner.proofs.samples.next_row.Given as goal

abbrev pub invariant-loop-latch : goal.invariant-loop-latch
invariant-loop-latch l = record {
  lanes : (r : ℕ) → r < 64 → lane r l.row.items ≡ map (λ x. wire_value (lane_at r l.table) x.next) (take l.latch-index l.latches);
  long : length l.row.items ≡ l.latch-index;
}
