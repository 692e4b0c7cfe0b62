use Rattle.std.proofs.Common.{ℕ, ◌<◌}
use Rattle.gate_graph.proofs.ValueLemmas.{AreDone}
use Rattle.invariant_miner.specs.Lanes.{lane, lane_at}
use Rattle.invariant_miner.proofs.lanes.evaluate.Given as goal

abbrev pub invariant-loop-i : goal.invariant-loop-i
invariant-loop-i l = (r : ℕ) → r < 64 → AreDone (lane r l.latches) (lane r l.inputs) (lane_at r l.table) l.graph l.i
