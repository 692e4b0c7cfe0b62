use Rattle.std.proofs.Common.{◌≡◌, ◌-◌, ◌<◌, ◌++◌, map, length}
use Rattle.std.specs.List.{flat_map, range_with_len}
use Rattle.invariant_miner.specs.Samples.{in_all_rows}
use Rattle.invariant_miner.specs.Candidates.{latch_clauses}
use Rattle.invariant_miner.specs.Columns.{AreColumns}
use Rattle.invariant_miner.proofs.candidates.add_latches.Given as goal

abbrev pub invariant-loop-n : goal.invariant-loop-n
invariant-loop-n l = record {
  list : l.list.items ++ (flat_map (latch_clauses (in_all_rows (map (λ v. v.items) l.rows))) (range_with_len l.n (l.latches - l.n))) ≡ l.fn.list.items ++ (flat_map (latch_clauses (in_all_rows (map (λ v. v.items) l.rows))) (range_with_len 1 (l.latches - 1)));
  columns : AreColumns (map (λ v. v.items) l.rows) (length l.columns.items) l.n (map (λ v. v.items) l.columns.items);
  some : 0 < length l.columns.items;
}
