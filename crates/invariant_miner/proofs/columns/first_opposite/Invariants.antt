use Rattle.std.proofs.Common.{◌≡◌, map, drop, find}
use Rattle.invariant_miner.specs.Samples.{in_all_rows}
use Rattle.invariant_miner.specs.Candidates.{are_opposite}
use Rattle.invariant_miner.proofs.columns.first_opposite.Given as goal

abbrev pub invariant-loop-m : goal.invariant-loop-m
invariant-loop-m l = find (are_opposite (in_all_rows (map (λ v. v.items) l.rows)) l.n) (drop l.m-index l.list) ≡ find (are_opposite (in_all_rows (map (λ v. v.items) l.rows)) l.n) l.list
