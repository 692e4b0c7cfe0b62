use Rattle.std.proofs.Common.{◌≡◌, true, ◌||◌, map, get_or, []}
use Rattle.unroll_cnf.specs.Latches.{holds}
use Rattle.invariant_miner.specs.Samples.{all_below, in_row}
use Rattle.invariant_miner.proofs.rows.one_holds.Given as goal

abbrev pub invariant-loop-row : goal.invariant-loop-row
invariant-loop-row l = all_below l.row-index (λ k. in_row (get_or (map (λ v. v.items) l.rows) k []) (λ s. holds s l.x || holds s l.y)) ≡ true
