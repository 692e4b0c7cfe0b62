use Rattle.std.proofs.Common.{◌≡◌, map, drop}
use Rattle.std.specs.List.{flat_map}
use Rattle.invariant_miner.specs.Samples.{in_all_rows}
use Rattle.invariant_miner.specs.Candidates.{with_new, pair_clauses}
use Rattle.invariant_miner.proofs.candidates.add_pairs.Given as goal

abbrev pub invariant-loop-b : goal.invariant-loop-b
invariant-loop-b l = with_new l.list.items (flat_map (pair_clauses (in_all_rows (map (λ v. v.items) l.rows)) l.a) (drop l.b-index l.later)) ≡ with_new l.fn.list.items (flat_map (pair_clauses (in_all_rows (map (λ v. v.items) l.rows)) l.a) l.later)
