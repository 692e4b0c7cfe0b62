use Rattle.std.proofs.Common.{◌≡◌, map, drop}
use Rattle.invariant_miner.specs.Samples.{in_all_rows}
use Rattle.invariant_miner.specs.Candidates.{with_new, control_clauses}
use Rattle.invariant_miner.proofs.candidates.add_controls.Given as goal

abbrev pub invariant-loop-i : goal.invariant-loop-i
invariant-loop-i l = with_new l.list.items (control_clauses (in_all_rows (map (λ v. v.items) l.rows)) (drop l.i l.control)) ≡ with_new l.fn.list.items (control_clauses (in_all_rows (map (λ v. v.items) l.rows)) l.control)
