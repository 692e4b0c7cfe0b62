use Rattle.std.proofs.Common.{◌∙◌, ◌-◌, sym, ap, Bool, List, [], map}
use Rattle.std.specs.List.{flat_map, range_with_len}
use Rattle.unroll_cnf.specs.declared.latch_literal.LatchLiteral.{LatchLiteral}
use Rattle.invariant_miner.specs.Samples.{in_all_rows}
use Rattle.invariant_miner.specs.Candidates.{with_new, latch_clauses, control_clauses, candidates_by}
use Rattle.invariant_miner.proofs.FreshLemmas.{latches_new}
use Rattle.invariant_miner.proofs.ListedLemmas.{two_new}
use Rattle.invariant_miner.proofs.candidates.candidates_of.Goals as goal

pub returns : goal.returns
unfolding candidates_by
returns c =
    let all : (List Bool → Bool) → Bool = in_all_rows (map (λ v. v.items) c.args.rows.now) in
    c.in_ok-add_controls.ensures ∙ rw (c.in_ok-add_latches.ensures, c.new-list.ensures.items, sym c.no_samples.ensures ∙ c.if-no_samples.false)
    (ap (λ (z : List (List LatchLiteral)). with_new z (control_clauses all c.args.control.now)) (sym (latches_new all (c.args.latches - 1)))
    ∙ two_new [] (flat_map (latch_clauses all) (range_with_len 1 (c.args.latches - 1))) (control_clauses all c.args.control.now))
