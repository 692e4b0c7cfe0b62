use Rattle.std.proofs.Common.{◌≡◌, ◌∙◌, ap, sym, subst, ℕ, map, length, arith}
use Rattle.std.proofs.lemmas.List.{length-map}
use Rattle.gate_graph.proofs.GraphLemmas.{latches_within}
use Rattle.invariant_miner.specs.Samples.{in_all_rows, in_all_samples}
use Rattle.invariant_miner.specs.Candidates.{candidates_by}
use Rattle.invariant_miner.specs.Thinned.{IsAskable}
use Rattle.invariant_miner.proofs.AskableLemmas.{candidates_askable}
use Rattle.invariant_miner.proofs.RowLemmas.{rows_are_samples}
use Rattle.invariant_miner.proofs.candidates.candidates.Goals as goal

pub overflow_cast-latches : goal.overflow_cast-latches
overflow_cast-latches c = omega (arith, c.len-latches.ensures, latches_within c.args.circuit.now.graph, c.args.circuit.now.latched, c.args.circuit.now.few)

pub returns-clause-list : goal.returns-clause-list
returns-clause-list c =
    let same : in_all_rows (map (λ v. v.items) c.in_ok-rows.rows.items) ≡ in_all_samples c.args.circuit.now c.args.seed =
    rows_are_samples c.args.circuit.now c.args.seed (map (λ v. v.items) c.in_ok-rows.rows.items) c.in_ok-rows.ensures.rows (length-map c.in_ok-rows.rows.items (λ v. v.items) ∙ c.in_ok-rows.ensures.count) in
    let count : c.len-latches.result ≡ length c.args.circuit.now.latches.items = omega (arith, c.len-latches.ensures) in
    c.in_ok-list.ensures ∙ rw (c.as_slice.ensures.value, c.as_slice-2.ensures.value, same) (ap (λ (n : ℕ). candidates_by (in_all_samples c.args.circuit.now c.args.seed) n c.args.circuit.now.control.items) count)

pub returns-clause-askable : goal.returns-clause-askable
returns-clause-askable c = subst (IsAskable c.args.circuit.now) (sym (returns-clause-list c)) (candidates_askable c.args.circuit.now c.args.seed)
