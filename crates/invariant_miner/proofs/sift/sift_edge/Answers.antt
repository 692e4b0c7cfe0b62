use Rattle.std.proofs.Common.{◌≡◌, ℕ, List, ap, sym, subst, ◌∙◌}
use Rattle.std.specs.List.{filter}
use Rattle.unroll_cnf.specs.declared.latch_literal.LatchLiteral.{LatchLiteral}
use Rattle.unroll_cnf.specs.Latches.{MeetsAll}
use Rattle.invariant_miner.specs.Lanes.{lane}
use Rattle.invariant_miner.specs.Samples.{inputs_in}
use Rattle.invariant_miner.specs.Sifted.{meets_in}
use Rattle.invariant_miner.proofs.SiftLemmas.{above_edge}
use Rattle.invariant_miner.proofs.sift.sift_edge.Goals as goal

pub returns-clause-above : goal.returns-clause-above
returns-clause-above c = above_edge c.args.circuit.now c.args.clauses.now.items c.keep_met_in.new.clauses.items c.args.row.now c.in_ok-next.next.items c.meeting-good.result (λ r. inputs_in c.args.circuit.now c.args.rng.now r)
    (λ r lt on. subst (λ (set : List (List LatchLiteral)). MeetsAll (lane r c.args.row.now) set) c.as_slice.ensures.value (c.meeting-good.ensures r lt on))
    c.in_ok-next.ensures.lanes
    (c.keep_met_in.ensures ∙ ap (λ (z : List ℕ). filter (meets_in c.meeting-good.result z) c.args.clauses.now.items) c.as_slice-2.ensures.value)
