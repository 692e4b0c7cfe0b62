use Rattle.std.proofs.Common.{◌+◌, map, arith}
use Rattle.lemma_checker.specs.Chains.{ReachesEmpty}
use Rattle.lemma_checker.specs.Checker.{link}
use Rattle.unroll_cnf.specs.Queries.{base_clauses}
use Rattle.k_induction.specs.Safety.{IsGoodFor}
use Rattle.k_induction.proofs.VerdictLemmas.{bases_more, good_one_more, counted_more, counted_items, proof_by, loose_by, step_spent_by}
use Rattle.k_induction.proofs.search.search.Goals as goal
use Rattle.k_induction.proofs.search.search.Goals.{in-Holds-2+else-k-bound, in-Spent-2+else-k-bound-2}

pub returns-in-Refuted-2 : goal.returns-in-Refuted-2
returns-in-Refuted-2 c =
    let refutes : ReachesEmpty (base_clauses c.args.circuit.now (c.loop-i.i + 1)) (map link c.in-Refuted.chains.items) = rw c.in-Refuted.is at c.in_ok-chains.ensures in
    proof_by c.args.circuit.now c.args.set.now c.args.bound c.loop-i.i _ c.in-Refuted-2.step.items c.loop-i-test.true
    (counted_items (λ x. x.items) (c.loop-i.i + 1) c.push.new.self.items (counted_more c.loop-i.i c.loop-i.bases.items c.push.new.self.items c.in-Refuted.chains c.in_ok-push-in-Refuted.ensures.items c.loop-i.invariant.counted))
    (bases_more (λ x. x.items) c.args.circuit.now c.loop-i.i c.loop-i.bases.items c.push.new.self.items c.in-Refuted.chains c.in_ok-push-in-Refuted.ensures.items c.loop-i.invariant.bases c.loop-i.invariant.counted refutes)
    (rw c.in-Refuted-2.is at c.in_ok-step.ensures)

pub returns-then-k-bound : goal.returns-then-k-bound
returns-then-k-bound c =
    let refutes : ReachesEmpty (base_clauses c.args.circuit.now (c.loop-i.i + 1)) (map link c.in-Refuted.chains.items) = rw c.in-Refuted.is at c.in_ok-chains.ensures in
    let good : IsGoodFor c.args.circuit.now (c.loop-i.i + 1) = good_one_more c.args.circuit.now c.loop-i.i c.in-Refuted.chains.items c.loop-i.invariant.good refutes in
    loose_by c.args.circuit.now c.args.set.now c.args.bound (c.loop-i.i + 1) c.in-Holds-2.loose good c.if-k-bound.true (rw c.in-Holds-2.is at c.in_ok-step.ensures)

pub returns-then-k-bound-2 : goal.returns-then-k-bound-2
returns-then-k-bound-2 c =
    let refutes : ReachesEmpty (base_clauses c.args.circuit.now (c.loop-i.i + 1)) (map link c.in-Refuted.chains.items) = rw c.in-Refuted.is at c.in_ok-chains.ensures in
    let good : IsGoodFor c.args.circuit.now (c.loop-i.i + 1) = good_one_more c.args.circuit.now c.loop-i.i c.in-Refuted.chains.items c.loop-i.invariant.good refutes in
    step_spent_by c.args.circuit.now c.args.set.now c.args.bound c.args.budget (c.loop-i.i + 1) c.in-Spent-2.lemmas good c.if-k-bound-2.true (rw c.in-Spent-2.is at c.in_ok-step.ensures)

pub loop-i-preserved : goal.loop-i-preserved
loop-i-preserved c =
    let refutes : ReachesEmpty (base_clauses c.args.circuit.now (c.loop-i.i + 1)) (map link c.in-Refuted.chains.items) = rw c.in-Refuted.is at c.in_ok-chains.ensures in
    record {
      good = good_one_more c.args.circuit.now c.loop-i.i c.in-Refuted.chains.items c.loop-i.invariant.good refutes;
      bases = bases_more (λ x. x.items) c.args.circuit.now c.loop-i.i c.loop-i.bases.items c.push.new.self.items c.in-Refuted.chains c.in_ok-push-in-Refuted.ensures.items c.loop-i.invariant.bases c.loop-i.invariant.counted refutes;
      counted = counted_more c.loop-i.i c.loop-i.bases.items c.push.new.self.items c.in-Refuted.chains c.in_ok-push-in-Refuted.ensures.items c.loop-i.invariant.counted;
      more = elim c.match-branch-5.branch [ in-Holds-2+else-k-bound w ↦ omega (arith, c.loop-i-test.true, w.if-k-bound.false) | in-Spent-2+else-k-bound-2 w ↦ omega (arith, c.loop-i-test.true, w.if-k-bound-2.false) ];
    }
