use Rattle.std.proofs.Common.{◌∷◌, map}
use Rattle.std.proofs.lemmas.Result.{err_from_is_err_and}
use Rattle.lemma_checker.specs.Checker.{link}
use Rattle.k_induction.proofs.VerdictLemmas.{bases_more, counted_more, refuted_by}
use Rattle.cert_text.proofs.ReadLemmas.{fault_after, base_query_is, base_due_is, base_step}
use Rattle.cert_text.proofs.check.read_bases.Goals as goal

pub returns-in_err-chains-clause-reads : goal.returns-in_err-chains-clause-reads
returns-in_err-chains-clause-reads c =
    let p = err_from_is_err_and c.from_residual-in_err-chains.result c.from_residual-in_err-chains.ensures.1 in
    rw (p.1, p.2) (λ set keep. fault_after _ _ _ _ _ _ _ _ (c.loop-i.invariant.leads set keep)
    (c.in_err-chains.ensures.reads c.args.circuit.now c.args.k set (keep ∷ map (λ b. map link b.items) c.loop-i.bases.items)
    (base_query_is (λ b. map link b.items) c.args.circuit.now c.args.k c.loop-i.i set keep c.loop-i.bases.items _ c.loop-i.invariant.counted c.loop-i-test.true c.in_ok-query.ensures.query)
    (base_due_is (λ b. map link b.items) c.args.k c.loop-i.i keep c.loop-i.bases.items _ _ c.loop-i.invariant.counted c.as_slice.ensures.value c.in_ok-due.ensures)))

pub loop-i-preserved : goal.loop-i-preserved
loop-i-preserved c = record {
  leads = λ set keep. base_step (λ b. map link b.items) c.args.circuit.now _ c.args.k c.loop-i.i set keep c.loop-i.bases.items c.push.new.self.items c.in_ok-chains.chains _ _ _ _ _ _ c.in_ok-push.ensures.items c.loop-i.invariant.counted c.loop-i-test.true (c.loop-i.invariant.leads set keep)
      (c.in_ok-chains.ensures.reads c.args.circuit.now c.args.k set (keep ∷ map (λ b. map link b.items) c.loop-i.bases.items)
      (base_query_is (λ b. map link b.items) c.args.circuit.now c.args.k c.loop-i.i set keep c.loop-i.bases.items _ c.loop-i.invariant.counted c.loop-i-test.true c.in_ok-query.ensures.query)
      (base_due_is (λ b. map link b.items) c.args.k c.loop-i.i keep c.loop-i.bases.items _ _ c.loop-i.invariant.counted c.as_slice.ensures.value c.in_ok-due.ensures));
  counted = counted_more c.loop-i.i c.loop-i.bases.items c.push.new.self.items c.in_ok-chains.chains c.in_ok-push.ensures.items c.loop-i.invariant.counted;
  refute = bases_more (λ b. b.items) c.args.circuit.now c.loop-i.i c.loop-i.bases.items c.push.new.self.items c.in_ok-chains.chains c.in_ok-push.ensures.items c.loop-i.invariant.refute c.loop-i.invariant.counted (refuted_by _ _ _ c.in_ok-query.ensures.query c.in_ok-chains.ensures.refute);
}
