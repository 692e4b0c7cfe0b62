use Rattle.std.proofs.Common.{[], ◌∷◌, Err, length, ap, sym, ◌∙◌, length-append, arith}
use Rattle.cert_text.proofs.ReadLemmas.{chain_step, chain_bad, close_reads}
use Rattle.cert_text.proofs.read.read_chains.Goals as goal

pub returns-in_default-clause-reads : goal.returns-in_default-clause-reads
returns-in_default-clause-reads c = λ d k set done e due.
    close_reads d k set done c.loop-lemmas.lemmas _ _ _ _ _ _ _ _ c.close_query.result (c.loop-lemmas.invariant.same ∙ e) c.loop-lemmas.lemmas.derived due
    (sym (rw c.in_default.is at c.in_ok-chain.ensures)) c.in_ok-line.ensures.took c.in_ok-line.ensures.next (c.loop-lemmas.invariant.leads d k set done e) c.close_query.ensures.ok c.close_query.ensures.err

pub loop-lemmas-preserved : goal.loop-lemmas-preserved
loop-lemmas-preserved c =
    let has = c.in-Ok.ensures.added in
    record {
      same = c.in-Ok.ensures.clauses ∙ c.loop-lemmas.invariant.same;
      leads = λ d k set done e.
          chain_step d k set done c.loop-lemmas.lemmas.formula.clauses c.loop-lemmas.lemmas.added has.clause c.loop-lemmas.lemmas.chains.items c.try_chain.new.self.chains.items c.in-Some.chain _ _ _ _ _ _ _
          (c.loop-lemmas.invariant.same ∙ e) c.loop-lemmas.lemmas.derived has.result has.chains (sym (rw c.in-Some.is at c.in_ok-chain.ensures)) c.in_ok-line.ensures.took c.in_ok-line.ensures.next (c.loop-lemmas.invariant.leads d k set done e);
      small = omega (arith, ap length has.added, length-append c.loop-lemmas.lemmas.added (has.clause ∷ []), c.in_ok-line.ensures.took.long, c.loop-lemmas.invariant.small);
    }

pub returns-in-Err-BadStep-clause-reads : goal.returns-in-Err-BadStep-clause-reads
returns-in-Err-BadStep-clause-reads c = λ d k set done e due.
    chain_bad d k set done c.loop-lemmas.lemmas.formula.clauses c.loop-lemmas.lemmas.added c.loop-lemmas.lemmas.chains.items c.in-Some.chain _ _ _ _ _ _
    (c.loop-lemmas.invariant.same ∙ e) c.loop-lemmas.lemmas.derived (c.in-Err-BadStep.ensures.bad (ap Err c.in-Err-BadStep.field-0-is)) (sym (rw c.in-Some.is at c.in_ok-chain.ensures)) c.in_ok-line.ensures.took (c.loop-lemmas.invariant.leads d k set done e)
