use Rattle.std.proofs.Common.{sym, ◌∙◌}
use Rattle.cert_text.specs.declared.fault.CertCode.TheVariants as code
use Rattle.cert_text.specs.Reading.{BoundDue, CountDue}
use Rattle.cert_text.proofs.ReadLemmas.{step_go, step_fault, bound_go, bound_other, bound_none, bound_within, bound_past}
use Rattle.cert_text.proofs.read.read_bound.Goals as goal

pub returns-then-k-le-MOST_EDGES-clause-reads : goal.returns-then-k-le-MOST_EDGES-clause-reads
returns-then-k-le-MOST_EDGES-clause-reads c = λ d. step_go d BoundDue (CountDue c.in-Some.k) _ _ _ _ _ c.in_ok-line.ensures.took c.in_ok-line.ensures.next (bound_go d _ c.in-Some.k (sym c.number_after.ensures ∙ c.in-Some.is) (bound_within c.in-Some.k c.if-k-gt0.true c.if-k-le-MOST_EDGES.true))

pub returns-else-k-gt0-clause-reads : goal.returns-else-k-gt0-clause-reads
returns-else-k-gt0-clause-reads c = λ d. rw c.wrong_line.ensures (step_fault d BoundDue _ _ _ _ code.CertLine c.in_ok-line.ensures.took (bound_other d _ c.in-Some.k (sym c.number_after.ensures ∙ c.in-Some.is) (bound_past c.in-Some.k c.else-k-gt0.either)))

pub returns-in-None-clause-reads : goal.returns-in-None-clause-reads
returns-in-None-clause-reads c = λ d. rw c.wrong_line-in-None.ensures (step_fault d BoundDue _ _ _ _ code.CertLine c.in_ok-line.ensures.took (bound_none d _ (sym c.number_after.ensures ∙ c.in-None.is)))
