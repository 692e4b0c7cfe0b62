use Rattle.std.proofs.Common.{[], sym, ◌∙◌}
use Rattle.cert_text.specs.declared.fault.CertCode.TheVariants as code
use Rattle.cert_text.specs.Reading.{CountDue, ClausesDue}
use Rattle.cert_text.proofs.ReadLemmas.{step_go, step_fault, count_go, count_none}
use Rattle.cert_text.proofs.read.read_count.Goals as goal

pub returns-in-Some : goal.returns-in-Some
returns-in-Some c = λ d k. step_go d (CountDue k) (ClausesDue k [] c.in-Some.count) _ _ _ _ _ c.in_ok-line.ensures.took c.in_ok-line.ensures.next (count_go d k _ c.in-Some.count (sym c.number_after.ensures ∙ c.in-Some.is))

pub returns-in-None : goal.returns-in-None
returns-in-None c = λ d k. rw c.wrong_line.ensures (step_fault d (CountDue k) _ _ _ _ code.CertLine c.in_ok-line.ensures.took (count_none d k _ (sym c.number_after.ensures ∙ c.in-None.is)))
