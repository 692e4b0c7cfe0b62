use Rattle.cert_text.proofs.ReadLemmas.{end_line_fault}
use Rattle.cert_text.proofs.check.read_end.Goals as goal

pub returns-in-Ok : goal.returns-in-Ok
returns-in-Ok c = λ d p. end_line_fault d p _ _ _ _ c.in-Ok.ensures.took
