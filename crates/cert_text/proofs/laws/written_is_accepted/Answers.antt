use Rattle.cert_text.proofs.WrittenSteps.{written_accepted}
use Rattle.cert_text.proofs.laws.written_is_accepted.Goals as goal

pub returns : goal.returns
returns c = written_accepted
