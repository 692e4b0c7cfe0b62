use Rattle.prove_top.proofs.VerilogLemmas.{drivers_sound, drivers_complete}
use Rattle.prove_top.proofs.laws.reads_what_is_spelled.Goals as goal

pub returns : goal.returns
returns c = λ bytes drivers. (drivers_sound bytes drivers, drivers_complete bytes drivers)
