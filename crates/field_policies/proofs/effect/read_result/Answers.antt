use Rattle.field_policies.proofs.BitLemmas.{no_bits, full_bits}
use Rattle.field_policies.proofs.effect.read_result.Goals as goal

pub returns-in-Clear : goal.returns-in-Clear
returns-in-Clear c = rw c.in-Clear.is (no_bits c.args.width)

pub returns-in-Set : goal.returns-in-Set
returns-in-Set c = rw (c.in-Set.is, c.ones-full.ensures) (full_bits c.args.width)
