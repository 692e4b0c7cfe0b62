use Rattle.std.proofs.Common.{arith, rules}
use Rattle.flat_raw.proofs.Seen.{end_seen}
use Rattle.flat_raw.proofs.path.have_own_paths.Goals as goal

pub returns : goal.returns
returns c = (λ h. end_seen c.loop-number.paths c.args.nets.now c.loop-number.number (omega arith) c.loop-number.invariant, λ h. search rules)
