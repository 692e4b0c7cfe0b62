use Rattle.std.proofs.Common.{refl}
use Rattle.reg_machine.specs.Steps.{becomes_known}
use Rattle.reg_machine.proofs.Shows.{flip}
use Rattle.reg_machine.proofs.turn.becomes_known.Goals as goal

pub returns : goal.returns
unfolding becomes_known
returns c = rw (
  flip _ _ c.is_none.ensures,
  ← c.requires.turn.by_software,
  ← c.requires.turn.by_hardware,
  ← c.requires.turn.written,
  ← c.requires.turn.software,
  ← c.requires.turn.hardware,
  ← c.is_covered.ensures c.args.values.now c.args.hw.now,
  ← c.is_whole.ensures,
  ← c.is_taken-taken.ensures,
  ← c.is_given-set.ensures,
  ← c.is_given-clear.ensures,
) refl
