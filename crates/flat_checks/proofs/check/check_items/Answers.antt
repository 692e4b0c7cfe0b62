use Rattle.flat_checks.proofs.Answering.{accepted}
use Rattle.flat_checks.proofs.check.check_items.Goals as goal

pub returns-clause-accepts : goal.returns-clause-accepts
returns-clause-accepts c = accepted c.args.nets.now c.args.items.now c.in_ok-checked.checked c.in_ok-checked.ensures
