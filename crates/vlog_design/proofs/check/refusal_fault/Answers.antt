use Rattle.std.proofs.Common.{subst}
use Rattle.flat_checks.specs.Checks.{IsRefusal}
use Rattle.vlog_design.proofs.Faults.{cycle_is_due, if_ok}
use Rattle.vlog_design.proofs.check.refusal_fault.Goals as goal

pub returns-in-Cycle : goal.returns-in-Cycle
returns-in-Cycle c = if_ok c.cycle_fault.result (λ f e. cycle_is_due c.args.nets.now c.args.items.now c.in-Cycle.cycle f c.requires.clocks (subst (IsRefusal c.args.nets.now c.args.items.now) c.in-Cycle.is c.requires.refused) e) c.cycle_fault.ensures
