use Rattle.std.proofs.Common.{◌≡◌, drop}
use Rattle.rdl_effects.specs.References.{instance_in}
use Rattle.rdl_effects.proofs.reference.instance_in.Given as goal

abbrev pub invariant-loop-instance : goal.invariant-loop-instance
invariant-loop-instance l = instance_in l.step (drop l.instance-index l.instances) ≡ instance_in l.step l.instances
