use Rattle.std.proofs.Common.{◌≡◌, drop}
use Rattle.rdl_values.specs.Values.{target_in}
use Rattle.rdl_values.proofs.value.target_in.Given as goal

abbrev pub invariant-loop-at : goal.invariant-loop-at
invariant-loop-at l = target_in l.property l.frames (drop l.at l.targets) ≡ target_in l.property l.frames l.targets
