use Rattle.std.proofs.Common.{◌≡◌, ◌++◌, drop}
use Rattle.rdl_effects.specs.Bodies.{misreferred}
use Rattle.rdl_effects.proofs.effect.note_misreferred.Given as goal

abbrev pub invariant-loop-target : goal.invariant-loop-target
invariant-loop-target l = l.out.items ++ misreferred l.trail l.component (drop l.target-index l.targets) ≡ l.fn.out.items ++ misreferred l.trail l.component l.targets
