use Rattle.std.proofs.Common.{◌≡◌}
use Rattle.prove_top.specs.Sampled.{choices_to}
use Rattle.prove_top.proofs.sampled.choices.Given as goal

-- the choices of the edges before this one
abbrev pub invariant-loop-edge : goal.invariant-loop-edge
invariant-loop-edge l = l.choices.items ≡ choices_to l.bits l.edge
