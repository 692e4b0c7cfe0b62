use Rattle.std.proofs.Common.{◌≡◌, map, take}
use Rattle.latch_order.specs.declared.latches.StateGates.{StateGates}
use Rattle.machine_gates.proofs.build.known_wires.Given as goal

abbrev pub invariant-loop-n : goal.invariant-loop-n
invariant-loop-n l = l.wires.items ≡ map (λ (s : StateGates). s.known) (take l.n l.states)
