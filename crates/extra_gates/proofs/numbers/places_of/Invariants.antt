use Rattle.std.proofs.Common.{◌≡◌, ◌-◌, ◌++◌}
use Rattle.extra_gates.specs.Graphs.{placed}
use Rattle.extra_gates.proofs.numbers.places_of.Given as goal

abbrev pub invariant-loop-place : goal.invariant-loop-place
invariant-loop-place l = l.wires.items ++ placed (l.width - l._place) l.left l.one l.none ≡ placed l.width l.number l.one l.none
