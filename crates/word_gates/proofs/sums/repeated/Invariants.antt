use Rattle.std.proofs.Common.{◌≡◌, ◌-◌, ◌++◌, replicate}
use Rattle.word_gates.proofs.sums.repeated.Given as goal

abbrev pub invariant-loop-i : goal.invariant-loop-i
invariant-loop-i l = l.wires.items ++ replicate (l.count - l.i) l.wire ≡ replicate l.count l.wire
