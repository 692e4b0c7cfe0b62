use Rattle.std.proofs.Common.{◌≡◌, ◌++◌, replicate}
use Rattle.flat_offences.proofs.owner.push_times.Given as goal

abbrev pub invariant-loop-time : goal.invariant-loop-time
invariant-loop-time l = l.out.items ≡ l.fn.out.items ++ replicate l._time l.number
