use Rattle.std.proofs.Common.{◌≡◌, ◌-◌, ◌++◌}
use Rattle.bit_words.specs.Joins.{repeated}
use Rattle.bit_words.proofs.moves.repeat.Given as goal

abbrev pub invariant-loop-time : goal.invariant-loop-time
invariant-loop-time l = l.places.items ++ repeated (l.count - l._time) l.a ≡ repeated l.count l.a
