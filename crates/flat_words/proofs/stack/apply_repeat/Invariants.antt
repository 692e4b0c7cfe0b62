use Rattle.std.proofs.Common.{◌≡◌, ◌-◌, ◌++◌}
use Rattle.bit_words.specs.Joins.{repeated}
use Rattle.flat_words.proofs.stack.apply_repeat.Given as goal

abbrev pub invariant-loop-time : goal.invariant-loop-time
invariant-loop-time l = l.stack.items ++ repeated (l.count - l._time) l.row.items ≡ l.initial.stack.items ++ repeated l.count l.row.items
