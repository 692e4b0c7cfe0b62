use Rattle.std.proofs.Common.{◌≡◌, take}
use Rattle.flat_sets.specs.Sets.{cleared}
use Rattle.flat_sets.proofs.clear_members.Given as goal

abbrev pub invariant-loop-i : goal.invariant-loop-i
invariant-loop-i l = cleared (take l.i l.members) l.table.items ≡ cleared l.fn.members l.fn.table.items
