use Rattle.std.proofs.Common.{◌≡◌, ◌++◌, drop, map}
use Rattle.rdl_fields.specs.Paths.{dotted, next_step}
use Rattle.rdl_fields.proofs.path.push_next.Given as goal

abbrev pub invariant-loop-next : goal.invariant-loop-next
invariant-loop-next l = l.out.items ++ dotted (map next_step (drop l.next-index l.more)) ≡ l.fn.out.items ++ dotted (map next_step l.more)
