use Rattle.std.proofs.Common.{◌≡◌, ◌∷◌, take, map}
use Rattle.vlog_const.specs.Sized.{sized_next}
use Rattle.vlog_const.proofs.read.+read.Given as goal

abbrev pub invariant-sized_more-loop-next : goal.invariant-sized_more-loop-next
invariant-sized_more-loop-next l = l.parts ≡ l.fn.first ∷ map (sized_next l.scope) (take l.next-index l.more)
