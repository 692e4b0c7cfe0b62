use Rattle.extra_gates.proofs.WordLaws.{placed-push, placed-end}
use Rattle.extra_gates.proofs.numbers.places_of.Goals as goal

pub loop-place-preserved : goal.loop-place-preserved
loop-place-preserved c = rw (c.in_ok-push.ensures.items, c.place_of.ensures) (placed-push _ _ _ _ _ _ _ c.loop-place-test.true c.loop-place.invariant)

pub returns : goal.returns
returns c = placed-end _ _ _ _ _ _ _ c.loop-place-test.false c.loop-place.invariant
