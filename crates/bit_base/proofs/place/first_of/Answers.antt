use Rattle.std.proofs.lemmas.Option.{slice_get-get_or}
use Rattle.std.proofs.Common.{sym}
use Rattle.bit_base.proofs.Places.{first_start, first_step, first_end}
use Rattle.bit_base.proofs.place.first_of.Goals as goal

pub loop-place-init : goal.loop-place-init
loop-place-init c = first_start _ 0 _ (sym c.in_ok-found.ensures.value)

pub loop-place-preserved : goal.loop-place-preserved
loop-place-preserved c =
    rw c.earlier-found.ensures (first_step _ _ _ _ (slice_get-get_or _ _ _ c.loop-place-test.true) c.loop-place.invariant)

pub returns-clause-first : goal.returns-clause-first
returns-clause-first c = first_end _ _ _ c.loop-place-test.false c.loop-place.invariant
