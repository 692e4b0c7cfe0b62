use Rattle.bit_base.proofs.Places.{IsFirstAmong}
use Rattle.bit_base.proofs.place.first_of.Given as goal

abbrev pub invariant-loop-place : goal.invariant-loop-place
invariant-loop-place l = IsFirstAmong l.places l.place-index l.found
