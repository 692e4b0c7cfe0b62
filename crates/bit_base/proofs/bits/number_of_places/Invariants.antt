use Rattle.std.proofs.Common.{◌≡◌, drop}
use Rattle.bit_base.specs.Numbers.{number_of}
use Rattle.bit_base.proofs.bits.number_of_places.Given as goal

abbrev pub invariant-loop-i : goal.invariant-loop-i
invariant-loop-i l = l.number ≡ number_of (drop l.i l.places)
