use Rattle.std.proofs.Common.{arith}
use Rattle.bit_base.proofs.Numbers.{number_of-whole_below, more-fits}
use Rattle.bit_base.proofs.bits.number_of_places.Goals as goal

pub overflow_mul-number : goal.overflow_mul-number
overflow_mul-number c =
    omega (arith, more-fits c.loop-i.i c.args.places.now c.loop-i.number c.loop-i-test.true c.loop-i.auto.i c.requires c.loop-i.invariant)

pub overflow_add-number : goal.overflow_add-number
overflow_add-number c =
    omega (arith, c.bit.ensures, more-fits c.loop-i.i c.args.places.now c.loop-i.number c.loop-i-test.true c.loop-i.auto.i c.requires c.loop-i.invariant)

pub returns-clause-below : goal.returns-clause-below
returns-clause-below c = number_of-whole_below c.loop-i.i c.args.places.now c.loop-i.number c.loop-i-test.false c.loop-i.invariant
