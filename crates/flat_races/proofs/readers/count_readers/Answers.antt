use Rattle.std.proofs.Common.{◌≡◌, length, subst, arith}
use Rattle.flat_races.specs.Readers.{AreReaders}
use Rattle.flat_races.proofs.readers.count_readers.Goals as goal

pub returns : goal.returns
returns c = let e : c.loop-number.number ≡ length c.args.items.now = omega arith in subst (λ k. AreReaders c.args.nets.now c.args.items.now k c.loop-number.table.items) e c.loop-number.invariant
