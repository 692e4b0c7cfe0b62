use Rattle.std.proofs.Common.{◌≡◌, ◌++◌, drop}
use Rattle.flat_clocks.specs.Least.{numbers_of}
use Rattle.flat_clocks.proofs.reading.numbers_of.Given as goal

abbrev pub invariant-loop-bit : goal.invariant-loop-bit
invariant-loop-bit l = l.numbers.items ++ numbers_of l.table (drop l.bit-index l.bits) ≡ numbers_of l.table l.bits
