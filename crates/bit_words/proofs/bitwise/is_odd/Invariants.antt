use Rattle.std.proofs.Common.{◌≡◌, drop}
use Rattle.bit_base.specs.Operators.{differ, is_odd}
use Rattle.bit_words.proofs.bitwise.is_odd.Given as goal

abbrev pub invariant-loop-x : goal.invariant-loop-x
invariant-loop-x l = differ l.odd (is_odd (drop l.x-index l.a)) ≡ is_odd l.a
