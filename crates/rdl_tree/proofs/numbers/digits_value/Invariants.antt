use Rattle.std.proofs.Common.{◌≡◌, ◌<◌, ◌^◌, drop}
use Rattle.std.specs.Prelude.{fold}
use Rattle.rdl_tree.specs.Spelling.{with_digit}
use Rattle.rdl_tree.proofs.numbers.digits_value.Given as goal

abbrev pub invariant-loop-byte : goal.invariant-loop-byte
invariant-loop-byte l = record {
  small : l.value < 2 ^ 64;
  same : fold (with_digit l.base) l.value (drop l.byte-index l.digits) ≡ fold (with_digit l.base) 0 l.digits;
}
