use Rattle.std.proofs.Common.{◌≡◌, true, drop}
use Rattle.rdl_tree.specs.Spelling.{ends_in_digit}
use Rattle.rdl_tree.proofs.numbers.ends_in_digit.Given as goal

abbrev pub invariant-loop-byte : goal.invariant-loop-byte
invariant-loop-byte l = ends_in_digit l.base l.ended (drop l.byte-index l.bytes) ≡ ends_in_digit l.base true l.bytes
