use Rattle.std.proofs.Common.{◌≡◌, ◌++◌, map, drop}
use Rattle.rdl_words.specs.Words.{spot, spots_of}
use Rattle.rdl_words.proofs.clash.words_of.Given as goal

abbrev pub invariant-loop-register : goal.invariant-loop-register
invariant-loop-register l = map spot l.out.items ++ spots_of (drop l.register-index l.registers) ≡ spots_of l.registers
