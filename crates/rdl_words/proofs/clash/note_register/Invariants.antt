use Rattle.std.proofs.Common.{◌≡◌, ◌++◌, map}
use Rattle.rdl_words.specs.Words.{spot, spots_below}
use Rattle.rdl_words.proofs.clash.note_register.Given as goal

abbrev pub invariant-loop-number : goal.invariant-loop-number
invariant-loop-number l = map spot l.out.items ≡ map spot l.fn.out.items ++ spots_below l.register l.number
