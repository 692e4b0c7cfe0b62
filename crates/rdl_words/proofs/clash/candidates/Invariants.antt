use Rattle.std.proofs.Common.{◌≡◌, ◌++◌, ◌-◌, map, drop}
use Rattle.rdl_words.specs.Words.{spot, candidates}
use Rattle.rdl_words.proofs.clash.candidates.Given as goal

abbrev pub invariant-loop-at : goal.invariant-loop-at
invariant-loop-at l = l.out.items ++ candidates (map spot (drop (l.at - 1) l.words)) ≡ candidates (map spot l.words)
