use Rattle.std.proofs.Common.{◌≡◌, ◌++◌, ◌-◌}
use Rattle.prove_top.specs.Draws.{seeded, words_from}
use Rattle.prove_top.proofs.draws.drawn_words.Given as goal

-- the words so far, and then those still to come
abbrev pub invariant-loop-turn : goal.invariant-loop-turn
invariant-loop-turn l = l.words.items ++ words_from (l.count - l._turn) l.rng ≡ words_from l.count (seeded l.seed)
