use Rattle.std.proofs.Common.{length}
use Rattle.prove_top.proofs.words.+options_of.Given as goal

-- the options go by pairs of words
abbrev pub decreases-options_of : goal.decreases-options_of
decreases-options_of l = length l.words.now
