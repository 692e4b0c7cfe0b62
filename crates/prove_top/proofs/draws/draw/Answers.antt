use Rattle.std.proofs.Common.{ap}
use Rattle.prove_top.specs.Draws.{word, next_state}
use Rattle.prove_top.proofs.draws.draw.Goals as goal

pub returns : goal.returns
unfolding word next_state
returns c = record { word = ap (λ p. p.0) c.next_word.ensures; state = ap (λ p. p.1) c.next_word.ensures }
