use Rattle.std.proofs.Common.{◌∙◌}
use Rattle.prove_top.proofs.DrawLemmas.{words_from-more}
use Rattle.prove_top.proofs.draws.drawn_words.Goals as goal

pub loop-turn-preserved : goal.loop-turn-preserved
loop-turn-preserved c =
    rw (c.in_ok-push.ensures.items, c.draw.ensures.word, c.draw.ensures.state)
    (words_from-more _ _ _ _ c.loop-turn-test.true ∙ c.loop-turn.invariant)
