use Rattle.std.proofs.Common.{refl, ◌==◌}
use Rattle.word_gates.proofs.WordLemmas.{shows_same}
use Rattle.word_gates.proofs.MoveLemmas.{values_moved}
use Rattle.word_gates.proofs.moves.stage.Goals as goal

pub returns-clause-value : goal.returns-clause-value
returns-clause-value g c = shows_same _ _ _ _ c.in_ok-wires.ensures.value (λ v r.
    rw (c.as_slice.ensures.value, c.in_ok-far.ensures, values_moved (g.row.DIRECTION == 0) v c.args.places c.args.fill c.args.a.now) refl)
