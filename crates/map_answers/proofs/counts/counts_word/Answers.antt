use Rattle.std.proofs.Common.{not, map, ap, ◌∙◌, refl}
use Rattle.word_gates.specs.Words.{values}
use Rattle.word_gates.proofs.WordLemmas.{shows_same}
use Rattle.map_answers.specs.Answers.{known_at}
use Rattle.map_answers.proofs.AnswerLemmas.{counts_are}
use Rattle.map_answers.proofs.counts.counts_word.Goals as goal

pub returns-clause-counts : goal.returns-clause-counts
returns-clause-counts c = λ e event payload views hw p.
    let hidden = c.in_ok-hidden.ensures.hidden e event payload views hw p in
    shows_same _ _ _ _ (c.in_ok-wires.ensures.value _ (rw c.as_slice.ensures.value hidden.of)) (λ v r.
    ap (λ ws. map not (values v ws)) c.as_slice.ensures.value ∙ (ap (map not) (hidden.value v r) ∙ counts_are (e v) c.args.map.now.fields.items (known_at v c.args.states.now) c.args.map.now.bus_width (p.views_are.fields_are v)))
