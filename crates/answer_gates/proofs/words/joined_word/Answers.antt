use Rattle.std.proofs.Common.{◌≡◌, false, length, ap, sym, ◌∙◌, refl}
use Rattle.bit_base.specs.Operators.{or_of}
use Rattle.gate_graph.specs.Gates.{wire_value}
use Rattle.gate_graph.proofs.GateLemmas.{means_zero}
use Rattle.word_gates.specs.Graphs.{off}
use Rattle.word_gates.specs.Words.{values}
use Rattle.word_gates.proofs.WordLemmas.{shows_same, length-values}
use Rattle.answer_gates.specs.Answers.{placed}
use Rattle.answer_gates.proofs.AnswerLemmas.{placed_values}
use Rattle.answer_gates.proofs.words.joined_word.Goals as goal

pub returns-clause-value : goal.returns-clause-value
returns-clause-value c = shows_same _ _ _ _ c.in_ok-wires.ensures.value (λ v r.
    let z : wire_value v off ≡ false = (means_zero _ off (c.or.ensures.nodes.kept 0 _ c.size-size.ensures.graph.low.first) refl).value v r in
    ap (or_of (values v c.args.word.now))
    (ap (values v) (c.as_slice.ensures.value ∙ c.in_ok-other.ensures)
    ∙ (placed_values v c.args.low (length c.args.word.now) c.args.wires.now z ∙ ap (λ k. placed false c.args.low k (values v c.args.wires.now)) (sym (length-values v c.args.word.now)))))
