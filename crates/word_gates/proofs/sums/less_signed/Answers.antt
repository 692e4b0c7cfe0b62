use Rattle.std.proofs.Common.{ap, ◌∷◌, []}
use Rattle.gate_graph.specs.Gates.{Respects}
use Rattle.gate_graph.proofs.GateLemmas.{respects_old}
use Rattle.word_gates.specs.Words.{values}
use Rattle.word_gates.proofs.WordLemmas.{shows_same, same_length, length-values}
use Rattle.word_gates.proofs.SumLaws.{less_by_signs}
use Rattle.word_gates.specs.Graphs.{less_signed_made}
use Rattle.word_gates.proofs.sums.less_signed.Goals as goal

pub returns-clause-value : goal.returns-clause-value
returns-clause-value c = shows_same _ _ _ _ c.in_ok-wires.ensures.value (λ v r.
    let before : Respects v c.args.graph.now = respects_old v _ _ _ c.less.ensures.nodes r in
    rw (c.as_slice.ensures.value, c.as_slice-2.ensures.value, (c.in_ok-left.ensures.value c.args.graph.now c.requires.a_of).value v before, (c.in_ok-right.ensures.value c.args.graph.now c.requires.b_of).value v before)
    (ap (λ x. x ∷ []) (less_by_signs (values v c.args.a.now) (values v c.args.b.now) (rw (length-values v c.args.a.now) c.requires.some) (same_length v c.args.a.now c.args.b.now c.requires.lengths))))

pub returns-clause-exact : goal.returns-clause-exact
unfolding less_signed_made
returns-clause-exact c = rw (c.as_slice.ensures.value, c.as_slice-2.ensures.value, c.in_ok-left.ensures.exact, c.in_ok-right.ensures.exact) at c.in_ok-wires.ensures.exact
