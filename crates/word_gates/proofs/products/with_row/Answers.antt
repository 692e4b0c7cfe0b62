use Rattle.std.proofs.Common.{arith, refl, true}
use Rattle.gate_graph.specs.Gates.{Respects}
use Rattle.gate_graph.proofs.GateLemmas.{respects_old}
use Rattle.word_gates.proofs.WordLemmas.{shows_same}
use Rattle.word_gates.proofs.MoveLemmas.{values_moved, are_of_moved, length_moved}
use Rattle.std.proofs.Common.{List, ap, ◌∙◌}
use Rattle.gate_graph.specs.declared.nodes.Node.{Node}
use Rattle.gate_graph.specs.declared.wires.Wire.{Wire}
use Rattle.word_gates.specs.Graphs.{add_made, row_made}
use Rattle.word_gates.proofs.ExactLemmas.{off_is}
use Rattle.word_gates.proofs.products.with_row.Goals as goal

pub masked-requires-clause-a_of : goal.masked-requires-clause-a_of
masked-requires-clause-a_of c = rw (c.as_slice.ensures.value, c.in_ok-higher.ensures) (are_of_moved true c.args.places _ _ _ c.requires.a_of c.zero-zero.ensures.value.of)

pub masked-requires-clause-room : goal.masked-requires-clause-room
masked-requires-clause-room c = rw (c.as_slice.ensures.value, c.in_ok-higher.ensures, length_moved true c.args.places c.zero-zero.result c.args.a.now) (omega (arith, c.requires.room))

pub returns-clause-value : goal.returns-clause-value
returns-clause-value c = shows_same _ _ _ _ c.in_ok-wires.ensures.value (λ v r.
    let middle : Respects v c.masked.new.graph = respects_old v _ _ _ c.add.ensures.nodes r in
    let before : Respects v c.args.graph.now = respects_old v _ _ _ c.masked.ensures.nodes middle in
    rw (c.as_slice-2.ensures.value, c.in_ok-row.ensures.value.value v middle, c.as_slice.ensures.value, c.in_ok-higher.ensures, values_moved true v c.args.places c.zero-zero.result c.args.a.now, c.zero-zero.ensures.value.value v before) refl)

pub returns-clause-exact : goal.returns-clause-exact
unfolding row_made
returns-clause-exact c =
    let first = rw (c.as_slice.ensures.value, c.in_ok-higher.ensures, off_is c.zero-zero.result c.zero-zero.ensures.wire) at c.in_ok-row.ensures.exact in
    let second = rw c.as_slice-2.ensures.value at c.in_ok-wires.ensures.exact in
    ap (λ (r : List Wire × List Node). add_made r.1 c.args.sum.now r.0) first ∙ second
