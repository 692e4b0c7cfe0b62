use Rattle.std.proofs.Common.{map, not, ◌&&◌, ap}
use Rattle.gate_graph.specs.Gates.{Respects, wire_value}
use Rattle.gate_graph.proofs.GateLemmas.{respects_old}
use Rattle.word_gates.proofs.WordLemmas.{shows_same}
use Rattle.extra_gates.proofs.WordLaws.{ends_are}
use Rattle.side_gates.proofs.kinds.forced_word.Goals as goal

pub returns-clause-value : goal.returns-clause-value
returns-clause-value c = shows_same _ _ _ _ c.in_ok-wires.ensures.value (λ v r.
    let before : Respects v c.or.new.graph = respects_old v _ _ _ c.masked.ensures.nodes r in
    rw (c.as_slice-2.ensures.value, c.inverted.ensures.value v, c.in_ok-high.ensures.value.value v before, c.as_slice.ensures.value, c.in_ok-ones.ensures)
    (ap (map (λ x. x && not (wire_value v c.args.clear))) (ends_are v c.args.a.now c.args.set)))
