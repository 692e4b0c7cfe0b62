use Rattle.std.proofs.Common.{arith, ◌≡◌, ◌==◌, length, take, min, ap, ◌∙◌}
use Rattle.gate_graph.specs.Gates.{Respects, wire_value}
use Rattle.gate_graph.proofs.GateLemmas.{respects_old}
use Rattle.word_gates.specs.Words.{values}
use Rattle.word_gates.proofs.WordLemmas.{shows_same, length-values, extends_sum, extends_at}
use Rattle.word_gates.proofs.MovingLaws.{shift_by_near, shift_bound}
use Rattle.std.specs.List.{take-map}
use Rattle.std.proofs.lemmas.List.{length-take, length-drop, drop-map, take_rest}
use Rattle.word_gates.proofs.ExactLemmas.{off_is, shifted_by}
use Rattle.word_gates.proofs.shifts.shift.Goals as goal

pub returns-in_err-wires-clause-nodes : goal.returns-in_err-wires-clause-nodes
returns-in_err-wires-clause-nodes g c =
    let near : c.min-near.result ≡ min (length c.args.b.now) 11 = c.min-near.ensures in
    let stages : length (take c.min-near.result c.args.b.now) ≡ c.min-near.result = rw length-take (omega arith) in
    extends_at _ _ _ _ (extends_sum _ _ _ _ _ (extends_sum _ _ _ _ _ c.any_wire.ensures.nodes c.masked.ensures.nodes) c.barrel.ensures.nodes)
    (shift_bound (length c.args.a.now) (length c.args.b.now) c.min-near.result _ _ _ near (ap length (take_rest c.args.b.now c.min-near.result) ∙ length-drop c.min-near.result c.args.b.now) stages (ap length c.as_slice.ensures.value ∙ c.in_ok-kept.ensures.length))

pub returns-clause-nodes : goal.returns-clause-nodes
returns-clause-nodes g c =
    let near : c.min-near.result ≡ min (length c.args.b.now) 11 = c.min-near.ensures in
    let stages : length (take c.min-near.result c.args.b.now) ≡ c.min-near.result = rw length-take (omega arith) in
    extends_at _ _ _ _ (extends_sum _ _ _ _ _ (extends_sum _ _ _ _ _ c.any_wire.ensures.nodes c.masked.ensures.nodes) c.barrel.ensures.nodes)
    (shift_bound (length c.args.a.now) (length c.args.b.now) c.min-near.result _ _ _ near (ap length (take_rest c.args.b.now c.min-near.result) ∙ length-drop c.min-near.result c.args.b.now) stages (ap length c.as_slice.ensures.value ∙ c.in_ok-kept.ensures.length))

pub returns-clause-value : goal.returns-clause-value
returns-clause-value g c = shows_same _ _ _ _ c.in_ok-wires.ensures.value (λ v r.
    let third : Respects v c.masked.new.graph = respects_old v _ _ _ c.barrel.ensures.nodes r in
    let second : Respects v c.any_wire.new.graph = respects_old v _ _ _ c.masked.ensures.nodes third in
    let near : c.min-near.result ≡ min (length (values v c.args.b.now)) 11 = rw (length-values v c.args.b.now) c.min-near.ensures in
    rw (
      c.as_slice.ensures.value,
      c.zero-zero.ensures.value.value v third,
      c.in_ok-kept.ensures.value.value v third,
      c.inverted.ensures.value v,
      c.in_ok-far.ensures.wire.value v second,
      take_rest c.args.b.now c.min-near.result,
      ← take-map (wire_value v) c.min-near.result c.args.b.now,
      ← drop-map (wire_value v) c.min-near.result c.args.b.now,
    )
    (shift_by_near (g.row.DIRECTION == 0) c.min-near.result (values v c.args.a.now) (values v c.args.b.now) near (rw (length-values v c.args.a.now) c.requires.places)))

pub returns-clause-exact : goal.returns-clause-exact
returns-clause-exact g c =
    shifted_by (g.row.DIRECTION == 0) _ c.any_wire.new.graph c.masked.new.graph _ c.args.a.now c.args.b.now c.in_ok-kept.kept.items _ c.in_ok-far.far c.min-near.result c.min-near.ensures
    (rw (take_rest c.args.b.now c.min-near.result) at c.in_ok-far.ensures.exact)
    (rw c.inverted.ensures.exact at c.in_ok-kept.ensures.exact)
    (rw (c.as_slice.ensures.value, off_is c.zero-zero.result c.zero-zero.ensures.wire) at c.in_ok-wires.ensures.exact)
