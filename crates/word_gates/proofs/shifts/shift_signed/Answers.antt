use Rattle.std.proofs.Common.{arith, ◌≡◌, ◌-◌, ◌<◌, length, take, min, ap, ◌∙◌}
use Rattle.gate_graph.specs.Gates.{Respects, wire_value}
use Rattle.gate_graph.proofs.GateLemmas.{respects_old}
use Rattle.word_gates.specs.Words.{values}
use Rattle.word_gates.proofs.WordLemmas.{shows_same, length-values, extends_sum, extends_at}
use Rattle.word_gates.proofs.MovingLaws.{shift_by_forced, forced_bound}
use Rattle.std.specs.List.{take-map}
use Rattle.std.proofs.lemmas.List.{length-take, length-drop, drop-map, take_rest}
use Rattle.word_gates.proofs.RippleLemmas.{values_at}
use Rattle.word_gates.proofs.ExactLemmas.{forced_by}
use Rattle.word_gates.proofs.shifts.shift_signed.Goals as goal

pub returns-in_err-wires-clause-nodes : goal.returns-in_err-wires-clause-nodes
returns-in_err-wires-clause-nodes c =
    let near : c.min-near.result ≡ min (length c.args.b.now) 11 = c.min-near.ensures in
    let stages : length (take c.min-near.result c.args.b.now) ≡ c.min-near.result = rw length-take (omega arith) in
    extends_at _ _ _ _ (extends_sum _ _ _ _ _ (extends_sum _ _ _ _ _ c.any_wire.ensures.nodes c.forced.ensures.nodes) c.barrel.ensures.nodes)
    (forced_bound (length c.args.a.now) (length c.args.b.now) c.min-near.result _ _ _ near (ap length (take_rest c.args.b.now c.min-near.result) ∙ length-drop c.min-near.result c.args.b.now) stages (ap length c.as_slice.ensures.value ∙ (c.in_ok-amount.ensures.length ∙ stages)))

pub returns-clause-nodes : goal.returns-clause-nodes
returns-clause-nodes c =
    let near : c.min-near.result ≡ min (length c.args.b.now) 11 = c.min-near.ensures in
    let stages : length (take c.min-near.result c.args.b.now) ≡ c.min-near.result = rw length-take (omega arith) in
    extends_at _ _ _ _ (extends_sum _ _ _ _ _ (extends_sum _ _ _ _ _ c.any_wire.ensures.nodes c.forced.ensures.nodes) c.barrel.ensures.nodes)
    (forced_bound (length c.args.a.now) (length c.args.b.now) c.min-near.result _ _ _ near (ap length (take_rest c.args.b.now c.min-near.result) ∙ length-drop c.min-near.result c.args.b.now) stages (ap length c.as_slice.ensures.value ∙ (c.in_ok-amount.ensures.length ∙ stages)))

pub returns-clause-value : goal.returns-clause-value
returns-clause-value c = shows_same _ _ _ _ c.in_ok-wires.ensures.value (λ v r.
    let third : Respects v c.forced.new.graph = respects_old v _ _ _ c.barrel.ensures.nodes r in
    let second : Respects v c.any_wire.new.graph = respects_old v _ _ _ c.forced.ensures.nodes third in
    let near : c.min-near.result ≡ min (length (values v c.args.b.now)) 11 = rw (length-values v c.args.b.now) c.min-near.ensures in
    let last : length c.args.a.now - 1 < length c.args.a.now = omega (arith, c.requires.some) in
    rw (
      c.as_slice.ensures.value,
      c.in_ok-amount.ensures.value.value v third,
      c.in_ok-far.ensures.wire.value v second,
      take_rest c.args.b.now c.min-near.result,
      ← take-map (wire_value v) c.min-near.result c.args.b.now,
      ← drop-map (wire_value v) c.min-near.result c.args.b.now,
      ← values_at v c.args.a.now (length c.args.a.now - 1) last,
      ← length-values v c.args.a.now,
    )
    (shift_by_forced c.min-near.result (values v c.args.a.now) (values v c.args.b.now) near (rw (length-values v c.args.a.now) c.requires.some) (rw (length-values v c.args.a.now) c.requires.places)))

pub returns-clause-exact : goal.returns-clause-exact
returns-clause-exact c =
    forced_by _ c.any_wire.new.graph c.forced.new.graph _ c.args.a.now c.args.b.now c.in_ok-amount.amount.items _ c.in_ok-far.far c.min-near.result c.min-near.ensures
    (rw (take_rest c.args.b.now c.min-near.result) at c.in_ok-far.ensures.exact)
    c.in_ok-amount.ensures.exact
    (rw c.as_slice.ensures.value at c.in_ok-wires.ensures.exact)
