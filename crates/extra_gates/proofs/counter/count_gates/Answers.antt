use Rattle.std.proofs.Common.{◌≡◌, ℕ, ◌+◌, Bool, false, not, ◌&&◌, length, get_or, refl, ◌∙◌, arith}
use Rattle.gate_graph.specs.Gates.{Respects, IsOf, wire_value}
use Rattle.gate_graph.proofs.GateLemmas.{respects_old, means_later}
use Rattle.bit_base.specs.Numbers.{number_of}
use Rattle.word_gates.specs.Words.{values}
use Rattle.word_gates.proofs.WordLemmas.{no_wire, shows_same, of_here}
use Rattle.extra_gates.proofs.WordLaws.{value_at, values_take, below_length}
use Rattle.extra_gates.proofs.CountLaws.{Steps, steps_are}
use Rattle.extra_gates.proofs.counter.count_gates.Goals as goal

steps : (c : goal.After-drop-sum-2) (v : ℕ → Bool) → Respects v c.difference.new.graph
    → Steps c.args.counter.now (length c.args.value.now) (number_of (values v c.args.value.now)) (wire_value v c.args.incr) (wire_value v c.args.decr) (values v c.in_ok-sum.sum.items)
steps c v r = rw ((c.in_ok-sum.ensures.value c.requires.up c.requires.down).value v r)
    (steps_are c.args.counter.now (length c.args.value.now) (number_of (values v c.args.value.now)) (wire_value v c.args.incr) (wire_value v c.args.decr) (below_length v c.args.value.now) c.requires.up c.requires.down)

-- the last two places
top_is : (c : goal.After-drop-sum-2) (v : ℕ → Bool) → wire_value v (get_or c.in_ok-sum.sum.items (length c.args.value.now + 1) no_wire) ≡ get_or (values v c.in_ok-sum.sum.items) (length c.args.value.now + 1) false
top_is c v = value_at v c.in_ok-sum.sum.items (length c.args.value.now + 1) (omega (arith, c.in_ok-sum.ensures.length))

next_is : (c : goal.After-drop-sum-2) (v : ℕ → Bool) → wire_value v (get_or c.in_ok-sum.sum.items (length c.args.value.now) no_wire) ≡ get_or (values v c.in_ok-sum.sum.items) (length c.args.value.now) false
next_is c v = value_at v c.in_ok-sum.sum.items (length c.args.value.now) (omega (arith, c.in_ok-sum.ensures.length))

over_is : (c : goal.After-drop-sum-2) (v : ℕ → Bool) → Respects v c.and.new.self
    → wire_value v c.in_ok-over.over ≡ (get_or (values v c.in_ok-sum.sum.items) (length c.args.value.now) false && not (get_or (values v c.in_ok-sum.sum.items) (length c.args.value.now + 1) false))
over_is c v r = rw (c.in_ok-over.ensures.wire.value v r, c.inverted.ensures.value v, c.as_slice-wires.ensures.value, next_is c v, top_is c v) refl

pub returns-clause-under : goal.returns-clause-under
returns-clause-under c = record {
  of = rw c.as_slice-wires.ensures.value (let top : IsOf (get_or c.in_ok-sum.sum.items (length c.args.value.now + 1) no_wire) c.difference.new.graph = of_here c.in_ok-sum.sum.items c.difference.new.graph (length c.args.value.now + 1) (c.in_ok-sum.ensures.value c.requires.up c.requires.down).of (omega (arith, c.in_ok-sum.ensures.length)) in omega (arith, top, c.and.ensures.extends.grows, c.held.ensures.nodes.grows));
  value = λ v r.
      let second : Respects v c.and.new.self = respects_old v _ _ _ c.held.ensures.nodes r in
      let first : Respects v c.difference.new.graph = respects_old v _ _ _ c.and.ensures.extends second in
      rw c.as_slice-wires.ensures.value (top_is c v ∙ (steps c v first).under);
}

pub returns-clause-over : goal.returns-clause-over
returns-clause-over c = means_later _ _ _ _ _ c.held.ensures.nodes record {
  of = c.in_ok-over.ensures.wire.of;
  value = λ v r. over_is c v r ∙ (steps c v (respects_old v _ _ _ c.and.ensures.extends r)).over;
}

pub returns-clause-value : goal.returns-clause-value
returns-clause-value c = shows_same _ _ _ _ c.in_ok-value.ensures.value (λ v r.
    let second : Respects v c.and.new.self = respects_old v _ _ _ c.held.ensures.nodes r in
    let first : Respects v c.difference.new.graph = respects_old v _ _ _ c.and.ensures.extends second in
    rw (c.only_if-above.ensures.wire.value v second, c.only_if-below.ensures.wire.value v second, over_is c v second, c.as_slice-wires.ensures.value, top_is c v, values_take v c.in_ok-sum.sum.items (length c.args.value.now))
    (steps c v first).value)
