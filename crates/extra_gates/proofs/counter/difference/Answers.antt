use Rattle.std.proofs.Common.{◌≡◌, length}
use Rattle.gate_graph.specs.Gates.{Respects, wire_value}
use Rattle.gate_graph.proofs.GateLemmas.{respects_old}
use Rattle.bit_base.specs.Numbers.{number_of}
use Rattle.bit_base.specs.Operators.{sum_of}
use Rattle.word_gates.specs.Words.{values}
use Rattle.word_gates.proofs.WordLemmas.{shows_same}
use Rattle.extra_gates.proofs.WordLaws.{below_length}
use Rattle.extra_gates.proofs.CountLaws.{difference_is, if_below}
use Rattle.extra_gates.proofs.counter.difference.Goals as goal

pub returns-clause-value : goal.returns-clause-value
returns-clause-value c up down = shows_same _ _ _ _ c.in_ok-wires.ensures.value (λ v r.
    let second : Respects v c.add.new.graph = respects_old v _ _ _ c.sub.ensures.nodes r in
    let first : Respects v c.args.graph.now = respects_old v _ _ _ c.add.ensures.nodes second in
    let total : values v c.in_ok-sum.sum.items ≡ sum_of (values v c.in_ok-wide.wide.items) (values v c.in_ok-up.up.items) =
    rw (c.as_slice.ensures.value, c.as_slice-2.ensures.value) at (c.in_ok-sum.ensures.value.value v second) in
    rw (c.as_slice-3.ensures.value, c.as_slice-4.ensures.value)
    (difference_is (length c.args.value.now) (number_of (values v c.args.value.now)) _ _ (values v c.in_ok-wide.wide.items) (values v c.in_ok-up.up.items) (values v c.in_ok-down.down.items) (values v c.in_ok-sum.sum.items)
    (c.in_ok-wide.ensures.value.value v first) (c.in_ok-up.ensures.value.value v first) (c.in_ok-down.ensures.value.value v first) total
    (below_length v c.args.value.now) (if_below _ _ (wire_value v c.args.incr) up) (if_below _ _ (wire_value v c.args.decr) down)))
