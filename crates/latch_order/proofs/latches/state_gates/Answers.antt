use Rattle.std.proofs.Common.{◌≡◌, ◌≤◌, ◌+◌, ◌-◌, ◌∙◌, sym, ap, ◌++◌, take, drop, get_or, map, length, arith, refl, length-drop}
use Rattle.std.specs.List.{sum_by}
use Rattle.std.proofs.lemmas.List.{map_push, length-take-le, take_all}
use Rattle.std.proofs.lemmas.List.Sums.{sum_by_more, sum_by_more_le}
use Rattle.word_gates.specs.Graphs.{off, on}
use Rattle.latch_order.specs.Latches.{latch_bits, stored_of, all_stored}
use Rattle.latch_order.specs.Wires.{stored_wires}
use Rattle.latch_order.proofs.LatchLemmas.{stored_more, stored_end}
use Rattle.latch_order.proofs.latches.state_gates.Goals as goal

pub stored_gates-requires : goal.stored_gates-requires
stored_gates-requires c =
    let more : sum_by latch_bits (take c.loop-n.n c.args.fields.now) + latch_bits (get_or c.args.fields.now c.loop-n.n c.index-fields-n.result) ≤ sum_by latch_bits c.args.fields.now =
    sum_by_more_le latch_bits c.args.fields.now c.loop-n.n c.index-fields-n.result c.loop-n-test.true in
    let here : latch_bits c.index-fields-n.result ≡ latch_bits (get_or c.args.fields.now c.loop-n.n c.index-fields-n.result) = ap latch_bits c.index-fields-n.is in
    let dropped = length-drop c.loop-n.start c.args.latches.now in
    let long = length-take-le (length c.args.latches.now - c.loop-n.start) (drop c.loop-n.start c.args.latches.now) (omega (arith, dropped)) in
    omega (arith, more, here, long, c.loop-n.invariant.start, c.requires)

pub loop-n-preserved : goal.loop-n-preserved
loop-n-preserved c = record {
  start =
      let more = sum_by_more latch_bits c.args.fields.now c.loop-n.n c.index-fields-n.result c.loop-n-test.true in
      let here : latch_bits c.index-fields-n.result ≡ latch_bits (get_or c.args.fields.now c.loop-n.n c.index-fields-n.result) = ap latch_bits c.index-fields-n.is in
      omega (arith, more, here, c.loop-n.invariant.start, c.latch_count-start.ensures);
  stored =
      let whole : take (length c.args.latches.now - c.loop-n.start) (drop c.loop-n.start c.args.latches.now) ≡ drop c.loop-n.start c.args.latches.now = take_all (length c.args.latches.now - c.loop-n.start) (drop c.loop-n.start c.args.latches.now) (omega (arith, length-drop c.loop-n.start c.args.latches.now)) in
      rw (c.in_ok-push.ensures.items, map_push stored_wires c.loop-n.states.items c.in_ok-stored.stored)
      (stored_more c.args.fields.now c.args.latches.now c.loop-n.n c.loop-n.start c.latch_count-start.result c.index-fields-n.result (map stored_wires c.loop-n.states.items) (stored_wires c.in_ok-stored.stored) c.loop-n-test.true
      (sym c.index-fields-n.is) (c.in_ok-stored.ensures ∙ ap (stored_of off on c.index-fields-n.result) whole) c.latch_count-start.ensures c.loop-n.invariant.stored);
}

pub returns : goal.returns
returns c = stored_end c.args.fields.now c.args.latches.now c.loop-n.n c.loop-n.start _ c.loop-n-test.false c.loop-n.invariant.stored
