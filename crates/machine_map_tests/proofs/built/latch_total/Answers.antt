use Rattle.std.proofs.Common.{◌≡◌, ◌<◌, Some, length, slice_get, refl, ap, arith}
use Rattle.std.proofs.lemmas.Option.{slice_get_read}
use Rattle.std.proofs.lemmas.List.Sums.{sum_by_more}
use Rattle.latch_order.specs.Latches.{latch_bits}
use Rattle.map_views.proofs.ViewLemmas.{or_at}
use Rattle.machine_map_tests.proofs.TestLemmas.{latches_small}
use Rattle.machine_map_tests.proofs.built.latch_total.Goals as goal

pub overflow_add-total : goal.overflow_add-total
overflow_add-total c =
    let lt : c.loop-n.n < length c.args.map.now.fields.items = omega (arith, c.loop-n-test.true, c.len-n-end.ensures) in
    let at : slice_get c.args.map.now.fields.items c.loop-n.n ≡ Some c.index.result.now = slice_get_read _ _ _ _ refl lt c.index.ensures in
    omega (arith, c.loop-n.invariant.few, c.latch_count-total.ensures, latches_small c.args.map.now c.loop-n.n c.index.result.now at, lt, c.args.map.now.small.few_fields)

pub loop-n-preserved : goal.loop-n-preserved
loop-n-preserved c =
    let lt : c.loop-n.n < length c.args.map.now.fields.items = omega (arith, c.loop-n-test.true, c.len-n-end.ensures) in
    let at : slice_get c.args.map.now.fields.items c.loop-n.n ≡ Some c.index.result.now = slice_get_read _ _ _ _ refl lt c.index.ensures in
    let same = ap latch_bits (or_at c.args.map.now.fields.items c.loop-n.n c.index.result.now at) in
    let more = sum_by_more latch_bits c.args.map.now.fields.items c.loop-n.n c.index.result.now lt in
    record {
      total = omega (arith, more, same, c.loop-n.invariant.total, c.latch_count-total.ensures);
      few = omega (arith, c.loop-n.invariant.few, c.latch_count-total.ensures, latches_small c.args.map.now c.loop-n.n c.index.result.now at);
    }
