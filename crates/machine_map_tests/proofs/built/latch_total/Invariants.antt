use Rattle.std.proofs.Common.{◌≡◌, ◌*◌, ◌≤◌, take}
use Rattle.std.specs.List.{sum_by}
use Rattle.latch_order.specs.Latches.{latch_bits}
use Rattle.machine_map_tests.proofs.built.latch_total.Given as goal

abbrev pub invariant-loop-n : goal.invariant-loop-n
invariant-loop-n l = record {
  total : l.total ≡ sum_by latch_bits (take l.n l.map.fields.items);
  few : l.total ≤ 34 * l.n;
}
