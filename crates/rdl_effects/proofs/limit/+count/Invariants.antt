use Rattle.std.proofs.Common.{◌≡◌, ◌+◌, ◌*◌, ◌≤◌, drop}
use Rattle.rdl_effects.specs.Limits.{cut, numbers_with, number_inside}
use Rattle.rdl_effects.proofs.limit.+count.Given as goal

abbrev pub decreases-number_inside : goal.decreases-number_inside
decreases-number_inside l = 4 * l.room

abbrev pub decreases-number_with : goal.decreases-number_with
decreases-number_with l = 4 * l.room + 1

abbrev pub decreases-numbers_with : goal.decreases-numbers_with
decreases-numbers_with l = 4 * l.room + 2

abbrev pub decreases-number_in : goal.decreases-number_in
decreases-number_in l = 4 * l.room + 3

abbrev pub invariant-numbers_with-loop-instance : goal.invariant-numbers_with-loop-instance
invariant-numbers_with-loop-instance l = record {
  bound : l.total ≤ 1048577;
  sum : cut (l.total + numbers_with (number_inside l.room) (drop l.instance-index l.instances)) ≡ cut (numbers_with (number_inside l.room) l.instances);
}
