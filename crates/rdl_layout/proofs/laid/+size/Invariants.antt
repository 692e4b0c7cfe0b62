use Rattle.std.proofs.Common.{◌≡◌, ◌+◌, ◌*◌, ◌≤◌, max, drop}
use Rattle.rdl_layout.specs.Laid as spec
use Rattle.rdl_layout.proofs.laid.+size.Given as goal

abbrev pub decreases-element_size_in : goal.decreases-element_size_in
decreases-element_size_in l = 8 * l.room + 2

abbrev pub decreases-element_size : goal.decreases-element_size
decreases-element_size l = 8 * l.room + 3

abbrev pub decreases-greatest : goal.decreases-greatest
decreases-greatest l = 8 * l.room + 4

abbrev pub decreases-extent_of : goal.decreases-extent_of
decreases-extent_of l = 8 * l.room + 5

abbrev pub decreases-greatest_end : goal.decreases-greatest_end
decreases-greatest_end l = 8 * l.room + 6

abbrev pub decreases-inner_size : goal.decreases-inner_size
decreases-inner_size l = 8 * l.room

abbrev pub decreases-size_in : goal.decreases-size_in
decreases-size_in l = 8 * l.room + 1

abbrev pub invariant-greatest-loop-index : goal.invariant-greatest-loop-index
invariant-greatest-loop-index l = record {
  end : l.end ≡ spec.greatest (spec.size_in l.room) l.up l.targets l.instance l.start l.stride l.index;
  bound : l.end ≤ 4294967297;
}

abbrev pub invariant-greatest_end-loop-instance : goal.invariant-greatest_end-loop-instance
invariant-greatest_end-loop-instance l = record {
  end : max l.end (spec.greatest_end (spec.size_in l.room) l.up l.targets l.next (drop l.instance-index l.instances)) ≡ spec.greatest_end (spec.size_in l.room) l.up l.targets 0 l.instances;
  bound : l.end ≤ 4294967297;
  next : l.next ≤ 4294967297;
}
