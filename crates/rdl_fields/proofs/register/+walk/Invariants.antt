use Rattle.std.proofs.Common.{◌≡◌, ◌++◌, ◌+◌, ◌*◌, ◌≤◌, drop}
use Rattle.rdl_layout.specs.Laid.{size_in}
use Rattle.rdl_layout.specs.Walks.{over, over_elements, over_instances}
use Rattle.rdl_fields.specs.Registers.{fields_at}
use Rattle.rdl_fields.proofs.register.+walk.Given as goal

abbrev pub decreases-note_all : goal.decreases-note_all
decreases-note_all l = 6 * l.room

abbrev pub decreases-note_element : goal.decreases-note_element
decreases-note_element l = 6 * l.room + 1

abbrev pub decreases-note_elements : goal.decreases-note_elements
decreases-note_elements l = 6 * l.room + 2

abbrev pub decreases-note_instance : goal.decreases-note_instance
decreases-note_instance l = 6 * l.room + 3

abbrev pub decreases-note_instances : goal.decreases-note_instances
decreases-note_instances l = 6 * l.room + 4

abbrev pub decreases-note_inside : goal.decreases-note_inside
decreases-note_inside l = 6 * l.room + 5

abbrev pub invariant-note_elements-loop-index : goal.invariant-note_elements-loop-index
invariant-note_elements-loop-index l =
    l.out.items ≡ l.fn.out.items ++ over_elements (over fields_at l.room) l.base l.up l.targets l.instance l.extent l.index

abbrev pub invariant-note_instances-loop-instance : goal.invariant-note_instances-loop-instance
invariant-note_instances-loop-instance l = record {
  same : l.out.items ++ over_instances (over fields_at l.room) (size_in l.room) l.base l.up l.targets l.next (drop l.instance-index l.instances)
      ≡ l.fn.out.items ++ over_instances (over fields_at l.room) (size_in l.room) l.base l.up l.targets 0 l.instances;
  next : l.next ≤ 4294967297;
}
