use Rattle.std.proofs.Common.{◌≡◌, ◌++◌, ◌+◌, ◌*◌, drop}
use Rattle.rdl_values.specs.Walks.{over, over_elements, over_instances}
use Rattle.rdl_effects.specs.Bodies.{refused_at}
use Rattle.rdl_effects.proofs.effect.+walk.Given as goal

abbrev pub decreases-note_all : goal.decreases-note_all
decreases-note_all l = 5 * l.room

abbrev pub decreases-note_element : goal.decreases-note_element
decreases-note_element l = 5 * l.room + 1

abbrev pub decreases-note_elements : goal.decreases-note_elements
decreases-note_elements l = 5 * l.room + 2

abbrev pub decreases-note_instance : goal.decreases-note_instance
decreases-note_instance l = 5 * l.room + 3

abbrev pub decreases-note_instances : goal.decreases-note_instances
decreases-note_instances l = 5 * l.room + 4

abbrev pub invariant-note_elements-loop-index : goal.invariant-note_elements-loop-index
invariant-note_elements-loop-index l = l.out.items ≡ l.fn.out.items ++ over_elements (over (refused_at l.effect) l.room) l.up l.targets l.instance l.index

abbrev pub invariant-note_instances-loop-instance : goal.invariant-note_instances-loop-instance
invariant-note_instances-loop-instance l =
    l.out.items ++ over_instances (over (refused_at l.effect) l.room) l.up l.targets (drop l.instance-index l.instances)
    ≡ l.fn.out.items ++ over_instances (over (refused_at l.effect) l.room) l.up l.targets l.instances
