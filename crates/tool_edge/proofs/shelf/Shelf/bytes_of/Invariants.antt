use Rattle.std.proofs.Common.{◌≡◌}
use Rattle.std.specs.VecDeque.Iter.{deque_iter_rest}
use Rattle.tool_edge.specs.Shelf.{held_at}
use Rattle.tool_edge.proofs.shelf.Shelf.bytes_of.Given as goal

abbrev pub invariant-loop-file : goal.invariant-loop-file
invariant-loop-file l = held_at l.self.files.items l.name ≡ held_at (deque_iter_rest l.file-iterator) l.name
