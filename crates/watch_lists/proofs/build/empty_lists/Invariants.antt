use Rattle.std.proofs.Common.{◌≡◌, ◌≤◌, ◌-◌, replicate, [], length}
use Rattle.watch_lists.specs.Watching.{lists_of}
use Rattle.watch_lists.proofs.build.empty_lists.Given as goal

abbrev pub invariant-lists : goal.invariant-lists
invariant-lists l = record { empty : lists_of l.lists.items ≡ replicate (length l.lists.items) []; few : length l.lists.items ≤ l.count }

abbrev pub decreases-lists : goal.decreases-lists
decreases-lists l = l.count - length l.lists.items
