use Rattle.std.proofs.Common.{◌≡◌, ◌≤◌, ◌-◌, replicate, [], length, map}
use Rattle.invariant_miner.proofs.columns.no_columns.Given as goal

abbrev pub invariant-lists : goal.invariant-lists
invariant-lists l = record { empty : map (λ v. v.items) l.lists.items ≡ replicate (length l.lists.items) []; few : length l.lists.items ≤ l.count }

abbrev pub decreases-lists : goal.decreases-lists
decreases-lists l = l.count - length l.lists.items
