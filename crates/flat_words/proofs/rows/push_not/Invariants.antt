use Rattle.std.proofs.Common.{◌≡◌, ◌++◌, map, not, drop}
use Rattle.flat_words.proofs.rows.push_not.Given as goal

abbrev pub invariant-loop-x : goal.invariant-loop-x
invariant-loop-x l = l.row.items ++ map not (drop l.x-index l.a) ≡ l.fn.row.items ++ map not l.a
