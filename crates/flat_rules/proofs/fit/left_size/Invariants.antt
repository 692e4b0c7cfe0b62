use Rattle.std.proofs.Common.{◌≡◌, ◌+◌, ◌≤◌, min, drop}
use Rattle.flat_design.specs.Statements.{left_size}
use Rattle.flat_rules.proofs.fit.left_size.Given as goal

abbrev pub invariant-loop-part : goal.invariant-loop-part
invariant-loop-part l = record { small : l.size ≤ 4294967296; size : min (l.size + left_size (drop l.part-index l.left)) 4294967296 ≡ min (left_size l.left) 4294967296 }
