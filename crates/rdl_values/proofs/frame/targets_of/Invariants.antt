use Rattle.std.proofs.Common.{◌≡◌, ◌++◌, drop}
use Rattle.rdl_values.specs.Frames.{targets_of}
use Rattle.rdl_values.proofs.frame.targets_of.Given as goal

abbrev pub invariant-loop-item : goal.invariant-loop-item
invariant-loop-item l = l.out.items ++ targets_of (drop l.item-index l.items) ≡ targets_of l.items
