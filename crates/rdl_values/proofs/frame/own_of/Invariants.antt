use Rattle.std.proofs.Common.{◌≡◌, ◌++◌, drop}
use Rattle.rdl_text.specs.Chains.{nows}
use Rattle.rdl_values.specs.Frames.{own_of}
use Rattle.rdl_values.proofs.frame.own_of.Given as goal

abbrev pub invariant-loop-item : goal.invariant-loop-item
invariant-loop-item l = nows l.out.items ++ own_of (drop l.item-index l.items) ≡ own_of l.items
