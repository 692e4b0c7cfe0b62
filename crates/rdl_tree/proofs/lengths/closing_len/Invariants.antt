use Rattle.std.proofs.Common.{◌≡◌, drop}
use Rattle.rdl_tree.specs.Lengths.{closing_len}
use Rattle.rdl_tree.specs.Closing.{closes}
use Rattle.rdl_tree.proofs.Loops.{found_behind}
use Rattle.rdl_tree.proofs.lengths.closing_len.Given as goal

abbrev pub invariant-loop-at : goal.invariant-loop-at
invariant-loop-at l = found_behind l.at (closing_len (closes l.closing) l.last (drop l.at l.bytes)) ≡ closing_len (closes l.closing) l.before l.bytes
