use Rattle.std.proofs.Common.{◌≡◌, ◌≤◌, drop}
use Rattle.rdl_tree.specs.Lengths.{more_digits}
use Rattle.rdl_tree.proofs.Loops.{settled}
use Rattle.rdl_tree.proofs.lengths.more_digits.Given as goal

abbrev pub invariant-loop-at : goal.invariant-loop-at
invariant-loop-at l = record {
  found : settled l.at l.len (more_digits l.base (drop l.at l.bytes)) ≡ more_digits l.base l.bytes;
  within : l.len ≤ l.at;
}
