use Rattle.std.proofs.Common.{◌≡◌, ◌≤◌, drop}
use Rattle.vlog_prep.specs.Lengths.{more_digits}
use Rattle.vlog_prep.proofs.Loops.{settled}
use Rattle.vlog_prep.proofs.lengths.more_digits.Given as goal

abbrev pub invariant-loop-at : goal.invariant-loop-at
invariant-loop-at l = record {
  found : settled l.at l.len (more_digits l.base (drop l.at l.bytes)) ≡ more_digits l.base l.bytes;
  within : l.len ≤ l.at;
}
