use Rattle.std.proofs.Common.{◌≡◌, ℕ, ◌≤◌, ◌==◌, nat_eq, true, length, drop}
use Rattle.std.specs.List.{list_any}
use Rattle.std.specs.HashSet.{contains}
use Rattle.cert_text.specs.Lines.{code_of, are_apart}
use Rattle.cert_text.proofs.clauses.are_apart.Given as goal

abbrev pub invariant-loop-left : goal.invariant-loop-left
invariant-loop-left l = record {
  within : l.left ≤ length l.literals;
  apart : are_apart (drop l.left l.literals) ≡ true;
  seen : (q : ℕ) → contains nat_eq l.seen q ≡ list_any (λ m. code_of m == q) (drop l.left l.literals);
}

abbrev pub decreases-loop-left : goal.decreases-loop-left
decreases-loop-left l = l.left
