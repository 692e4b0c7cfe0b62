use Rattle.std.proofs.Common.{◌≡◌, ℕ, true, drop}
use Rattle.lemma_checker.specs.Clauses.{at, has}
use Rattle.lemma_checker.proofs.resolver.clear_listed.Given as goal

abbrev pub invariant-loop-literal : goal.invariant-loop-literal
invariant-loop-literal l = (k : ℕ) → at l.marks k ≡ true → has k (drop l.literal-index l.listed) ≡ true
