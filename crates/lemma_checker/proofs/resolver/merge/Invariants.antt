use Rattle.std.proofs.Common.{◌≡◌, ℕ, take}
use Rattle.lemma_checker.specs.Clauses.{at, set_of}
use Rattle.lemma_checker.specs.Checker.{Lists, joined}
use Rattle.lemma_checker.proofs.resolver.merge.Given as goal

abbrev pub invariant-loop-literal : goal.invariant-loop-literal
invariant-loop-literal l = record {
  lists : Lists l.marks l.touched.items;
  set : (k : ℕ) → at l.marks k ≡ joined (at l.fn.marks) (set_of (take l.literal-index l.clause)) k;
}
