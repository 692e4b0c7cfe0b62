use Rattle.std.proofs.Common.{◌≡◌, ◌≢◌, ℕ, ◌<◌, ◌≤◌, true}
use Rattle.lemma_checker.specs.Clauses.{at, opposite}
use Rattle.watch_lists.specs.Watching.{literal_at}
use Rattle.watch_lists.proofs.look.other_place.Given as goal

abbrev pub invariant-loop-place : goal.invariant-loop-place
invariant-loop-place l = (p : ℕ) → 2 ≤ p → p < l.place → literal_at l.clause p ≢ literal_at l.clause 0 → at l.values (opposite (literal_at l.clause p)) ≡ true
