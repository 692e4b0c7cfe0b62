use Rattle.std.proofs.Common.{◌≡◌, ◌≤◌, ◌+◌, ℕ, List, Some, slice_get, ap, ◌∙◌, arith}
use Rattle.lemma_checker.specs.declared.literal.Literal.{Literal}
use Rattle.lemma_checker.specs.Clauses.{at, opposite}
use Rattle.watch_lists.proofs.Lists.{has_front}
use Rattle.clause_solver.specs.Walks.{IsEnd}
use Rattle.clause_solver.proofs.ShortLemmas.{end_under}
use Rattle.clause_solver.proofs.shorten.shorten.Goals as goal

pub drop_at-requires-clause-inside : goal.drop_at-requires-clause-inside
drop_at-requires-clause-inside c = λ l h. has_front (c.args.i + 1) c.args.trail.now.literals.items (opposite l) (c.loop-place.invariant.walk.below l h)

pub unreachable-requires : goal.unreachable-requires
unreachable-requires c =
    let t : List Literal = c.args.trail.now.literals.items in
    let between = c.requires.stops.found.between in
    let end : IsEnd (at c.loop-place.seen) t c.args.i c.lower_end-low.result = rw c.as_slice.ensures.value at c.lower_end-low.ensures in
    let under : c.lower_end-low.result ≤ c.args.found.low = end_under t (at c.loop-place.seen) c.args.i c.args.found.low c.lower_end-low.result c.requires.trail.once c.requires.within end c.loop-place.invariant.before in
    let start : slice_get c.as_slice-2.result.now c.args.found.level ≡ Some between.place = ap (λ (z : List ℕ). slice_get z c.args.found.level) c.as_slice-2.ensures.value ∙ between.is in
    omega (arith, c.in-None.ensures.none c.args.found.level between.place start (omega (arith, under, between.from)), between.until)
