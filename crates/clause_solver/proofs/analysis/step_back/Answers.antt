use Rattle.std.proofs.Common.{arith, sym, ap, refl, ◌∙◌, ◌≡◌, ◌<◌, length, Some}
use Rattle.std.proofs.lemmas.Option.{slice_get_read, same_Some}
use Rattle.lemma_checker.specs.Clauses.{at, opposite}
use Rattle.lemma_checker.specs.declared.literal.Literal.{Literal}
use Rattle.clause_solver.proofs.WalkLemmas.{walk_skip}
use Rattle.clause_solver.proofs.analysis.step_back.Goals as goal

pub returns-then-not-is_marked : goal.returns-then-not-is_marked
returns-then-not-is_marked c =
    walk_skip _ _ _ _ _ _ _ _ c.index-literal.result.now c.requires.walk
    (slice_get_read c.args.trail.now.literals.items (length c.args.trail.now.literals.items) c.args.i c.index-literal.result.now refl c.requires.within c.index-literal.ensures)
    (ap (at c.args.seen.now) (sym c.opposite.ensures) ∙ (sym c.is_marked.ensures ∙ c.if-not-is_marked.true))

pub stop_at-requires-clause-start : goal.stop_at-requires-clause-start
stop_at-requires-clause-start c = λ e.
    let lt : c.args.i < length c.args.trail.now.reasons.items = omega (arith, c.requires.within, c.requires.trail.lengths) in
    c.requires.trail.chosen c.args.i (slice_get_read c.args.trail.now.reasons.items (length c.args.trail.now.reasons.items) c.args.i c.index-id.result.now refl lt c.index-id.ensures ∙ ap Some e)

pub returns-in-Some : goal.returns-in-Some
returns-in-Some c = record {
  walk = c.requires.walk;
  marked = record {
    each = λ y y_is.
        let x_is = slice_get_read c.args.trail.now.literals.items (length c.args.trail.now.literals.items) c.args.i c.index-literal.result.now refl c.requires.within c.index-literal.ensures in
        let same : c.index-literal.result.now ≡ y = same_Some _ _ (sym x_is ∙ y_is) in
        ap (λ (z : Literal). at c.args.seen.now (opposite z.0)) (sym same) ∙ (ap (at c.args.seen.now) (sym c.opposite.ensures) ∙ (sym c.is_marked.ensures ∙ c.if-not-is_marked.false));
  };
  found = c.in-Some.ensures.some;
}

pub resolve_here-requires-clause-reason : goal.resolve_here-requires-clause-reason
resolve_here-requires-clause-reason c =
    let lt : c.args.i < length c.args.trail.now.reasons.items = omega (arith, c.requires.within, c.requires.trail.lengths) in
    slice_get_read c.args.trail.now.reasons.items (length c.args.trail.now.reasons.items) c.args.i c.index-id.result.now refl lt c.index-id.ensures

pub resolve_here-requires-clause-marked : goal.resolve_here-requires-clause-marked
resolve_here-requires-clause-marked c = record {
  each = λ y y_is.
      let x_is = slice_get_read c.args.trail.now.literals.items (length c.args.trail.now.literals.items) c.args.i c.index-literal.result.now refl c.requires.within c.index-literal.ensures in
      let same : c.index-literal.result.now ≡ y = same_Some _ _ (sym x_is ∙ y_is) in
      ap (λ (z : Literal). at c.args.seen.now (opposite z.0)) (sym same) ∙ (ap (at c.args.seen.now) (sym c.opposite.ensures) ∙ (sym c.is_marked.ensures ∙ c.if-not-is_marked.false));
}
