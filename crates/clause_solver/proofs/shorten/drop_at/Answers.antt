use Rattle.std.proofs.Common.{sym, ap, refl, ◌∙◌, ◌≡◌, ◌<◌, true, true≢false, length, Err, arith}
use Rattle.std.specs.Option.{option_copied}
use Rattle.std.proofs.lemmas.Option.{slice_get_read}
use Rattle.lemma_checker.specs.Clauses.{at, opposite}
use Rattle.clause_solver.proofs.WalkLemmas.{clear_clash}
use Rattle.clause_solver.proofs.ShortLemmas.{short_step}
use Rattle.clause_solver.proofs.shorten.drop_at.Goals as goal

pub unreachable-requires : goal.unreachable-requires
unreachable-requires c =
    let x_is = slice_get_read c.args.trail.now.literals.items (length c.args.trail.now.literals.items) c.args.p c.index-literal.result.now refl c.requires.within c.index-literal.ensures in
    let lt : c.args.p < length c.args.trail.now.reasons.items = omega (arith, c.requires.within, c.requires.trail.lengths) in
    let id_is = slice_get_read c.args.trail.now.reasons.items (length c.args.trail.now.reasons.items) c.args.p c.index-reason.result.now refl lt c.index-reason.ensures in
    let at_c = sym c.clause_at.ensures ∙ ap option_copied c.in-Some.is in
    let others = c.requires.trail.given c.args.p c.index-reason.result.now c.index-literal.result.now c.in-Some.clause.now x_is id_is at_c in
    let marked : at c.args.seen.now (opposite c.index-literal.result.now.0) ≡ true = ap (at c.args.seen.now) (sym c.opposite.ensures) ∙ (sym c.is_marked.ensures ∙ c.if-not-is_marked.false) in
    let clash = clear_clash c.args.trail.now.literals.items c.args.p c.args.seen.now c.index-literal.result.now c.in-Some.clause.now c.requires.trail.apart c.requires.trail.once c.requires.inside x_is marked others in
    true≢false (sym clash ∙ (rw c.variable-pivot.ensures at (c.in-Err-BadStep.ensures.bad (ap Err c.in-Err-BadStep.field-0-is))))

pub returns-in-Ok : goal.returns-in-Ok
returns-in-Ok c = λ i low lt le s.
    let x_is = slice_get_read c.args.trail.now.literals.items (length c.args.trail.now.literals.items) c.args.p c.index-literal.result.now refl c.requires.within c.index-literal.ensures in
    let few : c.args.p < length c.args.trail.now.reasons.items = omega (arith, c.requires.within, c.requires.trail.lengths) in
    let id_is = slice_get_read c.args.trail.now.reasons.items (length c.args.trail.now.reasons.items) c.args.p c.index-reason.result.now refl few c.index-reason.ensures in
    let at_c = sym c.clause_at.ensures ∙ ap option_copied c.in-Some.is in
    let others = c.requires.trail.given c.args.p c.index-reason.result.now c.index-literal.result.now c.in-Some.clause.now x_is id_is at_c in
    let marked : at c.args.seen.now (opposite c.index-literal.result.now.0) ≡ true = ap (at c.args.seen.now) (sym c.opposite.ensures) ∙ (sym c.is_marked.ensures ∙ c.if-not-is_marked.false) in
    let clash = clear_clash c.args.trail.now.literals.items c.args.p c.args.seen.now c.index-literal.result.now c.in-Some.clause.now c.requires.trail.apart c.requires.trail.once c.requires.inside x_is marked others in
    rw (c.in_ok-push.ensures.items, c.in_ok-push-2.ensures.items, c.variable-pivot.ensures)
    (short_step _ _ _ i low _ _ _ _ _ _ _ c.index-literal.result.now c.index-reason.result.now c.in-Some.clause.now c.requires.trail.apart c.requires.trail.once lt le s x_is at_c clash others c.resolve.auto.marks c.resolve.ensures.lists (rw c.variable-pivot.ensures at c.in-Ok.ensures.set))
