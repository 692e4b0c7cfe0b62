use Rattle.std.proofs.Common.{sym, ap, refl, ◌∙◌, true≢false, length, Err}
use Rattle.std.specs.Option.{option_copied}
use Rattle.std.proofs.lemmas.Option.{slice_get_read}
use Rattle.clause_solver.proofs.WalkLemmas.{walk_clash, walk_step}
use Rattle.clause_solver.proofs.analysis.resolve_here.Goals as goal

pub unreachable-requires-in-Err-BadStep : goal.unreachable-requires-in-Err-BadStep
unreachable-requires-in-Err-BadStep c =
    let x_is = slice_get_read c.args.trail.now.literals.items (length c.args.trail.now.literals.items) c.args.i c.index.result.now refl c.requires.within c.index.ensures in
    let at_c = sym c.clause_at.ensures ∙ ap option_copied c.in-Some.is in
    let others = c.requires.trail.given c.args.i c.args.id c.index.result.now c.in-Some.clause.now x_is c.requires.reason at_c in
    let clash = walk_clash _ _ _ _ _ _ _ _ c.index.result.now c.in-Some.clause.now c.requires.trail.apart c.requires.trail.once c.requires.walk x_is (c.requires.marked.each c.index.result.now x_is) others in
    true≢false (sym clash ∙ (rw c.variable-pivot.ensures at (c.in-Err-BadStep.ensures.bad (ap Err c.in-Err-BadStep.field-0-is))))

pub returns-in-Ok : goal.returns-in-Ok
returns-in-Ok c =
    let x_is = slice_get_read c.args.trail.now.literals.items (length c.args.trail.now.literals.items) c.args.i c.index.result.now refl c.requires.within c.index.ensures in
    let at_c = sym c.clause_at.ensures ∙ ap option_copied c.in-Some.is in
    let others = c.requires.trail.given c.args.i c.args.id c.index.result.now c.in-Some.clause.now x_is c.requires.reason at_c in
    let clash = walk_clash _ _ _ _ _ _ _ _ c.index.result.now c.in-Some.clause.now c.requires.trail.apart c.requires.trail.once c.requires.walk x_is (c.requires.marked.each c.index.result.now x_is) others in
    rw (c.in_ok-push.ensures.items, c.in_ok-push-2.ensures.items, c.variable-pivot.ensures)
    (walk_step _ _ _ _ _ _ _ _ _ _ c.index.result.now c.args.id c.in-Some.clause.now c.requires.walk x_is at_c clash others c.resolve.auto.marks c.resolve.ensures.lists (rw c.variable-pivot.ensures at c.in-Ok.ensures.set))
