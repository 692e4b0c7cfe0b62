use Rattle.std.proofs.Common.{◌<◌, ◌++◌, ◌∷◌, [], take, ℕ, length, get_or, arith, ◌∙◌, refl, subst}
use Rattle.std.proofs.lemmas.Option.{slice_get-get_or}
use Rattle.lemma_checker.specs.Clauses.{at, set_of}
use Rattle.lemma_checker.specs.Propagation.{IsFalse}
use Rattle.lemma_checker.proofs.CollectLemmas.{has_push_new}
use Rattle.watch_lists.specs.Trails.{IsQuiet}
use Rattle.watch_lists.specs.Scans.{IsForced}
use Rattle.watch_lists.specs.Watching.{copy, lists_of}
use Rattle.watch_lists.proofs.GuardLemmas.{conflict_of}
use Rattle.watch_lists.proofs.VisitLemmas.{grown_more, grown_none, true_none, grown_push, watching_push, same_copies, short_true, true_more, true_grows}
use Rattle.watch_lists.proofs.watches.visit_short.Goals as goal
use Rattle.watch_lists.proofs.watches.visit_short.Goals.{in-Quiet, in-Unit+in_ok-push-in-Unit}

pub copy_at-copy-requires-clause-below : goal.copy_at-copy-requires-clause-below
copy_at-copy-requires-clause-below c = (c.requires.brief.each c.loop-clause.clause-index (get_or c.args.short.now c.loop-clause.clause-index 0) (slice_get-get_or c.args.short.now c.loop-clause.clause-index 0 c.loop-clause-test.true)).0

pub overflow_add-result : goal.overflow_add-result
overflow_add-result c =
    let below = (c.requires.brief.each c.loop-clause.clause-index (get_or c.args.short.now c.loop-clause.clause-index 0) (slice_get-get_or c.args.short.now c.loop-clause.clause-index 0 c.loop-clause-test.true)).0 in
    omega (arith, below, c.requires.watching.watches.table.few)

pub returns-in-False-clause-met : goal.returns-in-False-clause-met
returns-in-False-clause-met c =
    let k : ℕ = get_or c.args.short.now c.loop-clause.clause-index 0 in
    let below = (c.requires.brief.each c.loop-clause.clause-index k (slice_get-get_or c.args.short.now c.loop-clause.clause-index 0 c.loop-clause-test.true)).0 in
    let false_copy : IsFalse (copy c.args.literals.now c.args.starts.now k) (at c.loop-clause.trail.values.items) = rw (c.as_slice.ensures.value, c.copy_at-copy.ensures) at c.in-False.ensures in
    record { conflict = λ clauses held. conflict_of c.args.literals.now (copy c.args.literals.now c.args.starts.now k) c.args.starts.now clauses k (set_of c.loop-clause.trail.literals.items) held below refl (subst (IsFalse (copy c.args.literals.now c.args.starts.now k)) c.loop-clause.invariant.watching.plain.same false_copy) }

pub push-requires : goal.push-requires
push-requires c =
    let k : ℕ = get_or c.args.short.now c.loop-clause.clause-index 0 in
    let below = (c.requires.brief.each c.loop-clause.clause-index k (slice_get-get_or c.args.short.now c.loop-clause.clause-index 0 c.loop-clause-test.true)).0 in
    let forced : IsForced (copy c.args.literals.now c.args.starts.now k) c.in-Unit.literal.0 (at c.loop-clause.trail.values.items) = rw (c.as_slice.ensures.value, c.copy_at-copy.ensures) at c.in-Unit.ensures in
    let lt : c.in-Unit.literal.0 < length (lists_of c.args.lists.now) = c.requires.watching.watches.high k c.in-Unit.literal.0 below forced.others.member in
    record { below = omega (arith, lt, c.loop-clause.invariant.watching.plain.size) }

pub loop-clause-preserved : goal.loop-clause-preserved
loop-clause-preserved c =
    let i = c.loop-clause.invariant in
    let k : ℕ = get_or c.args.short.now c.loop-clause.clause-index 0 in
    let entry = c.requires.brief.each c.loop-clause.clause-index k (slice_get-get_or c.args.short.now c.loop-clause.clause-index 0 c.loop-clause-test.true) in
    let ls = c.args.literals.now in
    let starts = c.args.starts.now in
    elim c.match-status_of.branch [
      | in-Quiet w ↦
          let quiet : IsQuiet (copy ls starts k) (at c.loop-clause.trail.values.items) = rw (c.as_slice.ensures.value, c.copy_at-copy.ensures) at w.in-Quiet.ensures in
          rw w.trail-is (record {
            watching = i.watching;
            grown = i.grown;
            done = i.done;
            met = true_more ls starts c.args.short.now c.loop-clause.trail.literals.items c.loop-clause.clause-index c.loop-clause-test.true i.met (short_true (copy ls starts k) c.loop-clause.trail.literals.items entry.1 (subst (IsQuiet (copy ls starts k)) i.watching.plain.same quiet));
          })
      | in-Unit+in_ok-push-in-Unit w ↦
          let x = w.in-Unit.literal in
          let old : IsForced (copy ls starts k) x.0 (at c.loop-clause.trail.values.items) = rw (c.as_slice.ensures.value, c.copy_at-copy.ensures) at w.in-Unit.ensures in
          let forced : IsForced (copy ls starts k) x.0 (set_of c.loop-clause.trail.literals.items) = subst (IsForced (copy ls starts k) x.0) i.watching.plain.same old in
          let e = w.in_ok-push-in-Unit.ensures in
          rw w.trail-is (record {
            watching = watching_push starts ls (lists_of c.args.lists.now) c.loop-clause.trail w.push.new.self k x i.watching entry.0 forced e.literals e.reasons e.values w.push.ensures.starts w.push.ensures.done;
            grown = grown_more starts ls ls ls c.args.trail.now c.loop-clause.trail w.push.new.self i.watching.plain.lengths i.grown (grown_push starts ls ls (lists_of c.args.lists.now) c.loop-clause.trail w.push.new.self k x i.watching (same_copies starts ls) entry.0 forced e.literals e.reasons e.values w.push.ensures.starts);
            done = w.push.ensures.done ∙ i.done;
            met = rw e.literals (true_more ls starts c.args.short.now (c.loop-clause.trail.literals.items ++ x ∷ []) c.loop-clause.clause-index c.loop-clause-test.true (true_grows ls starts (take c.loop-clause.clause-index c.args.short.now) c.loop-clause.trail.literals.items x i.met) (record { literal = x.0; member = forced.others.member; holds = has_push_new c.loop-clause.trail.literals.items x }));
          })
    ]

pub loop-clause-init : goal.loop-clause-init
loop-clause-init c = record {
  watching = c.requires.watching;
  grown = grown_none c.args.starts.now c.args.literals.now c.args.literals.now (lists_of c.args.lists.now) c.args.trail.now c.args.trail.now c.requires.watching (same_copies c.args.starts.now c.args.literals.now) refl;
  done = refl;
  met = true_none c.args.literals.now c.args.starts.now c.args.trail.now.literals.items;
}
