use Rattle.std.proofs.Common.{◌≡◌, ◌+◌, ◌<◌, length, arith, ap, ◌∙◌, refl}
use Rattle.std.proofs.lemmas.List.{get_or_read}
use Rattle.lemma_checker.specs.declared.literal.Literal.{Literal}
use Rattle.lemma_checker.specs.Clauses.{opposite}
use Rattle.watch_lists.specs.Watching.{lists_of, literal_at}
use Rattle.watch_lists.proofs.WatchLists.{length_lists}
use Rattle.watch_lists.proofs.VisitLemmas.{grown_more, grown_none, same_copies, stopped_more, next_below, next_done}
use Rattle.watch_lists.proofs.watches.visit_all.Goals as goal

pub visit_list-requires-clause-list : goal.visit_list-requires-clause-list
visit_list-requires-clause-list c =
    let within : c.loop-trail.trail.done < length c.loop-trail.trail.literals.items = omega (arith, c.len.ensures, c.loop-trail-test.true) in
    let below : opposite (literal_at c.loop-trail.trail.literals.items c.loop-trail.trail.done) < length (lists_of c.loop-trail.lists) = next_below c.args.starts.now c.loop-trail.literals (lists_of c.loop-trail.lists) c.loop-trail.trail c.loop-trail.invariant.watching within in
    let same : c.opposite-denied.result.0 ≡ opposite (literal_at c.loop-trail.trail.literals.items c.loop-trail.trail.done) = c.opposite-denied.ensures ∙ ap (λ (x : Literal). opposite x.0) (get_or_read c.loop-trail.trail.literals.items c.loop-trail.trail.done c.index.result.now within c.index.ensures (record { 0 = 0 })) in
    omega (arith, below, same, length_lists c.loop-trail.lists)

pub returns-in-Some-clause-grown : goal.returns-in-Some-clause-grown
returns-in-Some-clause-grown c = grown_more c.args.starts.now c.args.literals.now c.loop-trail.literals c.visit_list.new.literals c.args.trail.now c.loop-trail.trail c.visit_list.new.trail c.loop-trail.invariant.watching.plain.lengths c.loop-trail.invariant.grown c.in_ok-number.ensures.grown

pub returns-in-Some-clause-ran : goal.returns-in-Some-clause-ran
returns-in-Some-clause-ran c =
    let stop = rw c.in-Some.is at c.in_ok-number.ensures.passed in
    stopped_more c.args.starts.now c.args.literals.now c.loop-trail.literals c.visit_list.new.literals (lists_of c.visit_list.new.lists) c.args.trail.now c.loop-trail.trail c.visit_list.new.trail c.in-Some.number c.loop-trail.invariant.grown stop

pub loop-trail-preserved : goal.loop-trail-preserved
loop-trail-preserved c =
    let whole = rw c.in_default.is at c.in_ok-number.ensures.passed in
    let grown = grown_more c.args.starts.now c.args.literals.now c.loop-trail.literals c.visit_list.new.literals c.args.trail.now c.loop-trail.trail c.visit_list.new.trail c.loop-trail.invariant.watching.plain.lengths c.loop-trail.invariant.grown c.in_ok-number.ensures.grown in
    record {
      watching = next_done c.args.starts.now c.visit_list.new.literals (lists_of c.visit_list.new.lists) c.visit_list.new.trail (record c.visit_list.new.trail { done = c.visit_list.new.trail.done + 1 }) c.opposite-denied.result.0 whole refl refl refl refl refl;
      grown = record { copies = grown.copies; forced = grown.forced; front = grown.front; levels = grown.levels; balance = grown.balance };
    }

pub loop-trail-init : goal.loop-trail-init
loop-trail-init c = record {
  watching = c.requires.watching;
  grown = grown_none c.args.starts.now c.args.literals.now c.args.literals.now (lists_of c.args.lists.now) c.args.trail.now c.args.trail.now c.requires.watching (same_copies c.args.starts.now c.args.literals.now) refl;
}
