use Rattle.std.proofs.Common.{◌<◌, length, slice_get, refl, sym, ap, ◌∙◌, arith}
use Rattle.lemma_checker.specs.Clauses.{at}
use Rattle.watch_lists.specs.Watching.{lists_of, copy}
use Rattle.watch_lists.specs.Looks.{IsMet, IsMoved, IsLast, IsLost}
use Rattle.watch_lists.proofs.VisitLemmas.{IsLooked, ahead_run, ahead_away, ahead_met, ahead_moved, ahead_forced, grown_none, grown_forced, stopped, same_copies, copies_next, denied_now, moved_apart, listed_below}
use Rattle.watch_lists.proofs.WatchLists.{length_lists}
use Rattle.watch_lists.proofs.visit.visit_watch.Goals as goal

pub returns-then-is_marked-clause-grown : goal.returns-then-is_marked-clause-grown
returns-then-is_marked-clause-grown c = grown_none c.args.starts.now c.args.literals.now c.args.literals.now (lists_of c.args.lists.now) c.args.trail.now c.args.trail.now c.requires.passing.watching (same_copies c.args.starts.now c.args.literals.now) refl

pub returns-then-is_marked-clause-step : goal.returns-then-is_marked-clause-step
returns-then-is_marked-clause-step c =
    let all = c.watches_of.ensures in
    ahead_run c.args.starts.now c.args.literals.now (lists_of c.args.lists.now) c.args.trail.now c.args.denied.0 c.args.i c.next_open-next.result c.watch_at-watch.result c.requires.passing c.watch_at-watch.ensures.read (ap (λ v. at v c.watch_at-watch.result.blocker.0) (sym c.as_slice.ensures.value) ∙ (sym c.is_marked.ensures ∙ c.if-is_marked.true)) c.next_open-next.ensures.past (omega (arith, c.next_open-next.ensures.within, ap length all)) (λ j w from lt at_j. ap (λ v. at v w.blocker.0) (sym c.as_slice-then-is_marked.ensures.value) ∙ c.next_open-next.ensures.blocked j w from lt (ap (λ q. slice_get q j) all ∙ at_j))

pub look_at_copy-requires-clause-entry : goal.look_at_copy-requires-clause-entry
look_at_copy-requires-clause-entry c = c.requires.passing.watching.watches.entries c.args.denied.0 c.args.i c.watch_at-watch.result c.watch_at-watch.ensures.read

pub look_at_copy-requires-clause-two : goal.look_at_copy-requires-clause-two
look_at_copy-requires-clause-two c =
    let e = c.requires.passing.watching.watches.entries c.args.denied.0 c.args.i c.watch_at-watch.result c.watch_at-watch.ensures.read in
    c.requires.passing.watching.watches.two c.watch_at-watch.result.clause e.below e.long

pub look_at_copy-requires-clause-denied : goal.look_at_copy-requires-clause-denied
look_at_copy-requires-clause-denied c = rw c.as_slice-2.ensures.value (denied_now c.args.starts.now c.args.literals.now (lists_of c.args.lists.now) c.args.trail.now c.args.denied.0 c.args.i c.requires.passing)

pub move_watch-requires-clause-to : goal.move_watch-requires-clause-to
move_watch-requires-clause-to c =
    let m = c.in-Moved.ensures.found in
    let lt = listed_below c.args.starts.now c.args.literals.now c.look_at_copy.new.literals (lists_of c.args.lists.now) c.args.trail.now c.args.denied.0 c.args.i c.in-Moved.to.0 c.watch_at-watch.result c.requires.passing c.watch_at-watch.ensures.read m.order m.member in
    omega (arith, lt, length_lists c.args.lists.now)

pub move_watch-requires-clause-different : goal.move_watch-requires-clause-different
move_watch-requires-clause-different c = moved_apart c.args.starts.now c.args.literals.now (lists_of c.args.lists.now) c.args.trail.now c.args.denied.0 c.args.i c.in-Moved.to.0 c.requires.passing (rw (sym c.as_slice-2.ensures.value) c.in-Moved.ensures.found.free)

pub push-requires : goal.push-requires
push-requires c =
    let m = c.in-Forced.ensures.found in
    let lt = listed_below c.args.starts.now c.args.literals.now c.look_at_copy.new.literals (lists_of c.args.lists.now) c.args.trail.now c.args.denied.0 c.args.i c.in-Forced.literal.0 c.watch_at-watch.result c.requires.passing c.watch_at-watch.ensures.read m.facing.order m.forced.others.member in
    record { below = omega (arith, lt, c.requires.passing.watching.plain.size) }

pub returns-in-Away-clause-grown : goal.returns-in-Away-clause-grown
returns-in-Away-clause-grown c = grown_none c.args.starts.now c.args.literals.now c.look_at_copy.new.literals (lists_of c.args.lists.now) c.args.trail.now c.args.trail.now c.requires.passing.watching (copies_next c.args.starts.now c.args.literals.now c.look_at_copy.new.literals c.watch_at-watch.result.clause c.in-Away.ensures.found.facing.order c.in-Away.ensures.others) refl

pub returns-in-Away-clause-step : goal.returns-in-Away-clause-step
returns-in-Away-clause-step c =
    let looked : IsLooked c.args.starts.now c.args.literals.now c.look_at_copy.new.literals (lists_of c.args.lists.now) c.args.trail.now c.args.denied.0 c.args.i c.watch_at-watch.result = record { passing = c.requires.passing; is = c.watch_at-watch.ensures.read; long = c.look_at_copy.auto.literals; others = c.look_at_copy.ensures.others } in
    ahead_away c.args.starts.now c.args.literals.now c.look_at_copy.new.literals (lists_of c.args.lists.now) c.args.trail.now c.args.denied.0 c.args.i c.watch_at-watch.result looked c.in-Away.ensures.found

pub returns-in-Met-clause-grown : goal.returns-in-Met-clause-grown
returns-in-Met-clause-grown c = grown_none c.args.starts.now c.args.literals.now c.look_at_copy.new.literals (lists_of c.args.lists.now) c.args.trail.now c.args.trail.now c.requires.passing.watching (copies_next c.args.starts.now c.args.literals.now c.look_at_copy.new.literals c.watch_at-watch.result.clause c.in-Met.ensures.found.facing.order c.in-Met.ensures.others) refl

pub returns-in-Met-clause-step : goal.returns-in-Met-clause-step
returns-in-Met-clause-step c =
    let looked : IsLooked c.args.starts.now c.args.literals.now c.look_at_copy.new.literals (lists_of c.args.lists.now) c.args.trail.now c.args.denied.0 c.args.i c.watch_at-watch.result = record { passing = c.requires.passing; is = c.watch_at-watch.ensures.read; long = c.look_at_copy.auto.literals; others = c.look_at_copy.ensures.others } in
    let met : IsMet c.in-Met.blocker.0 (copy c.args.literals.now c.args.starts.now c.watch_at-watch.result.clause) (copy c.look_at_copy.new.literals c.args.starts.now c.watch_at-watch.result.clause) (at c.args.trail.now.values.items) = rw (sym c.as_slice-2.ensures.value) c.in-Met.ensures.found in
    let lt : c.args.denied.0 < length (lists_of c.args.lists.now) = omega (arith, c.requires.list, length_lists c.args.lists.now) in
    rw c.set_watch.ensures (ahead_met c.args.starts.now c.args.literals.now c.look_at_copy.new.literals (lists_of c.args.lists.now) c.args.trail.now c.args.denied.0 c.args.i c.watch_at-watch.result (record { clause = c.watch_at-watch.result.clause; blocker = c.in-Met.blocker; start = c.watch_at-watch.result.start; end = c.watch_at-watch.result.end }) looked met refl refl refl lt)

pub returns-in_ok-move_watch-in-Moved-clause-grown : goal.returns-in_ok-move_watch-in-Moved-clause-grown
returns-in_ok-move_watch-in-Moved-clause-grown c = grown_none c.args.starts.now c.args.literals.now c.look_at_copy.new.literals (lists_of c.args.lists.now) c.args.trail.now c.args.trail.now c.requires.passing.watching (copies_next c.args.starts.now c.args.literals.now c.look_at_copy.new.literals c.watch_at-watch.result.clause c.in-Moved.ensures.found.order c.in-Moved.ensures.others) refl

pub returns-in_ok-move_watch-in-Moved-clause-step : goal.returns-in_ok-move_watch-in-Moved-clause-step
returns-in_ok-move_watch-in-Moved-clause-step c =
    let looked : IsLooked c.args.starts.now c.args.literals.now c.look_at_copy.new.literals (lists_of c.args.lists.now) c.args.trail.now c.args.denied.0 c.args.i c.watch_at-watch.result = record { passing = c.requires.passing; is = c.watch_at-watch.ensures.read; long = c.look_at_copy.auto.literals; others = c.look_at_copy.ensures.others } in
    let moved : IsMoved c.args.denied.0 c.in-Moved.to.0 c.in-Moved.blocker.0 (copy c.args.literals.now c.args.starts.now c.watch_at-watch.result.clause) (copy c.look_at_copy.new.literals c.args.starts.now c.watch_at-watch.result.clause) (at c.args.trail.now.values.items) = rw (sym c.as_slice-2.ensures.value) c.in-Moved.ensures.found in
    let lt : c.args.denied.0 < length (lists_of c.args.lists.now) = omega (arith, c.requires.list, length_lists c.args.lists.now) in
    let lt_to : c.in-Moved.to.0 < length (lists_of c.args.lists.now) = listed_below c.args.starts.now c.args.literals.now c.look_at_copy.new.literals (lists_of c.args.lists.now) c.args.trail.now c.args.denied.0 c.args.i c.in-Moved.to.0 c.watch_at-watch.result c.requires.passing c.watch_at-watch.ensures.read moved.order moved.member in
    rw c.in_ok-move_watch-in-Moved.ensures (ahead_moved c.args.starts.now c.args.literals.now c.look_at_copy.new.literals (lists_of c.args.lists.now) c.args.trail.now c.args.denied.0 c.args.i c.in-Moved.to.0 c.watch_at-watch.result (record { clause = c.watch_at-watch.result.clause; blocker = c.in-Moved.blocker; start = c.watch_at-watch.result.start; end = c.watch_at-watch.result.end }) looked moved refl refl refl lt lt_to (moved_apart c.args.starts.now c.args.literals.now (lists_of c.args.lists.now) c.args.trail.now c.args.denied.0 c.args.i c.in-Moved.to.0 c.requires.passing moved.free))

pub returns-in_ok-push-in-Forced-clause-grown : goal.returns-in_ok-push-in-Forced-clause-grown
returns-in_ok-push-in-Forced-clause-grown c =
    let looked : IsLooked c.args.starts.now c.args.literals.now c.look_at_copy.new.literals (lists_of c.args.lists.now) c.args.trail.now c.args.denied.0 c.args.i c.watch_at-watch.result = record { passing = c.requires.passing; is = c.watch_at-watch.ensures.read; long = c.look_at_copy.auto.literals; others = c.look_at_copy.ensures.others } in
    let last : IsLast c.in-Forced.literal.0 (copy c.args.literals.now c.args.starts.now c.watch_at-watch.result.clause) (copy c.look_at_copy.new.literals c.args.starts.now c.watch_at-watch.result.clause) (at c.args.trail.now.values.items) = rw (sym c.as_slice-2.ensures.value) c.in-Forced.ensures.found in
    grown_forced c.args.starts.now c.args.literals.now c.look_at_copy.new.literals (lists_of c.args.lists.now) c.args.trail.now c.push.new.self c.args.denied.0 c.args.i c.watch_at-watch.result c.in-Forced.literal looked last c.in_ok-push-in-Forced.ensures.literals c.in_ok-push-in-Forced.ensures.reasons c.in_ok-push-in-Forced.ensures.values c.push.ensures.starts

pub returns-in_ok-push-in-Forced-clause-step : goal.returns-in_ok-push-in-Forced-clause-step
returns-in_ok-push-in-Forced-clause-step c =
    let looked : IsLooked c.args.starts.now c.args.literals.now c.look_at_copy.new.literals (lists_of c.args.lists.now) c.args.trail.now c.args.denied.0 c.args.i c.watch_at-watch.result = record { passing = c.requires.passing; is = c.watch_at-watch.ensures.read; long = c.look_at_copy.auto.literals; others = c.look_at_copy.ensures.others } in
    let last : IsLast c.in-Forced.literal.0 (copy c.args.literals.now c.args.starts.now c.watch_at-watch.result.clause) (copy c.look_at_copy.new.literals c.args.starts.now c.watch_at-watch.result.clause) (at c.args.trail.now.values.items) = rw (sym c.as_slice-2.ensures.value) c.in-Forced.ensures.found in
    ahead_forced c.args.starts.now c.args.literals.now c.look_at_copy.new.literals (lists_of c.args.lists.now) c.args.trail.now c.push.new.self c.args.denied.0 c.args.i c.watch_at-watch.result c.in-Forced.literal looked last c.in_ok-push-in-Forced.ensures.literals c.in_ok-push-in-Forced.ensures.reasons c.in_ok-push-in-Forced.ensures.values c.push.ensures.starts c.push.ensures.done

pub returns-in-False-clause-grown : goal.returns-in-False-clause-grown
returns-in-False-clause-grown c = grown_none c.args.starts.now c.args.literals.now c.look_at_copy.new.literals (lists_of c.args.lists.now) c.args.trail.now c.args.trail.now c.requires.passing.watching (copies_next c.args.starts.now c.args.literals.now c.look_at_copy.new.literals c.watch_at-watch.result.clause c.in-False.ensures.found.facing.order c.in-False.ensures.others) refl

pub returns-in-False-clause-step : goal.returns-in-False-clause-step
returns-in-False-clause-step c =
    let looked : IsLooked c.args.starts.now c.args.literals.now c.look_at_copy.new.literals (lists_of c.args.lists.now) c.args.trail.now c.args.denied.0 c.args.i c.watch_at-watch.result = record { passing = c.requires.passing; is = c.watch_at-watch.ensures.read; long = c.look_at_copy.auto.literals; others = c.look_at_copy.ensures.others } in
    let lost : IsLost (copy c.args.literals.now c.args.starts.now c.watch_at-watch.result.clause) (copy c.look_at_copy.new.literals c.args.starts.now c.watch_at-watch.result.clause) (at c.args.trail.now.values.items) = rw (sym c.as_slice-2.ensures.value) c.in-False.ensures.found in
    stopped c.args.starts.now c.args.literals.now c.look_at_copy.new.literals (lists_of c.args.lists.now) c.args.trail.now c.args.denied.0 c.args.i c.watch_at-watch.result looked lost
