use Rattle.std.proofs.Common.{◌≤◌, length, arith, refl, ◌∙◌}
use Rattle.watch_lists.specs.Watching.{lists_of, list_at}
use Rattle.watch_lists.proofs.VisitLemmas.{grown_more, grown_none, same_copies, stopped_more, through}
use Rattle.watch_lists.proofs.visit.visit_list.Goals as goal

pub loop-i-preserved : goal.loop-i-preserved
loop-i-preserved c =
    let ahead = rw c.in-At.is at c.in_ok-next.ensures.step in
    record {
      passing = ahead.passing;
      grown = grown_more c.args.starts.now c.args.literals.now c.loop-i.literals c.visit_watch.new.literals c.args.trail.now c.loop-i.trail c.visit_watch.new.trail c.loop-i.invariant.passing.watching.plain.lengths c.loop-i.invariant.grown c.in_ok-next.ensures.grown;
      done = c.in_ok-next.ensures.done ∙ c.loop-i.invariant.done;
    }

pub returns-in-Conflict-clause-grown : goal.returns-in-Conflict-clause-grown
returns-in-Conflict-clause-grown c = grown_more c.args.starts.now c.args.literals.now c.loop-i.literals c.visit_watch.new.literals c.args.trail.now c.loop-i.trail c.visit_watch.new.trail c.loop-i.invariant.passing.watching.plain.lengths c.loop-i.invariant.grown c.in_ok-next.ensures.grown

pub returns-in-Conflict-clause-passed : goal.returns-in-Conflict-clause-passed
returns-in-Conflict-clause-passed c =
    let stop = rw c.in-Conflict.is at c.in_ok-next.ensures.step in
    stopped_more c.args.starts.now c.args.literals.now c.loop-i.literals c.visit_watch.new.literals (lists_of c.visit_watch.new.lists) c.args.trail.now c.loop-i.trail c.visit_watch.new.trail c.in-Conflict.number c.loop-i.invariant.grown stop

pub returns-clause-passed : goal.returns-clause-passed
returns-clause-passed c =
    let end : length (list_at (lists_of c.loop-i.lists) c.args.denied.0) ≤ c.loop-i.i = omega (arith, c.list_len.ensures, c.loop-i-test.false) in
    through c.args.starts.now c.loop-i.literals (lists_of c.loop-i.lists) c.loop-i.trail c.args.denied.0 c.loop-i.i end c.loop-i.invariant.passing

pub loop-i-init : goal.loop-i-init
loop-i-init c = record {
  passing = c.requires.passing;
  grown = grown_none c.args.starts.now c.args.literals.now c.args.literals.now (lists_of c.args.lists.now) c.args.trail.now c.args.trail.now c.requires.passing.watching (same_copies c.args.starts.now c.args.literals.now) refl;
  done = refl;
}
