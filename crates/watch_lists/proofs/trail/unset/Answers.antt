use Rattle.std.proofs.Common.{arith, ◌-◌}
use Rattle.std.proofs.lemmas.Option.{slice_get-get_or}
use Rattle.watch_lists.proofs.Lists.{unset_same}
use Rattle.watch_lists.proofs.trail.unset.Goals as goal

pub loop-left-preserved : goal.loop-left-preserved
loop-left-preserved c = record {
  low = omega arith;
  high = omega arith;
  same = unset_same c.args.literals.now (c.loop-left.left - 1) c.loop-left.left (record { 0 = 0 }) _ _ (omega arith) (omega arith) c.requires.once (slice_get-get_or c.args.literals.now (c.loop-left.left - 1) (record { 0 = 0 }) (omega arith)) c.loop-left.invariant.same c.unmark.ensures.cleared c.unmark.ensures.others;
}
