use Rattle.std.proofs.lemmas.Option.{slice_get-get_or}
use Rattle.flat_checks.proofs.Pushing.{one_more}
use Rattle.flat_checks.proofs.cycle.nets_of.Goals as goal

pub loop-number-preserved : goal.loop-number-preserved
loop-number-preserved c =
    one_more c.args.items.now c.args.numbers.now c.loop-number.nets.items _ c.loop-number.number-index _ (slice_get-get_or c.args.numbers.now c.loop-number.number-index _ c.loop-number-test.true) c.requires c.loop-number.invariant c.in_ok-push_net.ensures
