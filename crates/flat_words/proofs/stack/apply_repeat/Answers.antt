use Rattle.std.proofs.Common.{◌≡◌, ◌-◌, ◌+◌, suc, arith, append_assoc}
use Rattle.flat_words.proofs.stack.apply_repeat.Goals as goal

pub loop-time-preserved : goal.loop-time-preserved
loop-time-preserved c =
    let left : c.args.count - c.loop-time._time ≡ suc (c.args.count - (c.loop-time._time + 1)) = omega arith in
    rw (c.in_ok-extend_from_slice-2.ensures.items, c.as_slice.ensures.value, append_assoc) (rw left at c.loop-time.invariant)
