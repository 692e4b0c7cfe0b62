use Rattle.std.proofs.Common.{◌≡◌, ◌-◌, ◌+◌, suc, arith, append_assoc}
use Rattle.bit_words.proofs.moves.repeat.Goals as goal

pub loop-time-preserved : goal.loop-time-preserved
loop-time-preserved c =
    let left : c.args.count - c.loop-time._time ≡ suc (c.args.count - (c.loop-time._time + 1)) = omega arith in
    rw (c.in_ok-extend_from_slice.ensures.items, append_assoc) (rw left at c.loop-time.invariant)
