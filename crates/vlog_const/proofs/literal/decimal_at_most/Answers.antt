use Rattle.std.proofs.Common.{ap, ◌∙◌, get_or, refl, ◌+◌, min, drop, arith}
use Rattle.vlog_const.specs.Literals.{decimal_from}
use Rattle.vlog_const.proofs.Decimals.{cut_step}
use Rattle.vlog_const.proofs.literal.decimal_at_most.Goals as goal

pub loop-b-preserved : goal.loop-b-preserved
loop-b-preserved c = (
  ap (λ n. min (decimal_from n (drop (c.loop-b.b-index + 1) c.args.digits.now)) 4096) c.more_at_most-number.ensures
      ∙ cut_step 4096 c.loop-b.number (get_or c.args.digits.now c.loop-b.b-index 0) c.loop-b.b-index c.args.digits.now c.loop-b-test.true refl ∙ c.loop-b.invariant.0,
  omega (arith, c.more_at_most-number.ensures),
)
