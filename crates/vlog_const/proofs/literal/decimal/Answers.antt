use Rattle.std.proofs.Common.{ap, ◌∙◌, get_or, refl, ◌+◌, ◌%◌, ◌^◌, drop}
use Rattle.vlog_const.specs.Literals.{decimal_from}
use Rattle.vlog_const.proofs.Decimals.{decimal_step}
use Rattle.vlog_const.proofs.literal.decimal.Goals as goal

pub loop-b-preserved : goal.loop-b-preserved
loop-b-preserved c = (
  ap (λ n. decimal_from n (drop (c.loop-b.b-index + 1) c.args.digits.now) % 2 ^ 128) c.one_more-number.ensures
      ∙ decimal_step (2 ^ 128) c.loop-b.number (get_or c.args.digits.now c.loop-b.b-index 0) c.loop-b.b-index c.args.digits.now c.loop-b-test.true refl ∙ c.loop-b.invariant.0,
  c.one_more-number.type_inv,
)
