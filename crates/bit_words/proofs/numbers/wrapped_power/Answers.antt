use Rattle.std.proofs.Common.{◌∙◌, drop, ap, ◌^◌, ◌%◌, ◌-◌, sym, get_or, false}
use Rattle.bit_base.specs.Numbers.{number_of}
use Rattle.bit_base.proofs.Numbers.{number_of-drop_below}
use Rattle.bit_words.proofs.Remainders.{power_step}
use Rattle.bit_words.proofs.numbers.wrapped_power.Goals as goal

pub loop-i-preserved : goal.loop-i-preserved
loop-i-preserved c =
    c.squared_with-power.ensures
    ∙ power_step (get_or c.args.exponent.now (c.loop-i.i - 1) false) c.args.base (number_of (drop c.loop-i.i c.args.exponent.now)) c.loop-i.power (2 ^ 128) c.loop-i.invariant
    ∙ ap (λ n. c.args.base ^ n % 2 ^ 128) (sym (number_of-drop_below c.loop-i.i c.args.exponent.now c.loop-i-test.true c.loop-i.auto.i))
