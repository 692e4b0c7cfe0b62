use Rattle.std.proofs.Common.{◌≡◌, ◌+◌, ◌-◌, drop, arith, ap, sym, ◌∙◌}
use Rattle.bit_base.specs.Numbers.{number_of}
use Rattle.bit_words.proofs.LogarithmLemmas.{log_above, log_at, none_true}
use Rattle.bit_words.proofs.numbers.ceiling_of_logarithm.Goals as goal

pub returns-then-is_any : goal.returns-then-is_any
returns-then-is_any c =
    let back : c.loop-i.i - 1 + 1 ≡ c.loop-i.i = omega arith in
    log_above c.args.a.now (c.loop-i.i - 1) (omega arith) c.if-a-i.true (ap (λ n. number_of (drop n c.args.a.now)) back ∙ c.loop-i.invariant) (sym c.is_any.ensures ∙ c.if-is_any.true)

pub returns-else-is_any : goal.returns-else-is_any
returns-else-is_any c =
    let back : c.loop-i.i - 1 + 1 ≡ c.loop-i.i = omega arith in
    log_at c.args.a.now (c.loop-i.i - 1) (omega arith) c.if-a-i.true (ap (λ n. number_of (drop n c.args.a.now)) back ∙ c.loop-i.invariant) (sym c.is_any.ensures ∙ c.if-is_any.false)

pub returns : goal.returns
returns c =
    let zero_left : c.loop-i.i ≡ 0 = omega arith in
    none_true c.args.a.now (ap (λ n. number_of (drop n c.args.a.now)) (sym zero_left) ∙ c.loop-i.invariant)
