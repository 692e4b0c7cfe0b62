use Rattle.std.proofs.Common.{◌≡◌, ◌+◌, ◌-◌, ◌*◌, ◌<◌, length, take, get_or, ap, ◌∙◌, arith}
use Rattle.std.proofs.lemmas.List.{take_more}
use Rattle.cert_text.specs.Numbers.{value_from}
use Rattle.cert_text.proofs.WordLemmas.{value_more}
use Rattle.cert_text.proofs.numbers.value_of.Goals as goal

pub loop-digit-preserved : goal.loop-digit-preserved
loop-digit-preserved c =
    let i = c.loop-digit.digit-index in
    let ds = c.args.digits.now in
    let lt : i < length ds = omega arith in
    let e : value_from 0 (take (i + 1) ds) ≡ 10 * value_from 0 (take i ds) + (get_or ds i 0 - 48) = ap (value_from 0) (take_more ds i 0 lt) ∙ value_more 0 (take i ds) (get_or ds i 0) in
    omega (arith, e, c.saturating_sub.ensures, c.from-last.ensures, c.saturating_mul.ensures, c.saturating_add-value.ensures, c.loop-digit.invariant)
