use Rattle.std.proofs.Common.{◌≡◌, ◌-◌, ◌^◌, min, take}
use Rattle.cert_text.specs.Numbers.{value_from}
use Rattle.cert_text.proofs.numbers.value_of.Given as goal

abbrev pub invariant-loop-digit : goal.invariant-loop-digit
invariant-loop-digit l = l.value ≡ min (value_from 0 (take l.digit-index l.digits)) (2 ^ 32 - 1)
