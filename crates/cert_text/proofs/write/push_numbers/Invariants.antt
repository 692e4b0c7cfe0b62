use Rattle.std.proofs.Common.{◌≡◌, ◌++◌, drop, map}
use Rattle.std.specs.Fmt.{decimal}
use Rattle.cert_text.specs.Text.{spaced}
use Rattle.cert_text.proofs.write.push_numbers.Given as goal

-- the text so far, and then the other numbers, are the whole
abbrev pub invariant-loop-number : goal.invariant-loop-number
invariant-loop-number l = l.text.items ++ spaced (map decimal (drop l.number-index l.numbers)) ≡ l.fn.text.items ++ spaced (map decimal l.numbers)
