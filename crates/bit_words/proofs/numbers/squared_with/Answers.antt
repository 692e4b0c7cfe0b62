use Rattle.std.proofs.Common.{◌*◌, ◌^◌}
use Rattle.std.proofs.lemmas.Nat.{mul-mod_first}
use Rattle.bit_words.proofs.numbers.squared_with.Goals as goal

pub returns-then-bit : goal.returns-then-bit
returns-then-bit c = rw c.if-bit.true (mul-mod_first (c.args.power * c.args.power) c.args.base (2 ^ 128))
