use Rattle.std.proofs.Common.{◌≡◌, ◌+◌, drop}
use Rattle.std.specs.Option.{option_map}
use Rattle.rdl_map.specs.Given.{word_number}
use Rattle.rdl_map.proofs.field.word_number.Given as goal

abbrev pub invariant-loop-at : goal.invariant-loop-at
invariant-loop-at l = option_map (λ k. l.at + k) (word_number (drop l.at l.words) l.address) ≡ word_number l.words l.address
