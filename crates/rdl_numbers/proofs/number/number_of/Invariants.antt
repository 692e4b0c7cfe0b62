use Rattle.std.proofs.Common.{◌≡◌, ◌+◌, drop}
use Rattle.std.specs.Option.{option_map}
use Rattle.rdl_numbers.specs.Numbers.{number_of}
use Rattle.rdl_numbers.proofs.number.number_of.Given as goal

abbrev pub invariant-loop-at : goal.invariant-loop-at
invariant-loop-at l = option_map (λ k. l.at + k) (number_of (drop l.at l.fields) l.path) ≡ number_of l.fields l.path
