use Rattle.std.proofs.Common.{◌≡◌, ◌++◌, drop}
use Rattle.rdl_numbers.specs.Inputs.{inputs_from}
use Rattle.rdl_numbers.proofs.input.inputs_of.Given as goal

abbrev pub invariant-loop-at : goal.invariant-loop-at
invariant-loop-at l = l.out.items ++ inputs_from l.at (drop l.at l.fields) ≡ inputs_from 0 l.fields
