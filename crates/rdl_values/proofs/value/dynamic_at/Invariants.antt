use Rattle.std.proofs.Common.{◌≡◌, drop}
use Rattle.rdl_values.specs.Values.{dynamic_at}
use Rattle.rdl_values.proofs.value.dynamic_at.Given as goal

abbrev pub invariant-loop-at : goal.invariant-loop-at
invariant-loop-at l = dynamic_at (drop l.at l.trail) l.property ≡ dynamic_at l.trail l.property
