use Rattle.std.proofs.Common.{◌≡◌, drop}
use Rattle.vlog_design.specs.Clocks as spec
use Rattle.vlog_design.proofs.clock.first_reset.Given as goal

abbrev pub invariant-loop-item : goal.invariant-loop-item
invariant-loop-item l = spec.first_reset l.sources (drop l.item-index l.items) ≡ spec.first_reset l.sources l.items
