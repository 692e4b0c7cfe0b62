use Rattle.std.proofs.Common.{◌≡◌, drop}
use Rattle.vlog_design.specs.Clocks as spec
use Rattle.vlog_design.proofs.clock.first_clock.Given as goal

abbrev pub invariant-loop-item : goal.invariant-loop-item
invariant-loop-item l = spec.first_clock l.sources (drop l.item-index l.items) ≡ spec.first_clock l.sources l.items
