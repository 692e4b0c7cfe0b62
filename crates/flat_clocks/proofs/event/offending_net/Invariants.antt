use Rattle.std.proofs.Common.{◌≡◌, drop}
use Rattle.flat_clocks.specs.Events as spec
use Rattle.flat_clocks.proofs.event.offending_net.Given as goal

abbrev pub invariant-loop-event : goal.invariant-loop-event
invariant-loop-event l = spec.offending_net (spec.event_offends l.sources l.roles l.clock l.reset) (drop l.event-index l.events) ≡ spec.offending_net (spec.event_offends l.sources l.roles l.clock l.reset) l.events
