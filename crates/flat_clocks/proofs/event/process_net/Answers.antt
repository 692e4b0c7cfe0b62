use Rattle.std.proofs.Common.{◌∙◌}
use Rattle.flat_clocks.specs.Events as spec
use Rattle.flat_clocks.proofs.event.process_net.Goals as goal

pub returns : goal.returns
returns c before clocks resets =
    c.events_net.ensures ∙ (λ i. spec.events_net c.args.sources.now (c.item_roles.ensures i) (c.clock_offends-clock.ensures before clocks i) (c.reset_offends-reset.ensures before resets i) (c.item_events.ensures i))
