use Rattle.field_gates.proofs.EffectLemmas.{repeated_shows}
use Rattle.field_gates.proofs.effects.constant.Goals as goal

pub returns-clause-value : goal.returns-clause-value
returns-clause-value c = repeated_shows c.repeated.result c.args.graph.now _ c.args.bit c.args.count c.repeated.ensures c.constant_wire-wire.ensures.wire
