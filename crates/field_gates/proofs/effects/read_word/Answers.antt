use Rattle.std.proofs.Common.{false, true, arith}
use Rattle.field_gates.proofs.EffectLemmas.{kept_shows, filled_shows}
use Rattle.field_gates.proofs.effects.read_word.Goals as goal

pub returns-in-Keep-clause-value : goal.returns-in-Keep-clause-value
returns-in-Keep-clause-value c = rw c.in-Keep.is (kept_shows c.copied.result c.args.graph.now c.args.value.now c.copied.ensures c.requires)

pub returns-in-Clear-clause-value : goal.returns-in-Clear-clause-value
returns-in-Clear-clause-value c = rw c.in-Clear.is (filled_shows c.constant.result c.args.graph.now c.args.value.now false _ c.constant.ensures.value (omega arith))

pub returns-in-Set-clause-value : goal.returns-in-Set-clause-value
returns-in-Set-clause-value c = rw c.in-Set.is (filled_shows c.constant-in-Set.result c.args.graph.now c.args.value.now true _ c.constant-in-Set.ensures.value (omega arith))
