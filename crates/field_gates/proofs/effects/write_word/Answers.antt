use Rattle.std.proofs.Common.{false, true, arith}
use Rattle.field_gates.proofs.EffectLemmas.{copied_shows, constant_shows}
use Rattle.field_gates.proofs.effects.write_word.Goals as goal

pub returns-in-AsIs-clause-value : goal.returns-in-AsIs-clause-value
returns-in-AsIs-clause-value c = rw c.in-AsIs.is (copied_shows c.copied.result c.args.graph.now c.args.value.now c.args.payload.now c.copied.ensures c.requires.payload_of c.requires.lengths)

pub returns-in-Clear-clause-value : goal.returns-in-Clear-clause-value
returns-in-Clear-clause-value c = rw c.in-Clear.is (constant_shows c.constant.result c.args.graph.now c.args.value.now c.args.payload.now false _ c.constant.ensures.value (omega arith) c.requires.lengths)

pub returns-in-Set-clause-value : goal.returns-in-Set-clause-value
returns-in-Set-clause-value c = rw c.in-Set.is (constant_shows c.constant-in-Set.result c.args.graph.now c.args.value.now c.args.payload.now true _ c.constant-in-Set.ensures.value (omega arith) c.requires.lengths)
