use Rattle.std.proofs.Common.{arith}
use Rattle.gate_graph.specs.Gates.{wire_value}
use Rattle.word_gates.proofs.WordLemmas.{shows_same}
use Rattle.event_gates.proofs.PlaceLemmas.{strobes_are_of, strobes_shown}
use Rattle.event_gates.proofs.places.enabled_word.Goals as goal

pub returns-clause-value : goal.returns-clause-value
returns-clause-value c = shows_same _ _ _ _ c.in_ok-wires.ensures.value (λ v r.
    rw (c.as_slice.ensures.value, c.in_ok-strobes.ensures.exact) (strobes_shown v c.args.field.now c.args.strobe.now (wire_value v c.args.writes) c.requires.inside))

pub masked-requires-clause-a_of : goal.masked-requires-clause-a_of
masked-requires-clause-a_of c = rw (c.as_slice.ensures.value, c.in_ok-strobes.ensures.exact) (strobes_are_of _ c.args.field.now c.args.strobe.now c.requires.inside c.requires.strobe_of)
