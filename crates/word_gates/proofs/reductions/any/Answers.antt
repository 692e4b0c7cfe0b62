use Rattle.word_gates.proofs.WordLemmas.{shows_one}
use Rattle.std.proofs.Common.{List, ap, sym, ◌∙◌}
use Rattle.gate_graph.specs.declared.wires.Wire.{Wire}
use Rattle.word_gates.specs.Graphs.{one_made}
use Rattle.word_gates.proofs.reductions.any.Goals as goal

pub returns-clause-value : goal.returns-clause-value
returns-clause-value c = rw c.in_ok-wires.ensures (shows_one _ _ _ c.in_ok-wire.ensures.wire)

pub returns-clause-exact : goal.returns-clause-exact
returns-clause-exact c = ap one_made c.in_ok-wire.ensures.exact ∙ ap (λ (ws : List Wire). (ws, c.any_wire.new.graph)) (sym c.in_ok-wires.ensures)
