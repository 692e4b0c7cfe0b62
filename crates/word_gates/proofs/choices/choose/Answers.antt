use Rattle.std.proofs.Common.{arith, refl}
use Rattle.gate_graph.proofs.GateLemmas.{respects_old, extends_more}
use Rattle.word_gates.proofs.WordLemmas.{shows_same}
use Rattle.std.proofs.Common.{List, ap, ◌∙◌}
use Rattle.gate_graph.specs.declared.nodes.Node.{Node}
use Rattle.gate_graph.specs.declared.wires.Wire.{Wire}
use Rattle.word_gates.specs.Graphs.{between_made, chosen_made}
use Rattle.word_gates.proofs.choices.choose.Goals as goal

pub returns-clause-nodes : goal.returns-clause-nodes
returns-clause-nodes c = extends_more _ _ _ _ _ _ c.any_wire.ensures.nodes c.between.ensures.nodes (omega arith)

pub returns-clause-value : goal.returns-clause-value
returns-clause-value c = shows_same _ _ _ _ c.in_ok-wires.ensures.value (λ v r. rw (c.in_ok-condition.ensures.wire.value v (respects_old v _ _ _ c.between.ensures.nodes r)) refl)

pub returns-clause-exact : goal.returns-clause-exact
unfolding chosen_made
returns-clause-exact c = ap (λ (r : Wire × List Node). between_made r.1 c.args.a.now c.args.b.now r.0) c.in_ok-condition.ensures.exact ∙ c.in_ok-wires.ensures.exact
