use Rattle.std.proofs.Common.{ap, ◌∙◌}
use Rattle.std.proofs.lemmas.List.{get_or_read}
use Rattle.gate_graph.specs.declared.parts.Latch.{Latch}
use Rattle.unroll_cnf.specs.Queries.{signed, literal_at, no_latch, next_literal}
use Rattle.unroll_cnf.proofs.sets.after_literal.Goals as goal

pub returns-clause-value : goal.returns-clause-value
unfolding next_literal
returns-clause-value c =
    c.signed_literal.ensures.value
    ∙ ap (signed c.args.literal.negated)
    (c.wire_literal.ensures
    ∙ ap (λ (l : Latch). literal_at c.args.first l.next) (get_or_read c.args.circuit.now.latches.items c.args.literal.latch c.index-latch.result.now c.requires.of c.index-latch.ensures no_latch))
