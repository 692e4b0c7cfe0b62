use Rattle.std.proofs.Common.{◌∙◌}
use Rattle.lemma_checker.specs.Clauses.{assigned}
use Rattle.unroll_cnf.proofs.ModelLemmas.{inputs_pushed}
use Rattle.unroll_cnf.proofs.model.inputs_of.Goals as goal

pub loop-t-preserved : goal.loop-t-preserved
loop-t-preserved c =
    inputs_pushed (λ x. x.items) c.args.circuit.now (assigned c.args.values.now) c.loop-t.t c.first_variable-first.result c.as_slice.result.now c.loop-t.list.items _ _
    c.in_ok-push.ensures.items c.loop-t.invariant c.first_variable-first.ensures.value (c.as_slice.ensures.value ∙ c.in_ok-places.ensures) c.in_ok-inputs.ensures
