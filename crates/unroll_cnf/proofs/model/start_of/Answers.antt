use Rattle.std.proofs.Common.{◌∙◌}
use Rattle.lemma_checker.specs.Clauses.{assigned}
use Rattle.unroll_cnf.proofs.ModelLemmas.{first_read}
use Rattle.unroll_cnf.proofs.model.start_of.Goals as goal

pub returns : goal.returns
returns c =
    first_read c.args.circuit.now (assigned c.args.values.now) c.first_variable-first.result c.as_slice.result.now _
    c.first_variable-first.ensures.value (c.as_slice.ensures.value ∙ c.in_ok-places.ensures) c.in_ok-start.ensures
