use Rattle.std.proofs.Common.{◌≡◌, map}
use Rattle.lemma_checker.specs.Clauses.{assigned}
use Rattle.unroll_cnf.specs.Meaning.{run_inputs}
use Rattle.unroll_cnf.proofs.model.inputs_of.Given as goal

abbrev pub invariant-loop-t : goal.invariant-loop-t
invariant-loop-t l = map (λ x. x.items) l.list.items ≡ run_inputs l.circuit (assigned l.values) l.t
