use Rattle.std.proofs.Common.{Bool, List, ap, ◌∙◌}
use Rattle.lemma_checker.specs.Clauses.{assigned}
use Rattle.unroll_cnf.specs.Runs.{IsBaseRun, IsStepRun, IsKeepEdge}
use Rattle.unroll_cnf.specs.Meaning.{StandsFor, first_state, run_inputs}
use Rattle.unroll_cnf.proofs.ModelLemmas.{at_run, base_run_is, step_run_is, keep_run_is, has_sizes}
use Rattle.unroll_cnf.proofs.RunLemmas.{stands_for}
use Rattle.unroll_cnf.proofs.model.run_of.Goals as goal

pub returns-clause-run : goal.returns-clause-run
returns-clause-run c =
    at_run (StandsFor c.args.circuit.now (assigned c.args.model.now.values.items)) _ _ _ _
    (c.in_ok-found.ensures.start ∙ ap (λ (z : List Bool). first_state c.args.circuit.now (assigned z)) c.as_slice.ensures.value)
    (c.in_ok-found.ensures.inputs ∙ ap (λ (z : List Bool). run_inputs c.args.circuit.now (assigned z) c.args.edges) c.as_slice.ensures.value)
    (stands_for c.args.circuit.now (assigned c.args.model.now.values.items) c.args.edges)

pub returns-clause-sizes : goal.returns-clause-sizes
returns-clause-sizes c = has_sizes c.args.circuit.now (assigned c.as_slice.result.now) c.args.edges _ c.in_ok-found.ensures.start c.in_ok-found.ensures.inputs

pub returns-clause-base : goal.returns-clause-base
returns-clause-base c is =
    at_run (IsBaseRun c.args.circuit.now c.args.edges) _ _ _ _
    (c.in_ok-found.ensures.start ∙ ap (λ (z : List Bool). first_state c.args.circuit.now (assigned z)) c.as_slice.ensures.value)
    (c.in_ok-found.ensures.inputs ∙ ap (λ (z : List Bool). run_inputs c.args.circuit.now (assigned z) c.args.edges) c.as_slice.ensures.value)
    (base_run_is c.args.circuit.now (assigned c.args.model.now.values.items) c.args.edges c.args.model.now.formula.clauses c.requires.some is c.args.model.now.met)

pub returns-clause-step : goal.returns-clause-step
returns-clause-step c set k of edges is =
    at_run (IsStepRun c.args.circuit.now set k) _ _ _ _
    (c.in_ok-found.ensures.start ∙ ap (λ (z : List Bool). first_state c.args.circuit.now (assigned z)) c.as_slice.ensures.value)
    (c.in_ok-found.ensures.inputs ∙ ap (λ (z : List Bool). run_inputs c.args.circuit.now (assigned z) c.args.edges) c.as_slice.ensures.value)
    (step_run_is c.args.circuit.now (assigned c.args.model.now.values.items) c.args.edges c.args.model.now.formula.clauses set k of edges is c.args.model.now.met)

pub returns-clause-keep : goal.returns-clause-keep
returns-clause-keep c set of edges is =
    at_run (IsKeepEdge c.args.circuit.now set) _ _ _ _
    (c.in_ok-found.ensures.start ∙ ap (λ (z : List Bool). first_state c.args.circuit.now (assigned z)) c.as_slice.ensures.value)
    (c.in_ok-found.ensures.inputs ∙ ap (λ (z : List Bool). run_inputs c.args.circuit.now (assigned z) c.args.edges) c.as_slice.ensures.value)
    (keep_run_is c.args.circuit.now (assigned c.args.model.now.values.items) c.args.edges c.args.model.now.formula.clauses set of edges is c.args.model.now.met)
