use Rattle.std.proofs.lemmas.Result.{err_from_is_err_and}
use Rattle.cert_text.proofs.ReadLemmas.{step_closed, step_query_is, step_due_is}
use Rattle.cert_text.proofs.check.read_step.Goals as goal

pub returns-in_err-step-clause-reads : goal.returns-in_err-step-clause-reads
returns-in_err-step-clause-reads c =
    let p = err_from_is_err_and c.from_residual-in_err-step.result c.from_residual-in_err-step.ensures.1 in
    rw (p.1, p.2) (λ done long. c.in_err-step.ensures.reads c.args.circuit.now c.args.k c.args.set.now done (step_query_is c.args.circuit.now c.args.k c.args.set.now done _ long c.in_ok-query.ensures.query) (step_due_is c.args.k done _ _ long c.as_slice.ensures.value c.in_ok-due.ensures))

pub returns-clause-reads : goal.returns-clause-reads
returns-clause-reads c = λ done long. step_closed _ _ _ _ _ _ _ _ _ _ long (c.in_ok-step.ensures.reads c.args.circuit.now c.args.k c.args.set.now done (step_query_is c.args.circuit.now c.args.k c.args.set.now done _ long c.in_ok-query.ensures.query) (step_due_is c.args.k done _ _ long c.as_slice.ensures.value c.in_ok-due.ensures))
