use Rattle.std.proofs.Common.{[], ◌∙◌}
use Rattle.std.proofs.lemmas.Result.{err_from_is_err_and}
use Rattle.cert_text.proofs.ReadLemmas.{keep_closed}
use Rattle.cert_text.proofs.check.read_keep.Goals as goal

pub returns-in_err-keep-clause-reads : goal.returns-in_err-keep-clause-reads
returns-in_err-keep-clause-reads c =
    let p = err_from_is_err_and c.from_residual-in_err-keep.result c.from_residual-in_err-keep.ensures.1 in
    rw (p.1, p.2) (c.in_err-keep.ensures.reads c.args.circuit.now c.args.k c.args.set.now [] c.in_ok-query.ensures.query (c.as_slice.ensures.value ∙ c.in_ok-due.ensures))

pub returns-clause-reads : goal.returns-clause-reads
returns-clause-reads c = keep_closed _ _ _ _ _ _ _ _ _ (c.in_ok-keep.ensures.reads c.args.circuit.now c.args.k c.args.set.now [] c.in_ok-query.ensures.query (c.as_slice.ensures.value ∙ c.in_ok-due.ensures))
