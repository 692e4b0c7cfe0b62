use Rattle.std.proofs.Common.{refl}
use Rattle.std.proofs.lemmas.Result.{err_from_is_err_and}
use Rattle.prove_top.proofs.AllowedLemmas.{decided-may}
use Rattle.prove_top.proofs.StoreLemmas.{decided-answer, decided-calls, wanting-calls}
use Rattle.prove_top.proofs.top.decide.Goals as goal

pub returns-clause-answer : goal.returns-clause-answer
returns-clause-answer g c =
    decided-answer _ c.args.words.now c.in_ok-report.report _ _ _ _ _ c.in_ok-report.ensures.files c.in_ok-report.ensures.answer c.store_trace.ensures.step

pub returns-clause-calls : goal.returns-clause-calls
returns-clause-calls g c =
    decided-calls _ c.args.words.now c.in_ok-report.report _ _ _ _ _ c.in_ok-report.ensures.files c.in_ok-report.ensures.answer c.in_ok-report.ensures.calls
    c.store_trace.result _ refl c.store_trace.ensures.step

pub returns-in_err-report-clause-calls : goal.returns-in_err-report-clause-calls
returns-in_err-report-clause-calls g c =
    let p = err_from_is_err_and c.from_residual.result c.from_residual.ensures.1 in
    wanting-calls _ c.args.words.now _ p.0 _ _ _ _ p.1 c.in_err-report.ensures.files c.in_err-report.ensures.calls

pub returns-clause-command : goal.returns-clause-command
returns-clause-command g c = decided-may c.args.words.now c.in_ok-report.report _ _ _ _ _ c.in_ok-report.ensures.command c.store_trace.ensures.step
