use Rattle.prove_top.proofs.AllowedLemmas.{puts-allowed, wanting-allowed}
use Rattle.prove_top.proofs.EndLemmas.{ends-answer, calls-run, calls-wanting}
use Rattle.prove_top.proofs.top.run.Goals as goal

pub returns-in-Ok-clause-answer : goal.returns-in-Ok-clause-answer
returns-in-Ok-clause-answer g c = ends-answer _ c.in-Ok.report c.args.words.now _ _ _ _ _ _ c.in-Ok.ensures.answer c.put_report.ensures.ends

pub returns-in-Ok-clause-calls : goal.returns-in-Ok-clause-calls
returns-in-Ok-clause-calls g c = calls-run _ _ c.args.words.now _ _ c.in-Ok.report _ _ _ _ _ c.in-Ok.ensures.calls c.in-Ok.ensures.answer c.in-Ok.ensures.command c.put_report.ensures.ends

pub returns-in-Err-clause-calls : goal.returns-in-Err-clause-calls
returns-in-Err-clause-calls g c =
    calls-wanting _ _ c.args.words.now _ _ _ _ _ _ _ _ c.in-Err.ensures.calls c.want_memory.ensures.status c.want_memory.ensures.written

pub returns-in-Ok-clause-allowed : goal.returns-in-Ok-clause-allowed
returns-in-Ok-clause-allowed g c = puts-allowed c.in-Ok.report c.args.words.now _ _ _ _ _ c.in-Ok.ensures.command c.put_report.ensures.ends

pub returns-in-Err-clause-allowed : goal.returns-in-Err-clause-allowed
returns-in-Err-clause-allowed g c = wanting-allowed c.args.words.now _ _ _ c.want_memory.ensures.status
