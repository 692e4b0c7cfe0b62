use Rattle.std.proofs.Common.{◌≡◌, ◌∙◌, ap, refl, Err}
use Rattle.tool_edge.specs.Written.{after_put}
use Rattle.prove_top.specs.Report.{status_of, heading_of, trace_of, text_of}
use Rattle.prove_top.proofs.EndLemmas.{ends-second, ends-failed, ends-wanting}
use Rattle.prove_top.proofs.top.put_report.Goals as goal

pub returns-in-Ok-put-clause-ends : goal.returns-in-Ok-put-clause-ends
unfolding text_of
returns-in-Ok-put-clause-ends g c =
    let text : c.deref.result.now ≡ heading_of c.args.report.now = c.deref.ensures.value ∙ c.in-Ok.ensures in
    ends-second (status_of c.args.report.now) (heading_of c.args.report.now) (trace_of c.args.report.now) _ _ _ _ _ _ _
    (c.in-Ok-put.ensures.appended ∙ ap (after_put (g.S.Sink.written c.args.out.now)) text)
    c.in-Ok-put.ensures.cause.later c.put_trace.ensures.count c.put_trace.ensures.ends

pub returns-in-Err-Failed-clause-ends : goal.returns-in-Err-Failed-clause-ends
unfolding text_of
returns-in-Err-Failed-clause-ends g c =
    let text : c.deref.result.now ≡ heading_of c.args.report.now = c.deref.ensures.value ∙ c.in-Ok.ensures in
    ends-failed (status_of c.args.report.now) (heading_of c.args.report.now) (trace_of c.args.report.now) _ _ _ _ _ refl
    (c.in-Err-Failed.ensures.cause.rose (ap Err c.in-Err-Failed.field-0-is)) (rw text at c.in-Err-Failed.ensures.prefix_after_err)

pub returns-clause-ends : goal.returns-clause-ends
unfolding text_of
returns-clause-ends g c =
    let text : c.deref.result.now ≡ heading_of c.args.report.now = c.deref.ensures.value ∙ c.in-Ok.ensures in
    ends-wanting (status_of c.args.report.now) (heading_of c.args.report.now) (trace_of c.args.report.now) _ _ _ _ _ _
    c.want_memory-in-Err-NoMemory.ensures.status (rw text at c.in-Err-NoMemory.ensures.prefix_after_err) c.want_memory-in-Err-NoMemory.ensures.written
