use Rattle.std.proofs.Common.{length, refl, sym}
use Rattle.std.proofs.lemmas.List.{length-map}
use Rattle.trace_replay.specs.Trace.{lists_of, trace_difference}
use Rattle.prove_top.specs.Answer.{trace_report, wrong_report}
use Rattle.prove_top.proofs.PlanLemmas.{as-replays, legal-replays, wrong-replays}
use Rattle.prove_top.proofs.plan.replay_report.Goals as goal

pub returns-in-Ok-clause-report : goal.returns-in-Ok-clause-report
returns-in-Ok-clause-report c =
    let start = c.in-Ok.trace.start.items in
    let edges = lists_of c.in-Ok.trace.edges.items in
    let read = (c.in-Ok.ensures.accepts start edges).0 (refl, refl) in
    as-replays c.args.block.now c.args.name.now c.args.text.now (trace_report (length c.in-Ok.trace.edges.items) (trace_difference c.args.block.now start edges)) c.trace_report.result
    (legal-replays c.args.block.now c.args.name.now c.args.text.now start edges (length c.in-Ok.trace.edges.items) read.0 read.1 read.2 (sym (length-map c.in-Ok.trace.edges.items (λ v. v.items))))
    c.trace_report.ensures.report

pub returns-in-Err-At-clause-report : goal.returns-in-Err-At-clause-report
returns-in-Err-At-clause-report c =
    let a = rw c.in-Err-At.field-0-is at c.in-Err-At.ensures.trace_size in
    let b = rw c.in-Err-At.field-0-is at c.in-Err-At.ensures.trace_line in
    let d = rw c.in-Err-At.field-0-is at c.in-Err-At.ensures.trace_name in
    let e = rw c.in-Err-At.field-0-is at c.in-Err-At.ensures.trace_illegal in
    as-replays c.args.block.now c.args.name.now c.args.text.now (wrong_report c.args.name.now c.in-Err-At.code c.in-Err-At.line) c.wrong_report.result
    (wrong-replays c.args.block.now c.args.name.now c.args.text.now c.in-Err-At.code c.in-Err-At.line (λ n. (a n).0) (λ n. (b n).0) (λ n. (d n).0) (λ n. (e n).0))
    c.wrong_report.ensures.report
