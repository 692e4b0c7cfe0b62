use Rattle.std.proofs.Common.{◌<◌, length, arith}
use Rattle.prove_top.specs.Gather.{contents}
use Rattle.prove_top.proofs.PlanLemmas.{sample-texts, replay-texts, file-text, task-files, trace-files}
use Rattle.prove_top.proofs.plan.texts_report.Goals as goal

pub returns-in-Sample-clause-report : goal.returns-in-Sample-clause-report
returns-in-Sample-clause-report c =
    let files = c.args.files.now in
    let three = task-files c.args.task.now c.in-Sample.seed c.in-Sample.is in
    let a : 0 < length files = omega (arith, c.requires, three) in
    let b : 1 < length files = omega (arith, c.requires, three) in
    let d : 2 < length files = omega (arith, c.requires, three) in
    sample-texts c.args.task.now (contents files) c.in-Sample.seed c.deref.result.now c.deref-in-Sample.result.now c.deref-in-Sample-2.result.now c.sample_report.result c.in-Sample.is
    (file-text files 0 c.index-files-0.result c.deref.result.now c.deref.ensures.value a c.index-files-0.is)
    (file-text files 1 c.index-files-1.result c.deref-in-Sample.result.now c.deref-in-Sample.ensures.value b c.index-files-1.is)
    (file-text files 2 c.index-files-2.result c.deref-in-Sample-2.result.now c.deref-in-Sample-2.ensures.value d c.index-files-2.is)
    c.sample_report.ensures.report

pub returns-in-Replay-clause-report : goal.returns-in-Replay-clause-report
returns-in-Replay-clause-report c =
    let files = c.args.files.now in
    let four = trace-files c.args.task.now c.in-Replay.trace c.in-Replay.is in
    let a : 0 < length files = omega (arith, c.requires, four) in
    let b : 1 < length files = omega (arith, c.requires, four) in
    let d : 2 < length files = omega (arith, c.requires, four) in
    let e : 3 < length files = omega (arith, c.requires, four) in
    replay-texts c.args.task.now (contents files) c.in-Replay.trace c.deref-in-Replay.result.now c.deref-in-Replay-2.result.now c.deref-in-Replay-3.result.now c.deref-in-Replay-4.result.now
    c.replay_answer.result c.in-Replay.is
    (file-text files 0 c.index-files-0-in-Replay.result c.deref-in-Replay.result.now c.deref-in-Replay.ensures.value a c.index-files-0-in-Replay.is)
    (file-text files 1 c.index-files-1-in-Replay.result c.deref-in-Replay-2.result.now c.deref-in-Replay-2.ensures.value b c.index-files-1-in-Replay.is)
    (file-text files 2 c.index-files-2-in-Replay.result c.deref-in-Replay-3.result.now c.deref-in-Replay-3.ensures.value d c.index-files-2-in-Replay.is)
    (file-text files 3 c.index-files-3.result c.deref-in-Replay-4.result.now c.deref-in-Replay-4.ensures.value e c.index-files-3.is)
    c.replay_answer.ensures.report
