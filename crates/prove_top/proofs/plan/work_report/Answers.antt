use Rattle.prove_top.specs.Gather.{contents}
use Rattle.prove_top.proofs.AllowedLemmas.{texts-may}
use Rattle.prove_top.proofs.plan.work_report.Goals as goal

pub returns-in-Ok-clause-command : goal.returns-in-Ok-clause-command
returns-in-Ok-clause-command g c = texts-may c.args.task.now (contents c.deref-in-Ok.result.now) c.texts_report.result c.texts_report.ensures.report
