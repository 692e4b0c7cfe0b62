use Rattle.std.proofs.Common.{Some, sym, ap, ◌∙◌}
use Rattle.prove_top.specs.declared.words.Task.TheVariants as tasks
use Rattle.prove_top.proofs.AllowedLemmas.{plan-may}
use Rattle.prove_top.proofs.PlanLemmas.{plan-answer}
use Rattle.prove_top.proofs.plan.plan.Goals as goal

pub returns-in-Some-Block-clause-answer : goal.returns-in-Some-Block-clause-answer
returns-in-Some-Block-clause-answer g c =
    plan-answer _ c.work_report.result c.args.words.now c.in-Some.command (tasks.Block c.in-Some-Block.task) (sym c.in_ok-command.ensures ∙ c.in-Some.is)
    (sym c.task_of-task.ensures ∙ c.in-Some-Block.is ∙ ap Some c.in-Some-Block.field-0-is) c.work_report.ensures.answer

pub returns-in-Some-Block-clause-command : goal.returns-in-Some-Block-clause-command
returns-in-Some-Block-clause-command g c =
    plan-may c.work_report.result c.args.words.now c.in-Some.command _ (sym c.in_ok-command.ensures ∙ c.in-Some.is)
    (sym c.task_of-task.ensures ∙ c.in-Some-Block.is ∙ ap Some c.in-Some-Block.field-0-is) c.work_report.ensures.command

pub returns-in-Some-Describe-clause-answer : goal.returns-in-Some-Describe-clause-answer
returns-in-Some-Describe-clause-answer g c =
    plan-answer _ c.describe_report.result c.args.words.now c.in-Some.command (tasks.Describe c.in-Some-Describe.rdl) (sym c.in_ok-command.ensures ∙ c.in-Some.is)
    (sym c.task_of-task.ensures ∙ c.in-Some-Describe.is ∙ ap Some c.in-Some-Describe.field-0-is) c.describe_report.ensures.answer

pub returns-in-Some-Describe-clause-command : goal.returns-in-Some-Describe-clause-command
returns-in-Some-Describe-clause-command g c =
    plan-may c.describe_report.result c.args.words.now c.in-Some.command _ (sym c.in_ok-command.ensures ∙ c.in-Some.is)
    (sym c.task_of-task.ensures ∙ c.in-Some-Describe.is ∙ ap Some c.in-Some-Describe.field-0-is) c.describe_report.ensures.command
