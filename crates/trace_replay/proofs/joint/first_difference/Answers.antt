use Rattle.std.proofs.Common.{◌≡◌, ◌∙◌, ℕ, Option, ap, subst, sym}
use Rattle.trace_replay.specs.declared.joint.Difference.{Difference}
use Rattle.trace_replay.specs.Joint.{first_difference, first_from}
use Rattle.trace_replay.specs.Runs.{IsFirst}
use Rattle.trace_replay.proofs.JointRuns.{first_is_earliest}
use Rattle.trace_replay.proofs.joint.first_difference.Goals as goal

pub returns-clause-earliest : goal.returns-clause-earliest
returns-clause-earliest c = λ joint is begins.
    let found : first_difference c.args.block.now c.args.register c.args.run.now ≡ c.first_from.result = sym (c.first_from.ensures.first ∙ ap (λ s. first_from c.args.block.now s 0 c.args.run.now) c.in_ok-start.ensures) in
    subst (λ (o : Option (ℕ × Difference)). IsFirst c.args.block.now c.args.run.now joint o) found (first_is_earliest c.args.block.now c.args.run.now joint c.args.register is begins)
