use Rattle.std.proofs.Common.{sym, ap, ◌∙◌}
use Rattle.trace_replay.specs.Joint.{first_difference}
use Rattle.prove_top.proofs.RefutedLemmas.{cut-legal}
use Rattle.prove_top.proofs.plan.run_report.Goals as goal

pub cut_trace-requires-clause-legal : goal.cut_trace-requires-clause-legal
cut_trace-requires-clause-legal c =
    cut-legal c.run_ends_there.ensures c.args.block.now c.args.seed _ _ c.in-Some.edge c.in-Some.difference c.in_ok-run.ensures.register c.in_ok-run.ensures.wires
    (ap (first_difference c.args.block.now _) (sym c.deref.ensures.value) ∙ sym c.in_ok-edge.ensures.first ∙ c.in-Some.is)
