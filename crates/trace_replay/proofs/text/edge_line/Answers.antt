use Rattle.std.proofs.Common.{refl}
use Rattle.trace_replay.specs.declared.input.Input.TheVariants as input
use Rattle.trace_replay.specs.declared.input.TheConstants.{INPUTS}
use Rattle.trace_replay.specs.TraceText.{edge_line}
use Rattle.trace_replay.proofs.FieldLemmas.{write-step, write-width}
use Rattle.trace_replay.proofs.text.edge_line.Goals as goal

pub loop-input-init : goal.loop-input-init
unfolding edge_line
loop-input-init c = record { text = rw (c.in_ok-extend_from_slice.ensures.items, c.new-line.ensures.items, c.as_slice.ensures) refl; width = c.requires }

pub loop-input-preserved : goal.loop-input-preserved
loop-input-preserved c = record {
  text = write-step INPUTS c.loop-input.input-index input.ResetN c.width.result c.loop-input-test.true c.width.ensures
      c.loop-input.line.items c.push_field.new.text.items c.label.result.now c.loop-input.rest.now c.split_at.result.0.now c.split_at.result.1.now _
      c.label.ensures c.split_at.ensures.front c.split_at.ensures.back c.in_ok-push_field.ensures c.loop-input.invariant.text;
  width = write-width INPUTS c.loop-input.input-index input.ResetN c.width.result c.loop-input-test.true c.width.ensures
      c.loop-input.rest.now c.split_at.result.1.now c.split_at.ensures.back c.loop-input.invariant.width;
}
