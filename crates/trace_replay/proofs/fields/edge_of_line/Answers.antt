use Rattle.std.proofs.Common.{◌∙◌, ◌≡◌, ◌++◌, length, take, refl, sym, ap, append-nil, arith, codes}
use Rattle.std.proofs.lemmas.Bool.{eqb-true, eqb-false}
use Rattle.std.proofs.lemmas.List.{take_all, nil_from_length}
use Rattle.trace_replay.specs.declared.input.Input.TheVariants as input
use Rattle.trace_replay.specs.declared.input.TheConstants.{INPUTS}
use Rattle.trace_replay.specs.Inputs.{width_of}
use Rattle.trace_replay.specs.TraceText.{edge_line, fields_text}
use Rattle.trace_replay.proofs.FieldLemmas.{read-step, read-width, read-refuse, fields-over, inputs-read, widths-read}
use Rattle.trace_replay.proofs.fields.edge_of_line.Goals as goal

pub returns-in_default : goal.returns-in_default
unfolding edge_line
returns-in_default c = λ bits long is. c.in_default.ensures (fields_text INPUTS bits) (is ∙ ap (λ head. head ++ fields_text INPUTS bits) (sym c.as_slice.ensures))

pub returns-in_default-field : goal.returns-in_default-field
unfolding edge_line
returns-in_default-field c =
    read-refuse INPUTS c.loop-input.input-index input.ResetN c.width.result c.loop-input-test.true c.width.ensures
    (codes "edge") c.args.line.now c.loop-input.rest.now c.label.result.now c.loop-input.bits.items c.label.ensures c.loop-input.invariant.width c.loop-input.invariant.text
    c.in_default-field.ensures

pub loop-input-preserved : goal.loop-input-preserved
loop-input-preserved c = record {
  text = read-step INPUTS c.loop-input.input-index input.ResetN c.width.result c.loop-input-test.true c.width.ensures
      (codes "edge") c.args.line.now c.loop-input.rest.now c.in-Some-field.more.now c.in-Some-field.digits.now c.label.result.now c.loop-input.bits.items c.push_bits.new.bits.items
      c.label.ensures c.in-Some-field.ensures.0 c.in-Some-field.ensures.1 c.in-Some-field.ensures.2 c.in_ok-push_bits.ensures c.loop-input.invariant.width c.loop-input.invariant.text;
  width = read-width INPUTS c.loop-input.input-index input.ResetN c.width.result c.loop-input-test.true c.width.ensures
      c.in-Some-field.digits.now c.loop-input.bits.items c.push_bits.new.bits.items c.in-Some-field.ensures.1 c.in_ok-push_bits.ensures c.loop-input.invariant.width;
}

pub returns-then-is_empty : goal.returns-then-is_empty
unfolding edge_line
returns-then-is_empty c = (
  c.loop-input.invariant.width ∙ widths-read INPUTS c.loop-input.input-index c.loop-input-test.false,
  inputs-read (codes "edge") INPUTS c.loop-input.input-index c.args.line.now c.loop-input.rest.now c.loop-input.bits.items c.loop-input-test.false
      c.loop-input.invariant.text (eqb-true _ _ (sym c.is_empty.ensures ∙ c.if-is_empty.true)),
)

pub returns-else-is_empty : goal.returns-else-is_empty
unfolding edge_line
returns-else-is_empty c =
    let more = eqb-false (length c.loop-input.rest.now) 0 (sym c.is_empty.ensures ∙ c.if-is_empty.false) in
    fields-over (codes "edge") INPUTS c.args.line.now c.loop-input.rest.now c.loop-input.bits.items
    (c.loop-input.invariant.width ∙ widths-read INPUTS c.loop-input.input-index c.loop-input-test.false)
    (c.loop-input.invariant.text ∙ ap (λ is. codes "edge" ++ (fields_text is c.loop-input.bits.items ++ c.loop-input.rest.now)) (take_all c.loop-input.input-index INPUTS c.loop-input-test.false))
    (omega (arith, more))
