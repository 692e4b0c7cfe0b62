use Rattle.std.proofs.Common.{◌∙◌, sym, ap, codes, length, ◌++◌}
use Rattle.std.proofs.lemmas.Bool.{eqb-true}
use Rattle.trace_replay.proofs.FieldLemmas.{line-some, line-none}
use Rattle.trace_replay.proofs.DigitLemmas.{bits-length}
use Rattle.trace_replay.proofs.fields.start_of_line.Goals as goal

pub returns-in_default : goal.returns-in_default
returns-in_default c = line-none (codes "start v ") c.args.line.now 8 (rw c.as_slice.ensures at c.in_default.ensures)

pub returns : goal.returns
returns c =
    let digits = c.in-Some.digits.now in (
      ap length c.in_ok-bits_of_digits.ensures ∙ bits-length digits ∙ c.in-Some.ensures.1,
      line-some (codes "start v ") c.args.line.now digits c.in-Some.rest.now c.in_ok-bits_of_digits.field-0.items
          (c.in-Some.ensures.0 ∙ ap (λ name. name ++ (digits ++ c.in-Some.rest.now)) c.as_slice.ensures)
          (eqb-true _ _ (sym c.is_empty.ensures ∙ c.if-not-is_empty.false))
          c.in-Some.ensures.2 c.in_ok-bits_of_digits.ensures,
    )
