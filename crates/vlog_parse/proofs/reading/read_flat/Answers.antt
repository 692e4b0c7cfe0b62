use Rattle.std.proofs.Common.{Err, refl, sym, subst}
use Rattle.parsing.proofs.Steps.{reads_ok, reads_refused, reads_sunk}
use Rattle.vlog_parse.specs.Refusal.{IsFirstFault}
use Rattle.vlog_parse.specs.Cut.{Tells}
use Rattle.vlog_parse.proofs.Theorem.{never_sunk, reading_of, no_reading, first_fault}
use Rattle.vlog_parse.proofs.Cut.{at_whole}
use Rattle.vlog_parse.proofs.reading.read_flat.Goals as goal

pub unreachable-requires : goal.unreachable-requires
unreachable-requires c =
    never_sunk c.args.tokens.now
    (at_whole c.args.tokens.now.list c.as_slice-list.result.now c.new-cursor.result _ c.as_slice-list.ensures c.new-cursor.ensures
    (reads_sunk _ c.source.result c.source.new.tokens c.in-Err-Sunk.field-0 c.source.ensures c.in-Err-Sunk.is c.in-Err-Sunk.field-0-is))

pub returns-in-Ok : goal.returns-in-Ok
returns-in-Ok c = (
  reading_of c.args.tokens.now c.in-Ok.all c.source.new.tokens
      (at_whole c.args.tokens.now.list c.as_slice-list.result.now c.new-cursor.result _ c.as_slice-list.ensures c.new-cursor.ensures
      (reads_ok _ c.source.result c.source.new.tokens c.in-Ok.all c.source.ensures c.in-Ok.is)),
  c.requires,
)

pub returns-in-Err-Refused : goal.returns-in-Err-Refused
returns-in-Err-Refused c =
    let e = at_whole c.args.tokens.now.list c.as_slice-list.result.now c.new-cursor.result _ c.as_slice-list.ensures c.new-cursor.ensures
    (reads_refused _ c.source.result c.source.new.tokens c.in-Err-Refused.field-0 c.source.ensures c.in-Err-Refused.is c.in-Err-Refused.field-0-is) in
    subst (λ fault. Tells c.args.tokens.now (Err fault)) (sym c.fault_at.ensures) (
      (c.requires, (no_reading c.args.tokens.now c.source.new.tokens e, subst (IsFirstFault c.args.tokens.now) (sym c.place-place.ensures) (first_fault c.args.tokens.now c.source.new.tokens e))),
      (refl, refl),
    )
