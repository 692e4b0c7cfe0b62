use Rattle.std.proofs.Common.{rules, arith, ap, sym, ◌∙◌, subst}
use Rattle.std.proofs.lemmas.Grind.{common_steps}
use Rattle.parsing.proofs.Steps.{reads_ok, reads_refused, reads_sunk}
use Rattle.rdl_parse.proofs.Theorem.{at_list, never_sunk, reading_of, no_reading, first_fault}
use Rattle.rdl_parse.specs.Refusal.{IsFirstFault}
use Rattle.rdl_parse.proofs.reading.read.Goals as goal

pub unreachable-requires : goal.unreachable-requires
unreachable-requires c =
    never_sunk c.args.tokens.now
    (at_list c.args.tokens.now c.as_slice-list.result.now c.new-cursor.result _ c.as_slice-list.ensures c.new-cursor.ensures
    (reads_sunk _ c.whole.result c.whole.new.tokens c.in-Err-Sunk.field-0 c.whole.ensures c.in-Err-Sunk.is c.in-Err-Sunk.field-0-is))

pub returns-in-Ok-clause-reading : goal.returns-in-Ok-clause-reading
returns-in-Ok-clause-reading c =
    reading_of c.args.tokens.now c.in-Ok.items c.whole.new.tokens
    (at_list c.args.tokens.now c.as_slice-list.result.now c.new-cursor.result _ c.as_slice-list.ensures c.new-cursor.ensures
    (reads_ok _ c.whole.result c.whole.new.tokens c.in-Ok.items c.whole.ensures c.in-Ok.is))

pub returns-in-Err-Refused-clause-refused : goal.returns-in-Err-Refused-clause-refused
returns-in-Err-Refused-clause-refused c =
    let e = at_list c.args.tokens.now c.as_slice-list.result.now c.new-cursor.result _ c.as_slice-list.ensures c.new-cursor.ensures
    (reads_refused _ c.whole.result c.whole.new.tokens c.in-Err-Refused.field-0 c.whole.ensures c.in-Err-Refused.is c.in-Err-Refused.field-0-is) in
    (first_of (search rules, grind (arith, common_steps)), (no_reading c.args.tokens.now c.whole.new.tokens e, subst (IsFirstFault c.args.tokens.now) (sym c.place.ensures) (first_fault c.args.tokens.now c.whole.new.tokens e)))
