use Rattle.std.proofs.Common.{rules, arith, sym}
use Rattle.std.proofs.lemmas.Grind.{common_steps}
use Rattle.parsing.proofs.Steps.{reads_ok, reads_refused, reads_sunk}
use Rattle.vlog_parse.proofs.Theorem.{never_sunk, reading_of}
use Rattle.vlog_parse.proofs.Nesting.{source_reads, source_sinks}
use Rattle.vlog_parse.proofs.Cut.{at_levels, flat_of_read}
use Rattle.vlog_parse.proofs.Decided.{told}
use Rattle.vlog_parse.proofs.reading.read.Goals as goal

pub unreachable-requires : goal.unreachable-requires
unreachable-requires c =
    never_sunk c.args.tokens.now
    (source_sinks _ 2112 _
    (at_levels c.args.tokens.now.list c.as_slice-list.result.now c.new-cursor.result _ c.as_slice-list.ensures c.new-cursor.ensures
    (reads_sunk _ c.source.result c.source.new.tokens c.in-Err-Sunk.field-0 c.source.ensures c.in-Err-Sunk.is c.in-Err-Sunk.field-0-is)))

pub why_stopped-requires : goal.why_stopped-requires
why_stopped-requires c = (
  c.source.new.tokens,
  (
    at_levels c.args.tokens.now.list c.as_slice-list.result.now c.new-cursor.result _ c.as_slice-list.ensures c.new-cursor.ensures
        (reads_refused _ c.source.result c.source.new.tokens c.in-Err-Refused.field-0 c.source.ensures c.in-Err-Refused.is c.in-Err-Refused.field-0-is),
    sym c.len.ensures,
  ),
)

pub returns-in-Ok : goal.returns-in-Ok
returns-in-Ok c =
    let e = at_levels c.args.tokens.now.list c.as_slice-list.result.now c.new-cursor.result _ c.as_slice-list.ensures c.new-cursor.ensures
    (reads_ok _ c.source.result c.source.new.tokens c.in-Ok.modules c.source.ensures c.in-Ok.is) in (
      reading_of c.args.tokens.now c.in-Ok.modules c.source.new.tokens (source_reads _ 2112 _ _ _ e),
      (
        first_of (search rules, grind (arith, common_steps)),
        (first_of (search rules, grind (arith, common_steps)), flat_of_read c.args.tokens.now.list c.in-Ok.modules c.source.new.tokens e),
      ),
    )

pub returns-in-Err-Refused : goal.returns-in-Err-Refused
returns-in-Err-Refused c =
    told c.args.tokens.now c.why_stopped.result (first_of (search rules, grind (arith, common_steps))) (first_of (search rules, grind (arith, common_steps))) c.why_stopped.ensures
