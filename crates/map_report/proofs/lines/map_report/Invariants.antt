use Rattle.std.proofs.Common.{drop}
use Rattle.map_report.proofs.Reporting.{Completes}
use Rattle.map_report.proofs.lines.map_report.Given as goal

abbrev pub invariant-loop-field : goal.invariant-loop-field
invariant-loop-field l = Completes l.map.words.items l.map.fields.items (drop l.field-index l.map.fields.items) l.text.items
