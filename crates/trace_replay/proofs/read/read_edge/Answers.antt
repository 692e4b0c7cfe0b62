use Rattle.std.proofs.Common.{sym, ◌∙◌, arith}
use Rattle.std.proofs.lemmas.Bool.{both_ways}
use Rattle.std.proofs.lemmas.Slice.Eq.{bytes_eq-Decides}
use Rattle.trace_replay.proofs.ReadLemmas.{read-over}
use Rattle.trace_replay.proofs.read.read_edge.Goals as goal

pub returns-else-is_at_end : goal.returns-else-is_at_end
returns-else-is_at_end c =
    rw c.wrong_line-else-is_at_end.ensures
    (read-over c.args.lines.now c.next_line.new.self c.in-Some.line.now c.args.edges _ c.in-Some.ensures.0 c.in-Some.ensures.1
    ((bytes_eq-Decides c.in-Some.line.now c.as_slice.result.now).0 (sym c.if-eq.ensures) ∙ c.as_slice.ensures)
    (λ same. both_ways c.is_at_end.result c.if-is_at_end.false (c.is_at_end.ensures.1 same)) (omega arith))
