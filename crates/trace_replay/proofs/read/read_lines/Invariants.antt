use Rattle.std.proofs.Common.{◌≡◌, ◌<◌, ◌-◌, ◌++◌, ◌∷◌, [], length, vec_len}
use Rattle.trace_replay.specs.Lines.{lines_of}
use Rattle.trace_replay.specs.LegalTrace.{HasSizes}
use Rattle.trace_replay.specs.Trace.{lists_of}
use Rattle.trace_replay.proofs.ReadLemmas.{opening}
use Rattle.trace_replay.proofs.read.read_lines.Given as goal

-- the lines so far are the first ones of a trace with these edges
abbrev pub invariant-loop-edges : goal.invariant-loop-edges
invariant-loop-edges l = record {
  lines : lines_of l.bytes ≡ opening l.start.items (lists_of l.edges.items) ++ l.lines;
  some : 0 < length l.lines;
  sizes : HasSizes l.start.items (lists_of l.edges.items);
}

abbrev pub decreases-loop-edges : goal.decreases-loop-edges
decreases-loop-edges l = 65 - vec_len l.edges
