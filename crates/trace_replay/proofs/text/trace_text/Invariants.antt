use Rattle.std.proofs.Common.{◌≡◌, ◌++◌, ◌∷◌, [], drop, map}
use Rattle.trace_replay.specs.Trace.{lists_of}
use Rattle.trace_replay.specs.TraceText.{edge_line, end_line, text_of_lines, trace_text}
use Rattle.trace_replay.proofs.text.trace_text.Given as goal

-- the lines so far, and then those of the other edges and the last one, are the text
abbrev pub invariant-loop-edge : goal.invariant-loop-edge
invariant-loop-edge l =
    l.text.items ++ text_of_lines (map edge_line (lists_of (drop l.edge-index l.trace.edges.items)) ++ end_line ∷ [])
    ≡ trace_text l.trace.start.items (lists_of l.trace.edges.items)
