-- What a steady sink was given.
use Rattle.std.specs.Prelude.{ℕ, List}
use Rattle.tool_edge.specs.declared.steady_sink.SteadySink.{SteadySink}

-- the bytes so far
abbrev pub steady_bytes : SteadySink → List ℕ
steady_bytes sink = sink.bytes.items
