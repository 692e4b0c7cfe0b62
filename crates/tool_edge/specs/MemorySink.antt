-- What a sink in memory was given, and which puts are to fail.
use Rattle.std.specs.Prelude.{ℕ, Bool, List}
use Rattle.tool_edge.specs.Failing.{is_due}
use Rattle.tool_edge.specs.declared.memory_sink.MemorySink.{MemorySink}

-- the bytes so far
abbrev pub sink_bytes : MemorySink → List ℕ
sink_bytes sink = sink.bytes.items

-- the numbers of the puts that are to fail
abbrev pub sink_failing : MemorySink → List ℕ
sink_failing sink = sink.failing.items

-- the number of the next put
abbrev pub sink_next : MemorySink → ℕ
sink_next sink = sink.next

-- how many puts have failed
abbrev pub sink_faults : MemorySink → ℕ
sink_faults sink = sink.faults

-- whether the next put is to fail
abbrev pub sink_next_fails : MemorySink → Bool
sink_next_fails sink = is_due (sink_failing sink) (sink_next sink)
