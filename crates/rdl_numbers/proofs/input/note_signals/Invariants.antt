use Rattle.std.proofs.Common.{◌≡◌, ◌++◌, map, drop}
use Rattle.rdl_numbers.specs.Inputs.{input_of}
use Rattle.rdl_numbers.proofs.input.note_signals.Given as goal

abbrev pub invariant-loop-signal : goal.invariant-loop-signal
invariant-loop-signal l = l.out.items ++ map (input_of l.field l.width) (drop l.signal-index l.signals) ≡ l.fn.out.items ++ map (input_of l.field l.width) l.signals
