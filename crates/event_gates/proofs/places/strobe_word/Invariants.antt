use Rattle.std.proofs.Common.{◌≡◌, ◌+◌, ◌/◌, map, get_or}
use Rattle.std.specs.List.{range_with_len}
use Rattle.word_gates.specs.Graphs.{off}
use Rattle.event_gates.proofs.places.strobe_word.Given as goal

abbrev pub invariant-loop-i : goal.invariant-loop-i
invariant-loop-i l = l.wires.items ≡ map (λ i. get_or l.strobe ((l.field.lsb + i) / 8) off) (range_with_len 0 l.i)
