-- The side of hardware of a field, by its kind: a plain field, a counter or an interrupt field (SystemRDL 2.0, clause 9,
-- hardware access, counter and interrupt properties).
use Rattle.std.specs.Prelude.{◌≡◌, ℕ, Bool, false, List}
use Rattle.field_policies.specs.declared.field.Field.{Field}
use Rattle.field_policies.specs.declared.extra.Extra.{Extra}
use Rattle.field_policies.specs.declared.extra.Extra.TheVariants as extra
use Rattle.gate_graph.specs.declared.wires.Wire.{Wire}
use Rattle.gate_graph.specs.declared.nodes.Node.{Node}
use Rattle.reg_machine.specs.Steps.{View}
use Rattle.reg_machine.specs.Machines.{overflow_of, underflow_of}
use Rattle.word_gates.specs.Graphs.{off}
use Rattle.extra_gates.specs.Graphs.{interrupt_made}
use Rattle.side_gates.specs.Sides.{Source, plain_active, plain_bits, counter_active, counter_bits, count_at, intr_active, intr_bits}
use Rattle.side_gates.specs.Graphs.{SourceWires, plain_made, counter_made}
use Rattle.side_gates.specs.Laws.{SeesSource, IsSide}

-- whether hardware is active, and the bits that it gives
abbrev pub kind_active : Extra → Source → Bool
kind_active extra.Plain s = plain_active s
kind_active (extra.Counter c) s = counter_active s
kind_active (extra.Intr n) s = intr_active n.sticky s

abbrev pub kind_bits : Extra → ℕ → Source → List Bool
kind_bits extra.Plain width s = plain_bits s
kind_bits (extra.Counter c) width s = counter_bits c width s
kind_bits (extra.Intr n) width s = intr_bits n.sticky width s

-- whether a counter passes its greatest value, and falls below 0
abbrev pub kind_over : Extra → ℕ → Source → Bool
kind_over extra.Plain width s = false
kind_over (extra.Counter c) width s = (count_at c width s).over
kind_over (extra.Intr n) width s = false

abbrev pub kind_under : Extra → ℕ → Source → Bool
kind_under extra.Plain width s = false
kind_under (extra.Counter c) width s = (count_at c width s).under
kind_under (extra.Intr n) width s = false

-- then it is the register machine's
pub record IsKind (w : View) (f : Field) (v : ℕ) (s : Source) : Type 0 where
  pub side : IsSide w f v (kind_active f.extra s) (kind_bits f.extra f.width s)
  pub over : kind_over f.extra f.width s ≡ overflow_of w f v f.extra
  pub under : kind_under f.extra f.width s ≡ underflow_of w f v f.extra

abbrev pub KindsAreMachines : Type 0
KindsAreMachines = (w : View) (f : Field) (v : ℕ) (s : Source) → SeesSource w f v s → IsKind w f v s

-- which graph it is
abbrev pub without_count : (Wire × List Wire) × List Node → (Wire × (List Wire × (Wire × Wire))) × List Node
without_count made = ((made.0.0, (made.0.1, (off, off))), made.1)

abbrev pub kind_made : Extra → List Node → SourceWires → List Wire → (Wire × (List Wire × (Wire × Wire))) × List Node
kind_made extra.Plain ns s value = without_count (plain_made ns s value)
kind_made (extra.Counter c) ns s value = counter_made c ns s value
kind_made (extra.Intr n) ns s value = without_count (interrupt_made n.sticky ns value s.given)
