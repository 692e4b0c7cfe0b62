-- What a field shows to hardware (SystemRDL 2.0, clause 9, hardware access properties, `swmod`, `swacc`, `anded`, `ored`, `xored`,
-- counter and interrupt properties), as wires.
use Rattle.std.specs.Prelude.{◌≡◌, ℕ, ◌+◌, Bool, if◌then◌else◌, List, [], ◌∷◌, ◌++◌, map, slice_get, Some}
use Rattle.std.specs.List.{filter}
use Rattle.std.specs.Option.{option_map_or}
use Rattle.std.specs.declared.vec.Vec.{Vec}
use Rattle.std.specs.declared.alloc.Global.{Global}
use Rattle.bit_base.specs.Numbers.{low_bits}
use Rattle.field_policies.specs.declared.field.Field.{Field}
use Rattle.field_policies.specs.declared.map.RegMap.{RegMap}
use Rattle.field_policies.specs.declared.signal.OutSignal.{OutSignal}
use Rattle.field_policies.specs.declared.signal.OutSignal.TheVariants as out
use Rattle.field_policies.specs.Expressions.{shows, value_of}
use Rattle.gate_graph.specs.declared.wires.Wire.{Wire}
use Rattle.gate_graph.specs.declared.nodes.Node.{Node}
use Rattle.gate_graph.specs.Gates.{AreOf, Means, Respects}
use Rattle.reg_machine.specs.Steps as machine
use Rattle.reg_machine.specs.Steps.{Edge}
use Rattle.reg_machine.specs.Machines.{field_output, output_width, overflow_of, underflow_of}
use Rattle.word_gates.specs.Graphs.{off, or_made, any_made, one_made, carried}
use Rattle.word_gates.specs.Words.{values, Shows}
use Rattle.expr_gates.specs.declared.view.FieldView.{FieldView}
use Rattle.field_edges.specs.declared.edge.EdgeGates.{EdgeGates}
use Rattle.field_edges.specs.Made.{ViewWires, EdgeWires}
use Rattle.field_gates.specs.Laws.{places}
use Rattle.raise_gates.specs.Raises.{SeesFields, intr_gates_of, intr_made}

-- the wires are what the edge e v sees where each node i has the value v i; k is the field's number, and u v its used flag there
pub record SeesOutputs (nodes : List Node) (map_of : RegMap) (k : ℕ) (f : Field) (reads : Wire) (edge : EdgeGates) (views : List FieldView) (hw : List (Vec Wire Global)) (e : (ℕ → Bool) → Edge) (u : (ℕ → Bool) → Bool) : Type 0 where
  pub fields_are : SeesFields nodes map_of views hw (λ v. (e v).view)
  pub reads_is : Means nodes reads (λ v. machine.reads (e v) f)
  pub enabled : Shows nodes edge.enabled.items (λ v. places f (machine.is_enabled (e v) f))
  pub software : Means nodes edge.step.software (λ v. machine.is_software_active (e v) f (u v))
  pub over : Means nodes edge.over (λ v. overflow_of (e v).view f (value_of (e v).view.values (e v).view.hw k f) f.extra)
  pub under : Means nodes edge.under (λ v. underflow_of (e v).view f (value_of (e v).view.values (e v).view.hw k f) f.extra)

-- the outputs of a field, in order, and those that it shows
abbrev pub signals : List OutSignal
signals = out.Value ∷ out.SwMod ∷ out.SwAcc ∷ out.Anded ∷ out.Ored ∷ out.Xored ∷ out.Overflow ∷ out.Underflow ∷ out.Intr ∷ []

abbrev pub shown_signals : Field → List OutSignal
shown_signals f = filter (shows f.shown) signals

-- the bits at an output of the field of this number, with this used flag
abbrev pub signal_bits : Edge → ℕ → Field → Bool → OutSignal → List Bool
signal_bits e k f u s = low_bits (output_width f s) (field_output e f (value_of e.view.values e.view.hw k f) u s)

abbrev pub shown_bits : Edge → ℕ → Field → Bool → List (List Bool)
shown_bits e k f u = map (signal_bits e k f u) (shown_signals f)

-- the lists of wires are of the graph, and have the values f under every assignment that respects the graph
pub record ShowsAll (nodes : List Node) (words : List (Vec Wire Global)) (f : (ℕ → Bool) → List (List Bool)) : Type 0 where
  pub of : (k : ℕ) (x : Vec Wire Global) → slice_get words k ≡ Some x → AreOf x.items nodes
  pub value : (v : ℕ → Bool) → Respects v nodes → map (λ x. values v x.items) words ≡ f v

-- how many gates an output may add, and how many all of a field
abbrev pub signal_gates : List Field → Field → OutSignal → ℕ
signal_gates fields f out.SwAcc = f.width + 1
signal_gates fields f out.Intr = intr_gates_of fields f
signal_gates fields f _ = 0

abbrev pub output_gates_of : List Field → Field → ℕ
output_gates_of fields f = f.width + 1 + intr_gates_of fields f

-- which graph each call builds, as a function of the nodes before
abbrev pub view_at : List ViewWires → ℕ → ViewWires
view_at views k = option_map_or (λ g. g) (slice_get views k) record { value = []; anded = off; ored = off; xored = off }

unfoldable pub accessed_made : Field → List Node → Wire → List Wire → Wire × List Node
accessed_made f ns reads enabled =
    let touched = any_made ns enabled in
    or_made touched.1 (if f.readable then reads else off) (if f.writable then touched.0 else off)

abbrev pub word_made : List Field → Field → Wire → EdgeWires → ViewWires → List ViewWires → List (List Wire) → List Node → OutSignal → List Wire × List Node
word_made fields f reads edge view views hw ns out.Value = (view.value, ns)
word_made fields f reads edge view views hw ns out.SwMod = (edge.software ∷ [], ns)
word_made fields f reads edge view views hw ns out.SwAcc = one_made (accessed_made f ns reads edge.enabled)
word_made fields f reads edge view views hw ns out.Anded = (view.anded ∷ [], ns)
word_made fields f reads edge view views hw ns out.Ored = (view.ored ∷ [], ns)
word_made fields f reads edge view views hw ns out.Xored = (view.xored ∷ [], ns)
word_made fields f reads edge view views hw ns out.Overflow = (edge.over ∷ [], ns)
word_made fields f reads edge view views hw ns out.Underflow = (edge.under ∷ [], ns)
word_made fields f reads edge view views hw ns out.Intr = one_made (intr_made fields views hw ns f)

-- a list of wires behind the others, for an output that is shown
abbrev pub after_made : List (List Wire) → List Wire × List Node → List (List Wire) × List Node
after_made words made = (words ++ made.0 ∷ [], made.1)

abbrev pub shown_step_made : List Field → Field → Wire → EdgeWires → ViewWires → List ViewWires → List (List Wire) → List Node → List (List Wire) → OutSignal → List (List Wire) × List Node
shown_step_made fields f reads edge view views hw ns words s = if shows f.shown s then after_made words (word_made fields f reads edge view views hw ns s) else (words, ns)

unfoldable pub outputs_made : List Field → Field → Wire → EdgeWires → ViewWires → List ViewWires → List (List Wire) → List Node → List (List Wire) × List Node
outputs_made fields f reads edge view views hw ns = carried (shown_step_made fields f reads edge view views hw) ns [] signals
