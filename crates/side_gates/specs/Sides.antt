-- The side of hardware by bits: what the register machine's hardware makes of a field, over what gates see of an edge
-- (SystemRDL 2.0, clause 9, hardware access, counter and interrupt properties). Lists have one bit for each place of the
-- field, least first.
use Rattle.std.specs.Prelude.{ℕ, ◌<◌, ◌^◌, Bool, not, ◌&&◌, ◌||◌, if◌then◌else◌, List, map, unwrap_or}
use Rattle.bit_base.specs.Numbers.{number_of, low_bits}
use Rattle.field_policies.specs.declared.extra.Counter.{Counter}
use Rattle.field_extras.specs.declared.counter.Counted.{Counted}
use Rattle.field_extras.specs.Counters.{counted}
use Rattle.field_extras.specs.Interrupts.{is_active, interrupt_result}
use Rattle.gate_graph.specs.declared.wires.Wire.{Wire}
use Rattle.gate_graph.specs.Gates.{wire_value}
use Rattle.word_gates.specs.Words.{values}
use Rattle.side_gates.specs.declared.source.SourceGates.{SourceGates}

-- what hardware looks at
pub record Source : Type 0 where
  -- the data is taken, `hwset`, `hwclr`
  pub taken : Bool
  pub set : Bool
  pub clear : Bool
  -- a counter counts up, and down
  pub incr : Bool
  pub decr : Bool
  -- the data, and the field's bits before the edge
  pub given : List Bool
  pub value : List Bool

-- ones where `hwset` is 1, then 0 where `hwclr` is 1
abbrev pub forced_bits : Bool → Bool → List Bool → List Bool
forced_bits set clear bits = map (λ x. x && not clear) (map (λ x. x || set) bits)

-- a plain field
abbrev pub plain_active : Source → Bool
plain_active s = s.taken || (s.set || s.clear)

abbrev pub plain_bits : Source → List Bool
plain_bits s = forced_bits s.set s.clear (if s.taken then s.given else s.value)

-- a counter of these bits
abbrev pub count_at : Counter → ℕ → Source → Counted
count_at c width s = counted c width (number_of s.value) s.incr s.decr

abbrev pub counter_active : Source → Bool
counter_active s = s.incr || (s.decr || (s.set || s.clear))

abbrev pub counter_bits : Counter → ℕ → Source → List Bool
counter_bits c width s = forced_bits s.set s.clear (low_bits width (count_at c width s).value)

-- an interrupt field: `hwset` and `hwclr` have no part in it
abbrev pub intr_active : Bool → Source → Bool
intr_active sticky s = is_active sticky (number_of s.value) (number_of s.given)

abbrev pub intr_bits : Bool → ℕ → Source → List Bool
intr_bits sticky width s = low_bits width (unwrap_or (interrupt_result sticky (number_of s.value) (number_of s.given)) (number_of s.value))

-- what is seen where each node i has the value v i
abbrev pub source_at : (ℕ → Bool) → SourceGates → List Wire → Source
source_at v s value = record {
  taken = wire_value v s.taken;
  set = wire_value v s.set;
  clear = wire_value v s.clear;
  incr = wire_value v s.incr;
  decr = wire_value v s.decr;
  given = values v s.given.items;
  value = values v value;
}

-- each step of a counter fits its width
pub record FitsCounter (c : Counter) (width : ℕ) : Type 0 where
  pub up : c.up < 2 ^ width
  pub down : c.down < 2 ^ width
