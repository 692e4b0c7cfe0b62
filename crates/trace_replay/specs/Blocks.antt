-- A flat block beside the register map that it is held against (this project's own: a map of one word
-- of one byte, at address 0, with one field of eight bits; SystemRDL 2.0, clause 9, sw=rw and hw=r).
use Rattle.std.specs.Prelude.{◌≡◌, ℕ, true, false, List, [], ◌∷◌, None, IsTrue, length, codes}
use Rattle.field_policies.specs.declared.field.Field.{Field}
use Rattle.field_policies.specs.declared.signal.HwInput.{HwInput}
use Rattle.field_policies.specs.declared.signal.OutSignal.TheVariants as out
use Rattle.field_policies.specs.declared.policy.ReadEffect.TheVariants as read
use Rattle.field_policies.specs.declared.policy.WriteEffect.TheVariants as write
use Rattle.field_policies.specs.declared.extra.Extra.TheVariants as extra
use Rattle.field_policies.specs.Maps.{EachField}
use Rattle.reg_machine.specs.Machines.{is_shown}
use Rattle.trace_replay.specs.declared.expression.Expression.{Expression}

-- the bus words and the fields of the map, what drives PRDATA, and what the register takes at each
-- rising edge
pub record FlatBlock : Type 0 where
  pub bus_width : ℕ
  pub words : List ℕ
  pub fields : List Field
  pub read_data : Expression
  pub next : Expression

-- the one field of a map of the first form, with its reset value
abbrev pub first_field : ℕ → Field
first_field reset = record {
  path = codes "c.v";
  word = 0;
  lsb = 0;
  width = 8;
  wire = false;
  reset = reset;
  starts_known = true;
  readable = true;
  writable = true;
  once = false;
  read = read.Keep;
  write = write.AsIs;
  sw_gate = None;
  data_in = None;
  data_gate = None;
  set = None;
  clear = None;
  bit_gate = None;
  hw_first = false;
  pulse = false;
  extra = extra.Plain;
  shown = record { value = true; swmod = false; swacc = false; anded = false; ored = false; xored = false; overflow = false; underflow = false; intr = false };
}

-- the block with these drivers whose field has this reset value
abbrev pub first_block : ℕ → Expression → Expression → FlatBlock
first_block reset read_data next = record {
  bus_width = 8;
  words = 0 ∷ [];
  fields = first_field reset ∷ [];
  read_data = read_data;
  next = next;
}

-- a bus of one byte, no hardware input, and one field of eight bits that shows its value
pub record HasOneByte (bus_width : ℕ) (fields : List Field) (inputs : List HwInput) : Type 0 where
  pub bus : bus_width ≡ 8
  pub quiet : inputs ≡ []
  pub one : length fields ≡ 1
  pub wide : EachField fields (λ f. f.width ≡ 8)
  pub shown : IsTrue (is_shown fields 0 out.Value)
