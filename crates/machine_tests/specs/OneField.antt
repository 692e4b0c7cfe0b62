-- What makes a field a valid map by itself: the one field of a 32-bit word at address 0, with the
-- hardware inputs data, `we`, `hwset`, `hwclr`, `swwe`, `incr` and `decr`; `hwenable` is its data input.
use Rattle.std.specs.Prelude.{◌≡◌, ◌≢◌, ℕ, ◌^◌, ◌<◌, ◌≤◌, true, false, List, [], ◌∷◌, Option, Some, None, slice_get}
use Rattle.field_policies.specs.declared.field.Field.{Field}
use Rattle.field_policies.specs.declared.signal.HwInput.{HwInput}
use Rattle.field_policies.specs.declared.signal.InSignal.TheVariants as in_signal
use Rattle.field_policies.specs.declared.signal.Gate.{Gate}
use Rattle.field_policies.specs.declared.signal.HwExpr.{HwExpr}
use Rattle.field_policies.specs.declared.signal.HwExpr.TheVariants as expr
use Rattle.field_policies.specs.declared.extra.Extra.TheVariants as extra
use Rattle.field_policies.specs.declared.extra.Counter.{Counter}
use Rattle.field_policies.specs.FieldPath.{IsFieldPath}
use Rattle.field_policies.specs.Fields.{is_counter, is_intr, incr_of, decr_of, filter_of, members_of}

-- a gate, an expression, that names this input alone
abbrev pub GateIs : ℕ → Option Gate → Type 0
GateIs k o = (g : Gate) → o ≡ Some g → g.expr ≡ expr.Input k

abbrev pub ExprIs : ℕ → Option HwExpr → Type 0
ExprIs k o = (e : HwExpr) → o ≡ Some e → e ≡ expr.Input k

pub record StandsAlone (f : Field) : Type 0 where
  pub word : f.word ≡ 0
  pub lsb : f.lsb ≡ 0
  pub some : 1 ≤ f.width
  pub width : f.width ≤ 32
  pub stored : f.wire ≡ false
  pub fits : f.reset < 2 ^ f.width
  pub unknown : f.starts_known ≡ false → f.reset ≡ 0
  pub path : IsFieldPath f.path
  pub source : (k : ℕ) → f.data_in ≡ Some k → k ≡ 0
  pub data_gate : GateIs 1 f.data_gate
  pub set : ExprIs 2 f.set
  pub clear : ExprIs 3 f.clear
  pub bit_gate : GateIs 0 f.bit_gate
  pub sw_gate : GateIs 4 f.sw_gate
  pub incr : ExprIs 5 (incr_of f.extra)
  pub decr : ExprIs 6 (decr_of f.extra)
  pub filter : filter_of f.extra ≡ None
  pub up : (c : Counter) → f.extra ≡ extra.Counter c → c.up < 2 ^ f.width
  pub down : (c : Counter) → f.extra ≡ extra.Counter c → c.down < 2 ^ f.width
  pub counter_known : is_counter f.extra ≡ true → f.starts_known ≡ true
  pub intr_known : is_intr f.extra ≡ true → f.starts_known ≡ true
  pub intr_source : is_intr f.extra ≡ true → f.data_in ≢ None
  pub members : (i k : ℕ) → slice_get (members_of f.extra) i ≡ Some k → k ≡ 0
  pub rising : (i j a b : ℕ) → i < j → slice_get (members_of f.extra) i ≡ Some a → slice_get (members_of f.extra) j ≡ Some b → a < b
  pub member : (i k : ℕ) → slice_get (members_of f.extra) i ≡ Some k → is_intr f.extra ≡ true
  pub overflow : f.shown.overflow ≡ true → is_counter f.extra ≡ true
  pub underflow : f.shown.underflow ≡ true → is_counter f.extra ≡ true
  pub intr : f.shown.intr ≡ true → members_of f.extra ≢ []

-- its hardware inputs
abbrev pub inputs : ℕ → List HwInput
inputs w = record { field = 0; signal = in_signal.Data; width = w } ∷ record { field = 0; signal = in_signal.We; width = 1 } ∷ record { field = 0; signal = in_signal.HwSet; width = 1 }
    ∷ record { field = 0; signal = in_signal.HwClr; width = 1 } ∷ record { field = 0; signal = in_signal.SwWe; width = 1 }
    ∷ record { field = 0; signal = in_signal.Incr; width = 1 } ∷ record { field = 0; signal = in_signal.Decr; width = 1 } ∷ []
