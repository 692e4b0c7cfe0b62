-- Words on one field and on the expressions of its properties.
use Rattle.std.specs.Prelude.{◌≡◌, ℕ, Bool, true, false, ◌==◌, List, [], Option, Some, None, nat_lt, IsTrue, slice_get}
use Rattle.std.specs.Option.{option_map_or}
use Rattle.field_policies.specs.declared.field.Field.{Field}
use Rattle.field_policies.specs.declared.signal.HwExpr.{HwExpr}
use Rattle.field_policies.specs.declared.signal.HwExpr.TheVariants.{Input, Value, Anded, Ored, Xored}
use Rattle.field_policies.specs.declared.signal.HwInput.{HwInput}
use Rattle.field_policies.specs.declared.signal.Gate.{Gate}
use Rattle.field_policies.specs.declared.extra.Extra.{Extra}
use Rattle.field_policies.specs.declared.extra.Extra.TheVariants.{Counter, Intr}

abbrev pub is_counter : Extra → Bool
is_counter (Counter c) = true
is_counter _ = false

abbrev pub is_intr : Extra → Bool
is_intr (Intr n) = true
is_intr _ = false

-- what counts a counter up, and down
abbrev pub incr_of : Extra → Option HwExpr
incr_of (Counter c) = c.incr
incr_of _ = None

abbrev pub decr_of : Extra → Option HwExpr
decr_of (Counter c) = c.decr
decr_of _ = None

-- what cuts the bits of an interrupt field
abbrev pub filter_of : Extra → Option Gate
filter_of (Intr n) = n.filter
filter_of _ = None

-- the register's interrupt fields, where the field is the first of them
abbrev pub members_of : Extra → List ℕ
members_of (Intr n) = n.members.items
members_of _ = []

-- the numbers that an expression names are below the number of fields and of inputs
abbrev pub is_in_range : ℕ → ℕ → HwExpr → Bool
is_in_range fields inputs (Input k) = nat_lt k inputs
is_in_range fields inputs (Value n) = nat_lt n fields
is_in_range fields inputs (Anded n) = nat_lt n fields
is_in_range fields inputs (Ored n) = nat_lt n fields
is_in_range fields inputs (Xored n) = nat_lt n fields

-- the bits of an expression: an input's, a field's, or one of a reduction (SystemRDL 2.0, clause 9)
abbrev pub expr_width : List Field → List HwInput → HwExpr → ℕ
expr_width fields inputs (Input k) = option_map_or (λ h. h.width) (slice_get inputs k) 0
expr_width fields inputs (Value n) = option_map_or (λ f. f.width) (slice_get fields n) 0
expr_width fields inputs (Anded n) = 1
expr_width fields inputs (Ored n) = 1
expr_width fields inputs (Xored n) = 1

abbrev pub has_width : List Field → List HwInput → ℕ → HwExpr → Bool
has_width fields inputs width e = expr_width fields inputs e == width

-- a test of each expression of a field: `one` of those of one bit, `all` of those with a bit for each of its own
pub record EachExpr (one all : HwExpr → Bool) (f : Field) : Type 0 where
  pub sw_gate : (g : Gate) → f.sw_gate ≡ Some g → IsTrue (one g.expr)
  pub data_gate : (g : Gate) → f.data_gate ≡ Some g → IsTrue (one g.expr)
  pub set : (e : HwExpr) → f.set ≡ Some e → IsTrue (one e)
  pub clear : (e : HwExpr) → f.clear ≡ Some e → IsTrue (one e)
  pub incr : (e : HwExpr) → incr_of f.extra ≡ Some e → IsTrue (one e)
  pub decr : (e : HwExpr) → decr_of f.extra ≡ Some e → IsTrue (one e)
  pub bit_gate : (g : Gate) → f.bit_gate ≡ Some g → IsTrue (all g.expr)
  pub filter : (g : Gate) → filter_of f.extra ≡ Some g → IsTrue (all g.expr)
