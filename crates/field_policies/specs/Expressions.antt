-- What hardware gives to a field's properties, and what fields show (SystemRDL 2.0, clause 9,
-- hardware access properties, references and the reductions `anded`, `ored`, `xored`).
use Rattle.std.specs.Prelude.{ℕ, Bool, true, false, not, List, Option, Some, None, if◌then◌else◌, slice_get, slice_index}
use Rattle.std.specs.Option.{option_map_or}
use Rattle.field_policies.specs.declared.field.Field.{Field}
use Rattle.field_policies.specs.declared.signal.HwExpr.{HwExpr}
use Rattle.field_policies.specs.declared.signal.HwExpr.TheVariants as expr
use Rattle.field_policies.specs.declared.signal.Gate.{Gate}
use Rattle.field_policies.specs.declared.signal.Shown.{Shown}
use Rattle.field_policies.specs.declared.signal.OutSignal.{OutSignal}
use Rattle.field_policies.specs.declared.signal.OutSignal.TheVariants as out
use Rattle.field_policies.specs.Bits.{bit, any_below, all_below, odd_below}

-- the number at a hardware input, where there is one
abbrev pub input_value : List ℕ → Option ℕ → ℕ
input_value hw None = 0
input_value hw (Some k) = slice_index hw k

-- a field's value: what it stores, or for a wire its data input
abbrev pub value_of : List ℕ → List ℕ → ℕ → Field → ℕ
value_of values hw n f = if f.wire then input_value hw f.data_in else slice_index values n

-- the value of the field of this number
abbrev pub value_at : List Field → List ℕ → List ℕ → ℕ → ℕ
value_at fields values hw n = option_map_or (value_of values hw n) (slice_get fields n) 0

abbrev pub width_at : List Field → ℕ → ℕ
width_at fields n = option_map_or (λ f. f.width) (slice_get fields n) 0

-- the number that a reduction gives
abbrev pub one_if : Bool → ℕ
one_if true = 1
one_if false = 0

-- the value of an expression
unfoldable pub expr_value : List Field → List ℕ → List ℕ → HwExpr → ℕ
expr_value fields values hw (expr.Input k) = slice_index hw k
expr_value fields values hw (expr.Value n) = value_at fields values hw n
expr_value fields values hw (expr.Anded n) = one_if (all_below (width_at fields n) (bit (value_at fields values hw n)))
expr_value fields values hw (expr.Ored n) = one_if (any_below (width_at fields n) (bit (value_at fields values hw n)))
expr_value fields values hw (expr.Xored n) = one_if (odd_below (width_at fields n) (bit (value_at fields values hw n)))

-- whether an expression of one bit that may be missing is there, and its bit is 1
unfoldable pub is_given : List Field → List ℕ → List ℕ → Option HwExpr → Bool
is_given fields values hw None = false
is_given fields values hw (Some e) = bit (expr_value fields values hw e) 0

-- whether a gate is open at bit i: one that isn't there is
unfoldable pub is_open : List Field → List ℕ → List ℕ → Option Gate → ℕ → Bool
is_open fields values hw None i = true
is_open fields values hw (Some g) i = if g.high then bit (expr_value fields values hw g.expr) i else not (bit (expr_value fields values hw g.expr) i)

-- whether a field shows the output
abbrev pub shows : Shown → OutSignal → Bool
shows s out.Value = s.value
shows s out.SwMod = s.swmod
shows s out.SwAcc = s.swacc
shows s out.Anded = s.anded
shows s out.Ored = s.ored
shows s out.Xored = s.xored
shows s out.Overflow = s.overflow
shows s out.Underflow = s.underflow
shows s out.Intr = s.intr
