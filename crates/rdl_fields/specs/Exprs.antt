-- What hardware gives to a field's property (SystemRDL 2.0, clauses 5.2.2 and 9): a hardware input of its own where the property
-- is `true`, and what a reference names, all of a field's bits or a reduction of them.
use Rattle.std.specs.Prelude.{ℕ, Bool, true, false, not, ◌&&◌, if◌then◌else◌, List, Option, Some, None, take, codes}
use Rattle.rdl_tree.specs.declared.token.RdlToken.{RdlToken}
use Rattle.rdl_tree.specs.declared.tree.RdlProp.{RdlProp}
use Rattle.rdl_tree.specs.declared.tree.RdlSignal.{RdlSignal}
use Rattle.rdl_tree.specs.declared.tree.RdlAssigned.{RdlAssigned}
use Rattle.rdl_tree.specs.declared.tree.RdlValue.{RdlValue}
use Rattle.rdl_tree.specs.declared.tree.RdlValue.TheVariants as value
use Rattle.rdl_tree.specs.Tree.{is_text}
use Rattle.rdl_text.specs.declared.property.Property.{Property}
use Rattle.rdl_values.specs.OneFrame.{Trail}
use Rattle.rdl_values.specs.Values.{assigned_at, depth_at, is_set}
use Rattle.rdl_fields.specs.declared.named.NamedExpr.{NamedExpr}
use Rattle.rdl_fields.specs.declared.named.NamedExpr.TheVariants as named
use Rattle.rdl_fields.specs.declared.named.NamedGate.{NamedGate}
use Rattle.rdl_fields.specs.Paths.{target_of}

unfoldable pub reduced : RdlToken → List ℕ → NamedExpr
reduced t path = if is_text (codes "anded") t then named.Anded path else if is_text (codes "ored") t then named.Ored path else named.Xored path

abbrev pub named_by : List ℕ → Option RdlSignal → NamedExpr
named_by path None = named.Value path
named_by path (Some s) = reduced s.name path

-- a reference from the component at the end of `up`
abbrev pub expr_of : Trail → RdlValue → NamedExpr
expr_of up (value.Reference path signal) = named_by (target_of up path) signal
expr_of up _ = named.Input

abbrev pub expr_given : Trail → Option RdlAssigned → NamedExpr
expr_given up None = named.Input
expr_given up (Some a) = expr_of up a.value

-- `false` gives nothing
abbrev pub expr_by : Trail → Option RdlProp → Option NamedExpr
expr_by up None = None
expr_by up (Some x) = if is_set (Some x) then Some (expr_given up x.value) else None

abbrev pub expr_at : Trail → Property → Option NamedExpr
expr_at t property = expr_by (take (depth_at t property) t) (assigned_at t property)

-- ---- a hardware input of its own: `true`, in place of a reference

abbrev pub is_reference : RdlValue → Bool
is_reference (value.Reference path signal) = true
is_reference _ = false

abbrev pub is_reference_given : Option RdlAssigned → Bool
is_reference_given None = false
is_reference_given (Some a) = is_reference a.value

abbrev pub asks_by : Option RdlProp → Bool
asks_by None = false
asks_by (Some x) = is_set (Some x) && not (is_reference_given x.value)

abbrev pub asks : Trail → Property → Bool
asks t property = asks_by (assigned_at t property)

-- ---- gates: of two properties the one that opens at 1, or the one that opens at 0

abbrev pub gate_of : Option NamedExpr → Option NamedExpr → Option NamedGate
gate_of (Some e) other = Some (record { expr = e; high = true })
gate_of None (Some e) = Some (record { expr = e; high = false })
gate_of None None = None

abbrev pub gate_at : Trail → Property → Property → Option NamedGate
gate_at t high low = gate_of (expr_at t high) (expr_at t low)

-- none where it has no effect
abbrev pub gate_if : Bool → Trail → Property → Property → Option NamedGate
gate_if acts t high low = if acts then gate_at t high low else None
