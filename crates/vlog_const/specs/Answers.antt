-- What is answered about an expression: its shape, its value as a constant, or its first offence.
use Rattle.std.specs.Prelude.{◌≡◌, ℕ, List, [], Some, None, Result, Ok, Err}
use Rattle.vlog_tree.specs.declared.fault.VlogFault.{VlogFault}
use Rattle.vlog_tree.specs.declared.fault.VlogFault.TheVariants as F
use Rattle.vlog_tree.specs.declared.tree_expressions.VExpr.{VExpr}
use Rattle.vlog_values.specs.declared.facts.Shape.{Shape}
use Rattle.vlog_values.specs.declared.facts.Offence.{Offence}
use Rattle.vlog_values.specs.declared.facts.Sizing.{Sizing}
use Rattle.vlog_values.specs.declared.facts.Sizing.TheVariants.{Known, Missing}
use Rattle.vlog_values.specs.Steps.{Outcome, ◌>>=◌, own_shape}
use Rattle.vlog_values.specs.Places.{no_values}
use Rattle.vlog_values.specs.Operations.{is_signed}
use Rattle.vlog_values.specs.Outcomes.{constant_of}
use Rattle.vlog_values.specs.Constants.{read}
use Rattle.vlog_const.specs.declared.names.Const.{Const}
use Rattle.vlog_const.specs.declared.names.Named.{Named}
use Rattle.vlog_const.specs.Sized.{sized_of}

-- the refusal of an offence, at its place
abbrev pub fault_of : Offence → VlogFault
fault_of o = F.At o.code o.place [] []

-- an answer is the outcome or the refusal of its first offence, but for want of memory
abbrev pub Answers : {A : Type 0} → Outcome A → Result A VlogFault → Type 0
Answers outcome (Ok a) = outcome ≡ Ok a
Answers outcome (Err F.NoMemory) = Unit {0}
Answers outcome (Err (F.At code place names path)) = (o : Offence) × (outcome ≡ Err o) × (F.At code place names path ≡ fault_of o)

-- the shape, or the first offence that it asks for
abbrev pub shape_asked : Sizing → Outcome Shape
shape_asked (Known shape None) = Ok shape
shape_asked (Known shape (Some o)) = Err o
shape_asked (Missing o) = Err o

abbrev pub shape_outcome : List (List ℕ × Named) → VExpr → Outcome Shape
shape_outcome scope e = shape_asked (sized_of scope e).facts.sizing

-- the value at the expression's own size, with its sign
abbrev pub const_outcome : List (List ℕ × Named) → VExpr → Outcome Const
const_outcome scope e = constant_of (read (sized_of scope e)) no_values >>= (λ bits. Ok (record { bits = bits; signed = is_signed (own_shape (sized_of scope e).facts) }))
