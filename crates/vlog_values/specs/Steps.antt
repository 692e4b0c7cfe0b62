-- Going over the parts of an expression in the order of its tokens: what a part comes to, or its first offence.
use Rattle.std.specs.Prelude.{◌≡◌, ℕ, Bool, true, false, ◌&&◌, ◌||◌, nat_lt, if◌then◌else◌, Option, Some, None, Result, Ok, Err}
use Rattle.bit_base.specs.declared.place.Place.{Place}
use Rattle.vlog_tree.specs.declared.fault.VlogCode.{VlogCode}
use Rattle.vlog_tree.specs.declared.fault.VlogCode.TheVariants.{VlogName, VlogConst, VlogWide}
use Rattle.vlog_values.specs.declared.facts.Shape.{Shape}
use Rattle.vlog_values.specs.declared.facts.Offence.{Offence}
use Rattle.vlog_values.specs.declared.facts.Sizing.{Sizing}
use Rattle.vlog_values.specs.declared.facts.Sizing.TheVariants.{Known, Missing}
use Rattle.vlog_values.specs.declared.facts.Facts.{Facts}
use Rattle.vlog_values.specs.declared.facts.Stop.{Stop}
use Rattle.vlog_values.specs.declared.facts.Stop.TheVariants.{NoMemory, At}

-- what a part comes to, or the first offence in it
abbrev pub Outcome : Type 0 → Type 0
Outcome A = Result A Offence

-- the part, and then what comes after it
abbrev pub ◌>>=◌ : {A B : Type 0} → Outcome A → (A → Outcome B) → Outcome B
◌>>=◌ (Ok a) next = next a
◌>>=◌ (Err o) next = Err o

infixl 40 ◌>>=◌
-- an offence on the first token of a part
abbrev pub leading : VlogCode → Place → Offence
leading code place = record { leads = true; code = code; place = place }

-- a part before which the whole has other tokens
abbrev pub behind : {A : Type 0} → Outcome A → Outcome A
behind (Ok a) = Ok a
behind (Err o) = Err (record o { leads = false })

-- which of two offences on one token comes first: a name before a constant before a width
abbrev pub goes_before : VlogCode → VlogCode → Bool
goes_before VlogName VlogConst = true
goes_before VlogName VlogWide = true
goes_before VlogConst VlogWide = true
goes_before _ _ = false

-- the first offence of a whole that has one on its first token, by the part with which it begins
abbrev pub foremost : {A : Type 0} → VlogCode → Place → Outcome A → Offence
foremost code place (Ok a) = leading code place
foremost code place (Err o) = if o.leads && goes_before o.code code then o else leading code place

-- a whole that may have an offence on its first token: the part with which it begins, and what it comes to otherwise
abbrev pub marked : {A B : Type 0} → Option VlogCode → Place → Outcome A → Outcome B → Outcome B
marked None place first whole = whole
marked (Some code) place first whole = Err (foremost code place first)

-- the same where the first token belongs to no part
abbrev pub refused : {A : Type 0} → Option VlogCode → Place → Outcome A → Outcome A
refused None place whole = whole
refused (Some code) place whole = Err (leading code place)

-- ---- shapes

-- the shape of an expression by itself
abbrev pub shape_in : Sizing → Option Shape
shape_in (Known shape over) = Some shape
shape_in (Missing o) = None

abbrev pub own_shape : Facts → Option Shape
own_shape facts = shape_in facts.sizing

-- larger than a limit, where it is known
abbrev pub is_over : ℕ → Option Shape → Bool
is_over limit None = false
is_over limit (Some shape) = nat_lt limit shape.size

-- the limit in bits on any expression but a number, arithmetic or a comparison by order
abbrev pub widest : ℕ
widest = 2048

-- an expression that is over a limit, by itself or in its context
abbrev pub too_wide : ℕ → Facts → Option Shape → Option VlogCode
too_wide limit facts context = if is_over limit (own_shape facts) || is_over limit context then Some VlogWide else None

-- ---- what code answers: it may lack memory

abbrev pub Comes : {A : Type 0} → Outcome A → Result A Stop → Type 0
Comes outcome (Ok a) = outcome ≡ Ok a
Comes outcome (Err NoMemory) = Unit {0}
Comes outcome (Err (At o)) = outcome ≡ Err o
