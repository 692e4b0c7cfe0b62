-- What is known of an expression before its context: its place, its shape, or the first offence that its size or sign asks for
-- (IEEE 1364-2005, 5.4 and 5.5, and the limits of this project).
use Rattle.std.specs.Prelude.{ℕ, ◌+◌, ◌*◌, Bool, true, false, ◌||◌, nat_lt, min, if◌then◌else◌, List, [], ◌∷◌, Option, Some, None, Ok, Err}
use Rattle.bit_base.specs.declared.place.Place.{Place}
use Rattle.vlog_tree.specs.declared.fault.VlogCode.TheVariants.{VlogName, VlogConst, VlogWide}
use Rattle.vlog_values.specs.declared.facts.Shape.{Shape}
use Rattle.vlog_values.specs.declared.facts.Offence.{Offence}
use Rattle.vlog_values.specs.declared.facts.Sizing.{Sizing}
use Rattle.vlog_values.specs.declared.facts.Sizing.TheVariants.{Known, Missing}
use Rattle.vlog_values.specs.declared.facts.Facts.{Facts}
use Rattle.vlog_values.specs.declared.operators.Prefix.{Prefix}
use Rattle.vlog_values.specs.declared.operators.Infix.{Infix}
use Rattle.vlog_values.specs.declared.operators.Function.{Function}
use Rattle.vlog_values.specs.declared.operators.Function.TheVariants.{Clog2, Signed, Unsigned}
use Rattle.vlog_values.specs.Steps.{Outcome, leading, widest}
use Rattle.vlog_values.specs.Operations.{common, is_test, prefix_limit, infix_kind, InfixKind, Both, Left, Compared, Logical, infix_limit}

-- a size of 4,096 bits or more counts as 4,096
abbrev pub capped : ℕ → ℕ
capped size = min size 4096

-- an offence behind the first token of the whole
abbrev pub off : Offence → Offence
off o = record o { leads = false }

abbrev pub off_first : Option Offence → Option Offence
off_first None = None
off_first (Some o) = Some (off o)

-- the first of two, one after the other
abbrev pub first_of : Option Offence → Option Offence → Option Offence
first_of None later = later
first_of (Some o) later = Some o

-- the offences that a size asks for
abbrev pub asked : Sizing → Option Offence
asked (Known shape over) = over
asked (Missing o) = Some o

-- a part that is asked for and stands behind the first token
abbrev pub sizing_behind : Sizing → Sizing
sizing_behind (Known shape over) = Known shape (off_first over)
sizing_behind (Missing o) = Missing (off o)

-- a whole of this shape, over its limit or with the offences of its parts
abbrev pub limited : ℕ → Place → Shape → Option Offence → Sizing
limited limit place shape parts = Known shape (if nat_lt limit shape.size then Some (leading VlogWide place) else parts)

-- a whole that has the shape of a part
abbrev pub as_part : ℕ → Place → Sizing → Sizing
as_part limit place (Known shape over) = limited limit place shape over
as_part limit place (Missing o) = Missing o

-- a whole whose shape both parts give
abbrev pub of_both : ℕ → Place → (Shape → Shape → Shape) → Sizing → Sizing → Sizing
of_both limit place f (Known a over) (Known b later) = limited limit place (f a b) (first_of over later)
of_both limit place f (Known a None) (Missing o) = Missing o
of_both limit place f (Known a (Some over)) (Missing o) = Missing over
of_both limit place f (Missing o) b = Missing o

abbrev pub unsigned : ℕ → Shape
unsigned size = record { size = size; signed = false }

-- one bit, for which nothing is asked
abbrev pub one_bit : Sizing
one_bit = Known (unsigned 1) None

-- ---- facts of the kinds of nodes

abbrev pub number_facts : Place → ℕ → Bool → Bool → Bool → Facts
number_facts place size signed sized unknown = record {
  place = place;
  sizing = limited 128 place (record { size = size; signed = signed }) None;
  lone = if sized then None else Some (leading VlogConst place);
  names_net = false;
  has_unknown = unknown;
}

-- a name that isn't declared, or of which no bits can be selected
abbrev pub missing_facts : Place → Facts
missing_facts place = record { place = place; sizing = Missing (leading VlogName place); lone = None; names_net = false; has_unknown = false }

-- a name of this shape
abbrev pub name_facts : Place → Shape → Bool → Facts
name_facts place shape net = record { place = place; sizing = limited widest place shape None; lone = None; names_net = net; has_unknown = false }

-- a select of a net, of this many bits or with an offence behind the name
abbrev pub select_sizing : Place → Outcome ℕ → Sizing
select_sizing place (Ok width) = limited widest place (unsigned (capped width)) None
select_sizing place (Err o) = Missing (off o)

abbrev pub select_facts : Place → Outcome ℕ → Bool → Facts
select_facts place width unknown = record { place = place; sizing = select_sizing place width; lone = None; names_net = true; has_unknown = unknown }

abbrev pub group_facts : Place → Facts → Facts
group_facts place whole = record { place = place; sizing = as_part widest place (sizing_behind whole.sizing); lone = off_first whole.lone; names_net = whole.names_net; has_unknown = whole.has_unknown }

abbrev pub prefix_sizing : Prefix → Place → Sizing → Sizing
prefix_sizing op place operand = if is_test op then one_bit else as_part (prefix_limit op) place (sizing_behind operand)

abbrev pub prefix_facts : Prefix → Place → Facts → Facts
prefix_facts op place operand = record { place = place; sizing = prefix_sizing op place operand.sizing; lone = None; names_net = operand.names_net; has_unknown = operand.has_unknown }

abbrev pub infix_sizing : InfixKind → ℕ → Place → Sizing → Sizing → Sizing
infix_sizing Both limit place left right = of_both limit place common left (sizing_behind right)
infix_sizing Left limit place left right = as_part limit place left
infix_sizing Compared limit place left right = one_bit
infix_sizing Logical limit place left right = one_bit

abbrev pub infix_facts : Infix → Facts → Facts → Facts
infix_facts op left right = record {
  place = left.place;
  sizing = infix_sizing (infix_kind op) (infix_limit op) left.place left.sizing right.sizing;
  lone = None;
  names_net = left.names_net || right.names_net;
  has_unknown = left.has_unknown || right.has_unknown;
}

abbrev pub choice_facts : Facts → Facts → Facts → Facts
choice_facts test yes_value no_value = record {
  place = test.place;
  sizing = of_both widest test.place common (sizing_behind yes_value.sizing) (sizing_behind no_value.sizing);
  lone = None;
  names_net = test.names_net || yes_value.names_net || no_value.names_net;
  has_unknown = test.has_unknown || yes_value.has_unknown || no_value.has_unknown;
}

-- a part of a concatenation: a number without a size has none
abbrev pub or_lone_sizing : Option Offence → Sizing → Sizing
or_lone_sizing None sizing = sizing
or_lone_sizing (Some o) sizing = Missing o

abbrev pub part_sizing : Facts → Sizing
part_sizing part = sizing_behind (or_lone_sizing part.lone part.sizing)

abbrev pub summed : Shape → Shape → Shape
summed a b = unsigned (capped (a.size + b.size))

-- so many parts together, after those before; without a limit
abbrev pub joined_sizing : Sizing → Sizing → Sizing
joined_sizing (Known a over) (Known b later) = Known (summed a b) (first_of over later)
joined_sizing (Known a None) (Missing o) = Missing o
joined_sizing (Known a (Some over)) (Missing o) = Missing over
joined_sizing (Missing o) b = Missing o

-- what is known of parts: the sizing of all of them, whether they name a net, and whether a digit is unknown
abbrev pub Parts : Type 0
Parts = Sizing × Bool × Bool

abbrev pub no_parts : Parts
no_parts = (Known (unsigned 0) None, false, false)

abbrev pub with_part : Parts → Facts → Parts
with_part parts part = (joined_sizing parts.0 (part_sizing part), parts.1 || part.names_net, parts.2 || part.has_unknown)

abbrev pub parts_from : Parts → List Facts → Parts
parts_from parts [] = parts
parts_from parts (part ∷ more) = parts_from (with_part parts part) more

abbrev pub join_facts : Place → Parts → Facts
join_facts place parts = record { place = place; sizing = as_part widest place parts.0; lone = None; names_net = parts.1; has_unknown = parts.2 }

-- so many times the parts: the count's value, or its offence
abbrev pub times : ℕ → Shape → Shape
times count shape = unsigned (capped (count * shape.size))

abbrev pub repeat_sizing : Place → Outcome ℕ → Sizing → Sizing
repeat_sizing place (Ok count) (Known shape over) = limited widest place (times count shape) over
repeat_sizing place (Ok count) (Missing o) = Missing o
repeat_sizing place (Err o) parts = Missing (off o)

abbrev pub repeat_facts : Place → Outcome ℕ → Facts → Parts → Facts
repeat_facts place count counted parts = record { place = place; sizing = repeat_sizing place count parts.0; lone = None; names_net = counted.names_net || parts.1; has_unknown = counted.has_unknown || parts.2 }

-- a changed sign alone; a logarithm has 32 bits
abbrev pub with_sign : Bool → Place → Sizing → Sizing
with_sign signed place (Known shape over) = limited widest place (record { size = shape.size; signed = signed }) over
with_sign signed place (Missing o) = Missing o

abbrev pub call_sizing : Function → Place → Sizing → Sizing
call_sizing Clog2 place argument = Known (record { size = 32; signed = true }) None
call_sizing Signed place argument = with_sign true place (sizing_behind argument)
call_sizing Unsigned place argument = with_sign false place (sizing_behind argument)

abbrev pub call_facts : Function → Place → Facts → Facts
call_facts function place argument = record { place = place; sizing = call_sizing function place argument.sizing; lone = None; names_net = argument.names_net; has_unknown = argument.has_unknown }
