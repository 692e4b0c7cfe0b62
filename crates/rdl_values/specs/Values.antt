-- Effective values (SystemRDL 2.0, clause 5.1.3, "Property assignment"): a property of an instance has the value of the outermost
-- assignment to a path that leads to it; else that of the assignment in its component's body; else that of the nearest default
-- before that body in a body around it in the text. A value that the property doesn't take counts as none.
use Rattle.std.specs.Prelude.{ℕ, suc, Bool, true, false, not, ◌&&◌, ◌==◌, if◌then◌else◌, List, [], ◌∷◌, Option, Some, None, is_some, length, slice_get, ◌-◌}
use Rattle.std.specs.List.{list_any}
use Rattle.std.specs.Option.{option_and_then}
use Rattle.rdl_tree.specs.declared.tree.RdlIndex.{RdlIndex}
use Rattle.rdl_tree.specs.declared.tree.RdlInst.{RdlInst}
use Rattle.rdl_tree.specs.declared.tree.RdlMarked.{RdlMarked}
use Rattle.rdl_tree.specs.declared.tree.RdlStep.{RdlStep}
use Rattle.rdl_tree.specs.declared.tree.RdlNextStep.{RdlNextStep}
use Rattle.rdl_tree.specs.declared.tree.RdlPath.{RdlPath}
use Rattle.rdl_tree.specs.declared.tree.RdlProp.{RdlProp}
use Rattle.rdl_tree.specs.declared.tree.RdlAssigned.{RdlAssigned}
use Rattle.rdl_tree.specs.declared.tree.RdlValue.{RdlValue}
use Rattle.rdl_tree.specs.declared.tree.RdlValue.TheVariants as value
use Rattle.rdl_tree.specs.Tree.{is_text}
use Rattle.rdl_text.specs.declared.instance.Body.{Body}
use Rattle.rdl_text.specs.declared.property.Property.{Property}
use Rattle.rdl_text.specs.declared.property.Property.TheVariants as p
use Rattle.rdl_text.specs.declared.property.Row.{Row}
use Rattle.rdl_text.specs.Lists.{or_else}
use Rattle.rdl_text.specs.Instances.{is_field}
use Rattle.rdl_text.specs.Properties.{row_of}
use Rattle.rdl_text.specs.Assignments.{is_property}
use Rattle.rdl_text.specs.Forms.{takes_assigned}
use Rattle.rdl_values.specs.OneFrame.{Target, Frame, Trail}

-- the frame of the instance itself
abbrev pub here_of : Trail → Option Frame
here_of t = slice_get t (length t - 1)

-- ---- paths that lead along a trail

-- an element of an array is named with its index, anything else without one
abbrev pub is_array : Body → RdlInst → Bool
is_array kind i = not (is_field kind) && is_some i.range

abbrev pub is_index : Bool → ℕ → Option RdlIndex → Bool
is_index of_array k None = not of_array
is_index of_array k (Some i) = of_array && i.number.value == k

-- the step names this element of an instance
abbrev pub names : RdlStep → Body → RdlInst → ℕ → Bool
names s kind i k = is_text s.name.text i.name && is_index (is_array kind i) k s.index

abbrev pub fits_step : RdlStep → Frame → Bool
fits_step s f = names s f.kind f.inst f.index

abbrev pub fit_steps : List RdlNextStep → List Frame → Bool
fit_steps [] [] = true
fit_steps (n ∷ ns) (f ∷ fs) = fits_step n.step f && fit_steps ns fs
fit_steps _ _ = false

abbrev pub leads_along : RdlPath → List Frame → Bool
leads_along path [] = false
leads_along path (f ∷ fs) = fits_step path.first f && fit_steps path.more fs

-- ---- the assignments of a property

abbrev pub assigned_in : Property → List RdlProp → Option RdlProp
assigned_in property [] = None
assigned_in property (x ∷ xs) = or_else (if is_property property x then Some x else None) (assigned_in property xs)

abbrev pub last_in : Property → List RdlProp → Option RdlProp
last_in property [] = None
last_in property (x ∷ xs) = or_else (last_in property xs) (if is_property property x then Some x else None)

-- the assignment to a path that leads along these frames
abbrev pub target_in : Property → List Frame → List Target → Option RdlProp
target_in property frames [] = None
target_in property frames (t ∷ ts) = or_else (if is_property property t.prop && leads_along t.path frames then Some t.prop else None) (target_in property frames ts)

-- the outermost of them
abbrev pub dynamic_at : Trail → Property → Option RdlProp
dynamic_at [] property = None
dynamic_at (f ∷ fs) property = or_else (target_in property (f ∷ fs) f.targets) (dynamic_at fs property)

-- how many instances stand around the body with that assignment; all where there is none
abbrev pub depth_at : Trail → Property → ℕ
depth_at [] property = 0
depth_at (f ∷ fs) property = if is_some (target_in property (f ∷ fs) f.targets) then 0 else suc (depth_at fs property)

abbrev pub own_at : Trail → Property → Option RdlProp
own_at t property = option_and_then (λ f. assigned_in property f.own) (here_of t)

abbrev pub default_at : Trail → Property → Option RdlProp
default_at t property = option_and_then (λ f. last_in property f.defaults) (here_of t)

-- ---- the effective one

abbrev pub takes_by : Bool → Option Row → RdlProp → Bool
takes_by referable None prop = false
takes_by referable (Some r) prop = takes_assigned referable r.form prop.value

-- the assignment, where the property takes its value
abbrev pub right : Bool → RdlProp → Option RdlProp
right referable prop = if takes_by referable (row_of prop.name.text) prop then Some prop else None

-- an assignment to a path goes before the others, and it alone may be a reference
abbrev pub chosen : Option RdlProp → Option RdlProp → Option RdlProp
chosen (Some x) other = right true x
chosen None other = option_and_then (right false) other

abbrev pub assigned_at : Trail → Property → Option RdlProp
assigned_at t property = chosen (dynamic_at t property) (or_else (own_at t property) (default_at t property))

-- ---- what it says

abbrev pub number_in : RdlValue → Option ℕ
number_in (value.Num t) = Some t.value
number_in _ = None

abbrev pub number_of : RdlProp → Option ℕ
number_of prop = option_and_then (λ a. number_in a.value) prop.value

abbrev pub number_at : Trail → Property → Option ℕ
number_at t property = option_and_then number_of (assigned_at t property)

-- the reset of an instance is that of its `= value` where its component's body has none
abbrev pub marked_number : Option RdlMarked → Option ℕ
marked_number None = None
marked_number (Some m) = Some m.number.value

abbrev pub given_reset : Trail → Option ℕ
given_reset t = option_and_then (λ f. marked_number f.inst.reset) (here_of t)

abbrev pub reset_from : Option RdlProp → Option RdlProp → Option ℕ → Option RdlProp → Option ℕ
reset_from (Some x) own given default = option_and_then number_of (right true x)
reset_from None (Some x) given default = option_and_then number_of (right false x)
reset_from None None (Some n) default = Some n
reset_from None None None default = option_and_then number_of (option_and_then (right false) default)

abbrev pub reset_at : Trail → Option ℕ
reset_at t = reset_from (dynamic_at t p.Reset) (own_at t p.Reset) (given_reset t) (default_at t p.Reset)

-- a property is in effect where it is assigned something other than `false`
abbrev pub is_false : RdlValue → Bool
is_false (value.False t) = true
is_false _ = false

abbrev pub is_false_given : Option RdlAssigned → Bool
is_false_given None = false
is_false_given (Some a) = is_false a.value

abbrev pub is_set : Option RdlProp → Bool
is_set None = false
is_set (Some x) = not (is_false_given x.value)

abbrev pub in_effect : Trail → Property → Bool
in_effect t property = is_set (assigned_at t property)

abbrev pub any_in_effect : Trail → List Property → Bool
any_in_effect t properties = list_any (λ x. in_effect t x) properties

-- how many of them are
abbrev pub both_in_effect : Trail → Property → Property → Bool
both_in_effect t a b = in_effect t a && in_effect t b

abbrev pub is_assigned : Trail → Property → Bool
is_assigned t property = is_some (assigned_at t property)
