-- Where a path leads from an instance, and which references are refused: one whose bits aren't those that the property asks
-- for, and one to a field whose value isn't known after reset (SystemRDL 2.0, clause 5.2.2).
use Rattle.std.specs.Prelude.{ℕ, Bool, true, false, not, ◌&&◌, ◌||◌, ◌==◌, nat_lt, if◌then◌else◌, List, [], ◌∷◌, ◌++◌, Option, Some, None}
use Rattle.std.specs.Option.{option_and_then, option_map}
use Rattle.rdl_tree.specs.declared.tree.RdlDef.{out-RdlDef}
use Rattle.rdl_tree.specs.declared.tree.RdlIndex.{RdlIndex}
use Rattle.rdl_tree.specs.declared.tree.RdlStep.{RdlStep}
use Rattle.rdl_tree.specs.declared.tree.RdlNextStep.{RdlNextStep}
use Rattle.rdl_tree.specs.declared.tree.RdlPath.{RdlPath}
use Rattle.rdl_tree.specs.declared.tree.RdlProp.{RdlProp}
use Rattle.rdl_tree.specs.declared.tree.RdlAssigned.{RdlAssigned}
use Rattle.rdl_tree.specs.declared.tree.RdlValue.{RdlValue}
use Rattle.rdl_tree.specs.declared.tree.RdlValue.TheVariants as value
use Rattle.rdl_text.specs.declared.property.Form.{Form}
use Rattle.rdl_text.specs.declared.property.Form.TheVariants as form
use Rattle.rdl_text.specs.declared.property.Row.{Row}
use Rattle.rdl_text.specs.Lists.{or_else}
use Rattle.rdl_text.specs.Components.{Component}
use Rattle.rdl_text.specs.Instances.{kind_of}
use Rattle.rdl_text.specs.Properties.{row_of}
use Rattle.rdl_text.specs.References.{reference_in}
use Rattle.rdl_values.specs.OneInstance.{Instance}
use Rattle.rdl_values.specs.OneFrame.{Frame, Trail}
use Rattle.rdl_values.specs.Instances.{instances_of, count_of}
use Rattle.rdl_values.specs.Frames.{targets_of, frame_of}
use Rattle.rdl_values.specs.Values.{names}
use Rattle.rdl_values.specs.Fields.{width_at, starts_known}
use Rattle.rdl_effects.specs.declared.reference.Facts.{Facts}

abbrev pub index_in : Option RdlIndex → ℕ
index_in None = 0
index_in (Some i) = i.number.value

abbrev pub is_element : RdlStep → Instance → Bool
is_element s i = names s (kind_of i.component) i.inst (index_in s.index) && nat_lt (index_in s.index) (count_of i)

-- the instance of which the step names an element
abbrev pub instance_in : RdlStep → List Instance → Option Instance
instance_in s [] = None
instance_in s (i ∷ is) = or_else (if is_element s i then Some i else None) (instance_in s is)

abbrev pub instance_by : Component → RdlStep → Option Instance
instance_by c s = instance_in s (instances_of c)

abbrev pub frame_by : Component → RdlStep → Instance → Frame
frame_by c s i = frame_of (targets_of (out-RdlDef c.definition).items) i (index_in s.index)

-- the trail to which the steps lead from the instance at the end of this one
abbrev pub steps_on : Trail → Component → List RdlNextStep → Option Trail
steps_on t c [] = Some t
steps_on t c (n ∷ ns) = option_and_then (λ i. steps_on (t ++ frame_by c n.step i ∷ []) i.component ns) (instance_by c n.step)

abbrev pub steps_from : Trail → Component → RdlStep → List RdlNextStep → Option Trail
steps_from up c s more = option_and_then (λ i. steps_on (up ++ frame_by c s i ∷ []) i.component more) (instance_by c s)

abbrev pub path_from : Trail → Component → RdlPath → Option Trail
path_from up c path = steps_from up c path.first path.more

-- ---- what is asked of a reference

abbrev pub facts_at : Trail → Facts
facts_at t = record { width = width_at t; known = starts_known t }

abbrev pub facts_by : Trail → Component → RdlPath → Option Facts
facts_by up c path = option_map facts_at (path_from up c path)

abbrev pub is_reduced : RdlValue → Bool
is_reduced (value.Reference path (Some s)) = true
is_reduced _ = false

abbrev pub is_reduced_given : Option RdlAssigned → Bool
is_reduced_given None = false
is_reduced_given (Some a) = is_reduced a.value

-- a whole field has the bits of the field whose property it is, anything else has one bit
abbrev pub has_bits : Form → Option RdlAssigned → Facts → Facts → Bool
has_bits form.Whole given f g = f.width == g.width
has_bits _ given f g = is_reduced_given given || g.width == 1

abbrev pub is_misfit : Form → Option RdlAssigned → Option Facts → Option Facts → Bool
is_misfit kind given (Some f) (Some g) = not g.known || not (has_bits kind given f g)
is_misfit kind given _ _ = false

abbrev pub is_misreferred_to : Trail → Component → RdlPath → Form → Option RdlAssigned → Option RdlPath → Bool
is_misreferred_to up c path kind given None = false
is_misreferred_to up c path kind given (Some to) = is_misfit kind given (facts_by up c path) (facts_by up c to)

abbrev pub is_misreferred_by : Trail → Component → RdlPath → Option RdlAssigned → Option Row → Bool
is_misreferred_by up c path given None = false
is_misreferred_by up c path given (Some r) = is_misreferred_to up c path r.form given (reference_in r.form given)

-- an assignment to a path, in the body of the instance at the end of the trail, whose reference is refused
abbrev pub is_misreferred : Trail → Component → RdlPath → RdlProp → Bool
is_misreferred up c path prop = is_misreferred_by up c path prop.value (row_of prop.name.text)
