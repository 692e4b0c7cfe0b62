-- Which assignments of a description are refused, and where (SystemRDL 2.0, clause 5.2): a property that isn't one, or that the
-- component doesn't have; one that is assigned twice in a body, twice to one path in a body, or twice as a default. A refusal
-- stands at the assignment's first token, that of an instance's `= value` at its `=`.
use Rattle.std.specs.Prelude.{Bool, true, false, not, ◌&&◌, ◌||◌, ◌==◌, List, [], ◌∷◌, ◌++◌, Option, Some, None, bytes_eq}
use Rattle.std.specs.List.{list_any}
use denote.Enum.Bare.{sameb}
use Rattle.bit_base.specs.declared.place.Place.{Place}
use Rattle.rdl_tree.specs.declared.tree.RdlItem.{RdlItem, out-RdlItem}
use Rattle.rdl_tree.specs.declared.tree.RdlItem.TheOpen.{RdlItem-F}
use Rattle.rdl_tree.specs.declared.tree.RdlDef.{RdlDef, out-RdlDef}
use Rattle.rdl_tree.specs.declared.tree.RdlInsts.{RdlInsts}
use Rattle.rdl_tree.specs.declared.tree.RdlNextInst.{RdlNextInst}
use Rattle.rdl_tree.specs.declared.tree.RdlMarked.{RdlMarked}
use Rattle.rdl_tree.specs.declared.tree.RdlIndex.{RdlIndex}
use Rattle.rdl_tree.specs.declared.tree.RdlStep.{RdlStep}
use Rattle.rdl_tree.specs.declared.tree.RdlNextStep.{RdlNextStep}
use Rattle.rdl_tree.specs.declared.tree.RdlPath.{RdlPath}
use Rattle.rdl_tree.specs.declared.tree.RdlProp.{RdlProp}
use Rattle.rdl_tree.specs.declared.tree.RdlEntry.{RdlEntry}
use Rattle.rdl_tree.specs.declared.tree.RdlEntryBody.{RdlEntryBody}
use Rattle.rdl_tree.specs.declared.tree.RdlEntryProp.{RdlEntryProp}
use Rattle.rdl_text.specs.contracts.property.Property.{the_type}
use Rattle.rdl_text.specs.declared.property.Property.{Property}
use Rattle.rdl_text.specs.declared.property.Property.TheVariants as p
use Rattle.rdl_text.specs.declared.property.Row.{Row}
use Rattle.rdl_text.specs.declared.instance.Body.{Body}
use Rattle.rdl_text.specs.Chains.{Chain}
use Rattle.rdl_text.specs.Components.{Component}
use Rattle.rdl_text.specs.Types.{type_of}
use Rattle.rdl_text.specs.Instances.{body_of, kind_of, is_field}
use Rattle.rdl_text.specs.Properties.{row_of}
use Rattle.rdl_text.specs.Names.{owns, place_if}

abbrev pub is_of_row : Property → Option Row → Bool
is_of_row property None = false
is_of_row property (Some r) = sameb the_type r.property property

-- the property is assigned by this name
abbrev pub is_property : Property → RdlProp → Bool
is_property property prop = is_of_row property (row_of prop.name.text)

-- ---- what stands before

abbrev pub assigns : Property → RdlItem-F RdlItem RdlDef → Bool
assigns property (RdlItem-F.Prop prop semi) = is_property property prop
assigns property _ = false

abbrev pub is_assigned : List RdlItem → Property → Bool
is_assigned items property = list_any (λ x. assigns property (out-RdlItem x)) items

abbrev pub defaults : Property → RdlItem-F RdlItem RdlDef → Bool
defaults property (RdlItem-F.Default word prop semi) = is_property property prop
defaults property _ = false

abbrev pub is_defaulted : List RdlItem → Property → Bool
is_defaulted items property = list_any (λ x. defaults property (out-RdlItem x)) items

abbrev pub is_same_index : Option RdlIndex → Option RdlIndex → Bool
is_same_index None None = true
is_same_index (Some a) (Some b) = a.number.value == b.number.value
is_same_index _ _ = false

abbrev pub is_same_step : RdlStep → RdlStep → Bool
is_same_step a b = bytes_eq a.name.text b.name.text && is_same_index a.index b.index

abbrev pub are_same_steps : List RdlNextStep → List RdlNextStep → Bool
are_same_steps [] [] = true
are_same_steps (a ∷ more) (b ∷ others) = is_same_step a.step b.step && are_same_steps more others
are_same_steps _ _ = false

abbrev pub is_same_path : RdlPath → RdlPath → Bool
is_same_path a b = is_same_step a.first b.first && are_same_steps a.more b.more

abbrev pub targets : RdlPath → Property → RdlItem-F RdlItem RdlDef → Bool
targets path property (RdlItem-F.Dynamic other arrow prop semi) = is_same_path path other && is_property property prop
targets path property _ = false

abbrev pub is_targeted : List RdlItem → RdlPath → Property → Bool
is_targeted items path property = list_any (λ x. targets path property (out-RdlItem x)) items

-- ---- assignments

abbrev pub is_misassigned_here : Body → List RdlItem → Option Row → Bool
is_misassigned_here kind before None = true
is_misassigned_here kind before (Some r) = not (owns r.owner kind) || is_assigned before r.property

abbrev pub is_misdefaulted : List RdlItem → Option Row → Bool
is_misdefaulted before None = true
is_misdefaulted before (Some r) = is_defaulted before r.property

abbrev pub is_mistargeted : List RdlItem → RdlPath → Option Row → Bool
is_mistargeted before path None = true
is_mistargeted before path (Some r) = is_targeted before path r.property

-- ---- the entries of an enumeration have a name and a description

abbrev pub is_label : Property → Bool
is_label p.Name = true
is_label p.Desc = true
is_label _ = false

abbrev pub is_among_props : Property → List RdlEntryProp → Bool
is_among_props property props = list_any (λ x. is_property property x.prop) props

abbrev pub is_mislabelled : List RdlEntryProp → Option Row → Bool
is_mislabelled seen None = true
is_mislabelled seen (Some r) = not (is_label r.property) || is_among_props r.property seen

abbrev pub mislabelled_props : List RdlEntryProp → List RdlEntryProp → List Place
mislabelled_props seen [] = []
mislabelled_props seen (x ∷ xs) = place_if (is_mislabelled seen (row_of x.prop.name.text)) x.prop.name.place ++ mislabelled_props (seen ++ x ∷ []) xs

abbrev pub mislabelled_body : Option RdlEntryBody → List Place
mislabelled_body None = []
mislabelled_body (Some b) = mislabelled_props [] b.props

abbrev pub mislabelled : List RdlEntry → List Place
mislabelled [] = []
mislabelled (e ∷ es) = mislabelled_body e.body ++ mislabelled es

-- ---- `= value` at an instance assigns `reset` in the body of a field

abbrev pub misreset : Bool → Option RdlMarked → List Place
misreset wrong None = []
misreset wrong (Some m) = place_if wrong m.mark.place

abbrev pub misreset_next : Bool → List RdlNextInst → List Place
misreset_next wrong [] = []
misreset_next wrong (n ∷ ns) = misreset wrong n.inst.reset ++ misreset_next wrong ns

abbrev pub misreset_all : Bool → RdlInsts → List Place
misreset_all wrong is = misreset wrong is.first.reset ++ misreset_next wrong is.more

-- a component that takes no reset from its instance: one that is no field, or has its reset already
abbrev pub takes_no_reset : Body → List RdlItem → Bool
takes_no_reset kind items = not (is_field kind) || is_assigned items p.Reset

abbrev pub misreset_of : Body → List RdlItem → Option RdlInsts → List Place
misreset_of kind items None = []
misreset_of kind items (Some is) = misreset_all (takes_no_reset kind items) is

abbrev pub misreset_use : RdlInsts → Option Component → List Place
misreset_use is None = []
misreset_use is (Some c) = misreset_all (takes_no_reset (kind_of c) (out-RdlDef c.definition).items) is

-- ---- of one item of a body, with these items before it

abbrev pub misassigned_by : Chain → Body → List RdlItem → RdlItem-F RdlItem RdlDef → List Place
misassigned_by outer kind before (RdlItem-F.Def d) = misreset_of (body_of (out-RdlDef d).kind) (out-RdlDef d).items (out-RdlDef d).insts
misassigned_by outer kind before (RdlItem-F.Use u) = misreset_use u.insts (type_of (outer ++ before ∷ []) u.name.text)
misassigned_by outer kind before (RdlItem-F.Default word prop semi) = place_if (is_misdefaulted before (row_of prop.name.text)) word.place
misassigned_by outer kind before (RdlItem-F.Prop prop semi) = place_if (is_misassigned_here kind before (row_of prop.name.text)) prop.name.place
misassigned_by outer kind before (RdlItem-F.Dynamic path arrow prop semi) = place_if (is_mistargeted before path (row_of prop.name.text)) path.first.name.place
misassigned_by outer kind before (RdlItem-F.Enum e) = mislabelled e.entries
