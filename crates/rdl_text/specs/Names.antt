-- Which names of a description are refused, and where (SystemRDL 2.0, clauses 5.1, 5.1.4 and 5.2): a type, a step of a path or
-- a component that isn't there; a name that is defined or instantiated twice in a body; a path that leads to the wrong kind
-- of thing; a component in a body that can't hold it; no top. A refusal stands at the first token of its definition, use,
-- assignment or enumeration, that of a name given twice at the later one.
use Rattle.std.specs.Prelude.{ℕ, Bool, true, false, not, ◌&&◌, ◌||◌, if◌then◌else◌, List, [], ◌∷◌, ◌++◌, Option, Some, None, is_some}
use Rattle.std.specs.List.{list_any}
use Rattle.bit_base.specs.declared.place.Place.{Place}
use Rattle.rdl_tree.specs.declared.token.RdlToken.{RdlToken}
use Rattle.rdl_tree.specs.declared.tree.RdlItem.{RdlItem, out-RdlItem}
use Rattle.rdl_tree.specs.declared.tree.RdlItem.TheOpen.{RdlItem-F, RdlDef-F}
use Rattle.rdl_tree.specs.declared.tree.RdlDef.{RdlDef, out-RdlDef}
use Rattle.rdl_tree.specs.declared.tree.RdlUse.{RdlUse}
use Rattle.rdl_tree.specs.declared.tree.RdlInst.{RdlInst}
use Rattle.rdl_tree.specs.declared.tree.RdlInsts.{RdlInsts}
use Rattle.rdl_tree.specs.declared.tree.RdlNextInst.{RdlNextInst}
use Rattle.rdl_tree.specs.declared.tree.RdlPath.{RdlPath}
use Rattle.rdl_tree.specs.declared.tree.RdlProp.{RdlProp}
use Rattle.rdl_tree.specs.Tree.{is_text, flat_kind}
use Rattle.rdl_text.specs.declared.instance.Body.{Body}
use Rattle.rdl_text.specs.declared.instance.Body.TheVariants as body
use Rattle.rdl_text.specs.declared.property.Owner.{Owner}
use Rattle.rdl_text.specs.declared.property.Owner.TheVariants as of
use Rattle.rdl_text.specs.declared.property.Row.{Row}
use Rattle.rdl_text.specs.Chains.{Chain}
use Rattle.rdl_text.specs.Components.{Component}
use Rattle.rdl_text.specs.Types.{is_named, type_of}
use Rattle.rdl_text.specs.Instances.{body_of, kind_of, is_field, holds, lead}
use Rattle.rdl_text.specs.Properties.{row_of}
use Rattle.rdl_text.specs.References.{reference_in}

abbrev pub place_if : Bool → Place → List Place
place_if b p = if b then p ∷ [] else []

-- ---- a name given twice

abbrev pub defines : List ℕ → RdlItem-F RdlItem RdlDef → Bool
defines name (RdlItem-F.Def d) = is_named name (out-RdlDef d).name
defines name (RdlItem-F.Enum e) = is_text name e.name
defines name _ = false

abbrev pub is_defined : List RdlItem → List ℕ → Bool
is_defined before name = list_any (λ x. defines name (out-RdlItem x)) before

abbrev pub is_defined_again : List RdlItem → Option RdlToken → Bool
is_defined_again before None = false
is_defined_again before (Some t) = is_defined before t.text

abbrev pub is_among : List ℕ → List RdlNextInst → Bool
is_among name ns = list_any (λ n. is_text name n.inst.name) ns

abbrev pub has_inst : List ℕ → RdlInsts → Bool
has_inst name is = is_text name is.first.name || is_among name is.more

abbrev pub has_any_inst : List ℕ → Option RdlInsts → Bool
has_any_inst name None = false
has_any_inst name (Some is) = has_inst name is

abbrev pub instantiates : List ℕ → RdlItem-F RdlItem RdlDef → Bool
instantiates name (RdlItem-F.Def d) = has_any_inst name (out-RdlDef d).insts
instantiates name (RdlItem-F.Use u) = has_inst name u.insts
instantiates name _ = false

abbrev pub is_instantiated : List RdlItem → List ℕ → Bool
is_instantiated before name = list_any (λ x. instantiates name (out-RdlItem x)) before

-- the instances whose name one before them in the body has: the first of a list, and the ones behind it
abbrev pub repeated_next : List RdlItem → RdlInst → List RdlNextInst → List RdlNextInst → List Place
repeated_next before first seen [] = []
repeated_next before first seen (n ∷ ns) =
    place_if (is_instantiated before n.inst.name.text || is_text n.inst.name.text first.name || is_among n.inst.name.text seen) n.inst.name.place
    ++ repeated_next before first (seen ++ n ∷ []) ns

abbrev pub repeated : List RdlItem → RdlInsts → List Place
repeated before is = place_if (is_instantiated before is.first.name.text) is.first.name.place ++ repeated_next before is.first [] is.more

abbrev pub repeated_any : List RdlItem → Option RdlInsts → List Place
repeated_any before None = []
repeated_any before (Some is) = repeated before is

-- ---- components and paths

abbrev pub is_file : Body → Bool
is_file body.File = true
is_file _ = false

-- instances that the body can't hold
abbrev pub is_out_of_place : Body → RdlDef-F RdlItem RdlDef → Bool
is_out_of_place kind d = is_some d.insts && not (holds kind (body_of d.kind))

-- a type that isn't there, or whose instances the body can't hold
abbrev pub is_misused : Body → Option Component → Bool
is_misused kind None = true
is_misused kind (Some c) = not (holds kind (kind_of c))

abbrev pub owns : Owner → Body → Bool
owns of.All kind = true
owns of.Addrmap body.Addrmap = true
owns of.Reg body.Reg = true
owns of.Field body.Field = true
owns _ _ = false

abbrev pub is_of_field : Option Component → Bool
is_of_field None = false
is_of_field (Some c) = is_field (kind_of c)

-- a reference that leads to no field
abbrev pub is_lost : Chain → List RdlItem → Option RdlPath → Bool
is_lost outer items None = false
is_lost outer items (Some path) = not (is_of_field (lead outer items path))

-- a property that components of this kind don't have, or a reference in it that is lost; a name that is no property's is
-- refused elsewhere
abbrev pub is_misassigned : Chain → List RdlItem → RdlProp → Body → Option Row → Bool
is_misassigned outer items prop kind None = false
is_misassigned outer items prop kind (Some row) = not (owns row.owner kind) || is_lost outer items (reference_in row.form prop.value)

abbrev pub is_misled_at : Chain → List RdlItem → RdlProp → Option Component → Bool
is_misled_at outer items prop None = true
is_misled_at outer items prop (Some c) = is_misassigned outer items prop (kind_of c) (row_of prop.name.text)

-- an assignment to a path that leads nowhere or to the wrong kind of thing
abbrev pub is_misled : Chain → List RdlItem → RdlPath → RdlProp → Bool
is_misled outer items path prop = is_misled_at outer items prop (lead outer items path)

-- ---- of one body

abbrev pub misnamed_def : Body → List RdlItem → RdlDef-F RdlItem RdlDef → List Place
misnamed_def kind before d = place_if (is_defined_again before d.name || is_out_of_place kind d) (flat_kind d.kind).place ++ repeated_any before d.insts

abbrev pub misnamed_use : Chain → Body → List RdlItem → RdlUse → List Place
misnamed_use outer kind before u = place_if (is_misused kind (type_of (outer ++ before ∷ []) u.name.text)) u.name.place ++ repeated before u.insts

-- the refusals of one item of a body, with these items before it; a description has no properties of its own
abbrev pub misnamed_by : Chain → Body → List RdlItem → List RdlItem → RdlItem-F RdlItem RdlDef → List Place
misnamed_by outer kind items before (RdlItem-F.Def d) = misnamed_def kind before (out-RdlDef d)
misnamed_by outer kind items before (RdlItem-F.Use u) = misnamed_use outer kind before u
misnamed_by outer kind items before (RdlItem-F.Enum e) = place_if (is_defined before e.name.text) e.word.place
misnamed_by outer kind items before (RdlItem-F.Prop prop semi) = place_if (is_file kind) prop.name.place
misnamed_by outer kind items before (RdlItem-F.Dynamic path arrow prop semi) = place_if (is_file kind || is_misled outer items path prop) path.first.name.place
misnamed_by outer kind items before (RdlItem-F.Default word prop semi) = []

abbrev pub misnamed_from : Chain → Body → List RdlItem → List RdlItem → List RdlItem → List Place
misnamed_from outer kind items before [] = []
misnamed_from outer kind items before (x ∷ xs) = misnamed_by outer kind items before (out-RdlItem x) ++ misnamed_from outer kind items (before ++ x ∷ []) xs

-- ---- the top

abbrev pub is_addrmap : Body → Bool
is_addrmap body.Addrmap = true
is_addrmap _ = false

-- an address map with a name, defined in the description itself, can be its top
abbrev pub can_be_top : RdlItem-F RdlItem RdlDef → Bool
can_be_top (RdlItem-F.Def d) = is_some (out-RdlDef d).name && is_addrmap (body_of (out-RdlDef d).kind)
can_be_top _ = false

abbrev pub has_top : List RdlItem → Bool
has_top items = list_any (λ x. can_be_top (out-RdlItem x)) items
