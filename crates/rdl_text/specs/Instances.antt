-- Instances (SystemRDL 2.0, clause 5.1.2, "Instantiating components") and the paths that lead to them.
use Rattle.std.specs.Prelude.{Bool, true, false, not, ◌&&◌, nat_lt, if◌then◌else◌, ℕ, List, [], ◌∷◌, ◌++◌, Option, Some, None}
use Rattle.std.specs.Option.{option_and_then}
use Rattle.rdl_tree.specs.declared.tree.RdlItem.{RdlItem, out-RdlItem}
use Rattle.rdl_tree.specs.declared.tree.RdlItem.TheOpen.{RdlItem-F}
use Rattle.rdl_tree.specs.declared.tree.RdlDef.{RdlDef, out-RdlDef}
use Rattle.rdl_tree.specs.declared.tree.RdlKind.{RdlKind}
use Rattle.rdl_tree.specs.declared.tree.RdlKind.TheVariants as kind
use Rattle.rdl_tree.specs.declared.tree.RdlInst.{RdlInst}
use Rattle.rdl_tree.specs.declared.tree.RdlInsts.{RdlInsts}
use Rattle.rdl_tree.specs.declared.tree.RdlNextInst.{RdlNextInst}
use Rattle.rdl_tree.specs.declared.tree.RdlRange.{RdlRange}
use Rattle.rdl_tree.specs.declared.tree.RdlIndex.{RdlIndex}
use Rattle.rdl_tree.specs.declared.tree.RdlStep.{RdlStep}
use Rattle.rdl_tree.specs.declared.tree.RdlNextStep.{RdlNextStep}
use Rattle.rdl_tree.specs.declared.tree.RdlPath.{RdlPath}
use Rattle.rdl_tree.specs.Tree.{is_text}
use Rattle.rdl_text.specs.declared.instance.Body.{Body}
use Rattle.rdl_text.specs.declared.instance.Body.TheVariants as body
use Rattle.rdl_text.specs.Lists.{or_else}
use Rattle.rdl_text.specs.Chains.{Chain}
use Rattle.rdl_text.specs.Components.{Component}
use Rattle.rdl_text.specs.Types.{type_of}

abbrev pub body_of : RdlKind → Body
body_of (kind.Addrmap t) = body.Addrmap
body_of (kind.Regfile t) = body.Regfile
body_of (kind.Reg t) = body.Reg
body_of (kind.Field t) = body.Field

abbrev pub kind_of : Component → Body
kind_of c = body_of (out-RdlDef c.definition).kind

abbrev pub is_field : Body → Bool
is_field body.Field = true
is_field _ = false

-- clauses 10 to 13: fields stand in registers, registers in register files and address maps, register files in both,
-- address maps in address maps
abbrev pub holds : Body → Body → Bool
holds body.Addrmap body.Addrmap = true
holds body.Addrmap body.Regfile = true
holds body.Addrmap body.Reg = true
holds body.Regfile body.Regfile = true
holds body.Regfile body.Reg = true
holds body.Reg body.Field = true
holds _ _ = false

-- the instance of this name among those of one definition or use
abbrev pub next_inst : List ℕ → List RdlNextInst → Option RdlInst
next_inst name [] = None
next_inst name (n ∷ ns) = or_else (if is_text name n.inst.name then Some n.inst else None) (next_inst name ns)

abbrev pub inst_in : List ℕ → RdlInsts → Option RdlInst
inst_in name is = or_else (if is_text name is.first.name then Some is.first else None) (next_inst name is.more)

abbrev pub inst_of : List ℕ → Option RdlInsts → Option RdlInst
inst_of name o = option_and_then (inst_in name) o

-- clause 5.1.2.1: an element of an array is named with its index, anything else without one; the range of a field gives its bits
abbrev pub names_element : Bool → Option RdlRange → Option RdlIndex → Bool
names_element of_field None None = true
names_element of_field None (Some k) = false
names_element of_field (Some r) None = of_field
names_element of_field (Some r) (Some k) = not of_field && nat_lt k.number.value r.first.value

-- where this instance is there and the step names it or an element of it, its component
abbrev pub entered : RdlStep → Option RdlInst → Option Component → Option Component
entered s (Some i) (Some c) = if names_element (is_field (kind_of c)) i.range s.index then Some c else None
entered s _ _ = None

-- the component that the step leads to by one item, with these before it in its body
abbrev pub entered_by : Chain → List RdlItem → RdlStep → RdlItem-F RdlItem RdlDef → Option Component
entered_by outer before s (RdlItem-F.Def d) = entered s (inst_of s.name.text (out-RdlDef d).insts) (Some (record { definition = d; chain = outer ++ before ∷ [] }))
entered_by outer before s (RdlItem-F.Use u) = entered s (inst_in s.name.text u.insts) (type_of (outer ++ before ∷ []) u.name.text)
entered_by outer before s _ = None

-- the component that the step leads to from a body
abbrev pub step_from : Chain → List RdlItem → RdlStep → List RdlItem → Option Component
step_from outer before s [] = None
step_from outer before s (x ∷ xs) = or_else (entered_by outer before s (out-RdlItem x)) (step_from outer (before ++ x ∷ []) s xs)

abbrev pub step_on : RdlStep → Option Component → Option Component
step_on s None = None
step_on s (Some c) = step_from c.chain [] s (out-RdlDef c.definition).items

abbrev pub steps_on : Option Component → List RdlNextStep → Option Component
steps_on at [] = at
steps_on at (n ∷ ns) = steps_on (step_on n.step at) ns

-- the component that the path leads to from a body, with these bodies around it
abbrev pub lead : Chain → List RdlItem → RdlPath → Option Component
lead outer items path = steps_on (step_from outer [] path.first items) path.more
