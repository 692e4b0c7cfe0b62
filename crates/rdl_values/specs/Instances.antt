-- The instances of a component's body, in the order of the text (SystemRDL 2.0, clause 5.1.2, "Instantiating components"), and
-- the top of a description: the last address map with a name that is defined in the description itself.
use Rattle.std.specs.Prelude.{ℕ, if◌then◌else◌, List, [], ◌∷◌, ◌++◌, Option, Some, None}
use Rattle.rdl_tree.specs.declared.tree.RdlFile.{RdlFile}
use Rattle.rdl_tree.specs.declared.tree.RdlItem.{RdlItem, out-RdlItem}
use Rattle.rdl_tree.specs.declared.tree.RdlItem.TheOpen.{RdlItem-F}
use Rattle.rdl_tree.specs.declared.tree.RdlDef.{RdlDef, out-RdlDef}
use Rattle.rdl_tree.specs.declared.tree.RdlInsts.{RdlInsts}
use Rattle.rdl_tree.specs.declared.tree.RdlNextInst.{RdlNextInst}
use Rattle.rdl_tree.specs.declared.tree.RdlRange.{RdlRange}
use Rattle.rdl_text.specs.Lists.{or_else}
use Rattle.rdl_text.specs.Chains.{Chain}
use Rattle.rdl_text.specs.Components.{Component}
use Rattle.rdl_text.specs.Types.{type_of}
use Rattle.rdl_text.specs.Instances.{kind_of, is_field}
use Rattle.rdl_text.specs.Names.{can_be_top}
use Rattle.rdl_values.specs.OneInstance.{Instance}

abbrev pub next_with : Component → List RdlNextInst → List Instance
next_with c [] = []
next_with c (n ∷ ns) = record { inst = n.inst; component = c } ∷ next_with c ns

abbrev pub all_with : Component → RdlInsts → List Instance
all_with c is = record { inst = is.first; component = c } ∷ next_with c is.more

abbrev pub any_with : Component → Option RdlInsts → List Instance
any_with c None = []
any_with c (Some is) = all_with c is

-- a type that isn't there has no instances
abbrev pub used_with : Option Component → RdlInsts → List Instance
used_with None is = []
used_with (Some c) is = all_with c is

-- those of one item, with these before it in its body
abbrev pub instances_by : Chain → List RdlItem → RdlItem-F RdlItem RdlDef → List Instance
instances_by outer before (RdlItem-F.Def d) = any_with (record { definition = d; chain = outer ++ before ∷ [] }) (out-RdlDef d).insts
instances_by outer before (RdlItem-F.Use u) = used_with (type_of (outer ++ before ∷ []) u.name.text) u.insts
instances_by outer before _ = []

abbrev pub instances_from : Chain → List RdlItem → List RdlItem → List Instance
instances_from outer before [] = []
instances_from outer before (x ∷ xs) = instances_by outer before (out-RdlItem x) ++ instances_from outer (before ++ x ∷ []) xs

abbrev pub instances_of : Component → List Instance
instances_of c = instances_from c.chain [] (out-RdlDef c.definition).items

-- the number of elements of an array, 1 of anything else; the range of a field gives its bits
abbrev pub elements_in : Option RdlRange → ℕ
elements_in None = 1
elements_in (Some r) = r.first.value

abbrev pub count_of : Instance → ℕ
count_of i = if is_field (kind_of i.component) then 1 else elements_in i.inst.range

-- ---- the top

abbrev pub top_by : List RdlItem → RdlItem-F RdlItem RdlDef → Option Component
top_by before (RdlItem-F.Def d) = if can_be_top (RdlItem-F.Def d) then Some (record { definition = d; chain = before ∷ [] }) else None
top_by before _ = None

abbrev pub top_from : List RdlItem → List RdlItem → Option Component
top_from before [] = None
top_from before (x ∷ xs) = or_else (top_from (before ++ x ∷ []) xs) (top_by before (out-RdlItem x))

abbrev pub top_of : RdlFile → Option Component
top_of file = top_from [] file.items
