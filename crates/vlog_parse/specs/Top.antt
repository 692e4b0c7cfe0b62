-- The module that no module of the file instantiates (IEEE 1364-2005, 12.1.1, top-level modules).
use Rattle.std.specs.Prelude.{◌≡◌, ◌≢◌, ◌⊎◌, ℕ, Bool, not, List, [], ◌∷◌, ◌++◌, map, filter, count_by, Option, Some, None, bytes_eq}
use Rattle.std.specs.List.{list_any}
use Rattle.vlog_tree.specs.declared.fault.VlogCode.TheVariants.{VlogName}
use Rattle.vlog_tree.specs.declared.fault.VlogFault.{VlogFault}
use Rattle.vlog_tree.specs.declared.fault.VlogFault.TheVariants.{NoMemory, At}
use Rattle.vlog_tree.specs.declared.tree_modules.VlogFile.{VlogFile}
use Rattle.vlog_tree.specs.declared.tree_modules.VModule.{VModule}
use Rattle.vlog_tree.specs.declared.tree_modules.VMitem.{VMitem}
use Rattle.vlog_tree.specs.declared.tree_modules.VGelse.{VGelse}
use Rattle.vlog_tree.specs.declared.tree_modules.VGbody.{VGbody}
use Rattle.vlog_tree.specs.declared.tree_modules.VGbody.TheOpen.{VGbody-F, VMitem-F, VGelse-F}
use Rattle.vlog_tree.specs.declared.tree_modules.VGbody.TheFolds.{fold-VGbody, fold-VMitem, fold-VGelse}

abbrev pub Name : Type 0
Name = List ℕ

abbrev pub Names : Type 0
Names = List Name

abbrev pub all_names : List Names → Names
all_names [] = []
all_names (names ∷ more) = names ++ all_names more

abbrev pub names_of_option : Option Names → Names
names_of_option None = []
names_of_option (Some names) = names

-- The names of the modules of the instances in an item, in the order of the text: those of an instance, and those in
-- the bodies of regions, loops and conditions.
abbrev pub gbody_layer : VGbody-F Names Names Names → Names
gbody_layer (VGbody-F.Item item) = item
gbody_layer (VGbody-F.Block word label items end) = all_names items

abbrev pub mitem_layer : VMitem-F Names Names Names → Names
mitem_layer (VMitem-F.Generate word items end) = all_names items
mitem_layer (VMitem-F.Instance instance) = instance.module_name.text ∷ []
mitem_layer (VMitem-F.For head body) = body
mitem_layer (VMitem-F.If head branch other) = branch ++ names_of_option other
mitem_layer _ = []

abbrev pub gelse_layer : VGelse-F Names Names Names → Names
gelse_layer v = v.body

abbrev pub instances_of_gbody : VGbody → Names
instances_of_gbody = fold-VGbody Names Names Names gbody_layer mitem_layer gelse_layer

abbrev pub instances_of_mitem : VMitem → Names
instances_of_mitem = fold-VMitem Names Names Names gbody_layer mitem_layer gelse_layer

abbrev pub instances_of_gelse : VGelse → Names
instances_of_gelse = fold-VGelse Names Names Names gbody_layer mitem_layer gelse_layer

abbrev pub instances_of_items : List VMitem → Names
instances_of_items items = all_names (map instances_of_mitem items)

-- The names of the modules of all instances of these modules.
abbrev pub instances_of : List VModule → Names
instances_of modules = all_names (map (λ m. instances_of_items m.items) modules)

-- A module of this name is instantiated.
abbrev pub is_among : Names → Name → Bool
is_among names name = list_any (bytes_eq name) names

-- The modules that no module of the file instantiates.
abbrev pub tops : VlogFile → List VModule
tops file = filter (λ m. not (is_among (instances_of file.modules) m.name.text)) file.modules

-- The name of the one module that no module instantiates.
pub record IsTop (file : VlogFile) (name : Name) : Type 0 where
  pub top : VModule
  pub one : tops file ≡ top ∷ []
  pub here : name ≡ top.name.text

-- There are none, or several.
abbrev pub HasNoTop : VlogFile → Type 0
HasNoTop file = (top : VModule) → tops file ≢ top ∷ []

-- Want of memory, or this refusal of the whole text.
abbrev pub IsNoTopFault : VlogFile → VlogFault → Type 0
IsNoTopFault file fault = (fault ≡ NoMemory) ⊎ ((fault ≡ At VlogName (record { file = 0; line = 0; column = 0 }) [] []) × HasNoTop file)

-- How many modules have this name.
abbrev pub count_named : VlogFile → Name → ℕ
count_named file name = count_by (λ m. bytes_eq name m.name.text) file.modules
