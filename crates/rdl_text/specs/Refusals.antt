-- What the text of a description is refused for, by code and place: names before properties before values, and of one code
-- the first in the text.
use Rattle.std.specs.Prelude.{◌≡◌, ◌⊎◌, ℕ, Bool, true, false, not, List, [], ◌∷◌, ◌++◌, Contains, Some, slice_get, take}
use Rattle.bit_base.specs.declared.place.Place.{Place}
use Rattle.bit_base.specs.Places.{is_before}
use Rattle.rdl_tree.specs.declared.fault.RdlFault.{RdlFault}
use Rattle.rdl_tree.specs.declared.fault.RdlFault.TheVariants.{NoMemory, At}
use Rattle.rdl_tree.specs.declared.fault.RdlCode.TheVariants.{RdlName, RdlProperty, RdlValue}
use Rattle.rdl_tree.specs.declared.tree.RdlFile.{RdlFile}
use Rattle.rdl_tree.specs.declared.tree.RdlItem.{RdlItem, out-RdlItem}
use Rattle.rdl_tree.specs.declared.tree.RdlItem.TheOpen.{RdlItem-F}
use Rattle.rdl_tree.specs.declared.tree.RdlDef.{RdlDef, out-RdlDef}
use Rattle.rdl_text.specs.declared.instance.Body.{Body}
use Rattle.rdl_text.specs.declared.instance.Body.TheVariants as body
use Rattle.rdl_text.specs.declared.text.Check.{Check}
use Rattle.rdl_text.specs.declared.text.Check.TheVariants as check
use Rattle.rdl_text.specs.Chains.{Chain}
use Rattle.rdl_text.specs.Instances.{body_of}
use Rattle.rdl_text.specs.Names.{misnamed_by, has_top}
use Rattle.rdl_text.specs.Assignments.{misassigned_by}
use Rattle.rdl_text.specs.Forms.{misvalued_by}

-- ---- of one body: of an item with these items before it, and of all items

abbrev pub refused_by : Check → Chain → Body → List RdlItem → List RdlItem → RdlItem-F RdlItem RdlDef → List Place
refused_by check.Names outer kind items before item = misnamed_by outer kind items before item
refused_by check.Properties outer kind items before item = misassigned_by outer kind before item
refused_by check.Values outer kind items before item = misvalued_by outer before item

abbrev pub refused_from : Check → Chain → Body → List RdlItem → List RdlItem → List RdlItem → List Place
refused_from c outer kind items before [] = []
refused_from c outer kind items before (x ∷ xs) = refused_by c outer kind items before (out-RdlItem x) ++ refused_from c outer kind items (before ++ x ∷ []) xs

-- ---- of all bodies: the body itself, and those of its definitions

pub data IsRefused (c : Check) : Chain → Body → List RdlItem → Place → Type 0 where
  own : (outer : Chain) (kind : Body) (items : List RdlItem) (p : Place) → Contains (refused_from c outer kind items [] items) p → IsRefused c outer kind items p
  inside : (outer : Chain) (kind : Body) (items : List RdlItem) (p : Place) (k : ℕ) (x : RdlItem) (d : RdlDef)
      → slice_get items k ≡ Some x → out-RdlItem x ≡ RdlItem-F.Def d
      → IsRefused c (outer ++ take k items ∷ []) (body_of (out-RdlDef d).kind) (out-RdlDef d).items p → IsRefused c outer kind items p

-- ---- of a description

abbrev pub lacks_top : Check → List RdlItem → Bool
lacks_top check.Names items = not (has_top items)
lacks_top _ items = false

-- no top is refused as a name, at the description's end
abbrev pub LacksTop : Check → RdlFile → Place → Type 0
LacksTop c file p = (lacks_top c file.items ≡ true) × (p ≡ file.end)

abbrev pub IsFault : Check → RdlFile → Place → Type 0
IsFault c file p = IsRefused c [] body.File file.items p ⊎ LacksTop c file p

abbrev pub HasNone : Check → RdlFile → Type 0
HasNone c file = (p : Place) → IsFault c file p → ⊥

-- the first of them
pub record IsFirstFault (c : Check) (file : RdlFile) (p : Place) : Type 0 where
  pub here : IsFault c file p
  pub first : (q : Place) → IsFault c file q → is_before q p ≡ false

pub record IsFine (file : RdlFile) : Type 0 where
  pub names : HasNone check.Names file
  pub properties : HasNone check.Properties file
  pub values : HasNone check.Values file

-- the least code that has a fault, at the first of its faults
abbrev pub Refuses : RdlFile → RdlFault → Type 0
Refuses file NoMemory = Unit {0}
Refuses file (At RdlName place) = IsFirstFault check.Names file place
Refuses file (At RdlProperty place) = HasNone check.Names file × IsFirstFault check.Properties file place
Refuses file (At RdlValue place) = HasNone check.Names file × HasNone check.Properties file × IsFirstFault check.Values file place
Refuses file (At _ place) = ⊥
