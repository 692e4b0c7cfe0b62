-- What the effective values of a description are refused for, by place: of all instances below its top, nested as deep as is
-- allowed. A description without a top has none.
use Rattle.std.specs.Prelude.{◌≡◌, false, List, [], Contains, Option, Some, None}
use Rattle.bit_base.specs.declared.place.Place.{Place}
use Rattle.bit_base.specs.Places.{is_before}
use Rattle.rdl_tree.specs.declared.tree.RdlFile.{RdlFile}
use Rattle.rdl_text.specs.Components.{Component}
use Rattle.rdl_values.specs.Instances.{top_of}
use Rattle.rdl_values.specs.Walks.{Gives, over}
use Rattle.rdl_effects.specs.declared.effect.Effect.{Effect}
use Rattle.rdl_effects.specs.Bodies.{refused_at}

-- what the instances below a top give: they nest at most 64 deep, and fields stand in the innermost
abbrev pub over_top : {A : Type 0} → Gives A → Option Component → List A
over_top give None = []
over_top give (Some c) = over give 65 [] c

-- the places, in the order of the instances
abbrev pub conflicts_of : Effect → RdlFile → List Place
conflicts_of e file = over_top (refused_at e) (top_of file)

abbrev pub IsConflict : Effect → RdlFile → Place → Type 0
IsConflict e file p = Contains (conflicts_of e file) p

abbrev pub HasNone : Effect → RdlFile → Type 0
HasNone e file = (p : Place) → IsConflict e file p → ⊥

-- the first of them
pub record IsFirstConflict (e : Effect) (file : RdlFile) (p : Place) : Type 0 where
  pub here : IsConflict e file p
  pub first : (q : Place) → IsConflict e file q → is_before q p ≡ false
