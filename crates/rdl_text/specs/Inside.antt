-- What is refused in the body of an item, where it is a definition.
use Rattle.std.specs.Prelude.{List, [], ◌∷◌, ◌++◌, Option, Some, None}
use Rattle.bit_base.specs.declared.place.Place.{Place}
use Rattle.rdl_tree.specs.declared.tree.RdlItem.{RdlItem}
use Rattle.rdl_tree.specs.declared.tree.RdlItem.TheOpen.{RdlItem-F}
use Rattle.rdl_tree.specs.declared.tree.RdlDef.{RdlDef, out-RdlDef}
use Rattle.rdl_text.specs.declared.text.Check.{Check}
use Rattle.rdl_text.specs.Chains.{Chain}
use Rattle.rdl_text.specs.Instances.{body_of}
use Rattle.rdl_text.specs.Refusals.{IsRefused}

abbrev pub definition_in : RdlItem-F RdlItem RdlDef → Option RdlDef
definition_in (RdlItem-F.Def d) = Some d
definition_in _ = None

abbrev pub InsideOf : Check → Chain → List RdlItem → Option RdlDef → Place → Type 0
InsideOf c outer before None p = ⊥
InsideOf c outer before (Some d) p = IsRefused c (outer ++ before ∷ []) (body_of (out-RdlDef d).kind) (out-RdlDef d).items p

abbrev pub Inside : Check → Chain → List RdlItem → RdlItem-F RdlItem RdlDef → Place → Type 0
Inside c outer before item p = InsideOf c outer before (definition_in item) p
