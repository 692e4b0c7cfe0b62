-- The register map of the bytes of a description, and what they are refused for.
use Rattle.std.specs.Prelude.{◌⊎◌, ℕ, List, ⊤}
use Rattle.bit_base.specs.declared.place.Place.{Place}
use Rattle.field_policies.specs.declared.map.RegMap.{RegMap}
use Rattle.rdl_tree.specs.declared.fault.RdlCode.{RdlCode}
use Rattle.rdl_tree.specs.declared.fault.RdlFault.{RdlFault}
use Rattle.rdl_tree.specs.declared.fault.RdlFault.TheVariants.{NoMemory, At}
use Rattle.rdl_tree.specs.declared.token.RdlTokens.{RdlTokens}
use Rattle.rdl_tree.specs.declared.tree.RdlFile.{RdlFile}
use Rattle.rdl_tree.specs.Scan as scan
use Rattle.rdl_tree.specs.Scan.{IsTokensOf}
use Rattle.rdl_tree.specs.Tree.{IsReading}
use Rattle.rdl_parse.specs.Depth.{IsShallow}
use Rattle.rdl_parse.specs.Refusal as reading
use Rattle.rdl_elab.specs.Refusals as elaboration
use Rattle.rdl_elab.specs.Refusals.{IsFine}
use Rattle.rdl_regmap.specs.RegMaps.{IsRegMapOf}
use Rattle.map_report.specs.Reports.{Reports}

-- the tree of the tokens of these bytes
pub record IsTreeOf (bytes : List ℕ) (file : RdlFile) : Type 0 where
  pub tokens : RdlTokens
  pub scanned : IsTokensOf bytes tokens
  pub read : IsReading tokens file
  pub shallow : IsShallow tokens.list

-- a text is the report of the register map of these bytes
pub record IsMapText (bytes text : List ℕ) : Type 0 where
  pub file : RdlFile
  pub tree : IsTreeOf bytes file
  pub fine : IsFine file
  pub map : RegMap
  pub is : IsRegMapOf file map
  pub report : Reports map text

-- these bytes have tokens that have no tree
pub record IsNoTree (bytes : List ℕ) (code : RdlCode) (place : Place) : Type 0 where
  pub tokens : RdlTokens
  pub scanned : IsTokensOf bytes tokens
  pub refused : reading.Refuses tokens (At code place)

-- their tree is refused
pub record IsNoMap (bytes : List ℕ) (code : RdlCode) (place : Place) : Type 0 where
  pub file : RdlFile
  pub tree : IsTreeOf bytes file
  pub refused : elaboration.Refuses file (At code place)

-- these bytes are refused for this code at this place: in the order tokens, tree, names, properties,
-- values, places, sizes
abbrev pub IsRefusedAt : List ℕ → RdlCode → Place → Type 0
IsRefusedAt bytes code place = scan.Refuses bytes (At code place) ⊎ IsNoTree bytes code place ⊎ IsNoMap bytes code place

abbrev pub Refuses : List ℕ → RdlFault → Type 0
Refuses bytes NoMemory = ⊤
Refuses bytes (At code place) = IsRefusedAt bytes code place
