-- Which descriptions have no reading, and where that shows first.
use Rattle.std.specs.Prelude.{◌≡◌, ◌≢◌, ◌⊎◌, true, List, [], ◌∷◌, ◌++◌, Result, Ok, Err}
use Rattle.bit_base.specs.declared.place.Place.{Place}
use Rattle.rdl_tree.specs.declared.fault.RdlCode.{RdlCode}
use Rattle.rdl_tree.specs.declared.fault.RdlCode.TheVariants.{RdlSyntax, RdlDeep}
use Rattle.rdl_tree.specs.declared.fault.RdlFault.{RdlFault}
use Rattle.rdl_tree.specs.declared.fault.RdlFault.TheVariants.{NoMemory, At}
use Rattle.rdl_tree.specs.declared.token.RdlToken.{RdlToken}
use Rattle.rdl_tree.specs.declared.token.RdlTokens.{RdlTokens}
use Rattle.rdl_tree.specs.declared.tree.RdlFile.{RdlFile}
use Rattle.rdl_tree.specs.Tree.{Tokens, flat, fits, IsReading}
use Rattle.rdl_parse.specs.Depth.{IsShallow, IsFirstDeep}

-- the tokens of some fitting tree begin with these
abbrev pub Continues : Tokens → Type 0
Continues front = (f : RdlFile) × ((fits f ≡ true) × ((more : Tokens) × (flat f ≡ front ++ more)))

abbrev pub HasNoReading : RdlTokens → Type 0
HasNoReading tokens = (f : RdlFile) → IsReading tokens f → ⊥

-- The first token such that no fitting tree's tokens begin with those up to and including it: those before it can be continued.
pub record IsFirstImpossible (tokens : RdlTokens) (place : Place) : Type 0 where
  pub front : Tokens
  pub token : RdlToken
  pub more : Tokens
  pub split : tokens.list ≡ front ++ token ∷ more
  pub here : place ≡ token.place
  pub before : Continues front
  pub none : Continues (front ++ token ∷ []) → ⊥

-- No token is: all of them can be continued, and only the end comes too early.
pub record IsCutShort (tokens : RdlTokens) (place : Place) : Type 0 where
  pub here : place ≡ tokens.end
  pub before : Continues tokens.list

abbrev pub IsFirstFault : RdlTokens → Place → Type 0
IsFirstFault tokens place = IsFirstImpossible tokens place ⊎ IsCutShort tokens place

-- where the fault is this code at a place, this holds of the place
abbrev pub OnCode : RdlCode → (Place → Type 0) → RdlFault → Type 0
OnCode code P fault = (place : Place) → fault ≡ At code place → P place

-- the fault is one of the reader's
abbrev pub IsOfReader : RdlFault → Type 0
IsOfReader fault = (fault ≡ NoMemory) ⊎ ((place : Place) × ((fault ≡ At RdlDeep place) ⊎ (fault ≡ At RdlSyntax place)))

-- why tokens are refused
abbrev pub Refuses : RdlTokens → RdlFault → Type 0
Refuses tokens NoMemory = Unit {0}
Refuses tokens (At RdlDeep place) = IsFirstDeep tokens.list place
Refuses tokens (At RdlSyntax place) = IsShallow tokens.list × (HasNoReading tokens × IsFirstFault tokens place)
Refuses tokens (At _ place) = ⊥

-- what is answered, in all its cases
abbrev pub Answers : RdlTokens → Result RdlFile RdlFault → Type 0
Answers tokens (Ok file) = IsReading tokens file × IsShallow tokens.list
Answers tokens (Err fault) = Refuses tokens fault

-- But for want of memory, the tokens determine the answer.
abbrev pub OneAnswer : Type 0
OneAnswer =
    (tokens : RdlTokens) (a b : Result RdlFile RdlFault) → Answers tokens a → Answers tokens b → a ≢ Err NoMemory → b ≢ Err NoMemory → a ≡ b

-- two fitting trees with equal tokens are equal
abbrev pub HasAtMostOneReading : Type 0
HasAtMostOneReading = (f g : RdlFile) → fits f ≡ true → fits g ≡ true → flat f ≡ flat g → f.end ≡ g.end → f ≡ g
