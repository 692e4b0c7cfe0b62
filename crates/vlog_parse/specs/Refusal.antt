-- Which texts have no reading, and where that shows first.
use Rattle.std.specs.Prelude.{◌≡◌, ◌≢◌, ◌⊎◌, ◌+◌, true, List, [], ◌∷◌, ◌++◌, length, Result, Ok, Err}
use Rattle.parsing.specs.Parser.{Refused}
use Rattle.bit_base.specs.declared.place.Place.{Place}
use Rattle.vlog_tree.specs.declared.fault.VlogCode.{VlogCode}
use Rattle.vlog_tree.specs.declared.fault.VlogCode.TheVariants.{VlogSyntax, VlogDeep, VlogLeftOut}
use Rattle.vlog_tree.specs.declared.fault.VlogFault.{VlogFault}
use Rattle.vlog_tree.specs.declared.fault.VlogFault.TheVariants.{NoMemory, At}
use Rattle.vlog_tree.specs.declared.token.VToken.{VToken}
use Rattle.vlog_tree.specs.declared.token.VTokens.{VTokens}
use Rattle.vlog_tree.specs.declared.tree_modules.VlogFile.{VlogFile}
use Rattle.vlog_tree.specs.Terminals.{Tokens}
use Rattle.vlog_tree.specs.Modules.{flat, fits, IsReading}
use Rattle.vlog_parse.specs.LeftOut.{HasNoneLeftOut, IsFirstLeftOut}
use Rattle.vlog_parse.specs.Depth.{IsShallow, IsFirstDeep}
use Rattle.vlog_parse.specs.Nesting.{most_levels, source_in}

-- where the next token stands, or the end
abbrev pub place_of : List VToken → Place → Place
place_of [] end = end
place_of (t ∷ ts) end = t.place

-- The tokens of some fitting tree begin with these.
abbrev pub Continues : Tokens → Type 0
Continues front = (f : VlogFile) × ((fits f ≡ true) × ((more : Tokens) × (flat f ≡ front ++ more)))

abbrev pub HasNoReading : Tokens → Type 0
HasNoReading ts = (f : VlogFile) → IsReading ts f → ⊥

-- The first token such that no fitting tree's tokens begin with those up to and including it: those before it can be continued.
pub record IsFirstImpossible (tokens : VTokens) (place : Place) : Type 0 where
  pub front : Tokens
  pub token : VToken
  pub more : Tokens
  pub split : tokens.list ≡ front ++ token ∷ more
  pub here : place ≡ token.place
  pub before : Continues front
  pub none : Continues (front ++ token ∷ []) → ⊥

-- No token is: all of them can be continued, and only the end comes too early.
pub record IsCutShort (tokens : VTokens) (place : Place) : Type 0 where
  pub here : place ≡ tokens.end
  pub before : Continues tokens.list

abbrev pub IsFirstFault : VTokens → Place → Type 0
IsFirstFault tokens place = IsFirstImpossible tokens place ⊎ IsCutShort tokens place

-- The first token with which too many items, or too many items and statements, stand in one another, stands here: the tokens up to and including it begin those of some fitting tree, and
-- the rows that bear only so many stop there, with it and those behind it left.
pub record IsFirstNested (ts : Tokens) (place : Place) : Type 0 where
  pub front : Tokens
  pub token : VToken
  pub more : Tokens
  pub split : ts ≡ front ++ token ∷ more
  pub here : place ≡ token.place
  pub goes_on : Continues (front ++ token ∷ [])
  pub rest : Tokens
  pub stops : source_in (length ts + 1) most_levels ts ≡ Err (Refused rest)
  pub left : length rest ≡ length (token ∷ more)

-- At some token too many stand in one another, and no token before it is impossible.
abbrev pub IsNested : Tokens → Type 0
IsNested ts = (place : Place) × IsFirstNested ts place

abbrev pub IsFlat : Tokens → Type 0
IsFlat ts = IsNested ts → ⊥

-- Too much is open or runs on at this token, or else too much stands in one another.
abbrev pub IsTooDeepAt : Tokens → Place → Type 0
IsTooDeepAt ts place = IsFirstDeep ts place ⊎ (IsShallow ts × IsFirstNested ts place)

-- Where the fault is this code at a place, this holds of the place.
abbrev pub OnCode : VlogCode → (Place → Type 0) → VlogFault → Type 0
OnCode code P fault = (place : Place) → fault ≡ At code place [] [] → P place

-- The fault is one of the reader's, and names no net.
abbrev pub IsOfReader : VlogFault → Type 0
IsOfReader fault =
    (fault ≡ NoMemory) ⊎ ((place : Place) × ((fault ≡ At VlogLeftOut place [] []) ⊎ ((fault ≡ At VlogDeep place [] []) ⊎ (fault ≡ At VlogSyntax place [] []))))

-- Why tokens are refused.
abbrev pub Refuses : VTokens → VlogFault → Type 0
Refuses tokens NoMemory = Unit {0}
Refuses tokens (At VlogLeftOut place names path) = IsFirstLeftOut tokens.list place × ((names ≡ []) × (path ≡ []))
Refuses tokens (At VlogDeep place names path) = (HasNoneLeftOut tokens.list × IsTooDeepAt tokens.list place) × ((names ≡ []) × (path ≡ []))
Refuses tokens (At VlogSyntax place names path) =
    (HasNoneLeftOut tokens.list × ((IsShallow tokens.list × IsFlat tokens.list) × (HasNoReading tokens.list × IsFirstFault tokens place))) × ((names ≡ []) × (path ≡ []))
Refuses tokens (At _ place names path) = ⊥

-- ---- the other way round: what the tokens are decides what is answered, but for want of memory

abbrev pub IsRefusedWith : VlogCode → Result VlogFile VlogFault → Type 0
IsRefusedWith code (Ok file) = ⊥
IsRefusedWith code (Err NoMemory) = Unit {0}
IsRefusedWith code (Err (At other place names path)) = other ≡ code

abbrev pub IsReadAs : VlogFile → Result VlogFile VlogFault → Type 0
IsReadAs file (Ok other) = other ≡ file
IsReadAs file (Err NoMemory) = Unit {0}
IsReadAs file (Err (At code place names path)) = ⊥

-- What is answered, in all its cases.
abbrev pub Answers : VTokens → Result VlogFile VlogFault → Type 0
Answers tokens (Ok file) = IsReading tokens.list file × (HasNoneLeftOut tokens.list × (IsShallow tokens.list × IsFlat tokens.list))
Answers tokens (Err fault) = Refuses tokens fault

-- But for want of memory, the tokens determine the answer.
abbrev pub OneAnswer : Type 0
OneAnswer =
    (tokens : VTokens) (a b : Result VlogFile VlogFault) → Answers tokens a → Answers tokens b → a ≢ Err NoMemory → b ≢ Err NoMemory → a ≡ b
