-- How many brackets are open: an opening mark adds one, a closing one takes one away, whichever it closes, and never below none.
use Rattle.std.specs.Prelude.{◌≡◌, ℕ, ◌+◌, ◌-◌, ◌<◌, ◌≤◌, Bool, ◌||◌, if◌then◌else◌, List, [], ◌∷◌, ◌++◌, fold, codes}
use Rattle.bit_base.specs.declared.place.Place.{Place}
use Rattle.rdl_tree.specs.declared.token.RdlToken.{RdlToken}
use Rattle.rdl_tree.specs.Tree.{Tokens, is_text}

abbrev pub is_opening : RdlToken → Bool
is_opening t = is_text (codes "{") t || is_text (codes "[") t

abbrev pub is_closing : RdlToken → Bool
is_closing t = is_text (codes "}") t || is_text (codes "]") t

unfoldable pub open_with : ℕ → RdlToken → ℕ
open_with count t = if is_opening t then count + 1 else if is_closing t then count - 1 else count

-- the brackets that are open after these tokens
abbrev pub open_after : Tokens → ℕ
open_after ts = fold open_with 0 ts

-- over 64 are open at some token
abbrev pub IsDeep : Tokens → Type 0
IsDeep ts = (front : Tokens) × ((more : Tokens) × ((ts ≡ front ++ more) × (64 < open_after front)))

abbrev pub IsShallow : Tokens → Type 0
IsShallow ts = (front more : Tokens) → ts ≡ front ++ more → open_after front ≤ 64

-- the first token at which over 64 are open stands here
pub record IsFirstDeep (ts : Tokens) (place : Place) : Type 0 where
  pub front : Tokens
  pub token : RdlToken
  pub more : Tokens
  pub split : ts ≡ front ++ token ∷ more
  pub here : place ≡ token.place
  pub deep : 64 < open_after (front ++ token ∷ [])
  pub shallow : IsShallow front
