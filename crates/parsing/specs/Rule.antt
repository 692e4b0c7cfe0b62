-- What it means that a parser reads a rule of a grammar.
use Rattle.std.specs.Prelude.{◌≡◌, ℕ, zero, suc, ◌<◌, ◌≤◌, Bool, true, false, ◌||◌, List, [], ◌∷◌, ◌++◌, length, Option, Some, None, Result, Ok, Err}
use Rattle.parsing.specs.Parser.{Fail, Refused, Sunk, Outcome, Parser, head_of, on_head}

-- A set of next tokens, or of the end.
abbrev pub Heads : Type 0 → Type 0
Heads Tok = Option Tok → Bool

abbrev pub anything : {Tok : Type 0} → Heads Tok
anything h = true

abbrev pub either : {Tok : Type 0} → Heads Tok → Heads Tok → Heads Tok
either F G = λ h. F h || G h

unfoldable pub Within : {Tok : Type 0} → Heads Tok → Heads Tok → Type 0
Within {Tok} F G = (h : Option Tok) → F h ≡ true → G h ≡ true

unfoldable pub Without : {Tok : Type 0} → Heads Tok → (Tok → Bool) → Type 0
Without {Tok} F test = (h : Option Tok) → F h ≡ true → on_head test h ≡ false

-- one token, and that it passes a test
abbrev pub one : {Tok : Type 0} → Tok → List Tok
one t = t ∷ []

abbrev pub Passes : {Tok : Type 0} → (Tok → Bool) → Tok → Type 0
Passes test t = test t ≡ true

-- the tokens of a list of trees, and that each fits
abbrev pub joined : {Tok A : Type 0} → (A → List Tok) → List A → List Tok
joined flat [] = []
joined flat (x ∷ xs) = flat x ++ joined flat xs

abbrev pub Each : {A : Type 0} → (A → Type 0) → List A → Type 0
Each Fits [] = Unit {0}
Each Fits (x ∷ xs) = Fits x × Each Fits xs

-- the tokens of a tree that may be absent, and that it fits
abbrev pub if_any : {Tok A : Type 0} → (A → List Tok) → Option A → List Tok
if_any flat None = []
if_any flat (Some x) = flat x

abbrev pub IfAny : {A : Type 0} → (A → Type 0) → Option A → Type 0
IfAny Fits None = Unit {0}
IfAny Fits (Some x) = Fits x

-- the two lists begin with the same token, or both are at the end
unfoldable pub SameHead : {Tok : Type 0} → List Tok → List Tok → Type 0
SameHead xs ys = head_of xs ≡ head_of ys

-- These tokens begin those of some fitting tree.
unfoldable pub Begins : {Tok A : Type 0} → (A → List Tok) → (A → Type 0) → List Tok → Type 0
Begins {Tok} {A} flat Fits front = (a : A) × (Fits a × ((more : List Tok) × (flat a ≡ front ++ more)))

-- Refused at the first token of `rest`: so it is for whatever comes after that token, and what was taken before it begins some tree.
unfoldable pub Stuck : {Tok A : Type 0} → Parser Tok A → (A → List Tok) → (A → Type 0) → List Tok → List Tok → Type 0
Stuck {Tok} q flat Fits ts rest = (front : List Tok) × ((ts ≡ front ++ rest) × (((zs : List Tok) → SameHead rest zs → q (front ++ zs) ≡ Err (Refused zs)) × Begins flat Fits front))

-- Read: the tokens taken are those of the tree, which fits, and so it is for whatever comes after the next token.
unfoldable pub Taken : {Tok A : Type 0} → Parser Tok A → (A → List Tok) → (A → Type 0) → List Tok → A → List Tok → Type 0
Taken {Tok} q flat Fits ts a rest = (ts ≡ flat a ++ rest) × (Fits a × ((zs : List Tok) → SameHead rest zs → q (flat a ++ zs) ≡ Ok (a, zs)))

-- What an outcome says of the tokens that were given: `room` bounds the tokens where a parser can run out of it.
abbrev pub Follows : {Tok A : Type 0} → ℕ → Parser Tok A → (A → List Tok) → (A → Type 0) → List Tok → Outcome Tok A → Type 0
Follows room q flat Fits ts (Ok p) = Taken q flat Fits ts p.0 p.1
Follows room q flat Fits ts (Err (Refused rest)) = Stuck q flat Fits ts rest
Follows room q flat Fits ts (Err Sunk) = room ≤ length ts

-- The four laws of a rule, for the parser with so much room, and the same parser with at least as much.
-- `First` are the tokens that its trees begin with, and `Next` those that may come after them.
pub record Rule {Tok A : Type 0} (room more : ℕ) (First Next : Heads Tok) (p q : Parser Tok A) (flat : A → List Tok) (Fits : A → Type 0) : Type 0 where
  -- some tree fits
  pub some : A
  pub fits : Fits some
  -- sound, settled by what was taken and the next token, and without room only for many tokens
  pub follows : (ts : List Tok) → Follows room q flat Fits ts (p ts)
  -- complete
  pub reads : (a : A) → Fits a → length (flat a) < more → (zs : List Tok) → Next (head_of zs) ≡ true → q (flat a ++ zs) ≡ Ok (a, zs)
  pub begins : (a : A) → Fits a → length (flat a) < more → (zs : List Tok) → Next (head_of zs) ≡ true → First (head_of (flat a ++ zs)) ≡ true
