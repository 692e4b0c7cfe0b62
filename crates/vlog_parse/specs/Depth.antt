-- What nests or runs on too long, counted after a front of the tokens.
use Rattle.std.specs.Prelude.{◌≡◌, ℕ, ◌+◌, ◌-◌, ◌<◌, ◌≤◌, ◌⊎◌, ◌==◌, Bool, ◌&&◌, ◌||◌, not, if◌then◌else◌, [], ◌∷◌, ◌++◌, length, fold, count_by, codes}
use Rattle.std.specs.List.{list_any}
use Rattle.bit_base.specs.declared.place.Place.{Place}
use Rattle.vlog_tree.specs.declared.token.VToken.{VToken}
use Rattle.vlog_tree.specs.Terminals.{Tokens, is_mark, is_word}

-- ---- what is open

abbrev pub opens_bracket : VToken → Bool
opens_bracket t = is_mark (codes "(") t || is_mark (codes "[") t || is_mark (codes "{") t

abbrev pub closes_bracket : VToken → Bool
closes_bracket t = is_mark (codes ")") t || is_mark (codes "]") t || is_mark (codes "}") t

abbrev pub opens_block : VToken → Bool
opens_block t = is_word (codes "begin") t || is_word (codes "case") t || is_word (codes "casez") t || is_word (codes "generate") t

abbrev pub closes_block : VToken → Bool
closes_block t = is_word (codes "end") t || is_word (codes "endcase") t || is_word (codes "endgenerate") t

-- One more where the token opens, one less where it closes, whatever it closes, and never below none.
abbrev pub counted : Bool → Bool → ℕ → ℕ
counted is_opening is_closing count = if is_opening then count + 1 else if is_closing then count - 1 else count

unfoldable pub bracket_with : ℕ → VToken → ℕ
bracket_with count t = counted (opens_bracket t) (closes_bracket t) count

unfoldable pub open_with : ℕ → VToken → ℕ
open_with count t = counted (opens_bracket t || opens_block t) (closes_bracket t || closes_block t) count

-- The brackets that are open after these tokens.
abbrev pub brackets_after : Tokens → ℕ
brackets_after ts = fold bracket_with 0 ts

-- The brackets, and the words `begin`, `case`, `casez` and `generate`, that are open after these tokens.
abbrev pub open_after : Tokens → ℕ
open_after ts = fold open_with 0 ts

-- ---- tokens since the last of a sort

-- Those behind the last token that passes a test of the tokens before it and of itself; all of them where none does.
unfoldable pub since_from : (Tokens → VToken → Bool) → Tokens → Tokens → Tokens → Tokens
since_from test before found [] = found
since_from test before found (t ∷ ts) = since_from test (before ++ t ∷ []) (if test before t then [] else found ++ t ∷ []) ts

abbrev pub since : (Tokens → VToken → Bool) → Tokens → Tokens
since test ts = since_from test [] [] ts

abbrev pub is_module : VToken → Bool
is_module t = is_word (codes "module") t

abbrev pub is_semi : VToken → Bool
is_semi t = is_mark (codes ";") t

abbrev pub since_module : Tokens → Tokens
since_module ts = since (λ _. is_module) ts

-- Behind a `module` and before its first `;`.
abbrev pub is_in_header : Tokens → Bool
is_in_header ts = list_any is_module ts && not (list_any is_semi (since_module ts))

-- A `;`, or a `,` in a module's header in just one bracket that was opened since the `module`.
abbrev pub ends_part : Tokens → VToken → Bool
ends_part before t = is_semi t || (is_mark (codes ",") t && is_in_header before && (brackets_after (since_module before) == 1))

-- How many tokens stand without a `;` behind the last one.
abbrev pub unended : Tokens → ℕ
unended ts = length (since ends_part ts)

abbrev pub is_else : VToken → Bool
is_else t = is_word (codes "else") t

abbrev pub begins_process : VToken → Bool
begins_process t = is_word (codes "always") t || is_word (codes "initial") t || is_module t || is_word (codes "generate") t

-- How many `else` stand behind the last `always`, `initial`, `module` or `generate`.
abbrev pub elses : Tokens → ℕ
elses ts = count_by is_else (since (λ _. begins_process) ts)

-- ---- the limits

pub record IsWithin (front : Tokens) : Type 0 where
  pub open_is : open_after front ≤ 64
  pub unended_is : unended front ≤ 2048
  pub elses_are : elses front ≤ 1024

abbrev pub IsOver : Tokens → Type 0
IsOver front = (64 < open_after front) ⊎ ((2048 < unended front) ⊎ (1024 < elses front))

-- At some token a limit is exceeded.
abbrev pub IsDeep : Tokens → Type 0
IsDeep ts = (front : Tokens) × ((more : Tokens) × ((ts ≡ front ++ more) × IsOver front))

-- At no token is a limit exceeded.
abbrev pub IsShallow : Tokens → Type 0
IsShallow ts = (front more : Tokens) → ts ≡ front ++ more → IsWithin front

-- The first token at which a limit is exceeded stands here.
pub record IsFirstDeep (ts : Tokens) (place : Place) : Type 0 where
  pub front : Tokens
  pub token : VToken
  pub more : Tokens
  pub split : ts ≡ front ++ token ∷ more
  pub here : place ≡ token.place
  pub over : IsOver (front ++ token ∷ [])
  pub shallow : IsShallow front
