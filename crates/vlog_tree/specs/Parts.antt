-- The tokens of parts that are optional or repeated, and when these fit.
use Rattle.std.specs.Prelude.{Bool, true, cond, ℕ, ◌+◌, List, [], ◌∷◌, ◌++◌, map, Option, Some, None}
use Rattle.vlog_tree.specs.declared.token.VToken.{VToken}
use Rattle.vlog_tree.specs.Terminals.{Tokens}

-- Lists one after the other.
abbrev pub joined : List Tokens → Tokens
joined [] = []
joined (ts ∷ more) = ts ++ joined more

abbrev pub flat_token : VToken → Tokens
flat_token t = t ∷ []

-- The tokens of an optional part.
abbrev pub flat_option : {A : Type 0} → (A → Tokens) → Option A → Tokens
flat_option flat None = []
flat_option flat (Some part) = flat part

-- The tokens of a repeated part.
abbrev pub flat_list : {A : Type 0} → (A → Tokens) → List A → Tokens
flat_list flat parts = joined (map flat parts)

-- An optional part fits where it is missing or fits.
abbrev pub fits_option : {A : Type 0} → (A → Bool) → Option A → Bool
fits_option fits None = true
fits_option fits (Some part) = fits part

-- How many of these hold.
abbrev pub count_true : List Bool → ℕ
count_true [] = 0
count_true (b ∷ more) = cond b (count_true more + 1) (count_true more)
