-- The tokens that the rows of the grammar ask for, and the levels of operators (IEEE 1364-2005, 5.1).
use Rattle.std.specs.Prelude.{Bool, cond, ◌&&◌, ◌||◌, ◌==◌, ℕ, ◌+◌, nat_lt, List, [], ◌∷◌, bytes_eq, codes}
use Rattle.std.specs.List.{list_any}
use Rattle.vlog_tree.specs.declared.token.VTokenKind.TheVariants.{Name, Word, Number, System, Mark}
use Rattle.vlog_tree.specs.declared.token.VToken.{VToken}
use Rattle.vlog_tree.specs.Tokens.{is_kind}

abbrev pub Tokens : Type 0
Tokens = List VToken

-- The mark, and the word, with these bytes.
abbrev pub is_mark : List ℕ → VToken → Bool
is_mark bytes t = is_kind Mark t && bytes_eq t.text bytes

abbrev pub is_word : List ℕ → VToken → Bool
is_word bytes t = is_kind Word t && bytes_eq t.text bytes

abbrev pub is_name : VToken → Bool
is_name t = is_kind Name t

abbrev pub is_number : VToken → Bool
is_number t = is_kind Number t

-- The system functions of the subset (17.7.1, 17.11).
abbrev pub functions : List (List ℕ)
functions = codes "$clog2" ∷ codes "$signed" ∷ codes "$unsigned" ∷ []

unfoldable pub is_function : VToken → Bool
is_function t = is_kind System t && list_any (bytes_eq t.text) functions

-- 5.1: the unary operators.
abbrev pub unary_operators : List (List ℕ)
unary_operators =
    codes "+" ∷ codes "-" ∷ codes "!" ∷ codes "~" ∷ codes "&" ∷ codes "~&" ∷ codes "|" ∷ codes "~|" ∷ codes "^" ∷ codes "~^" ∷ codes "^~" ∷ []

unfoldable pub is_unary : VToken → Bool
is_unary t = is_kind Mark t && list_any (bytes_eq t.text) unary_operators

-- 5.1.2, precedence of operators: the binary ones, level by level, from the one that binds tightest.
abbrev pub binary_levels : List (List (List ℕ))
binary_levels =
    (codes "**" ∷ []) ∷ (codes "*" ∷ codes "/" ∷ codes "%" ∷ []) ∷ (codes "+" ∷ codes "-" ∷ [])
    ∷ (codes "<<" ∷ codes ">>" ∷ codes "<<<" ∷ codes ">>>" ∷ []) ∷ (codes "<" ∷ codes "<=" ∷ codes ">" ∷ codes ">=" ∷ [])
    ∷ (codes "==" ∷ codes "!=" ∷ codes "===" ∷ codes "!==" ∷ []) ∷ (codes "&" ∷ []) ∷ (codes "^" ∷ codes "^~" ∷ codes "~^" ∷ []) ∷ (codes "|" ∷ [])
    ∷ (codes "&&" ∷ []) ∷ (codes "||" ∷ []) ∷ []

-- Counted from `level`, the first of these levels that has this operator; 0 where none has it.
abbrev pub level_among : List (List (List ℕ)) → ℕ → List ℕ → ℕ
level_among [] level bytes = 0
level_among (operators ∷ more) level bytes = cond (list_any (bytes_eq bytes) operators) level (level_among more (level + 1) bytes)

-- The level of a binary operator, from 1 to 11; 0 of any other token.
unfoldable pub level_of : VToken → ℕ
level_of t = cond (is_kind Mark t) (level_among binary_levels 1 t.text) 0

unfoldable pub is_binary : VToken → Bool
is_binary t = nat_lt 0 (level_of t)

-- A binary operator of this level, which is at least 1.
unfoldable pub is_level : ℕ → VToken → Bool
is_level level t = level_of t == level

unfoldable pub is_edge : VToken → Bool
is_edge t = is_word (codes "posedge") t || is_word (codes "negedge") t

unfoldable pub is_separator : VToken → Bool
is_separator t = is_word (codes "or") t || is_mark (codes ",") t

unfoldable pub is_assigning : VToken → Bool
is_assigning t = is_mark (codes "=") t || is_mark (codes "<=") t

unfoldable pub is_case_word : VToken → Bool
is_case_word t = is_word (codes "case") t || is_word (codes "casez") t

unfoldable pub is_constant_word : VToken → Bool
is_constant_word t = is_word (codes "parameter") t || is_word (codes "localparam") t
