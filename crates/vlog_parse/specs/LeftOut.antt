-- What of the language is left out: words of IEEE 1364-2005 that the grammar of this project doesn't have, and system names.
use Rattle.std.specs.Prelude.{◌≡◌, ℕ, Bool, true, false, ◌&&◌, ◌||◌, not, List, [], ◌∷◌, ◌++◌, bytes_eq, codes}
use Rattle.std.specs.List.{list_any}
use Rattle.bit_base.specs.declared.place.Place.{Place}
use Rattle.vlog_tree.specs.declared.token.VToken.{VToken}
use Rattle.vlog_tree.specs.declared.token.VTokenKind.TheVariants.{System}
use Rattle.vlog_tree.specs.Tokens.{is_kind}
use Rattle.vlog_tree.specs.Terminals.{Tokens, is_function}

-- Clause 9: statements, and procedural assignments that stay.
abbrev pub statement_words : List (List ℕ)
statement_words =
    codes "casex" ∷ codes "while" ∷ codes "repeat" ∷ codes "forever" ∷ codes "wait" ∷ codes "fork" ∷ codes "join" ∷ codes "force" ∷ codes "release"
    ∷ codes "deassign" ∷ codes "disable" ∷ []

-- Clauses 8, 10, 12 and 14: declarations of functions, tasks, blocks of timing, primitives and changes of parameters.
abbrev pub declaration_words : List (List ℕ)
declaration_words = codes "function" ∷ codes "task" ∷ codes "specify" ∷ codes "primitive" ∷ codes "table" ∷ codes "defparam" ∷ []

-- 4.6 and 12.3: nets of other kinds, and ports of both directions.
abbrev pub net_words : List (List ℕ)
net_words =
    codes "inout" ∷ codes "tri" ∷ codes "tri0" ∷ codes "tri1" ∷ codes "triand" ∷ codes "trior" ∷ codes "trireg" ∷ codes "wand" ∷ codes "wor"
    ∷ codes "supply0" ∷ codes "supply1" ∷ []

-- 4.8 and 9.7.3: variables of other kinds.
abbrev pub variable_words : List (List ℕ)
variable_words = codes "real" ∷ codes "realtime" ∷ codes "time" ∷ codes "integer" ∷ codes "event" ∷ []

-- Clause 7: gates; `or` is a word of events here.
abbrev pub gate_words : List (List ℕ)
gate_words =
    codes "and" ∷ codes "nand" ∷ codes "nor" ∷ codes "xor" ∷ codes "xnor" ∷ codes "buf" ∷ codes "not" ∷ codes "bufif0" ∷ codes "bufif1"
    ∷ codes "notif0" ∷ codes "notif1" ∷ []

unfoldable pub is_one_of : List (List ℕ) → List ℕ → Bool
is_one_of words bytes = list_any (bytes_eq bytes) words

abbrev pub is_left_out_word : List ℕ → Bool
is_left_out_word bytes =
    is_one_of statement_words bytes || is_one_of declaration_words bytes || is_one_of net_words bytes || is_one_of variable_words bytes || is_one_of gate_words bytes

-- One of these words, or a system name (17) other than the three functions of the grammar.
unfoldable pub is_left_out : VToken → Bool
is_left_out t = is_left_out_word t.text || (is_kind System t && not (is_function t))

abbrev pub HasNoneLeftOut : Tokens → Type 0
HasNoneLeftOut ts = list_any is_left_out ts ≡ false

abbrev pub HasLeftOut : Tokens → Type 0
HasLeftOut ts = list_any is_left_out ts ≡ true

-- The first token that is left out stands here.
pub record IsFirstLeftOut (ts : Tokens) (place : Place) : Type 0 where
  pub front : Tokens
  pub token : VToken
  pub more : Tokens
  pub split : ts ≡ front ++ token ∷ more
  pub here : place ≡ token.place
  pub left_out : is_left_out token ≡ true
  pub none : HasNoneLeftOut front
