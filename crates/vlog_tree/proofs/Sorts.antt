-- Which word of the grammar a token is, as a number, so that sets of next tokens are lists of numbers and compute.
use Rattle.std.proofs.Common.{◌≡◌, ℕ, ◌+◌, Bool, true, false, not, cond, ◌||◌, ◌&&◌, ◌==◌, List, [], ◌∷◌, ◌++◌, Option, Some, None, refl, sym, ◌∙◌, ◌⊎◌, inl, inr, ap, codes, bytes_eq}
use Rattle.std.proofs.lemmas.Slice.Eq.{bytes_eq-Decides}
use Rattle.std.proofs.lemmas.Bool.{eqb-true}
use Rattle.std.specs.List.{list_any}
use Rattle.parsing.specs.Parser.{on_head}
use Rattle.parsing.specs.Rule.{Heads, either, Within, Without}
use denote.Enum.Bare.{sameb}
use Rattle.vlog_tree.specs.contracts.token.VTokenKind.{the_type}
use Rattle.vlog_tree.specs.declared.token.VTokenKind.{VTokenKind}
use Rattle.vlog_tree.specs.declared.token.VTokenKind.TheVariants.{Name, Word, Number, System, Mark}
use Rattle.vlog_tree.specs.declared.token.VToken.{VToken}
use Rattle.vlog_tree.specs.Tokens.{is_kind}
use Rattle.vlog_tree.specs.Terminals.{is_mark, is_word, is_name, is_number, functions, is_function, unary_operators, is_unary, binary_levels, level_among, level_of, is_level, is_edge, is_separator, is_assigning, is_case_word, is_constant_word}
use Rattle.vlog_tree.specs.ReadExpressions.{begins_expr, begins_lval}
use Rattle.vlog_tree.specs.ReadStatements.{begins_stmt}
use Rattle.vlog_tree.specs.ReadModules.{is_dir, is_net_kind, begins_ports, begins_conns, begins_mitem}

-- ---- truth

pub and_both : (a b : Bool) → a ≡ true → b ≡ true → (a && b) ≡ true
and_both a b e h = rw (e, h) refl

pub and_left : (a b : Bool) → (a && b) ≡ true → a ≡ true
and_left true b e = refl
and_left false b e = e

pub and_right : (a b : Bool) → (a && b) ≡ true → b ≡ true
and_right true b e = e
and_right false b e = absurd (cc)

pub or_cases : (a b : Bool) → (a || b) ≡ true → (a ≡ true) ⊎ (b ≡ true)
or_cases true b e = inl refl
or_cases false b e = inr e

pub or_left : (a b : Bool) → a ≡ true → (a || b) ≡ true
or_left a b e = rw e refl

pub or_right : (a b : Bool) → b ≡ true → (a || b) ≡ true
or_right true b e = refl
or_right false b e = e

pub or_none : (a b : Bool) → a ≡ false → b ≡ false → (a || b) ≡ false
or_none a b e h = rw (e, h) refl

pub not_true : (a : Bool) → not a ≡ true → a ≡ false
not_true true e = absurd (cc)
not_true false e = refl

pub true_not : (a : Bool) → a ≡ false → not a ≡ true
true_not a e = rw e refl

pub not_both : {a : Bool} → a ≡ true → a ≡ false → ⊥
not_both e h = cc

-- ---- sorts: 0 stands for the end

abbrev pub among : List ℕ → ℕ → Bool
among [] k = false
among (s ∷ S) k = (k == s) || among S k

abbrev Table : Type 0
Table = List (List ℕ × ℕ)

abbrev system_table : Table
system_table = (codes "$clog2", 3) ∷ (codes "$signed", 3) ∷ (codes "$unsigned", 3) ∷ []

abbrev word_table : Table
word_table =
    (codes "module", 10) ∷ (codes "endmodule", 11) ∷ (codes "parameter", 12) ∷ (codes "input", 13) ∷ (codes "output", 14) ∷ (codes "wire", 15)
    ∷ (codes "reg", 16) ∷ (codes "signed", 17) ∷ (codes "localparam", 18) ∷ (codes "genvar", 19) ∷ (codes "assign", 20) ∷ (codes "always", 21)
    ∷ (codes "initial", 22) ∷ (codes "generate", 23) ∷ (codes "endgenerate", 24) ∷ (codes "for", 25) ∷ (codes "if", 26) ∷ (codes "else", 27)
    ∷ (codes "begin", 28) ∷ (codes "end", 29) ∷ (codes "or", 30) ∷ (codes "posedge", 31) ∷ (codes "negedge", 32) ∷ (codes "case", 33)
    ∷ (codes "endcase", 34) ∷ (codes "default", 35) ∷ (codes "casez", 36) ∷ []

abbrev mark_table : Table
mark_table =
    (codes "(", 40) ∷ (codes ")", 41) ∷ (codes "[", 42) ∷ (codes "]", 43) ∷ (codes "{", 44) ∷ (codes "}", 45) ∷ (codes ";", 46) ∷ (codes ",", 47)
    ∷ (codes "=", 48) ∷ (codes ":", 49) ∷ (codes "+:", 50) ∷ (codes "?", 51) ∷ (codes "#", 52) ∷ (codes ".", 53) ∷ (codes "@", 54) ∷ (codes "*", 55)
    ∷ (codes "**", 56) ∷ (codes "/", 57) ∷ (codes "%", 57) ∷ (codes "+", 58) ∷ (codes "-", 58) ∷ (codes "<<", 59) ∷ (codes ">>", 59)
    ∷ (codes "<<<", 59) ∷ (codes ">>>", 59) ∷ (codes "<=", 60) ∷ (codes "<", 61) ∷ (codes ">", 61) ∷ (codes ">=", 61) ∷ (codes "==", 62)
    ∷ (codes "!=", 62) ∷ (codes "===", 62) ∷ (codes "!==", 62) ∷ (codes "&", 63) ∷ (codes "^", 64) ∷ (codes "~^", 64) ∷ (codes "^~", 64)
    ∷ (codes "|", 65) ∷ (codes "&&", 66) ∷ (codes "||", 67) ∷ (codes "!", 68) ∷ (codes "~", 68) ∷ (codes "~&", 68) ∷ (codes "~|", 68) ∷ []

abbrev lookup : Table → ℕ → List ℕ → ℕ
lookup [] other w = other
lookup (e ∷ more) other w = cond (bytes_eq w e.0) e.1 (lookup more other w)

sort_by : VTokenKind → List ℕ → ℕ
sort_by Name w = 1
sort_by Number w = 2
sort_by System w = lookup system_table 6 w
sort_by Word w = lookup word_table 4 w
sort_by Mark w = lookup mark_table 5 w

pub sort_of : VToken → ℕ
sort_of t = sort_by t.kind t.text

abbrev pub sort_at : Option VToken → ℕ
sort_at None = 0
sort_at (Some t) = sort_of t

abbrev pub heads : List ℕ → Heads VToken
heads S = λ h. among S (sort_at h)

-- the test goes by the sort
pub Sorted : (VToken → Bool) → List ℕ → Type 0
Sorted test S = (t : VToken) → test t ≡ among S (sort_of t)

-- ---- texts and tables

same_bytes : (w x : List ℕ) → bytes_eq w x ≡ true → w ≡ x
same_bytes w x e = (bytes_eq-Decides w x).0 e

abbrev same_truth : Bool → Bool → Bool
same_truth a b = cond a b (not b)

same_truths : (a b : Bool) → same_truth a b ≡ true → a ≡ b
same_truths true true e = refl
same_truths true false e = sym e
same_truths false true e = e
same_truths false false e = refl

abbrev agrees : (List ℕ → Bool) → List ℕ → Table → Bool
agrees P S [] = true
agrees P S (e ∷ more) = same_truth (P e.0) (among S e.1) && agrees P S more

-- no entry has this text
abbrev none_of : Table → List ℕ → Bool
none_of [] w = true
none_of (e ∷ more) w = not (bytes_eq w e.0) && none_of more w

found : (P : List ℕ → Bool) (S : List ℕ) (other : ℕ) → among S other ≡ false → (table : Table) → agrees P S table ≡ true → (w : List ℕ) → (none_of table w ≡ true → P w ≡ false) → P w ≡ among S (lookup table other w)
found P S other apart [] ok w out = out refl ∙ sym apart
found P S other apart (e ∷ more) ok w out = by_test (λ h. found P S other apart more (and_right _ _ ok) w h) (bytes_eq w e.0) refl
  where
    by_test : ((none_of more w ≡ true → P w ≡ false) → P w ≡ among S (lookup more other w)) → (b : Bool) → bytes_eq w e.0 ≡ b → P w ≡ among S (cond b e.1 (lookup more other w))
    by_test rest true h = ap P (same_bytes w e.0 h) ∙ same_truths _ _ (and_left _ _ ok)
    by_test rest false h = rest (λ none. out (and_both _ _ (true_not _ h) none))

abbrev clear : List ℕ → Table → Bool
clear S [] = true
clear S (e ∷ more) = not (among S e.1) && clear S more

nowhere : (S : List ℕ) (other : ℕ) → among S other ≡ false → (table : Table) → clear S table ≡ true → (w : List ℕ) → among S (lookup table other w) ≡ false
nowhere S other apart [] ok w = apart
nowhere S other apart (e ∷ more) ok w = by_test (nowhere S other apart more (and_right _ _ ok) w) (bytes_eq w e.0)
  where
    by_test : among S (lookup more other w) ≡ false → (b : Bool) → among S (cond b e.1 (lookup more other w)) ≡ false
    by_test ih true = not_true _ (and_left _ _ ok)
    by_test ih false = ih

abbrev has : Table → List ℕ → Bool
has [] x = false
has (e ∷ more) x = bytes_eq e.0 x || has more x

none_is : (table : Table) (x : List ℕ) → has table x ≡ true → (w : List ℕ) → none_of table w ≡ true → bytes_eq w x ≡ false
none_is [] x h w none = absurd (cc)
none_is (e ∷ more) x h w none = by_case (λ i. none_is more x i w (and_right _ _ none)) (or_cases _ _ h)
  where
    by_case : (has more x ≡ true → bytes_eq w x ≡ false) → (bytes_eq e.0 x ≡ true) ⊎ (has more x ≡ true) → bytes_eq w x ≡ false
    by_case ih (inl i) = ap (λ y. bytes_eq w y) (sym (same_bytes e.0 x i)) ∙ not_true _ (and_left _ _ none)
    by_case ih (inr i) = ih i

abbrev has_all : Table → List (List ℕ) → Bool
has_all table [] = true
has_all table (x ∷ xs) = has table x && has_all table xs

none_are : (table : Table) (xs : List (List ℕ)) → has_all table xs ≡ true → (w : List ℕ) → none_of table w ≡ true → list_any (bytes_eq w) xs ≡ false
none_are table [] h w none = refl
none_are table (x ∷ xs) h w none = or_none _ _ (none_is table x (and_left _ _ h) w none) (none_are table xs (and_right _ _ h) w none)

abbrev has_levels : Table → List (List (List ℕ)) → Bool
has_levels table [] = true
has_levels table (xs ∷ more) = has_all table xs && has_levels table more

none_level : (table : Table) (levels : List (List (List ℕ))) (n : ℕ) → has_levels table levels ≡ true → (w : List ℕ) → none_of table w ≡ true → level_among levels n w ≡ 0
none_level table [] n h w none = refl
none_level table (xs ∷ more) n h w none = rw (none_are table xs (and_left _ _ h) w none) (none_level table more (n + 1) (and_right _ _ h) w none)

-- ---- tests of marks, words and system names

abbrev marks_only : List ℕ → Bool
marks_only S = not (among S 1) && not (among S 2) && not (among S 5) && not (among S 6) && not (among S 4) && clear S system_table && clear S word_table

mark_by : (P : List ℕ → Bool) (S : List ℕ) → marks_only S ≡ true → agrees P S mark_table ≡ true → ((w : List ℕ) → none_of mark_table w ≡ true → P w ≡ false)
    → (kind : VTokenKind) (w : List ℕ) → (sameb the_type kind Mark && P w) ≡ among S (sort_by kind w)
unfolding sort_by
mark_by P S only ok out Name w = sym (not_true _ (and_left _ _ (and_left _ _ (and_left _ _ (and_left _ _ (and_left _ _ (and_left _ _ only)))))))
mark_by P S only ok out Number w = sym (not_true _ (and_right _ _ (and_left _ _ (and_left _ _ (and_left _ _ (and_left _ _ (and_left _ _ only)))))))
mark_by P S only ok out System w = sym (nowhere S 6 (not_true _ (and_right _ _ (and_left _ _ (and_left _ _ (and_left _ _ only))))) system_table (and_right _ _ (and_left _ _ only)) w)
mark_by P S only ok out Word w = sym (nowhere S 4 (not_true _ (and_right _ _ (and_left _ _ (and_left _ _ only)))) word_table (and_right _ _ only) w)
mark_by P S only ok out Mark w = found P S 5 (not_true _ (and_right _ _ (and_left _ _ (and_left _ _ (and_left _ _ (and_left _ _ only)))))) mark_table ok w (out w)

abbrev words_only : List ℕ → Bool
words_only S = not (among S 1) && not (among S 2) && not (among S 4) && not (among S 6) && not (among S 5) && clear S system_table && clear S mark_table

word_by : (P : List ℕ → Bool) (S : List ℕ) → words_only S ≡ true → agrees P S word_table ≡ true → ((w : List ℕ) → none_of word_table w ≡ true → P w ≡ false)
    → (kind : VTokenKind) (w : List ℕ) → (sameb the_type kind Word && P w) ≡ among S (sort_by kind w)
unfolding sort_by
word_by P S only ok out Name w = sym (not_true _ (and_left _ _ (and_left _ _ (and_left _ _ (and_left _ _ (and_left _ _ (and_left _ _ only)))))))
word_by P S only ok out Number w = sym (not_true _ (and_right _ _ (and_left _ _ (and_left _ _ (and_left _ _ (and_left _ _ (and_left _ _ only)))))))
word_by P S only ok out System w = sym (nowhere S 6 (not_true _ (and_right _ _ (and_left _ _ (and_left _ _ (and_left _ _ only))))) system_table (and_right _ _ (and_left _ _ only)) w)
word_by P S only ok out Mark w = sym (nowhere S 5 (not_true _ (and_right _ _ (and_left _ _ (and_left _ _ only)))) mark_table (and_right _ _ only) w)
word_by P S only ok out Word w = found P S 4 (not_true _ (and_right _ _ (and_left _ _ (and_left _ _ (and_left _ _ (and_left _ _ only)))))) word_table ok w (out w)

pub mark_sorted : (x : List ℕ) (k : ℕ) → marks_only (k ∷ []) ≡ true → agrees (λ w. bytes_eq w x) (k ∷ []) mark_table ≡ true → has mark_table x ≡ true → Sorted (is_mark x) (k ∷ [])
unfolding Sorted sort_of
mark_sorted x k only ok there t = mark_by (λ w. bytes_eq w x) (k ∷ []) only ok (none_is mark_table x there) t.kind t.text

pub word_sorted : (x : List ℕ) (k : ℕ) → words_only (k ∷ []) ≡ true → agrees (λ w. bytes_eq w x) (k ∷ []) word_table ≡ true → has word_table x ≡ true → Sorted (is_word x) (k ∷ [])
unfolding Sorted sort_of
word_sorted x k only ok there t = word_by (λ w. bytes_eq w x) (k ∷ []) only ok (none_is word_table x there) t.kind t.text

name_by : (kind : VTokenKind) (w : List ℕ) → sameb the_type kind Name ≡ among (1 ∷ []) (sort_by kind w)
unfolding sort_by
name_by Name w = refl
name_by Number w = refl
name_by System w = sym (nowhere (1 ∷ []) 6 refl system_table refl w)
name_by Word w = sym (nowhere (1 ∷ []) 4 refl word_table refl w)
name_by Mark w = sym (nowhere (1 ∷ []) 5 refl mark_table refl w)

pub name_sorted : Sorted is_name (1 ∷ [])
unfolding Sorted sort_of
name_sorted t = name_by t.kind t.text

number_by : (kind : VTokenKind) (w : List ℕ) → sameb the_type kind Number ≡ among (2 ∷ []) (sort_by kind w)
unfolding sort_by
number_by Name w = refl
number_by Number w = refl
number_by System w = sym (nowhere (2 ∷ []) 6 refl system_table refl w)
number_by Word w = sym (nowhere (2 ∷ []) 4 refl word_table refl w)
number_by Mark w = sym (nowhere (2 ∷ []) 5 refl mark_table refl w)

pub number_sorted : Sorted is_number (2 ∷ [])
unfolding Sorted sort_of
number_sorted t = number_by t.kind t.text

function_by : (kind : VTokenKind) (w : List ℕ) → (sameb the_type kind System && list_any (bytes_eq w) functions) ≡ among (3 ∷ []) (sort_by kind w)
unfolding sort_by
function_by Name w = refl
function_by Number w = refl
function_by System w = found (λ w. list_any (bytes_eq w) functions) (3 ∷ []) 6 refl system_table refl w (none_are system_table functions refl w)
function_by Word w = sym (nowhere (3 ∷ []) 4 refl word_table refl w)
function_by Mark w = sym (nowhere (3 ∷ []) 5 refl mark_table refl w)

pub function_sorted : Sorted is_function (3 ∷ [])
unfolding Sorted sort_of is_function
function_sorted t = function_by t.kind t.text

pub unary_sorted : Sorted is_unary (58 ∷ 68 ∷ 63 ∷ 64 ∷ 65 ∷ [])
unfolding Sorted sort_of is_unary
unary_sorted t = mark_by (λ w. list_any (bytes_eq w) unary_operators) (58 ∷ 68 ∷ 63 ∷ 64 ∷ 65 ∷ []) refl refl (none_are mark_table unary_operators refl) t.kind t.text

by_kind : (b : Bool) (n level : ℕ) → (0 == level) ≡ false → (cond b n 0 == level) ≡ (b && (n == level))
by_kind true n level h = refl
by_kind false n level h = h

module _ (level : ℕ) (S : List ℕ) (some : (0 == level) ≡ false) (only : marks_only S ≡ true) (ok : agrees (λ w. level_among binary_levels 1 w == level) S mark_table ≡ true) where
  out : (w : List ℕ) → none_of mark_table w ≡ true → (level_among binary_levels 1 w == level) ≡ false
  out w none = rw (none_level mark_table binary_levels 1 refl w none) some

  pub level_sorted : Sorted (is_level level) S
  unfolding Sorted sort_of is_level level_of
  level_sorted t = by_kind (is_kind Mark t) (level_among binary_levels 1 t.text) level some ∙ mark_by (λ w. level_among binary_levels 1 w == level) S only ok out t.kind t.text

pub open_paren_sorted : Sorted (is_mark (codes "(")) (40 ∷ [])
open_paren_sorted = mark_sorted (codes "(") 40 refl refl refl

pub close_paren_sorted : Sorted (is_mark (codes ")")) (41 ∷ [])
close_paren_sorted = mark_sorted (codes ")") 41 refl refl refl

pub open_bracket_sorted : Sorted (is_mark (codes "[")) (42 ∷ [])
open_bracket_sorted = mark_sorted (codes "[") 42 refl refl refl

pub close_bracket_sorted : Sorted (is_mark (codes "]")) (43 ∷ [])
close_bracket_sorted = mark_sorted (codes "]") 43 refl refl refl

pub open_brace_sorted : Sorted (is_mark (codes "{")) (44 ∷ [])
open_brace_sorted = mark_sorted (codes "{") 44 refl refl refl

pub close_brace_sorted : Sorted (is_mark (codes "}")) (45 ∷ [])
close_brace_sorted = mark_sorted (codes "}") 45 refl refl refl

pub semi_sorted : Sorted (is_mark (codes ";")) (46 ∷ [])
semi_sorted = mark_sorted (codes ";") 46 refl refl refl

pub comma_sorted : Sorted (is_mark (codes ",")) (47 ∷ [])
comma_sorted = mark_sorted (codes ",") 47 refl refl refl

pub equals_sorted : Sorted (is_mark (codes "=")) (48 ∷ [])
equals_sorted = mark_sorted (codes "=") 48 refl refl refl

pub colon_sorted : Sorted (is_mark (codes ":")) (49 ∷ [])
colon_sorted = mark_sorted (codes ":") 49 refl refl refl

pub upward_sorted : Sorted (is_mark (codes "+:")) (50 ∷ [])
upward_sorted = mark_sorted (codes "+:") 50 refl refl refl

pub query_sorted : Sorted (is_mark (codes "?")) (51 ∷ [])
query_sorted = mark_sorted (codes "?") 51 refl refl refl

pub hash_sorted : Sorted (is_mark (codes "#")) (52 ∷ [])
hash_sorted = mark_sorted (codes "#") 52 refl refl refl

pub dot_sorted : Sorted (is_mark (codes ".")) (53 ∷ [])
dot_sorted = mark_sorted (codes ".") 53 refl refl refl

pub at_sorted : Sorted (is_mark (codes "@")) (54 ∷ [])
at_sorted = mark_sorted (codes "@") 54 refl refl refl

pub star_sorted : Sorted (is_mark (codes "*")) (55 ∷ [])
star_sorted = mark_sorted (codes "*") 55 refl refl refl

le_sorted : Sorted (is_mark (codes "<=")) (60 ∷ [])
le_sorted = mark_sorted (codes "<=") 60 refl refl refl

pub module_word_sorted : Sorted (is_word (codes "module")) (10 ∷ [])
module_word_sorted = word_sorted (codes "module") 10 refl refl refl

pub endmodule_word_sorted : Sorted (is_word (codes "endmodule")) (11 ∷ [])
endmodule_word_sorted = word_sorted (codes "endmodule") 11 refl refl refl

pub parameter_word_sorted : Sorted (is_word (codes "parameter")) (12 ∷ [])
parameter_word_sorted = word_sorted (codes "parameter") 12 refl refl refl

pub input_word_sorted : Sorted (is_word (codes "input")) (13 ∷ [])
input_word_sorted = word_sorted (codes "input") 13 refl refl refl

pub output_word_sorted : Sorted (is_word (codes "output")) (14 ∷ [])
output_word_sorted = word_sorted (codes "output") 14 refl refl refl

pub wire_word_sorted : Sorted (is_word (codes "wire")) (15 ∷ [])
wire_word_sorted = word_sorted (codes "wire") 15 refl refl refl

pub reg_word_sorted : Sorted (is_word (codes "reg")) (16 ∷ [])
reg_word_sorted = word_sorted (codes "reg") 16 refl refl refl

pub signed_word_sorted : Sorted (is_word (codes "signed")) (17 ∷ [])
signed_word_sorted = word_sorted (codes "signed") 17 refl refl refl

pub localparam_word_sorted : Sorted (is_word (codes "localparam")) (18 ∷ [])
localparam_word_sorted = word_sorted (codes "localparam") 18 refl refl refl

pub genvar_word_sorted : Sorted (is_word (codes "genvar")) (19 ∷ [])
genvar_word_sorted = word_sorted (codes "genvar") 19 refl refl refl

pub assign_word_sorted : Sorted (is_word (codes "assign")) (20 ∷ [])
assign_word_sorted = word_sorted (codes "assign") 20 refl refl refl

pub always_word_sorted : Sorted (is_word (codes "always")) (21 ∷ [])
always_word_sorted = word_sorted (codes "always") 21 refl refl refl

pub initial_word_sorted : Sorted (is_word (codes "initial")) (22 ∷ [])
initial_word_sorted = word_sorted (codes "initial") 22 refl refl refl

pub generate_word_sorted : Sorted (is_word (codes "generate")) (23 ∷ [])
generate_word_sorted = word_sorted (codes "generate") 23 refl refl refl

pub endgenerate_word_sorted : Sorted (is_word (codes "endgenerate")) (24 ∷ [])
endgenerate_word_sorted = word_sorted (codes "endgenerate") 24 refl refl refl

pub for_word_sorted : Sorted (is_word (codes "for")) (25 ∷ [])
for_word_sorted = word_sorted (codes "for") 25 refl refl refl

pub if_word_sorted : Sorted (is_word (codes "if")) (26 ∷ [])
if_word_sorted = word_sorted (codes "if") 26 refl refl refl

pub else_word_sorted : Sorted (is_word (codes "else")) (27 ∷ [])
else_word_sorted = word_sorted (codes "else") 27 refl refl refl

pub begin_word_sorted : Sorted (is_word (codes "begin")) (28 ∷ [])
begin_word_sorted = word_sorted (codes "begin") 28 refl refl refl

pub end_word_sorted : Sorted (is_word (codes "end")) (29 ∷ [])
end_word_sorted = word_sorted (codes "end") 29 refl refl refl

pub or_word_sorted : Sorted (is_word (codes "or")) (30 ∷ [])
or_word_sorted = word_sorted (codes "or") 30 refl refl refl

pub posedge_word_sorted : Sorted (is_word (codes "posedge")) (31 ∷ [])
posedge_word_sorted = word_sorted (codes "posedge") 31 refl refl refl

pub negedge_word_sorted : Sorted (is_word (codes "negedge")) (32 ∷ [])
negedge_word_sorted = word_sorted (codes "negedge") 32 refl refl refl

pub case_word_sorted : Sorted (is_word (codes "case")) (33 ∷ [])
case_word_sorted = word_sorted (codes "case") 33 refl refl refl

pub endcase_word_sorted : Sorted (is_word (codes "endcase")) (34 ∷ [])
endcase_word_sorted = word_sorted (codes "endcase") 34 refl refl refl

pub default_word_sorted : Sorted (is_word (codes "default")) (35 ∷ [])
default_word_sorted = word_sorted (codes "default") 35 refl refl refl

pub casez_word_sorted : Sorted (is_word (codes "casez")) (36 ∷ [])
casez_word_sorted = word_sorted (codes "casez") 36 refl refl refl

-- ---- sets within sets

abbrev pub subset : List ℕ → List ℕ → Bool
subset [] U = true
subset (s ∷ S) U = among U s && subset S U

abbrev pub disjoint : List ℕ → List ℕ → Bool
disjoint [] U = true
disjoint (s ∷ S) U = not (among U s) && disjoint S U

among_subset : (S U : List ℕ) (k : ℕ) → subset S U ≡ true → among S k ≡ true → among U k ≡ true
among_subset [] U k sub e = absurd (cc)
among_subset (s ∷ S) U k sub e = by_case (among_subset S U k (and_right _ _ sub)) (or_cases _ _ e)
  where
    by_case : (among S k ≡ true → among U k ≡ true) → ((k == s) ≡ true) ⊎ (among S k ≡ true) → among U k ≡ true
    by_case ih (inl i) = rw (eqb-true k s i) (and_left _ _ sub)
    by_case ih (inr i) = ih i

among_disjoint : (S U : List ℕ) (k : ℕ) → disjoint S U ≡ true → among S k ≡ true → among U k ≡ false
among_disjoint [] U k away e = absurd (cc)
among_disjoint (s ∷ S) U k away e = by_case (among_disjoint S U k (and_right _ _ away)) (or_cases _ _ e)
  where
    by_case : (among S k ≡ true → among U k ≡ false) → ((k == s) ≡ true) ⊎ (among S k ≡ true) → among U k ≡ false
    by_case ih (inl i) = rw (eqb-true k s i) (not_true _ (and_left _ _ away))
    by_case ih (inr i) = ih i

pub heads_within : (S U : List ℕ) → subset S U ≡ true → Within (heads S) (heads U)
unfolding Within
heads_within S U sub h e = among_subset S U (sort_at h) sub e

pub test_within : (test : VToken → Bool) (S U : List ℕ) → Sorted test S → subset S U ≡ true → Within (on_head test) (heads U)
unfolding Within Sorted
test_within test S U sorted sub None e = absurd (cc)
test_within test S U sorted sub (Some t) e = among_subset S U (sort_of t) sub (sym (sorted t) ∙ e)

pub within_test : (test : VToken → Bool) (S U : List ℕ) → Sorted test S → among U 0 ≡ false → subset U S ≡ true → Within (heads U) (on_head test)
unfolding Within Sorted
within_test test S U sorted no_end sub None e = absurd (not_both e no_end)
within_test test S U sorted no_end sub (Some t) e = sorted t ∙ among_subset U S (sort_of t) sub e

pub without_test : (test : VToken → Bool) (S U : List ℕ) → Sorted test S → disjoint U S ≡ true → Without (heads U) test
unfolding Without Sorted
without_test test S U sorted away None e = refl
without_test test S U sorted away (Some t) e = sorted t ∙ among_disjoint U S (sort_of t) away e

among_append : (S U : List ℕ) (k : ℕ) → among (S ++ U) k ≡ (among S k || among U k)
among_append [] U k = refl
among_append (s ∷ S) U k = rw (among_append S U k) (regroup (k == s) (among S k) (among U k))
  where
    regroup : (a b c : Bool) → (a || (b || c)) ≡ ((a || b) || c)
    regroup true b c = refl
    regroup false b c = refl

pub either_within : (S U : List ℕ) → Within (either (heads S) (heads U)) (heads (S ++ U))
unfolding Within
either_within S U h e = among_append S U (sort_at h) ∙ e

pub sorted_or : (test test' : VToken → Bool) (S U : List ℕ) → Sorted test S → Sorted test' U → Sorted (λ t. test t || test' t) (S ++ U)
unfolding Sorted
sorted_or test test' S U sorted sorted' t = rw (sorted t, sorted' t) (sym (among_append S U (sort_of t)))

pub is_edge_sorted : Sorted is_edge (31 ∷ 32 ∷ [])
unfolding is_edge
is_edge_sorted = sorted_or _ _ (31 ∷ []) (32 ∷ []) posedge_word_sorted negedge_word_sorted

pub is_separator_sorted : Sorted is_separator (30 ∷ 47 ∷ [])
unfolding is_separator
is_separator_sorted = sorted_or _ _ (30 ∷ []) (47 ∷ []) or_word_sorted comma_sorted

pub is_assigning_sorted : Sorted is_assigning (48 ∷ 60 ∷ [])
unfolding is_assigning
is_assigning_sorted = sorted_or _ _ (48 ∷ []) (60 ∷ []) equals_sorted le_sorted

pub is_case_word_sorted : Sorted is_case_word (33 ∷ 36 ∷ [])
unfolding is_case_word
is_case_word_sorted = sorted_or _ _ (33 ∷ []) (36 ∷ []) case_word_sorted casez_word_sorted

pub is_constant_word_sorted : Sorted is_constant_word (12 ∷ 18 ∷ [])
unfolding is_constant_word
is_constant_word_sorted = sorted_or _ _ (12 ∷ []) (18 ∷ []) parameter_word_sorted localparam_word_sorted

pub begins_expr_sorted : Sorted begins_expr (2 ∷ 1 ∷ 40 ∷ 44 ∷ 3 ∷ 58 ∷ 68 ∷ 63 ∷ 64 ∷ 65 ∷ [])
unfolding begins_expr
begins_expr_sorted = sorted_or _ _ (2 ∷ 1 ∷ 40 ∷ 44 ∷ 3 ∷ []) (58 ∷ 68 ∷ 63 ∷ 64 ∷ 65 ∷ []) (sorted_or _ _ (2 ∷ 1 ∷ 40 ∷ 44 ∷ []) (3 ∷ []) (sorted_or _ _ (2 ∷ 1 ∷ 40 ∷ []) (44 ∷ []) (sorted_or _ _ (2 ∷ 1 ∷ []) (40 ∷ []) (sorted_or _ _ (2 ∷ []) (1 ∷ []) number_sorted name_sorted) open_paren_sorted) open_brace_sorted) function_sorted) unary_sorted

pub begins_lval_sorted : Sorted begins_lval (1 ∷ 44 ∷ [])
unfolding begins_lval
begins_lval_sorted = sorted_or _ _ (1 ∷ []) (44 ∷ []) name_sorted open_brace_sorted

pub begins_stmt_sorted : Sorted begins_stmt (46 ∷ 28 ∷ 1 ∷ 44 ∷ 26 ∷ 33 ∷ 36 ∷ [])
unfolding begins_stmt
begins_stmt_sorted = sorted_or _ _ (46 ∷ 28 ∷ 1 ∷ 44 ∷ 26 ∷ []) (33 ∷ 36 ∷ []) (sorted_or _ _ (46 ∷ 28 ∷ 1 ∷ 44 ∷ []) (26 ∷ []) (sorted_or _ _ (46 ∷ 28 ∷ []) (1 ∷ 44 ∷ []) (sorted_or _ _ (46 ∷ []) (28 ∷ []) semi_sorted begin_word_sorted) begins_lval_sorted) if_word_sorted) is_case_word_sorted

pub is_dir_sorted : Sorted is_dir (13 ∷ 14 ∷ [])
unfolding is_dir
is_dir_sorted = sorted_or _ _ (13 ∷ []) (14 ∷ []) input_word_sorted output_word_sorted

pub is_net_kind_sorted : Sorted is_net_kind (15 ∷ 16 ∷ [])
unfolding is_net_kind
is_net_kind_sorted = sorted_or _ _ (15 ∷ []) (16 ∷ []) wire_word_sorted reg_word_sorted

pub begins_ports_sorted : Sorted begins_ports (1 ∷ 13 ∷ 14 ∷ [])
unfolding begins_ports
begins_ports_sorted = sorted_or _ _ (1 ∷ []) (13 ∷ 14 ∷ []) name_sorted is_dir_sorted

pub begins_conns_sorted : Sorted begins_conns (2 ∷ 1 ∷ 40 ∷ 44 ∷ 3 ∷ 58 ∷ 68 ∷ 63 ∷ 64 ∷ 65 ∷ 53 ∷ [])
unfolding begins_conns
begins_conns_sorted = sorted_or _ _ (2 ∷ 1 ∷ 40 ∷ 44 ∷ 3 ∷ 58 ∷ 68 ∷ 63 ∷ 64 ∷ 65 ∷ []) (53 ∷ []) begins_expr_sorted dot_sorted

pub begins_mitem_sorted : Sorted begins_mitem (13 ∷ 14 ∷ 15 ∷ 16 ∷ 12 ∷ 18 ∷ 19 ∷ 20 ∷ 21 ∷ 22 ∷ 23 ∷ 1 ∷ 25 ∷ 26 ∷ [])
unfolding begins_mitem
begins_mitem_sorted = sorted_or _ _ (13 ∷ 14 ∷ 15 ∷ 16 ∷ 12 ∷ 18 ∷ 19 ∷ 20 ∷ 21 ∷ 22 ∷ 23 ∷ 1 ∷ 25 ∷ []) (26 ∷ []) (sorted_or _ _ (13 ∷ 14 ∷ 15 ∷ 16 ∷ 12 ∷ 18 ∷ 19 ∷ 20 ∷ 21 ∷ 22 ∷ 23 ∷ 1 ∷ []) (25 ∷ []) (sorted_or _ _ (13 ∷ 14 ∷ 15 ∷ 16 ∷ 12 ∷ 18 ∷ 19 ∷ 20 ∷ 21 ∷ 22 ∷ 23 ∷ []) (1 ∷ []) (sorted_or _ _ (13 ∷ 14 ∷ 15 ∷ 16 ∷ 12 ∷ 18 ∷ 19 ∷ 20 ∷ 21 ∷ 22 ∷ []) (23 ∷ []) (sorted_or _ _ (13 ∷ 14 ∷ 15 ∷ 16 ∷ 12 ∷ 18 ∷ 19 ∷ 20 ∷ 21 ∷ []) (22 ∷ []) (sorted_or _ _ (13 ∷ 14 ∷ 15 ∷ 16 ∷ 12 ∷ 18 ∷ 19 ∷ 20 ∷ []) (21 ∷ []) (sorted_or _ _ (13 ∷ 14 ∷ 15 ∷ 16 ∷ 12 ∷ 18 ∷ 19 ∷ []) (20 ∷ []) (sorted_or _ _ (13 ∷ 14 ∷ 15 ∷ 16 ∷ 12 ∷ 18 ∷ []) (19 ∷ []) (sorted_or _ _ (13 ∷ 14 ∷ 15 ∷ 16 ∷ []) (12 ∷ 18 ∷ []) (sorted_or _ _ (13 ∷ 14 ∷ []) (15 ∷ 16 ∷ []) is_dir_sorted is_net_kind_sorted) is_constant_word_sorted) genvar_word_sorted) assign_word_sorted) always_word_sorted) initial_word_sorted) generate_word_sorted) name_sorted) for_word_sorted) if_word_sorted
