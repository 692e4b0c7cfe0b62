-- Which word of the grammar a token is, as a number, so that sets of next tokens are lists of numbers and compute.
use Rattle.std.proofs.Common.{◌≡◌, ℕ, Bool, true, false, not, cond, ◌||◌, ◌&&◌, ◌==◌, List, [], ◌∷◌, ◌++◌, Option, Some, None, refl, sym, ◌∙◌, ◌⊎◌, inl, inr, ap, subst, codes, bytes_eq, drop}
use Rattle.std.proofs.lemmas.Slice.Eq.{bytes_eq-Decides}
use Rattle.std.proofs.lemmas.Bool.{eqb-true, eq-eqb}
use Rattle.std.specs.List.{list_any}
use Rattle.parsing.specs.Parser.{on_head}
use Rattle.parsing.specs.Rule.{Heads, either, Within, Without}
use denote.Enum.Bare.{sameb}
use Rattle.rdl_tree.specs.contracts.token.RdlTokenKind.{the_type}
use Rattle.rdl_tree.specs.declared.token.RdlTokenKind.{RdlTokenKind}
use Rattle.rdl_tree.specs.declared.token.RdlTokenKind.TheVariants.{Word, Num, Str, Mark}
use Rattle.rdl_tree.specs.declared.token.RdlToken.{RdlToken}
use Rattle.rdl_tree.specs.Spelling.{is_token}
use Rattle.rdl_tree.specs.Tree.{is_kind, is_text, is_name, is_reserved, reserved_words}

-- ---- truth

pub and_both : (a b : Bool) → a ≡ true → b ≡ true → (a && b) ≡ true
and_both a b e h = rw (e, h) refl

pub and_left : (a b : Bool) → (a && b) ≡ true → a ≡ true
and_left true b e = refl
and_left false b e = e

pub and_right : (a b : Bool) → (a && b) ≡ true → b ≡ true
and_right true b e = e
and_right false b e = absurd (cc)

pub or_cases : (a b : Bool) → (a || b) ≡ true → (a ≡ true) ⊎ (b ≡ true)
or_cases true b e = inl refl
or_cases false b e = inr e

pub or_left : (a b : Bool) → a ≡ true → (a || b) ≡ true
or_left a b e = rw e refl

pub or_right : (a b : Bool) → b ≡ true → (a || b) ≡ true
or_right true b e = refl
or_right false b e = e

pub not_true : (a : Bool) → not a ≡ true → a ≡ false
not_true true e = absurd (cc)
not_true false e = refl

pub not_both : {a : Bool} → a ≡ true → a ≡ false → ⊥
not_both e h = cc

-- ---- sorts

abbrev mark_table : List (List ℕ × ℕ)
mark_table =
    (codes "{", 10) ∷ (codes "}", 11) ∷ (codes "[", 12) ∷ (codes "]", 13) ∷ (codes ";", 14) ∷ (codes ",", 15) ∷ (codes "=", 16) ∷ (codes ":", 17)
    ∷ (codes "@", 18) ∷ (codes "->", 19) ∷ (codes "+=", 20) ∷ (codes "%=", 21) ∷ (codes ".", 22) ∷ []

abbrev word_table : List (List ℕ × ℕ)
word_table =
    (codes "addrmap", 30) ∷ (codes "regfile", 31) ∷ (codes "reg", 32) ∷ (codes "field", 33) ∷ (codes "enum", 34) ∷ (codes "default", 35)
    ∷ (codes "true", 36) ∷ (codes "false", 37) ∷ []

abbrev lookup : List (List ℕ × ℕ) → ℕ → List ℕ → ℕ
lookup [] other w = other
lookup (e ∷ more) other w = cond (bytes_eq w e.0) e.1 (lookup more other w)

-- 1 a number, 2 a string, 3 a word that is left out, 4 a name, 5 no mark; 0 stands for the end
sort_by : RdlTokenKind → List ℕ → ℕ
sort_by Num w = 1
sort_by Str w = 2
sort_by Word w = lookup word_table (cond (is_reserved w) 3 4) w
sort_by Mark w = lookup mark_table 5 w

pub sort_of : RdlToken → ℕ
sort_of t = sort_by t.kind t.text

-- among the table's entries this number stands beside this text alone
abbrev only_at : List ℕ → ℕ → List (List ℕ × ℕ) → Bool
only_at w k [] = true
only_at w k (e ∷ more) = cond (e.1 == k) (bytes_eq e.0 w) (not (bytes_eq e.0 w)) && only_at w k more

abbrev none_at : ℕ → List (List ℕ × ℕ) → Bool
none_at k [] = true
none_at k (e ∷ more) = not (e.1 == k) && none_at k more

abbrev has_from : List ℕ → List (List ℕ × ℕ) → Bool
has_from w [] = false
has_from w (e ∷ more) = bytes_eq w e.0 || has_from w more

abbrev has : List ℕ → List (List ℕ × ℕ) → Bool
has w [] = false
has w (e ∷ more) = bytes_eq e.0 w || has w more

same_bytes : (w x : List ℕ) → bytes_eq w x ≡ true → w ≡ x
same_bytes w x e = (bytes_eq-Decides w x).0 e

bytes_self : (w x : List ℕ) → w ≡ x → bytes_eq w x ≡ true
bytes_self w x e = (bytes_eq-Decides w x).1 e

module _ (x0 : List ℕ) (k other : ℕ) (apart : (other == k) ≡ false) where
  at_entry : (b : Bool) (x w : List ℕ) (s : ℕ) (h : Bool) → bytes_eq w x ≡ true → (s == k) ≡ b → cond b (bytes_eq x x0) (not (bytes_eq x x0)) ≡ true → (s == k) ≡ (bytes_eq w x0 && (bytes_eq x x0 || h))
  at_entry true x w s h e i only = let here : bytes_eq w x0 ≡ true = rw (same_bytes w x e) only in rw (i, here, only) refl
  at_entry false x w s h e i only = let away : bytes_eq w x0 ≡ false = rw (same_bytes w x e) (not_true _ only) in rw (i, away) refl

  past_entry : (x w : List ℕ) (h r : Bool) → bytes_eq w x ≡ false → r ≡ (bytes_eq w x0 && h) → (c : Bool) → bytes_eq x x0 ≡ c → r ≡ (bytes_eq w x0 && (c || h))
  past_entry x w h r e ih true i = let away : bytes_eq w x0 ≡ false = rw (← same_bytes x x0 i) e in ih ∙ rw away refl
  past_entry x w h r e ih false i = ih

  found : (table : List (List ℕ × ℕ)) → only_at x0 k table ≡ true → (w : List ℕ) → (lookup table other w == k) ≡ (bytes_eq w x0 && has x0 table)
  found [] only w = apart ∙ sym (nothing (bytes_eq w x0))
    where
      nothing : (b : Bool) → (b && false) ≡ false
      nothing true = refl
      nothing false = refl
  found (e ∷ more) only w = by_test (found more (and_right _ _ only) w) (bytes_eq w e.0) refl
    where
      by_test : (lookup more other w == k) ≡ (bytes_eq w x0 && has x0 more) → (b : Bool) → bytes_eq w e.0 ≡ b → (cond b e.1 (lookup more other w) == k) ≡ (bytes_eq w x0 && (bytes_eq e.0 x0 || has x0 more))
      by_test ih true h = at_entry (e.1 == k) e.0 w e.1 (has x0 more) h refl (and_left _ _ only)
      by_test ih false h = past_entry e.0 w (has x0 more) _ h ih (bytes_eq e.0 x0) refl

  nowhere : (table : List (List ℕ × ℕ)) → none_at k table ≡ true → (w : List ℕ) → (lookup table other w == k) ≡ false
  nowhere [] none w = apart
  nowhere (e ∷ more) none w = by_test (nowhere more (and_right _ _ none) w) (bytes_eq w e.0)
    where
      by_test : (lookup more other w == k) ≡ false → (b : Bool) → (cond b e.1 (lookup more other w) == k) ≡ false
      by_test ih true = not_true _ (and_left _ _ none)
      by_test ih false = ih

no_text : (kind : RdlTokenKind) (x0 : List ℕ) → ((v : ℕ) → is_token kind x0 v ≡ false) → (w : List ℕ) (v : ℕ) → is_token kind w v ≡ true → bytes_eq w x0 ≡ false
no_text kind x0 none w v is = by_test (bytes_eq w x0) refl
  where
    by_test : (b : Bool) → bytes_eq w x0 ≡ b → b ≡ false
    by_test true e = let here : is_token kind x0 v ≡ true = rw (← same_bytes w x0 e) is in absurd (not_both here (none v))
    by_test false e = refl

apart_word : (k : ℕ) → (3 == k) ≡ false → (4 == k) ≡ false → (b : Bool) → (cond b 3 4 == k) ≡ false
apart_word k e h true = e
apart_word k e h false = h

-- ---- sets of sorts

abbrev pub among : List ℕ → ℕ → Bool
among [] k = false
among (s ∷ S) k = (k == s) || among S k

abbrev pub sort_at : Option RdlToken → ℕ
sort_at None = 0
sort_at (Some t) = sort_of t

abbrev pub heads : List ℕ → Heads RdlToken
heads S = λ h. among S (sort_at h)

-- the test goes by the sort
pub Sorted : (RdlToken → Bool) → List ℕ → Type 0
Sorted test S = (t : RdlToken) → test t ≡ among S (sort_of t)

or_false : (a b : Bool) → a ≡ b → b ≡ (a || false)
or_false true b e = sym e
or_false false b e = sym e

and_one : (a : Bool) → (a && true) ≡ a
and_one true = refl
and_one false = refl

module _ (x0 : List ℕ) (k : ℕ) (not_one : (1 == k) ≡ false) (not_two : (2 == k) ≡ false) (not_word : (3 == k) ≡ false) (not_name : (4 == k) ≡ false) (not_mark : (5 == k) ≡ false)
    (no_number : (v : ℕ) → is_token Num x0 v ≡ false) (no_string : (v : ℕ) → is_token Str x0 v ≡ false) where
  by_mark : ((v : ℕ) → is_token Word x0 v ≡ false) → only_at x0 k mark_table ≡ true → has x0 mark_table ≡ true → none_at k word_table ≡ true
      → (kind : RdlTokenKind) (w : List ℕ) (v : ℕ) → is_token kind w v ≡ true → (sort_by kind w == k) ≡ bytes_eq w x0
  unfolding sort_by
  by_mark no_word only there none Num w v is = not_one ∙ sym (no_text Num x0 no_number w v is)
  by_mark no_word only there none Str w v is = not_two ∙ sym (no_text Str x0 no_string w v is)
  by_mark no_word only there none Word w v is = nowhere x0 k (cond (is_reserved w) 3 4) (apart_word k not_word not_name (is_reserved w)) word_table none w ∙ sym (no_text Word x0 no_word w v is)
  by_mark no_word only there none Mark w v is = found x0 k 5 not_mark mark_table only w ∙ rw there (and_one (bytes_eq w x0))

  by_word : ((v : ℕ) → is_token Mark x0 v ≡ false) → only_at x0 k word_table ≡ true → has x0 word_table ≡ true → none_at k mark_table ≡ true
      → (kind : RdlTokenKind) (w : List ℕ) (v : ℕ) → is_token kind w v ≡ true → (sort_by kind w == k) ≡ bytes_eq w x0
  unfolding sort_by
  by_word no_mark only there none Num w v is = not_one ∙ sym (no_text Num x0 no_number w v is)
  by_word no_mark only there none Str w v is = not_two ∙ sym (no_text Str x0 no_string w v is)
  by_word no_mark only there none Word w v is = found x0 k (cond (is_reserved w) 3 4) (apart_word k not_word not_name (is_reserved w)) word_table only w ∙ rw there (and_one (bytes_eq w x0))
  by_word no_mark only there none Mark w v is = nowhere x0 k 5 not_mark mark_table none w ∙ sym (no_text Mark x0 no_mark w v is)

  pub mark_sorted : ((v : ℕ) → is_token Word x0 v ≡ false) → only_at x0 k mark_table ≡ true → has x0 mark_table ≡ true → none_at k word_table ≡ true → Sorted (is_text x0) (k ∷ [])
  unfolding Sorted sort_of
  mark_sorted no_word only there none t = or_false _ _ (by_mark no_word only there none t.kind t.text t.value t.spelled)

  pub word_sorted : ((v : ℕ) → is_token Mark x0 v ≡ false) → only_at x0 k word_table ≡ true → has x0 word_table ≡ true → none_at k mark_table ≡ true → Sorted (is_text x0) (k ∷ [])
  unfolding Sorted sort_of
  word_sorted no_mark only there none t = or_false _ _ (by_word no_mark only there none t.kind t.text t.value t.spelled)

pub open_brace_sorted : Sorted (is_text (codes "{")) (10 ∷ [])
unfolding is_token
open_brace_sorted = mark_sorted (codes "{") 10 refl refl refl refl refl (λ v. refl) (λ v. refl) (λ v. refl) refl refl refl

pub close_brace_sorted : Sorted (is_text (codes "}")) (11 ∷ [])
unfolding is_token
close_brace_sorted = mark_sorted (codes "}") 11 refl refl refl refl refl (λ v. refl) (λ v. refl) (λ v. refl) refl refl refl

pub open_bracket_sorted : Sorted (is_text (codes "[")) (12 ∷ [])
unfolding is_token
open_bracket_sorted = mark_sorted (codes "[") 12 refl refl refl refl refl (λ v. refl) (λ v. refl) (λ v. refl) refl refl refl

pub close_bracket_sorted : Sorted (is_text (codes "]")) (13 ∷ [])
unfolding is_token
close_bracket_sorted = mark_sorted (codes "]") 13 refl refl refl refl refl (λ v. refl) (λ v. refl) (λ v. refl) refl refl refl

pub semi_sorted : Sorted (is_text (codes ";")) (14 ∷ [])
unfolding is_token
semi_sorted = mark_sorted (codes ";") 14 refl refl refl refl refl (λ v. refl) (λ v. refl) (λ v. refl) refl refl refl

pub comma_sorted : Sorted (is_text (codes ",")) (15 ∷ [])
unfolding is_token
comma_sorted = mark_sorted (codes ",") 15 refl refl refl refl refl (λ v. refl) (λ v. refl) (λ v. refl) refl refl refl

pub equals_sorted : Sorted (is_text (codes "=")) (16 ∷ [])
unfolding is_token
equals_sorted = mark_sorted (codes "=") 16 refl refl refl refl refl (λ v. refl) (λ v. refl) (λ v. refl) refl refl refl

pub colon_sorted : Sorted (is_text (codes ":")) (17 ∷ [])
unfolding is_token
colon_sorted = mark_sorted (codes ":") 17 refl refl refl refl refl (λ v. refl) (λ v. refl) (λ v. refl) refl refl refl

pub at_sorted : Sorted (is_text (codes "@")) (18 ∷ [])
unfolding is_token
at_sorted = mark_sorted (codes "@") 18 refl refl refl refl refl (λ v. refl) (λ v. refl) (λ v. refl) refl refl refl

pub arrow_sorted : Sorted (is_text (codes "->")) (19 ∷ [])
unfolding is_token
arrow_sorted = mark_sorted (codes "->") 19 refl refl refl refl refl (λ v. refl) (λ v. refl) (λ v. refl) refl refl refl

pub plus_equals_sorted : Sorted (is_text (codes "+=")) (20 ∷ [])
unfolding is_token
plus_equals_sorted = mark_sorted (codes "+=") 20 refl refl refl refl refl (λ v. refl) (λ v. refl) (λ v. refl) refl refl refl

pub percent_equals_sorted : Sorted (is_text (codes "%=")) (21 ∷ [])
unfolding is_token
percent_equals_sorted = mark_sorted (codes "%=") 21 refl refl refl refl refl (λ v. refl) (λ v. refl) (λ v. refl) refl refl refl

pub dot_sorted : Sorted (is_text (codes ".")) (22 ∷ [])
unfolding is_token
dot_sorted = mark_sorted (codes ".") 22 refl refl refl refl refl (λ v. refl) (λ v. refl) (λ v. refl) refl refl refl

pub addrmap_sorted : Sorted (is_text (codes "addrmap")) (30 ∷ [])
unfolding is_token
addrmap_sorted = word_sorted (codes "addrmap") 30 refl refl refl refl refl (λ v. refl) (λ v. refl) (λ v. refl) refl refl refl

pub regfile_sorted : Sorted (is_text (codes "regfile")) (31 ∷ [])
unfolding is_token
regfile_sorted = word_sorted (codes "regfile") 31 refl refl refl refl refl (λ v. refl) (λ v. refl) (λ v. refl) refl refl refl

pub reg_sorted : Sorted (is_text (codes "reg")) (32 ∷ [])
unfolding is_token
reg_sorted = word_sorted (codes "reg") 32 refl refl refl refl refl (λ v. refl) (λ v. refl) (λ v. refl) refl refl refl

pub field_sorted : Sorted (is_text (codes "field")) (33 ∷ [])
unfolding is_token
field_sorted = word_sorted (codes "field") 33 refl refl refl refl refl (λ v. refl) (λ v. refl) (λ v. refl) refl refl refl

pub enum_sorted : Sorted (is_text (codes "enum")) (34 ∷ [])
unfolding is_token
enum_sorted = word_sorted (codes "enum") 34 refl refl refl refl refl (λ v. refl) (λ v. refl) (λ v. refl) refl refl refl

pub default_sorted : Sorted (is_text (codes "default")) (35 ∷ [])
unfolding is_token
default_sorted = word_sorted (codes "default") 35 refl refl refl refl refl (λ v. refl) (λ v. refl) (λ v. refl) refl refl refl

pub true_sorted : Sorted (is_text (codes "true")) (36 ∷ [])
unfolding is_token
true_sorted = word_sorted (codes "true") 36 refl refl refl refl refl (λ v. refl) (λ v. refl) (λ v. refl) refl refl refl

pub false_sorted : Sorted (is_text (codes "false")) (37 ∷ [])
unfolding is_token
false_sorted = word_sorted (codes "false") 37 refl refl refl refl refl (λ v. refl) (λ v. refl) (λ v. refl) refl refl refl

number_by : (kind : RdlTokenKind) (w : List ℕ) → (sort_by kind w == 1) ≡ sameb the_type kind Num
unfolding sort_by
number_by Num w = refl
number_by Str w = refl
number_by Word w = nowhere [] 1 (cond (is_reserved w) 3 4) (apart_word 1 refl refl (is_reserved w)) word_table refl w
number_by Mark w = nowhere [] 1 5 refl mark_table refl w

pub number_sorted : Sorted (is_kind Num) (1 ∷ [])
unfolding Sorted sort_of
number_sorted t = or_false _ _ (number_by t.kind t.text)

string_by : (kind : RdlTokenKind) (w : List ℕ) → (sort_by kind w == 2) ≡ sameb the_type kind Str
unfolding sort_by
string_by Num w = refl
string_by Str w = refl
string_by Word w = nowhere [] 2 (cond (is_reserved w) 3 4) (apart_word 2 refl refl (is_reserved w)) word_table refl w
string_by Mark w = nowhere [] 2 5 refl mark_table refl w

pub string_sorted : Sorted (is_kind Str) (2 ∷ [])
unfolding Sorted sort_of
string_sorted t = or_false _ _ (string_by t.kind t.text)

-- each word of the table is reserved
reserved_name : (table : List (List ℕ × ℕ)) → none_at 4 table ≡ true → ((w : List ℕ) → has_from w table ≡ true → is_reserved w ≡ true) → (w : List ℕ)
    → (lookup table (cond (is_reserved w) 3 4) w == 4) ≡ not (is_reserved w)
reserved_name [] none all w = by_test (is_reserved w)
  where
    by_test : (b : Bool) → (cond b 3 4 == 4) ≡ not b
    by_test true = refl
    by_test false = refl
reserved_name (e ∷ more) none all w = by_test (reserved_name more (and_right _ _ none) (λ v i. all v (or_right _ _ i)) w) (bytes_eq w e.0) refl
  where
    by_test : (lookup more (cond (is_reserved w) 3 4) w == 4) ≡ not (is_reserved w) → (b : Bool) → bytes_eq w e.0 ≡ b → (cond b e.1 (lookup more (cond (is_reserved w) 3 4) w) == 4) ≡ not (is_reserved w)
    by_test ih true h = not_true _ (and_left _ _ none) ∙ sym (rw (all w (or_left _ _ h)) refl)
    by_test ih false h = ih

widen : (a b c d e f g i rest : Bool) → (a || (b || (c || (d || (e || (f || (g || (i || false)))))))) ≡ true → (a || (b || (c || (d || (e || (f || (g || (i || rest)))))))) ≡ true
widen true b c d e f g i rest h = refl
widen false true c d e f g i rest h = refl
widen false false true d e f g i rest h = refl
widen false false false true e f g i rest h = refl
widen false false false false true f g i rest h = refl
widen false false false false false true g i rest h = refl
widen false false false false false false true i rest h = refl
widen false false false false false false false true rest h = refl
widen false false false false false false false false rest h = absurd (cc)

is_left_out : List ℕ → Bool
is_left_out w = list_any (bytes_eq w) (drop 8 reserved_words)

all_reserved : (w : List ℕ) → has_from w word_table ≡ true → is_reserved w ≡ true
unfolding is_reserved is_left_out
all_reserved w h = widen (bytes_eq w (codes "addrmap")) (bytes_eq w (codes "regfile")) (bytes_eq w (codes "reg")) (bytes_eq w (codes "field")) (bytes_eq w (codes "enum")) (bytes_eq w (codes "default")) (bytes_eq w (codes "true")) (bytes_eq w (codes "false")) (is_left_out w) h

name_by : (kind : RdlTokenKind) (w : List ℕ) → (sort_by kind w == 4) ≡ (sameb the_type kind Word && not (is_reserved w))
unfolding sort_by
name_by Num w = refl
name_by Str w = refl
name_by Word w = reserved_name word_table refl all_reserved w
name_by Mark w = nowhere [] 4 5 refl mark_table refl w

pub name_sorted : Sorted is_name (4 ∷ [])
unfolding Sorted sort_of
name_sorted t = or_false _ _ (name_by t.kind t.text)

-- ---- sets within sets

abbrev pub subset : List ℕ → List ℕ → Bool
subset [] U = true
subset (s ∷ S) U = among U s && subset S U

abbrev pub disjoint : List ℕ → List ℕ → Bool
disjoint [] U = true
disjoint (s ∷ S) U = not (among U s) && disjoint S U

among_subset : (S U : List ℕ) (k : ℕ) → subset S U ≡ true → among S k ≡ true → among U k ≡ true
among_subset [] U k sub e = absurd (cc)
among_subset (s ∷ S) U k sub e = by_case (among_subset S U k (and_right _ _ sub)) (or_cases _ _ e)
  where
    by_case : (among S k ≡ true → among U k ≡ true) → ((k == s) ≡ true) ⊎ (among S k ≡ true) → among U k ≡ true
    by_case ih (inl i) = rw (eqb-true k s i) (and_left _ _ sub)
    by_case ih (inr i) = ih i

among_disjoint : (S U : List ℕ) (k : ℕ) → disjoint S U ≡ true → among S k ≡ true → among U k ≡ false
among_disjoint [] U k away e = absurd (cc)
among_disjoint (s ∷ S) U k away e = by_case (among_disjoint S U k (and_right _ _ away)) (or_cases _ _ e)
  where
    by_case : (among S k ≡ true → among U k ≡ false) → ((k == s) ≡ true) ⊎ (among S k ≡ true) → among U k ≡ false
    by_case ih (inl i) = rw (eqb-true k s i) (not_true _ (and_left _ _ away))
    by_case ih (inr i) = ih i

pub heads_within : (S U : List ℕ) → subset S U ≡ true → Within (heads S) (heads U)
unfolding Within
heads_within S U sub h e = among_subset S U (sort_at h) sub e

pub test_within : (test : RdlToken → Bool) (S U : List ℕ) → Sorted test S → subset S U ≡ true → Within (on_head test) (heads U)
unfolding Within Sorted
test_within test S U sorted sub None e = absurd (cc)
test_within test S U sorted sub (Some t) e = among_subset S U (sort_of t) sub (sym (sorted t) ∙ e)

pub within_test : (test : RdlToken → Bool) (S U : List ℕ) → Sorted test S → among U 0 ≡ false → subset U S ≡ true → Within (heads U) (on_head test)
unfolding Within Sorted
within_test test S U sorted no_end sub None e = absurd (not_both e no_end)
within_test test S U sorted no_end sub (Some t) e = sorted t ∙ among_subset U S (sort_of t) sub e

pub without_test : (test : RdlToken → Bool) (S U : List ℕ) → Sorted test S → disjoint U S ≡ true → Without (heads U) test
unfolding Without Sorted
without_test test S U sorted away None e = refl
without_test test S U sorted away (Some t) e = sorted t ∙ among_disjoint U S (sort_of t) away e

either_first : (a b c d : Bool) → ((b || c) ≡ true → d ≡ true) → ((a || b) || c) ≡ true → (a || d) ≡ true
either_first true b c d ih e = refl
either_first false b c d ih e = ih e

among_either : (S U : List ℕ) (k : ℕ) → (among S k || among U k) ≡ true → among (S ++ U) k ≡ true
among_either [] U k e = e
among_either (s ∷ S) U k e = either_first (k == s) (among S k) (among U k) (among (S ++ U) k) (among_either S U k) e

pub either_within : (S U : List ℕ) → Within (either (heads S) (heads U)) (heads (S ++ U))
unfolding Within
either_within S U h e = among_either S U (sort_at h) e

among_append : (S U : List ℕ) (k : ℕ) → among (S ++ U) k ≡ (among S k || among U k)
among_append [] U k = refl
among_append (s ∷ S) U k = rw (among_append S U k) (regroup (k == s) (among S k) (among U k))
  where
    regroup : (a b c : Bool) → (a || (b || c)) ≡ ((a || b) || c)
    regroup true b c = refl
    regroup false b c = refl

pub sorted_or : (test test' : RdlToken → Bool) (S U : List ℕ) → Sorted test S → Sorted test' U → Sorted (λ t. test t || test' t) (S ++ U)
unfolding Sorted
sorted_or test test' S U sorted sorted' t = rw (sorted t, sorted' t) (sym (among_append S U (sort_of t)))
