-- Labels, and whether each word has one.
use Rattle.std.proofs.Common.{◌≡◌, ℕ, zero, suc, ◌<◌, ◌≤◌, ◌+◌, ◌^◌, Bool, true, false, not, ◌&&◌, ◌||◌, List, [], ◌∷◌, map, Some, None, refl, sym, ◌∙◌, ap, arith, add-one, inl, inr}
use Rattle.std.specs.Prelude.{is_some, nat_lt, nat_le, Result, Ok, Err, IfOk}
use Rattle.std.specs.List.{list_all, list_any}
use Rattle.std.proofs.lemmas.Bool.{cases_Bool}
use Rattle.std.proofs.lemmas.Bool.Decides.{nat_tests}
use Rattle.bit_base.specs.Numbers.{low_bits}
use Rattle.bit_base.specs.Operators.{each_place, differ, are_all, or_of, xnor_of}
use Rattle.flat_design.specs.declared.net.Net.{Net}
use Rattle.flat_design.specs.declared.stmt.FlatArm.{FlatArm}
use Rattle.flat_design.specs.declared.stmt.FlatLabel.{FlatLabel}
use Rattle.flat_design.specs.Reads.{constant_in}
use Rattle.flat_design.specs.Statements.{matches_label}
use Rattle.std.proofs.Math.Nat.{pow-succ'}
use Rattle.flat_design.specs.Flows.{all_match, no_values, Spread, LabelTest, is_full}
use Rattle.flat_design.proofs.Frames.{expr_framed}
use Rattle.flat_flows.specs.Arms.{tests_of}

careless_or : (care same : List Bool) → or_of (map not care) same ≡ each_place (λ care same. not care || same) care same
careless_or [] same = refl
careless_or (c ∷ care) [] = refl
careless_or (c ∷ care) (s ∷ same) = ap (λ l. (not c || s) ∷ l) (careless_or care same)

pub constant_matches : (nets : List Net) (label : FlatLabel) (signed : Bool) (value word same careless each : List Bool) → constant_in nets label.value ≡ Some (signed, value) → same ≡ xnor_of value word → careless ≡ map not label.care → each ≡ or_of careless same
    → are_all each ≡ matches_label nets no_values word label
constant_matches nets label signed value word same careless each is s c e =
    ap are_all (e ∙ (λ j. or_of (c j) (s j)) ∙ careless_or label.care (xnor_of value word))
    ∙ sym (ap (λ x. are_all (each_place (λ care same. not care || same) label.care (each_place (λ x y. not (differ x y)) x.1 word))) ((expr_framed nets label.value).fixed (signed, value) is no_values))

pub is_there : (nets : List Net) (label : FlatLabel) → constant_in nets label.value ≡ None → is_some (constant_in nets label.value) ≡ true → ⊥
is_there nets label none some = cc (sym some ∙ ap is_some none)

-- ---- one after the other

pub any_here : {X : Type 0} (p : X → Bool) (xs rest : List X) (x : X) → xs ≡ x ∷ rest → p x ≡ true → list_any p xs ≡ true
any_here p xs rest x is on = ap (list_any p) is ∙ ap (λ b. b || list_any p rest) on

pub any_rest : {X : Type 0} (p : X → Bool) (xs rest : List X) (x : X) → xs ≡ x ∷ rest → p x ≡ false → list_any p rest ≡ list_any p xs
any_rest p xs rest x is off = sym (ap (list_any p) is ∙ ap (λ b. b || list_any p rest) off)

left_of : (a b : Bool) → a && b ≡ true → a ≡ true
left_of true b h = refl
left_of false b h = absurd (cc h)

right_of : (a b : Bool) → a && b ≡ true → b ≡ true
right_of true b h = h
right_of false b h = absurd (cc h)

pub all_here : {X : Type 0} (p : X → Bool) (xs rest : List X) (x : X) → xs ≡ x ∷ rest → list_all p xs ≡ true → p x ≡ true
all_here p xs rest x is all = left_of (p x) (list_all p rest) (sym (ap (list_all p) is) ∙ all)

pub all_rest : {X : Type 0} (p : X → Bool) (xs rest : List X) (x : X) → xs ≡ x ∷ rest → list_all p xs ≡ true → list_all p rest ≡ true
all_rest p xs rest x is all = right_of (p x) (list_all p rest) (sym (ap (list_all p) is) ∙ all)

pub not_all : {X : Type 0} (p : X → Bool) (xs rest : List X) (x : X) → xs ≡ x ∷ rest → p x ≡ false → list_all p xs ≡ false
not_all p xs rest x is off = ap (list_all p) is ∙ ap (λ b. b && list_all p rest) off

pub all_more : {X : Type 0} (p : X → Bool) (xs rest : List X) (x : X) → xs ≡ x ∷ rest → p x ≡ true → list_all p rest ≡ list_all p xs
all_more p xs rest x is on = sym (ap (list_all p) is ∙ ap (λ b. b && list_all p rest) on)

-- ---- all numbers below a bound

none_of : (a : Bool) → a && false ≡ false
none_of true = refl
none_of false = refl

pub not_all_match : (n k size : ℕ) (matches : List Bool → Bool) → k < n → matches (low_bits size k) ≡ false → all_match n size matches ≡ false
not_all_match zero k size matches h off = absurd (omega arith)
not_all_match (suc n) k size matches h off = elim (cases_Bool (nat_lt k n)) [
  | inl less ↦ (let l : k < n = grind (arith, nat_tests) in ap (λ b. b && matches (low_bits size n)) (not_all_match n k size matches l off))
  | inr more ↦ (let e : k ≡ n = grind (arith, nat_tests) in ap (λ b. all_match n size matches && b) (ap (λ m. matches (low_bits size m)) (sym e) ∙ off) ∙ none_of (all_match n size matches))
]

-- ---- full cases

both_false : (a b : Bool) → a && (b && false) ≡ false
both_false true true = refl
both_false true false = refl
both_false false b = refl

pub not_full : (s : Spread) (tests : List LabelTest) (k : ℕ) → k < 2 ^ s.own → list_any (λ t. t.matches (s.widen (low_bits s.own k))) tests ≡ false → is_full s tests ≡ false
not_full s tests k h off =
    ap (λ b. nat_le s.own 8 && (list_all (λ t. t.constant) tests && b)) (not_all_match (2 ^ s.own) k s.own (λ word. list_any (λ t. t.matches (s.widen word)) tests) h off) ∙ both_false (nat_le s.own 8) (list_all (λ t. t.constant) tests)

pub full : (s : Spread) (tests : List LabelTest) → s.own ≤ 8 → list_all (λ t. t.constant) tests ≡ true → all_match (2 ^ s.own) s.own (λ word. list_any (λ t. t.matches (s.widen word)) tests) ≡ true → is_full s tests ≡ true
full s tests few constant all = let e : nat_le s.own 8 ≡ true = grind (arith, nat_tests) in rw (e, constant, all) refl

pub too_wide : (s : Spread) (tests : List LabelTest) → 8 < s.own → is_full s tests ≡ false
too_wide s tests many = let e : nat_le s.own 8 ≡ false = grind (arith, nat_tests) in rw e refl

pub not_constant : (s : Spread) (tests : List LabelTest) → list_all (λ t. t.constant) tests ≡ false → is_full s tests ≡ false
not_constant s tests off = ap (λ b. nat_le s.own 8 && (b && all_match (2 ^ s.own) s.own (λ word. list_any (λ t. t.matches (s.widen word)) tests))) off ∙ none_of (nat_le s.own 8)

no_label : (n size : ℕ) → 0 < n → all_match n size (λ word. false) ≡ false
no_label zero size h = absurd (omega arith)
no_label (suc n) size h = none_of (all_match n size (λ word. false))

-- a case without arms isn't full
pub no_arms : (s : Spread) → is_full s [] ≡ false
no_arms s = ap (λ b. nat_le s.own 8 && b) (no_label (2 ^ s.own) s.own (one_below s.own)) ∙ none_of (nat_le s.own 8) where
  one_below : (n : ℕ) → 0 < 2 ^ n
  one_below zero = omega arith
  one_below (suc n) = omega (arith, one_below n, pow-succ' 2 n)

and_more : (a b : Bool) → a ≡ true → b ≡ true → a && b ≡ true
and_more a b h k = rw (h, k) refl

pub all_match_more : (n size : ℕ) (matches : List Bool → Bool) → all_match n size matches ≡ true → matches (low_bits size n) ≡ true → all_match (n + 1) size matches ≡ true
all_match_more n size matches all one = rw (add-one) (and_more (all_match n size matches) (matches (low_bits size n)) all one)

pub all_match_at : (n m size : ℕ) (matches : List Bool → Bool) → n ≡ m → all_match n size matches ≡ true → all_match m size matches ≡ true
all_match_at n m size matches e all = ap (λ k. all_match k size matches) (sym e) ∙ all

pub has_arms : {E : Type 0} (r : Result Bool E) (s : Spread) (arms : List FlatArm) → ((nets : List Net) → IfOk r (λ full. full ≡ is_full s (tests_of nets arms))) → IfOk r (λ full. full ≡ true → arms ≡ [] → ⊥)
has_arms (Ok b) s arms h = λ on none. cc (sym on ∙ h [] ∙ ap (λ l. is_full s (tests_of [] l)) none ∙ no_arms s)
has_arms (Err e) s arms h = h []
