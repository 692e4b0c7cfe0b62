-- The laws of rules, with sets of next tokens as lists of sorts.
use Rattle.std.proofs.Common.{Ok, Err, ◌≡◌, ℕ, suc, ◌<◌, Bool, true, false, List, [], ◌∷◌, ◌++◌, length, Option, Some, None, refl, ◌⊎◌, ap, subst, arith}
use Rattle.std.specs.List.{list_all}
use Rattle.parsing.specs.Parser.{Refused, Sunk, Outcome, Parser, seq, form, expect, on, optional, many}
use Rattle.parsing.specs.Rule.{Heads, one, joined, Each, if_any, IfAny, Within, Follows, Rule}
use Rattle.parsing.proofs.Rules.{expect_rule, seq_rule, seq_step_rule, form_rule, on_rule, optional_rule, weaker_rule, fit_rule}
use Rattle.parsing.proofs.Loops.{many_rule}
use Rattle.vlog_tree.specs.declared.token.VToken.{VToken}
use Rattle.vlog_tree.specs.Terminals.{Tokens}
use Rattle.vlog_tree.specs.Parts.{flat_option, flat_list, fits_option}
use Rattle.vlog_tree.proofs.Sorts.{and_both, and_left, and_right, among, heads, Sorted, subset, disjoint, heads_within, test_within, within_test, without_test, either_within}

-- the laws, for trees whose first tokens are of the sorts `S`, before tokens of the sorts `N`
pub record Reading {A : Type 0} (room more : ℕ) (S N : List ℕ) (p q : Parser VToken A) (flat : A → Tokens) (Fits : A → Type 0) : Type 0 where
  pub rule : Rule room more (heads S) (heads N) p q flat Fits

-- a tree passes a test
abbrev pub Holds : {A : Type 0} → (A → Bool) → A → Type 0
Holds fits = λ a. fits a ≡ true

pub fun_ext : {A B : Type 0} (f g : A → B) → ((a : A) → f a ≡ g a) → f ≡ g
fun_ext f g e = λ i a. e a i

pub flat_rule : {A : Type 0} {room more : ℕ} {First Next : Heads VToken} {p q : Parser VToken A} {f : A → Tokens} {G : A → Type 0} (g : A → Tokens) → ((a : A) → f a ≡ g a)
    → Rule room more First Next p q f G → Rule room more First Next p q g G
flat_rule {room = room} {more = more} {First = First} {Next = Next} {p = p} {q = q} {f = f} {G = G} g e rule = subst (λ h. Rule room more First Next p q h G) (fun_ext f g e) rule

-- ---- one token

pub token_rule : {room more : ℕ} (test : VToken → Bool) (S N : List ℕ) → Sorted test S → subset S S ≡ true → (some : VToken) → test some ≡ true → Reading room more S N (expect test) (expect test) one (Holds test)
unfolding Within
token_rule {room = room} {more = more} test S N sorted self some is = record { rule = weaker_rule (test_within test S S sorted self) (λ h e. refl) (expect_rule test room more some is) }

-- ---- one after the other

pub then_rule : {A B : Type 0} {room more : ℕ} {S N S' N' : List ℕ} {p p' : Parser VToken A} {k k' : A → Parser VToken B} {f : A → Tokens} {g : B → Tokens} {G : A → Type 0} {H : A → B → Type 0}
    → subset S' N ≡ true → Reading room more S N p p' f G → ((a : A) → Reading room more S' N' (k a) (k' a) g (H a))
    → Reading {A = A × B} room more S N' (seq p k) (seq p' k') (λ ab. f ab.0 ++ g ab.1) (λ ab. G ab.0 × H ab.0 ab.1)
then_rule {N = N} {S' = S'} sub first second = record { rule = seq_rule first.rule (λ a. (second a).rule) (heads_within S' N sub) }

-- the first takes a token, so what comes after it needs less room
pub then_step_rule : {A B : Type 0} {room more : ℕ} {S N S' N' : List ℕ} {p p' : Parser VToken A} {k k' : A → Parser VToken B} {f : A → Tokens} {g : B → Tokens} {G : A → Type 0} {H : A → B → Type 0}
    → subset S' N ≡ true → ((a : A) → G a → 0 < length (f a)) → Reading (suc room) (suc more) S N p p' f G → ((a : A) → Reading room more S' N' (k a) (k' a) g (H a))
    → Reading {A = A × B} (suc room) (suc more) S N' (seq p k) (seq p' k') (λ ab. f ab.0 ++ g ab.1) (λ ab. G ab.0 × H ab.0 ab.1)
then_step_rule {N = N} {S' = S'} sub some first second = record { rule = seq_step_rule some first.rule (λ a. (second a).rule) (heads_within S' N sub) }

-- ---- a part that may be absent

pub absent_flat : {A : Type 0} (f : A → Tokens) (o : Option A) → if_any f o ≡ flat_option f o
absent_flat f None = refl
absent_flat f (Some x) = refl

absent_fits : {A : Type 0} (fits : A → Bool) (o : Option A) → IfAny (Holds fits) o → fits_option fits o ≡ true
absent_fits fits None h = refl
absent_fits fits (Some x) h = h

fits_absent : {A : Type 0} (fits : A → Bool) (o : Option A) → fits_option fits o ≡ true → IfAny (Holds fits) o
fits_absent fits None h = tt
fits_absent fits (Some x) h = h

pub any_rule : {A : Type 0} {room more : ℕ} {S N : List ℕ} {p q : Parser VToken A} {f : A → Tokens} {fits : A → Bool} (test : VToken → Bool) (T : List ℕ)
    → Sorted test T → among S 0 ≡ false → subset S T ≡ true → disjoint N T ≡ true → Reading room more S N p q f (Holds fits)
    → Reading room more (S ++ N) N (optional test p) (optional test q) (flat_option f) (Holds (fits_option fits))
unfolding Within
any_rule {S = S} {N = N} {f = f} {fits = fits} test T sorted no_end sub away reading = record {
  rule =
      weaker_rule (either_within S N) (λ h e. e)
      (fit_rule (Holds (fits_option fits)) (absent_fits fits) (fits_absent fits)
      (flat_rule (flat_option f) (absent_flat f) (optional_rule test reading.rule (within_test test T S sorted no_end sub) (without_test test T N sorted away))));
}

-- ---- repeated parts

list_flat : {A : Type 0} (f : A → Tokens) (xs : List A) → joined f xs ≡ flat_list f xs
list_flat f [] = refl
list_flat f (x ∷ xs) = ap (λ ts. f x ++ ts) (list_flat f xs)

list_fits : {A : Type 0} (fits : A → Bool) (xs : List A) → Each (Holds fits) xs → list_all fits xs ≡ true
list_fits fits [] h = refl
list_fits fits (x ∷ xs) h = and_both _ _ h.0 (list_fits fits xs h.1)

fits_list : {A : Type 0} (fits : A → Bool) (xs : List A) → list_all fits xs ≡ true → Each (Holds fits) xs
fits_list fits [] h = tt
fits_list fits (x ∷ xs) h = (and_left _ _ h, fits_list fits xs (and_right _ _ h))

pub each_rule : {A : Type 0} {room more : ℕ} {S N' : List ℕ} {p q : Parser VToken A} {f : A → Tokens} {fits : A → Bool} (test : VToken → Bool) (T N : List ℕ)
    → Sorted test T → among S 0 ≡ false → subset S T ≡ true → disjoint N T ≡ true → subset (S ++ N) N' ≡ true → ((a : A) → fits a ≡ true → 0 < length (f a)) → Reading room more S N' p q f (Holds fits)
    → Reading room more (S ++ N) N (many test p) (many test q) (flat_list f) (Holds (list_all fits))
unfolding Within
each_rule {S = S} {N' = N'} {f = f} {fits = fits} test T N sorted no_end sub away after some reading = record {
  rule =
      weaker_rule (either_within S N) (λ h e. e)
      (fit_rule (Holds (list_all fits)) (list_fits fits) (fits_list fits)
      (flat_rule (flat_list f) (list_flat f)
      (many_rule test (heads N) some reading.rule (within_test test T S sorted no_end sub) (without_test test T N sorted away)
      (λ h e. heads_within (S ++ N) N' after h (either_within S N h e)))));
}

-- ---- one or the other

pub or_rule : {A : Type 0} {room more : ℕ} {S S' N : List ℕ} {p p' q q' : Parser VToken A} {f : A → Tokens} {G H : A → Type 0} (test : VToken → Bool) (T : List ℕ)
    → Sorted test T → among S 0 ≡ false → subset S T ≡ true → disjoint S' T ≡ true → Reading room more S N p p' f G → Reading room more S' N q q' f H
    → Reading room more (S ++ S') N (on test p q) (on test p' q') f (λ a. G a ⊎ H a)
unfolding Within
or_rule {S = S} {S' = S'} test T sorted no_end sub away left right = record {
  rule =
      weaker_rule (either_within S S') (λ h e. e) (on_rule test left.rule right.rule (within_test test T S sorted no_end sub) (without_test test T S' sorted away));
}

-- ---- in another form, and for other words for fitting

pub as_rule : {A B : Type 0} {room more : ℕ} {S N : List ℕ} {p p' : Parser VToken A} {f : A → Tokens} {G : A → Type 0} (into : A → B) (g : B → Tokens) (H : B → Type 0)
    → ((a : A) → G a → (g (into a) ≡ f a) × H (into a)) → ((b : B) → H b → (a : A) × ((into a ≡ b) × G a))
    → Reading room more S N p p' f G → Reading room more S N (form into p) (form into p') g H
as_rule into g H same covers reading = record { rule = form_rule into g H same covers reading.rule }

pub fitting_rule : {A : Type 0} {room more : ℕ} {S N : List ℕ} {p q : Parser VToken A} {f : A → Tokens} {G : A → Type 0} (H : A → Type 0)
    → ((a : A) → G a → H a) → ((a : A) → H a → G a) → Reading room more S N p q f G → Reading room more S N p q f H
fitting_rule H into from reading = record { rule = fit_rule H into from reading.rule }

pub wider_rule : {A : Type 0} {room more : ℕ} {S N : List ℕ} {p q : Parser VToken A} {f : A → Tokens} {G : A → Type 0} (S' N' : List ℕ)
    → subset S S' ≡ true → subset N' N ≡ true → Reading room more S N p q f G → Reading room more S' N' p q f G
wider_rule {S = S} {N = N} S' N' sub sub' reading = record { rule = weaker_rule (heads_within S S' sub) (heads_within N' N sub') reading.rule }

-- the trees that come of those that fit
abbrev pub Image : {A B : Type 0} → (A → B) → (A → Type 0) → B → Type 0
Image {A} into G b = (a : A) × ((into a ≡ b) × G a)

pub image_rule : {A B : Type 0} {room more : ℕ} {S N : List ℕ} {p p' : Parser VToken A} {f : A → Tokens} {G : A → Type 0} (into : A → B) (g : B → Tokens) → ((a : A) → G a → g (into a) ≡ f a)
    → Reading room more S N p p' f G → Reading room more S N (form into p) (form into p') g (Image into G)
image_rule {G = G} into g same reading = as_rule into g (Image into G) (λ a fits. (same a fits, (a, (refl, fits)))) (λ b h. h) reading

-- with less room less is claimed
lower_follows : {A : Type 0} (room : ℕ) (q : Parser VToken A) (f : A → Tokens) (G : A → Type 0) (ts : Tokens) (o : Outcome VToken A) → Follows (suc room) q f G ts o → Follows room q f G ts o
lower_follows room q f G ts (Ok p) h = h
lower_follows room q f G ts (Err (Refused rest)) h = h
lower_follows room q f G ts (Err Sunk) h = omega arith

pub lower : {A : Type 0} {room more : ℕ} {First Next : Heads VToken} {p q : Parser VToken A} {f : A → Tokens} {G : A → Type 0}
    → Rule (suc room) (suc more) First Next p q f G → Rule room more First Next p q f G
lower {room = room} {p = p} {q = q} {f = f} {G = G} rule = record {
  some = rule.some;
  fits = rule.fits;
  follows = λ ts. lower_follows room q f G ts (p ts) (rule.follows ts);
  reads = λ a fits short zs next. rule.reads a fits (omega arith) zs next;
  begins = λ a fits short zs next. rule.begins a fits (omega arith) zs next;
}

pub lower_rule : {A : Type 0} {room more : ℕ} {S N : List ℕ} {p q : Parser VToken A} {f : A → Tokens} {G : A → Type 0} → Reading (suc room) (suc more) S N p q f G → Reading room more S N p q f G
lower_rule reading = record { rule = lower reading.rule }
