-- Steps of the loops that write a report.
use Rattle.std.proofs.Common.{◌≡◌, ℕ, suc, ◌+◌, ◌-◌, ◌*◌, ◌/◌, ◌%◌, ◌^◌, ◌<◌, List, [], ◌∷◌, ◌++◌, length, drop, drop-cons, get_or, slice_index_or, codes, inl, inr, Option, Some, None, refl, sym, ◌∙◌, ap, subst, append-nil, arith}
use Rattle.std.proofs.lemmas.List.{append_assoc}
use Rattle.map_report.specs.Laws.{BeginWithAddresses, HasOneReport, StartsWith}
use Rattle.field_policies.specs.declared.field.Field.{Field}
use Rattle.field_policies.specs.declared.policy.Policy.{Policy}
use Rattle.map_report.specs.Digits.{digit_at, hex_of}
use Rattle.map_report.specs.Names.{IsPolicyOf, name_text}
use Rattle.map_report.specs.Reports.{ArePoliciesOf, ReportsFields, field_line, place_text, lines_text, bits_text, reset_text}

-- one digit more
at_place : (xs : List ℕ) (rest n place : ℕ) → place ≡ rest → (xs ++ digit_at (n / 2 ^ (4 * place) % 16) ∷ []) ++ hex_of rest n ≡ xs ++ hex_of (suc rest) n
at_place xs rest n place same =
    let P : ℕ → Type 0 = λ p. (xs ++ digit_at (n / 2 ^ (4 * p) % 16) ∷ []) ++ hex_of rest n ≡ xs ++ hex_of (suc rest) n in
    subst P (sym same) (append_assoc xs (digit_at (n / 2 ^ (4 * rest) % 16) ∷ []) (hex_of rest n))

left_over : (xs : List ℕ) (count left rest n : ℕ) → left ≡ suc rest → xs ++ hex_of left n ≡ xs ++ hex_of (suc rest) n
left_over xs count left rest n same = ap (λ k. xs ++ hex_of k n) same

pub one_digit : (xs new all : List ℕ) (count at n digit : ℕ) → at < count → digit ≡ digit_at (n / 2 ^ (4 * (count - 1 - at)) % 16) → new ≡ xs ++ digit ∷ []
    → xs ++ hex_of (count - at) n ≡ all → new ++ hex_of (count - (at + 1)) n ≡ all
one_digit xs new all count at n digit inside is pushed before =
    let place : count - 1 - at ≡ count - (at + 1) = omega (arith, inside) in
    let left : count - at ≡ suc (count - (at + 1)) = omega (arith, inside) in
    ap (λ t. t ++ hex_of (count - (at + 1)) n) (pushed ∙ ap (λ d. xs ++ d ∷ []) is)
    ∙ at_place xs (count - (at + 1)) n (count - 1 - at) place ∙ sym (left_over xs count (count - at) (count - (at + 1)) n left) ∙ before

-- what is written so far, and then the lines of the fields that are left, are the report
abbrev pub Completes : List ℕ → List Field → List Field → List ℕ → Type 0
Completes words all left text = (policies : List (Option Policy)) → ArePoliciesOf left policies → ReportsFields words all (text ++ lines_text words left policies)

pub none_yet : (words : List ℕ) (all : List Field) → Completes words all all []
none_yet words all policies named = record { policies = policies; named = named; is = refl }

next_field : (all : List Field) (at : ℕ) (f : Field) → at < length all → f ≡ get_or all at f → drop at all ≡ f ∷ drop (at + 1) all
next_field all at f inside is =
    let one : suc at ≡ at + 1 = omega arith in
    drop-cons all at f inside ∙ ap (λ j. get_or all at f ∷ drop j all) one ∙ ap (λ g. g ∷ drop (at + 1) all) (sym is)

more_text : (line lines text : List ℕ) → (text ++ (line ++ 10 ∷ [])) ++ lines ≡ text ++ (line ++ 10 ∷ lines)
more_text line lines text = append_assoc text (line ++ 10 ∷ []) lines ∙ ap (λ t. text ++ t) (append_assoc line (10 ∷ []) lines)

pub one_line : (words : List ℕ) (all : List Field) (at : ℕ) (f : Field) (policy : Option Policy) (text new : List ℕ) → at < length all → f ≡ get_or all at f → IsPolicyOf f policy
    → new ≡ text ++ (field_line words f policy ++ 10 ∷ []) → Completes words all (drop at all) text → Completes words all (drop (at + 1) all) new
one_line words all at f policy text new inside is named written before policies rest =
    let left = drop (at + 1) all in
    let both : ArePoliciesOf (f ∷ left) (policy ∷ policies) = (named, rest) in
    let here : ArePoliciesOf (drop at all) (policy ∷ policies) = subst (λ (fs : List Field). ArePoliciesOf fs (policy ∷ policies)) (sym (next_field all at f inside is)) both in
    let whole : ReportsFields words all (text ++ lines_text words (drop at all) (policy ∷ policies)) = before (policy ∷ policies) here in
    let opened : ReportsFields words all (text ++ lines_text words (f ∷ left) (policy ∷ policies)) =
    subst (λ (fs : List Field). ReportsFields words all (text ++ lines_text words fs (policy ∷ policies))) (next_field all at f inside is) whole in
    let moved : new ++ lines_text words left policies ≡ text ++ (field_line words f policy ++ 10 ∷ lines_text words left policies) =
    ap (λ t. t ++ lines_text words left policies) written ∙ more_text (field_line words f policy) (lines_text words left policies) text in
    subst (λ (t : List ℕ). ReportsFields words all t) (sym moved) opened

pub all_written : (words : List ℕ) (all : List Field) (at : ℕ) (text : List ℕ) → drop at all ≡ [] → Completes words all (drop at all) text → ReportsFields words all text
all_written words all at text none before =
    let left : Completes words all [] text = subst (λ (fs : List Field). Completes words all fs text) none before in
    subst (λ (t : List ℕ). ReportsFields words all t) (append-nil text) (left [] tt)

-- a field has one policy, or none
one_policy : (f : Field) (a b : Option Policy) → IsPolicyOf f a → IsPolicyOf f b → a ≡ b
one_policy f None None x y = refl
one_policy f (Some p) b x y = sym ((y p).1 ((x p).0 refl))
one_policy f None (Some q) x y = (x q).1 ((y q).0 refl)

same_policies : (fields : List Field) (a b : List (Option Policy)) → ArePoliciesOf fields a → ArePoliciesOf fields b → a ≡ b
same_policies [] [] [] x y = refl
same_policies [] [] (q ∷ b) x y = absurd y
same_policies [] (p ∷ a) b x y = absurd x
same_policies (f ∷ fields) [] b x y = absurd x
same_policies (f ∷ fields) (p ∷ a) [] x y = absurd y
same_policies (f ∷ fields) (p ∷ a) (q ∷ b) x y = ap (λ o. o ∷ a) (one_policy f p q x.0 y.0) ∙ ap (λ os. q ∷ os) (same_policies fields a b x.1 y.1)

pub one_report : HasOneReport
one_report words fields s t a b = a.is ∙ ap (λ ps. lines_text words fields ps) (same_policies fields a.policies b.policies a.named b.named) ∙ sym b.is

-- a report begins with an address
from_line : (address : ℕ) (a b c text : List ℕ) → text ≡ ((hex_of 8 address ++ a) ++ b) ++ c → StartsWith (hex_of 8 address) text
from_line address a b c text is = (a ++ (b ++ c), is ∙ append_assoc (hex_of 8 address ++ a) b c ∙ append_assoc (hex_of 8 address) a (b ++ c))

with_policies : (words : List ℕ) (f : Field) (fields : List Field) (policies : List (Option Policy)) (text : List ℕ) → ArePoliciesOf (f ∷ fields) policies → text ≡ lines_text words (f ∷ fields) policies
    → StartsWith (hex_of 8 (slice_index_or words f.word 0)) text
unfolding field_line place_text
with_policies words f fields [] text named is = absurd named
with_policies words f fields (policy ∷ policies) text named is = from_line (slice_index_or words f.word 0)
    (codes " " ++ (f.path ++ (codes " " ++ bits_text f))) (codes " " ++ (name_text policy ++ (codes " " ++ reset_text f))) (10 ∷ lines_text words fields policies) text is

pub with_addresses : BeginWithAddresses
with_addresses words [] text h = inl h.is
with_addresses words (f ∷ fields) text h = inr (slice_index_or words f.word 0, with_policies words f fields h.policies text h.named h.is)
