-- Sums over lists of numbers that have no number in common.
use Rattle.std.proofs.Common.{◌≡◌, ◌≢◌, ℕ, zero, suc, ◌+◌, ◌*◌, ◌<◌, ◌≤◌, List, [], ◌∷◌, length, map, set, get_or, slice_get, Some, refl, sym, ap, ◌∙◌, arith}
use Rattle.std.specs.List.{sum_by}
use Rattle.std.proofs.lemmas.List.{length-set, get_or-set_other, length-map}
use Rattle.std.proofs.lemmas.List.Sums.{sum_by-cons, sum_by-set}
use Rattle.field_policies.specs.declared.field.Field.{Field}
use Rattle.field_policies.specs.Expressions.{width_at}
use Rattle.field_policies.specs.Fields.{members_of}
use Rattle.member_sums.specs.Sums.{MembersAreOnce, RaisesAreFew, weight_at}

-- entry k of a table
abbrev at : List ℕ → ℕ → ℕ
at table k = get_or table k 0

abbrev total : List ℕ → ℕ
total table = sum_by (λ x. x) table

-- the table with 0 at each of the numbers
cleared : List ℕ → List ℕ → List ℕ
cleared table [] = table
cleared table (k ∷ ks) = cleared (set table k 0) ks

length_cleared : (table ks : List ℕ) → length (cleared table ks) ≡ length table
unfolding cleared
length_cleared table [] = refl
length_cleared table (k ∷ ks) = length_cleared (set table k 0) ks ∙ length-set table k 0

-- the other entries stay
kept : (table ks : List ℕ) (j : ℕ) → ((i k : ℕ) → slice_get ks i ≡ Some k → j ≢ k) → at (cleared table ks) j ≡ at table j
unfolding cleared
kept table [] j h = refl
kept table (k ∷ ks) j h = kept (set table k 0) ks j (λ i a here. h (suc i) a here) ∙ get_or-set_other table k j 0 0 (h 0 k refl)

-- two sums whose parts are the same
same_sum : (f g : ℕ → ℕ) (ks : List ℕ) → ((i k : ℕ) → slice_get ks i ≡ Some k → f k ≡ g k) → sum_by f ks ≡ sum_by g ks
same_sum f g [] h = refl
same_sum f g (k ∷ ks) h = omega (arith, sum_by-cons f k ks, sum_by-cons g k ks, h 0 k refl, same_sum f g ks (λ i a here. h (suc i) a here))

-- a rising list's entries, and what is left
one_list : (table ks : List ℕ) → ((i k : ℕ) → slice_get ks i ≡ Some k → k < length table) → ((i j a b : ℕ) → i < j → slice_get ks i ≡ Some a → slice_get ks j ≡ Some b → a < b)
    → sum_by (at table) ks + total (cleared table ks) ≡ total table
unfolding cleared
one_list table [] within rising = omega arith
one_list table (k ∷ ks) within rising =
    let rest = one_list (set table k 0) ks (λ i a here. let p = within (suc i) a here in omega (arith, p, length-set table k 0)) (λ i j a b lt p q. rising (suc i) (suc j) a b (omega arith) p q) in
    let same = same_sum (at (set table k 0)) (at table) ks (λ i a here. get_or-set_other table k a 0 0 (λ e. let p = rising 0 (suc i) k a (omega arith) refl here in omega (arith, p, e))) in
    let one = sum_by-set (λ x. x) table k 0 0 (within 0 k refl) in
    omega (arith, sum_by-cons (at table) k ks, rest, same, one)

abbrev members : Field → List ℕ
members f = members_of f.extra

same_lists : (f g : ℕ → ℕ) (fs : List Field) → ((n i k : ℕ) (h : Field) → slice_get fs n ≡ Some h → slice_get (members h) i ≡ Some k → f k ≡ g k)
    → sum_by (λ h. sum_by f (members h)) fs ≡ sum_by (λ h. sum_by g (members h)) fs
same_lists f g [] same = refl
same_lists f g (h ∷ fs) same =
    omega (arith, sum_by-cons (λ h. sum_by f (members h)) h fs, sum_by-cons (λ h. sum_by g (members h)) h fs, same_sum f g (members h) (λ i k here. same 0 i k h refl here), same_lists f g fs (λ n i k x there here. same (suc n) i k x there here))

-- rising lists that have no number in common
all_lists : (table : List ℕ) (fs : List Field) → ((n i k : ℕ) (f : Field) → slice_get fs n ≡ Some f → slice_get (members f) i ≡ Some k → k < length table)
    → ((n : ℕ) (f : Field) → slice_get fs n ≡ Some f → (i j a b : ℕ) → i < j → slice_get (members f) i ≡ Some a → slice_get (members f) j ≡ Some b → a < b)
    → ((m n i j k : ℕ) (f g : Field) → slice_get fs m ≡ Some f → slice_get fs n ≡ Some g → slice_get (members f) i ≡ Some k → slice_get (members g) j ≡ Some k → m ≡ n)
    → sum_by (λ f. sum_by (at table) (members f)) fs ≤ total table
all_lists table [] within rising apart = omega arith
all_lists table (f ∷ fs) within rising apart =
    let one = one_list table (members f) (λ i k here. within 0 i k f refl here) (rising 0 f refl) in
    let rest = all_lists (cleared table (members f)) fs (λ n i k g there here. let p = within (suc n) i k g there here in omega (arith, p, length_cleared table (members f)))
    (λ n g there. rising (suc n) g there)
    (λ m n i j k g h p q r s. let e = apart (suc m) (suc n) i j k g h p q r s in omega (arith, e)) in
    let same = same_lists (at (cleared table (members f))) (at table) fs (λ n i k g there here. kept table (members f) k
    (λ j a there_too e. let no = apart 0 (suc n) j i k f g refl there (there_too ∙ ap Some (sym e)) here in omega (arith, no))) in
    omega (arith, sum_by-cons (λ f. sum_by (at table) (members f)) f fs, one, rest, same)

-- the table of what each field weighs
weights_are : (weight : Field → ℕ) (fields : List Field) (k : ℕ) → weight_at fields weight k ≡ at (map weight fields) k
weights_are weight [] k = refl
weights_are weight (f ∷ fields) zero = refl
weights_are weight (f ∷ fields) (suc k) = weights_are weight fields k

total_is : (weight : Field → ℕ) (fields : List Field) → total (map weight fields) ≡ sum_by weight fields
total_is weight [] = refl
total_is weight (f ∷ fields) = omega (arith, sum_by-cons (λ (x : ℕ). x) (weight f) (map weight fields), sum_by-cons weight f fields, total_is weight fields)

pub once : MembersAreOnce
once map_of weight =
    let fields = map_of.fields.items in
    let all = all_lists (map weight fields) fields (λ n i k f there here. let p = map_of.in_range.members n f there i k here in omega (arith, p, length-map fields weight))
    (λ n f there. map_of.members.rising n f there) map_of.members.apart in
    let same = same_lists (weight_at fields weight) (at (map weight fields)) fields (λ n i k f there here. weights_are weight fields k) in
    omega (arith, all, same, total_is weight fields)

-- what a field's places cost
abbrev cost : Field → ℕ
cost f = 2 * f.width + 1

cost_at : (fields : List Field) (k : ℕ) → k < length fields → 2 * width_at fields k + 1 ≡ weight_at fields cost k
cost_at [] k lt = absurd (let no : ⊥ = omega (arith, lt) in no)
cost_at (f ∷ fields) zero lt = refl
cost_at (f ∷ fields) (suc k) lt = cost_at fields k (omega (arith, lt))

cost_few : (fields : List Field) → ((n : ℕ) (f : Field) → slice_get fields n ≡ Some f → 1 ≤ f.width) → sum_by cost fields ≤ 3 * sum_by (λ f. f.width) fields
cost_few [] some = omega arith
cost_few (f ∷ fields) some = omega (arith, some 0 f refl, sum_by-cons cost f fields, sum_by-cons (λ (f : Field). f.width) f fields, cost_few fields (λ n g there. some (suc n) g there))

pub few : RaisesAreFew
few map_of =
    let fields = map_of.fields.items in
    let same = same_lists (λ k. 2 * width_at fields k + 1) (weight_at fields cost) fields (λ n i k f there here. cost_at fields k (map_of.in_range.members n f there i k here)) in
    omega (arith, same, once map_of cost, cost_few fields map_of.in_words.some)
