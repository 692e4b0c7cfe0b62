-- Tables that grow by one set after the other.
use Rattle.std.proofs.Common.{◌≡◌, ℕ, ◌+◌, ◌<◌, ◌≤◌, Bool, true, false, not, ◌||◌, ◌&&◌, List, refl, ◌∙◌, ap, arith, inl, inr}
use Rattle.std.specs.Prelude.{◌==◌, nat_le, nat_lt, Result, Ok, Err, OnOk}
use Rattle.std.proofs.lemmas.Bool.{cases_Bool}
use Rattle.std.proofs.lemmas.Bool.Decides.{nat_tests}
use Rattle.flat_flows.specs.Tables.{in_table, Grows}

pub both : (a f g s : Bool) → (a || (f && not s)) || (g && not s) ≡ a || ((f || g) && not s)
both true true true true = refl
both true true true false = refl
both true true false true = refl
both true true false false = refl
both true false true true = refl
both true false true false = refl
both true false false true = refl
both true false false false = refl
both false true true true = refl
both false true true false = refl
both false true false true = refl
both false true false false = refl
both false false true true = refl
both false false true false = refl
both false false false true = refl
both false false false false = refl

none : (a s : Bool) → a ≡ a || (false && not s)
none true true = refl
none true false = refl
none false true = refl
none false false = refl

pub or_assoc : (a b c : Bool) → (a || b) || c ≡ a || (b || c)
or_assoc true true true = refl
or_assoc true true false = refl
or_assoc true false true = refl
or_assoc true false false = refl
or_assoc false true true = refl
or_assoc false true false = refl
or_assoc false false true = refl
or_assoc false false false = refl

pub grows_both : (old mid new shut : List Bool) (f g : ℕ → Bool) → Grows old f shut mid → Grows mid g shut new → Grows old (λ i. f i || g i) shut new
grows_both old mid new shut f g first second i = second i ∙ ap (λ b. b || (g i && not (in_table shut i))) (first i) ∙ both (in_table old i) (f i) (g i) (in_table shut i)

pub grows_none : (old shut : List Bool) → Grows old (λ i. false) shut old
grows_none old shut i = none (in_table old i) (in_table shut i)

pub grows_as : (old new shut : List Bool) (f g : ℕ → Bool) → ((i : ℕ) → f i ≡ g i) → Grows old f shut new → Grows old g shut new
grows_as old new shut f g same grows i = grows i ∙ ap (λ b. in_table old i || (b && not (in_table shut i))) (same i)

-- ---- rows

pub row_more : (k end i : ℕ) → k < end → ((i == k) || (nat_le (k + 1) i && nat_lt i end)) ≡ (nat_le k i && nat_lt i end)
row_more k end i h = grind (arith, nat_tests)

pub no_row : (k end i : ℕ) → end ≤ k → false ≡ (nat_le k i && nat_lt i end)
no_row k end i h = grind (arith, nat_tests)

-- one number more, or none where it is shut out
pub grows_one : (old new shut : List Bool) (k : ℕ) → in_table shut k ≡ false → ((i : ℕ) → in_table new i ≡ (in_table old i || i == k)) → Grows old (λ i. i == k) shut new
grows_one old new shut k free added i = added i ∙ ap (λ b. in_table old i || b) (elim (cases_Bool (i == k)) [ inl on ↦ one on | inr off ↦ rw off refl ]) where
  one : (i == k) ≡ true → (i == k) ≡ ((i == k) && not (in_table shut i))
  one on = let e : i ≡ k = grind (arith, nat_tests) in let o : in_table shut i ≡ false = ap (in_table shut) e ∙ free in rw (o, on) refl

pub grows_shut : (old shut : List Bool) (k : ℕ) → in_table shut k ≡ true → Grows old (λ i. i == k) shut old
grows_shut old shut k closed i = elim (cases_Bool (i == k)) [ inl on ↦ one on | inr off ↦ rw off (none (in_table old i) (in_table shut i)) ] where
  shut_out : (a b : Bool) → a ≡ a || (b && false)
  shut_out true b = refl
  shut_out false true = refl
  shut_out false false = refl

  one : (i == k) ≡ true → in_table old i ≡ in_table old i || ((i == k) && not (in_table shut i))
  one on = let e : i ≡ k = grind (arith, nat_tests) in let o : in_table shut i ≡ true = ap (in_table shut) e ∙ closed in rw o (shut_out (in_table old i) (i == k))

pub grows_row : (old mid final shut : List Bool) (k end : ℕ) → k < end → Grows old (λ i. i == k) shut mid → Grows mid (λ i. nat_le (k + 1) i && nat_lt i end) shut final → Grows old (λ i. nat_le k i && nat_lt i end) shut final
grows_row old mid final shut k end h one rest = grows_as old final shut _ _ (λ i. row_more k end i h) (grows_both old mid final shut (λ i. i == k) (λ i. nat_le (k + 1) i && nat_lt i end) one rest)

-- ---- what a call adds, where it ends well

pub on_ok : {A E : Type 0} (r : Result A E) (old new shut : List Bool) (f g : ℕ → Bool) → ((i : ℕ) → f i ≡ g i) → OnOk r (Grows old f shut new) → OnOk r (Grows old g shut new)
on_ok (Ok x) old new shut f g same grows = grows_as old new shut f g same grows
on_ok (Err e) old new shut f g same grows = grows

-- after what was added before
pub on_ok_after : {A E : Type 0} (r : Result A E) (old mid new shut : List Bool) (f g h : ℕ → Bool) → Grows old f shut mid → ((i : ℕ) → (f i || g i) ≡ h i) → OnOk r (Grows mid g shut new) → OnOk r (Grows old h shut new)
on_ok_after (Ok x) old mid new shut f g h first same grows = grows_as old new shut _ h same (grows_both old mid new shut f g first grows)
on_ok_after (Err e) old mid new shut f g h first same grows = grows
