-- The nets of the bits before a net.
use Rattle.std.proofs.Common.{◌≡◌, ◌⊎◌, inl, inr, ℕ, zero, suc, ◌+◌, ◌-◌, ◌<◌, ◌≤◌, Bool, true, false, ◌&&◌, List, [], ◌∷◌, ◌++◌, length, replicate, take, Some, refl, sym, ◌∙◌, ap, subst, arith}
use Rattle.std.specs.Prelude.{slice_get, nat_lt, nat_le}
use Rattle.std.proofs.lemmas.Bool.{cases_lt}
use Rattle.std.proofs.lemmas.Bool.Decides.{nat_tests}
use Rattle.std.proofs.lemmas.List.{length-append, length-replicate, get_or_past}
use Rattle.std.proofs.lemmas.Option.{slice_get_within, get_or_from_slice_get}
use Rattle.flat_design.specs.declared.net.Net.{Net}
use Rattle.flat_design.specs.Bits.{net_at, of_net, bits_in}
use Rattle.flat_raw.specs.Nets.{AreInRow}
use Rattle.flat_raw.proofs.Rows.{bits_more}
use Rattle.flat_offences.specs.Owners.{AreOwners}

pub record OwnBelow (nets : List Net) (bound : ℕ) (owners : List ℕ) : Type 0 where
  pub long : length owners ≡ bits_in (take bound nets)
  pub only : (i n : ℕ) → slice_get owners i ≡ Some n → of_net (net_at nets n) i ≡ true
  pub all : (i n : ℕ) → n < bound → of_net (net_at nets n) i ≡ true → slice_get owners i ≡ Some n

width_sum : (nets : List Net) (k : ℕ) (n : Net) → slice_get nets k ≡ Some n → bits_in (take (k + 1) nets) ≡ bits_in (take k nets) + n.width
width_sum nets k n at = bits_more nets k n (slice_get_within nets k n at) (sym (get_or_from_slice_get nets k n n at))

in_front : {A : Type 0} (xs ys : List A) (i : ℕ) → i < length xs → slice_get (xs ++ ys) i ≡ slice_get xs i
in_front [] ys i h = absurd (omega arith)
in_front (x ∷ xs) ys zero h = refl
in_front (x ∷ xs) ys (suc i) h = in_front xs ys i (omega arith)

behind : {A : Type 0} (xs ys : List A) (i : ℕ) → length xs ≤ i → slice_get (xs ++ ys) i ≡ slice_get ys (i - length xs)
behind [] ys i h = ap (slice_get ys) (omega arith)
behind (x ∷ xs) ys zero h = absurd (omega arith)
behind (x ∷ xs) ys (suc i) h = behind xs ys i (omega arith) ∙ ap (slice_get ys) (omega arith)

repeated_in : (w n i : ℕ) → i < w → slice_get (replicate w n) i ≡ Some n
repeated_in zero n i h = absurd (omega arith)
repeated_in (suc w) n zero h = refl
repeated_in (suc w) n (suc i) h = repeated_in w n i (omega arith)

repeated_out : (w n i m : ℕ) → slice_get (replicate w n) i ≡ Some m → (i < w) × (m ≡ n)
repeated_out zero n i m h = cc
repeated_out (suc w) n zero m h = (omega arith, cc)
repeated_out (suc w) n (suc i) m h = let rest = repeated_out w n i m h in (let a = rest.0 in omega arith, rest.1)

net_is : (nets : List Net) (k : ℕ) (n : Net) → slice_get nets k ≡ Some n → net_at nets k ≡ n
net_is nets k n at = get_or_from_slice_get nets k n _ at

of_is : (first width i : ℕ) → first ≤ i → i < first + width → nat_le first i && nat_lt i (first + width) ≡ true
of_is first width i h k = grind (arith, nat_tests)

is_of : (first width i : ℕ) → nat_le first i && nat_lt i (first + width) ≡ true → (first ≤ i) × (i < first + width)
is_of first width i h = (grind (arith, nat_tests), grind (arith, nat_tests))

before_or_here : (k j : ℕ) → j < k + 1 → (j < k) ⊎ (j ≡ k)
before_or_here k j h = elim (cases_lt j k) [ inl less ↦ inl less | inr more ↦ inr (omega arith) ]

pub own_step : (nets : List Net) (k : ℕ) (n : Net) (old new : List ℕ) → AreInRow nets → slice_get nets k ≡ Some n → new ≡ old ++ replicate n.width k → OwnBelow nets k old → OwnBelow nets (k + 1) new
own_step nets k n old new row at is h = record { long = long; only = only; all = all } where
  starts : n.first ≡ length old
  starts = row k n at ∙ sym h.long

  long : length new ≡ bits_in (take (k + 1) nets)
  long = ap length is ∙ length-append old (replicate n.width k) ∙ (λ i. h.long i + length-replicate n.width k i) ∙ sym (width_sum nets k n at)

  only : (i m : ℕ) → slice_get new i ≡ Some m → of_net (net_at nets m) i ≡ true
  only i m g = elim (cases_lt i (length old)) [
    | inl less ↦ h.only i m (sym (in_front old (replicate n.width k) i less) ∙ ap (λ l. slice_get l i) (sym is) ∙ g)
    | inr more ↦
        let r = repeated_out n.width k (i - length old) m (sym (behind old (replicate n.width k) i more) ∙ ap (λ l. slice_get l i) (sym is) ∙ g) in
        let small : i - length old < n.width = r.0 in
        ap (λ x. of_net x i) (ap (net_at nets) r.1 ∙ net_is nets k n at) ∙ of_is n.first n.width i (let s = starts in omega arith) (let s = starts in omega arith)
  ]

  all : (i m : ℕ) → m < k + 1 → of_net (net_at nets m) i ≡ true → slice_get new i ≡ Some m
  all i m less o = elim (before_or_here k m less) [
    | inl b ↦ let g = h.all i m b o in ap (λ l. slice_get l i) is ∙ in_front old (replicate n.width k) i (slice_get_within old i m g) ∙ g
    | inr q ↦
        let p = is_of n.first n.width i (ap (λ x. of_net x i) (sym (ap (net_at nets) q ∙ net_is nets k n at)) ∙ o) in
        let from : n.first ≤ i = p.0 in
        let to : i < n.first + n.width = p.1 in
        let s = starts in
        ap (λ l. slice_get l i) is ∙ behind old (replicate n.width k) i (omega arith) ∙ repeated_in n.width k (i - length old) (omega arith) ∙ ap Some (sym q)
  ]

-- past the nets there are no bits
past : (nets : List Net) (m i : ℕ) → length nets ≤ m → of_net (net_at nets m) i ≡ true → ⊥
past nets m i h o = let p = is_of 0 0 i (sym (ap (λ x. of_net x i) (get_or_past nets m _ h)) ∙ o) in let b : i < 0 + 0 = p.1 in omega arith

pub own_end : (nets : List Net) (k : ℕ) (owners : List ℕ) → length nets ≤ k → OwnBelow nets k owners → AreOwners nets owners
own_end nets k owners end h = record { only = h.only; all = λ i m o. elim (cases_lt m (length nets)) [ inl less ↦ h.all i m (omega arith) o | inr more ↦ absurd (past nets m i more o) ] }
