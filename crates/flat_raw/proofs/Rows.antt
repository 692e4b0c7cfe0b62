-- Nets one after the other, and elements by their places.
use Rattle.std.proofs.Common.{◌≡◌, ◌⊎◌, inl, inr, ℕ, ◌+◌, ◌≤◌, ◌<◌, Bool, true, false, ◌&&◌, ◌==◌, List, length, take, get_or, refl, sym, ◌∙◌, ap, subst, arith, Some}
use Rattle.std.specs.Prelude.{slice_get, nat_lt, sum}
use Rattle.std.specs.List.{sum_by}
use Rattle.std.proofs.lemmas.List.Sums.{sum-map, sum_by_more, sum_by-take-le}
use Rattle.std.proofs.lemmas.Option.{slice_get_read, slice_get_within}
use Rattle.std.proofs.lemmas.Bool.{cases_lt}
use Rattle.std.proofs.lemmas.Bool.Decides.{nat_tests}
use Rattle.flat_design.specs.declared.net.Net.{Net}
use Rattle.flat_design.specs.Bits.{bits_in}
use Rattle.flat_raw.specs.Nets.{AreInRow}

-- an element of this number is there, and it is this one
pub here : {A : Type 0} (xs : List A) (i : ℕ) (x : A) → i < length xs → x ≡ get_or xs i x → slice_get xs i ≡ Some x
here xs i x h is = slice_get_read xs (length xs) i x refl h is

pub same_element : {A : Type 0} (xs : List A) (i : ℕ) (x y : A) → slice_get xs i ≡ Some x → slice_get xs i ≡ Some y → x ≡ y
same_element xs i x y h k = cc

-- what holds of each element before one of them and of that one holds of each before the next
pub one_more : {A : Type 0} (P : ℕ → A → Type 0) (xs : List A) (i : ℕ) (x : A) → slice_get xs i ≡ Some x → ((k : ℕ) (y : A) → k < i → slice_get xs k ≡ Some y → P k y) → P i x → (k : ℕ) (y : A) → k < i + 1 → slice_get xs k ≡ Some y → P k y
one_more P xs i x h before now k y below at = elim (cases_lt k i) [
  | inl less ↦ before k y less at
  | inr more ↦ let e : i ≡ k = omega arith in subst (λ n. P n y) e (subst (P i) (same_element xs i x y h (ap (slice_get xs) e ∙ at)) now)
]

bits_are : (nets : List Net) → bits_in nets ≡ sum_by (λ n. n.width) nets
bits_are nets = sum-map (λ n. n.width) nets

pub bits_more : (nets : List Net) (i : ℕ) (n : Net) → i < length nets → n ≡ get_or nets i n → bits_in (take (i + 1) nets) ≡ bits_in (take i nets) + n.width
bits_more nets i n h is = bits_are (take (i + 1) nets) ∙ sum_by_more (λ n. n.width) nets i n h ∙ (λ j. sym (bits_are (take i nets)) j + (sym is j).width)

pub bits_within : (nets : List Net) (i : ℕ) → bits_in (take i nets) ≤ bits_in nets
bits_within nets i = let a = bits_are (take i nets) in let b = bits_are nets in let c = sum_by-take-le (λ n. n.width) nets i in omega arith

fits_in : (first bits width : ℕ) → (first == bits) && nat_lt (bits + width) 4294967296 ≡ false → first ≡ bits → bits + width < 4294967296 → ⊥
fits_in first bits width out h k = grind (arith, nat_tests)

-- a net that doesn't stand where the bits before end, or goes over the limit
pub row_out : (nets : List Net) (i bits : ℕ) (n : Net) → i < length nets → n ≡ get_or nets i n → bits ≡ bits_in (take i nets) → (n.first == bits) && nat_lt (bits + n.width) 4294967296 ≡ false → AreInRow nets → bits_in nets < 4294967296 → ⊥
row_out nets i bits n h is sum out row few =
    let more = bits_more nets i n h is in
    let within = bits_within nets (i + 1) in
    fits_in n.first bits n.width out (row i n (here nets i n h is) ∙ sym sum) (omega arith)

pub row_now : (first bits width : ℕ) → (first == bits) && nat_lt (bits + width) 4294967296 ≡ true → first ≡ bits
row_now first bits width h = grind (arith, nat_tests)

pub few_now : (first bits width : ℕ) → (first == bits) && nat_lt (bits + width) 4294967296 ≡ true → bits + width < 4294967296
few_now first bits width h = grind (arith, nat_tests)
