-- Bits rise with their nets.
use Rattle.std.proofs.Common.{◌≡◌, inl, inr, ℕ, zero, suc, ◌+◌, ◌<◌, ◌≤◌, true, ◌&&◌, List, [], ◌∷◌, length, take, Some, refl, sym, ◌∙◌, ap, arith}
use Rattle.std.specs.Prelude.{slice_get, nat_lt, nat_le}
use Rattle.std.proofs.lemmas.Bool.{cases_lt}
use Rattle.std.proofs.lemmas.Bool.Decides.{nat_tests}
use Rattle.std.proofs.lemmas.List.{get_or_past}
use Rattle.std.proofs.lemmas.Option.{get_or_from_slice_get, slice_get-get_or}
use Rattle.flat_design.specs.declared.net.Net.{Net}
use Rattle.flat_design.specs.Bits.{net_at, of_net, bits_in}
use Rattle.flat_raw.specs.Nets.{AreInRow}
use Rattle.flat_raw.proofs.Rows.{bits_more, bits_within}

is_of : (first width i : ℕ) → nat_le first i && nat_lt i (first + width) ≡ true → (first ≤ i) × (i < first + width)
is_of first width i h = (grind (arith, nat_tests), grind (arith, nat_tests))

taken : {A : Type 0} (xs : List A) (j k : ℕ) → j ≤ k → take j (take k xs) ≡ take j xs
taken xs zero k h = refl
taken xs (suc j) zero h = absurd (omega arith)
taken [] (suc j) (suc k) h = refl
taken (x ∷ xs) (suc j) (suc k) h = ap (λ l. x ∷ l) (taken xs j k (omega arith))

-- more nets have as many bits or more
bits_up : (nets : List Net) (j k : ℕ) → j ≤ k → bits_in (take j nets) ≤ bits_in (take k nets)
bits_up nets j k h = let within = bits_within (take k nets) j in let same = ap bits_in (taken nets j k h) in omega arith

past : (nets : List Net) (m i : ℕ) → length nets ≤ m → of_net (net_at nets m) i ≡ true → ⊥
past nets m i h o = let p = is_of 0 0 i (sym (ap (λ x. of_net x i) (get_or_past nets m _ h)) ∙ o) in let b : i < 0 + 0 = p.1 in omega arith

-- the net of a later bit isn't before that of an earlier one
pub nets_rise : (nets : List Net) (n m i j : ℕ) → AreInRow nets → of_net (net_at nets n) i ≡ true → of_net (net_at nets m) j ≡ true → i ≤ j → n ≤ m
nets_rise nets n m i j row a b up = elim (cases_lt m n) [
  | inr more ↦ more
  | inl less ↦ elim (cases_lt n (length nets)) [ inr out ↦ absurd (past nets n i out a) | inl inside ↦ absurd (no less inside) ]
] where
  no : m < n → n < length nets → ⊥
  no less inside =
      let at_n : slice_get nets n ≡ Some (net_at nets n) = slice_get-get_or nets n _ inside in
      let at_m : slice_get nets m ≡ Some (net_at nets m) = slice_get-get_or nets m _ (omega arith) in
      let low : (net_at nets n).first ≤ i = (is_of (net_at nets n).first (net_at nets n).width i a).0 in
      let high : j < (net_at nets m).first + (net_at nets m).width = (is_of (net_at nets m).first (net_at nets m).width j b).1 in
      let first_n : (net_at nets n).first ≡ bits_in (take n nets) = row n (net_at nets n) at_n in
      let first_m : (net_at nets m).first ≡ bits_in (take m nets) = row m (net_at nets m) at_m in
      let more : bits_in (take (m + 1) nets) ≡ bits_in (take m nets) + (net_at nets m).width = bits_more nets m (net_at nets m) (omega arith) (sym (get_or_from_slice_get nets m (net_at nets m) (net_at nets m) at_m)) in
      let within : bits_in (take (m + 1) nets) ≤ bits_in (take n nets) = bits_up nets (m + 1) n (omega arith) in
      omega arith
