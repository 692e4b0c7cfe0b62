-- Decimal digits, modulo a power of 2 and up to a limit.
use Rattle.std.proofs.Common.{◌≡◌, ℕ, suc, ◌+◌, ◌*◌, ◌%◌, ◌^◌, ◌≤◌, ◌<◌, cond, List, [], ◌∷◌, length, min, drop, get_or, add-one, refl, sym, ◌∙◌, ap, arith, inl, inr}
use Rattle.std.specs.Prelude.{nat_le}
use Rattle.std.proofs.Math.Seq.{drop-cons}
use Rattle.std.proofs.Math.Nat.{mod-mod, mod-add-mod}
use Rattle.std.proofs.lemmas.Nat.{mul-mod_first}
use Rattle.std.proofs.lemmas.Bool.Decides.{nat_tests}
use Rattle.std.proofs.lemmas.Bool.{cases_Bool}
use Rattle.bit_base.specs.Numbers.{low_bits}
use Rattle.bit_words.proofs.Remainders.{same_low_bits, twice_remainder}
use Rattle.vlog_tree.specs.Spelling.{digit_of}
use Rattle.vlog_const.specs.Literals.{is_filler, decimal_from, decimal}

drop_at : (i : ℕ) (xs : List ℕ) (b : ℕ) → i < length xs → get_or xs i 0 ≡ b → drop i xs ≡ b ∷ drop (i + 1) xs
drop_at i xs b h is = rw (add-one) (drop-cons xs i 0 h ∙ ap (λ x. x ∷ drop (suc i) xs) is)

times_ten : (n d m : ℕ) → (n % m * 10 + d) % m ≡ (n * 10 + d) % m
times_ten n d m = sym (mod-add-mod (n % m * 10) m d) ∙ ap (λ t. (t + d) % m) (mul-mod_first n 10 m) ∙ mod-add-mod (n * 10) m d

more_modulo : (m n b : ℕ) → cond (is_filler b) (n % m) (n % m * 10 + digit_of b) % m ≡ cond (is_filler b) n (n * 10 + digit_of b) % m
more_modulo m n b = elim (cases_Bool (is_filler b)) [ inl h ↦ rw h (mod-mod n m) | inr h ↦ rw h (times_ten n (digit_of b) m) ]

-- digits after a remainder
pub after_remainder : (m n : ℕ) (bs : List ℕ) → decimal_from (n % m) bs % m ≡ decimal_from n bs % m
after_remainder m n [] = mod-mod n m
after_remainder m n (b ∷ bs) =
    sym (after_remainder m (cond (is_filler b) (n % m) (n % m * 10 + digit_of b)) bs)
    ∙ ap (λ t. decimal_from t bs % m) (more_modulo m n b)
    ∙ after_remainder m (cond (is_filler b) n (n * 10 + digit_of b)) bs

pub low_decimal : (size : ℕ) (digits : List ℕ) → size ≤ 128 → low_bits size (decimal digits % 2 ^ 128) ≡ low_bits size (decimal digits)
low_decimal size digits h = same_low_bits size _ _ (twice_remainder size 128 (decimal digits) h)

-- digits after what is cut at a limit
grows : (n : ℕ) (bs : List ℕ) → n ≤ decimal_from n bs
grows n [] = omega arith
grows n (b ∷ bs) = elim (cases_Bool (is_filler b)) [ inl h ↦ rw h (grows n bs) | inr h ↦ rw h (let e = grows (n * 10 + digit_of b) bs in omega (arith, e)) ]

pub after_cut : (c m : ℕ) (bs : List ℕ) → min (decimal_from (min m c) bs) c ≡ min (decimal_from m bs) c
after_cut c m bs =
    elim (cases_Bool (nat_le m c)) [
      | inl low ↦ (let e : min m c ≡ m = (let below : m ≤ c = grind (arith, nat_tests) in omega arith) in rw e refl)
      | inr high ↦ (let above : c ≤ m = grind (arith, nat_tests) in
          let e : min m c ≡ c = omega arith in
          let one = grows c bs in let two = grows m bs in rw e (omega (arith, one, two)))
    ]

-- one more digit in a loop
pub decimal_step : (m n b i : ℕ) (digits : List ℕ) → i < length digits → get_or digits i 0 ≡ b → decimal_from (cond (is_filler b) n (n * 10 + digit_of b) % m) (drop (i + 1) digits) % m ≡ decimal_from n (drop i digits) % m
decimal_step m n b i digits h is =
    after_remainder m (cond (is_filler b) n (n * 10 + digit_of b)) (drop (i + 1) digits)
    ∙ ap (λ l. decimal_from n l % m) (sym (drop_at i digits b h is))

pub cut_step : (c n b i : ℕ) (digits : List ℕ) → i < length digits → get_or digits i 0 ≡ b → min (decimal_from (min (cond (is_filler b) n (n * 10 + digit_of b)) c) (drop (i + 1) digits)) c ≡ min (decimal_from n (drop i digits)) c
cut_step c n b i digits h is =
    after_cut c (cond (is_filler b) n (n * 10 + digit_of b)) (drop (i + 1) digits)
    ∙ ap (λ l. min (decimal_from n l) c) (sym (drop_at i digits b h is))
