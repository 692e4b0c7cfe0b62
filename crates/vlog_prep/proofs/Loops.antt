-- What the loops of src/lengths.rt keep.
use Rattle.std.proofs.Common.{◌≡◌, ℕ, ◌+◌, ◌<◌, ◌≤◌, true, false, List, ◌∷◌, length, drop, get_or, cond, refl, ap, arith, add-one}
use Rattle.std.specs.Prelude.{◌&&◌, ◌==◌, nat_lt, Option, Some, None, option_map}
use Rattle.std.proofs.Math.Seq.{drop-cons}
use Rattle.std.proofs.Math.ListN.{drop_of_length-le}
use Rattle.std.proofs.lemmas.Bool.{lt-ltb, eq-eqb, ne_eqb}
use Rattle.std.proofs.lemmas.Bool.Decides.{nat_tests}
use Rattle.vlog_tree.specs.Spelling.{is_digit}
use Rattle.vlog_prep.specs.Lengths.{more_digits, closing_len}

-- What is left at an index: the byte there, and the rest.
pub drop_at : (bytes : List ℕ) (at : ℕ) → at < length bytes → drop at bytes ≡ get_or bytes at 0 ∷ drop (at + 1) bytes
drop_at bytes at h = rw (drop-cons bytes at 0 h, add-one) refl

-- The length that a search for the last digit settles on: `len` so far, and `n` more digits behind `at` bytes.
abbrev pub settled : ℕ → ℕ → ℕ → ℕ
settled at len n = cond (nat_lt 0 n) (at + n) len

settled_more : (at n : ℕ) → at + (1 + n) ≡ settled (at + 1) (at + 1) n
settled_more at n = grind (arith, nat_tests)

settled_gap : (at len n : ℕ) → settled at len (cond (nat_lt 0 n) (1 + n) 0) ≡ settled (at + 1) len n
settled_gap at len n = grind (arith, nat_tests)

module _ (base at len : ℕ) (bytes : List ℕ) (inside : at < length bytes) where
  pub settled-digit : is_digit base (get_or bytes at 0) ≡ true → settled at len (more_digits base (drop at bytes)) ≡ settled (at + 1) (at + 1) (more_digits base (drop (at + 1) bytes))
  unfolding more_digits
  settled-digit h =
      rw (drop_at bytes at inside, h, lt-ltb 0 (1 + more_digits base (drop (at + 1) bytes)) (omega arith)) (settled_more at (more_digits base (drop (at + 1) bytes)))

  pub settled-gap : is_digit base (get_or bytes at 0) ≡ false → get_or bytes at 0 ≡ 95 → settled at len (more_digits base (drop at bytes)) ≡ settled (at + 1) len (more_digits base (drop (at + 1) bytes))
  unfolding more_digits
  settled-gap h g = rw (drop_at bytes at inside, h, eq-eqb (get_or bytes at 0) 95 g) (settled_gap at len (more_digits base (drop (at + 1) bytes)))

  pub settled-end : is_digit base (get_or bytes at 0) ≡ false → (get_or bytes at 0 ≡ 95 → ⊥) → settled at len (more_digits base (drop at bytes)) ≡ len
  unfolding more_digits
  settled-end h g = rw (drop_at bytes at inside, h, ne_eqb (get_or bytes at 0) 95 g) refl

pub settled-empty : (base at len : ℕ) (bytes : List ℕ) → length bytes ≤ at → settled at len (more_digits base (drop at bytes)) ≡ len
unfolding more_digits
settled-empty base at len bytes h = rw (drop_of_length-le bytes h) refl

-- What is found behind `at` bytes, counted from the first.
abbrev pub found_behind : ℕ → Option ℕ → Option ℕ
found_behind at len = option_map (λ n. at + n) len

found_behind-more : (at : ℕ) (len : Option ℕ) → found_behind at (option_map (λ n. 1 + n) len) ≡ found_behind (at + 1) len
found_behind-more at None = refl
found_behind-more at (Some n) = ap Some (omega arith)

module _ (last before at : ℕ) (bytes : List ℕ) (inside : at < length bytes) where
  pub closing-here : ((before == 42) && (get_or bytes at 0 == last)) ≡ true → found_behind at (closing_len last before (drop at bytes)) ≡ Some (at + 1)
  unfolding closing_len
  closing-here h = rw (drop_at bytes at inside, h) refl

  pub closing-later : ((before == 42) && (get_or bytes at 0 == last)) ≡ false
      → found_behind at (closing_len last before (drop at bytes)) ≡ found_behind (at + 1) (closing_len last (get_or bytes at 0) (drop (at + 1) bytes))
  unfolding closing_len
  closing-later h = rw (drop_at bytes at inside, h) (found_behind-more at (closing_len last (get_or bytes at 0) (drop (at + 1) bytes)))

pub closing-none : (last before at : ℕ) (bytes : List ℕ) → length bytes ≤ at → found_behind at (closing_len last before (drop at bytes)) ≡ None
unfolding closing_len
closing-none last before at bytes h = rw (drop_of_length-le bytes h) refl
