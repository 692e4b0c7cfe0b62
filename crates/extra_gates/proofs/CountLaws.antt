-- The step of a counter by its bits.
use Rattle.std.proofs.Common.{◌≡◌, ℕ, zero, suc, ◌+◌, ◌-◌, ◌*◌, ◌/◌, ◌%◌, ◌==◌, ◌^◌, ◌<◌, ◌≤◌, Bool, true, false, not, ◌&&◌, if◌then◌else◌, List, [], ◌∷◌, ◌++◌, length, get_or, take, replicate, refl, sym, ap, ◌∙◌, arith, inl, inr}
use Rattle.std.specs.Prelude.{ℤ, pos, ◌+ℤ◌, ◌-ℤ◌, int_lt, nat_abs}
use Rattle.std.proofs.lemmas.Bool.Decides.{nat_tests}
use Rattle.std.proofs.lemmas.Int.{ints}
use Rattle.bit_base.specs.Numbers.{low_bits}
use Rattle.field_policies.specs.declared.extra.Counter.{Counter}
use Rattle.field_extras.specs.Counters.{counted}
use Rattle.std.proofs.Math.Nat.{pow-succ'}
use Rattle.std.proofs.lemmas.Bool.{cases_lt}
use Rattle.std.proofs.lemmas.Nat.{pow_pos}
use Rattle.std.proofs.Math.Nat.{mod-eq_of_lt}
use Rattle.bit_base.specs.Numbers.{number_of}
use Rattle.bit_base.specs.Operators.{sum_of, difference_of}
use Rattle.bit_base.proofs.Numbers.{number_of-low_bits}
use Rattle.extra_gates.specs.Bitwise.{held_bits}
use Rattle.extra_gates.proofs.NumberLemmas.{low_bits_two, length_low, low_zeros, low_ones}

-- what a sum of a value, what is added and what is taken away comes to: it falls below, stays, or passes the greatest value
falls : (p v u d : ℕ) → v < p → u < p → d < p → v + u < d → int_lt (pos v +ℤ pos u -ℤ pos d) (pos 0) ≡ true
falls p v u d a b c h = grind (arith, nat_tests, ints)

falls_not : (p v u d : ℕ) → d ≤ v + u → int_lt (pos v +ℤ pos u -ℤ pos d) (pos 0) ≡ false
falls_not p v u d h = grind (arith, nat_tests, ints)

passes : (p v u d : ℕ) → 0 < p → d ≤ v + u → p ≤ v + u - d → int_lt (pos (p - 1)) (pos v +ℤ pos u -ℤ pos d) ≡ true
passes p v u d z h k = grind (arith, nat_tests, ints)

passes_not : (p v u d : ℕ) → 0 < p → v + u < p + d → int_lt (pos (p - 1)) (pos v +ℤ pos u -ℤ pos d) ≡ false
passes_not p v u d z h = grind (arith, nat_tests, ints)

up_round : (p v u d : ℕ) → 0 < p → d ≤ v + u → p ≤ v + u - d → nat_abs (pos v +ℤ pos u -ℤ pos d -ℤ pos (p - 1) -ℤ pos 1) ≡ v + u - d - p
up_round p v u d z h k = grind (arith, nat_tests, ints)

down_round : (p v u d : ℕ) → 0 < p → d < p → v + u < d → nat_abs (pos v +ℤ pos u -ℤ pos d +ℤ pos (p - 1) +ℤ pos 1) ≡ v + u + p - d
down_round p v u d z h k = grind (arith, nat_tests, ints)

within : (v u d : ℕ) → d ≤ v + u → nat_abs (pos v +ℤ pos u -ℤ pos d) ≡ v + u - d
within v u d h = grind (arith, nat_tests, ints)

-- where the sum lies: below 0, in range, or above; q is what stands above its places and r what stands in them
pub record Lies (p S q r : ℕ) : Type 0 where
  pub split : S ≡ q * p + r
  pub below : r < p

lies_below : (p v u d : ℕ) → v < p → u < p → d < p → v + u < d → Lies p (v + u + 4 * p - d) 3 (v + u + p - d)
lies_below p v u d a b c h = record { split = omega arith; below = omega arith }

lies_within : (p v u d : ℕ) → d ≤ v + u → v + u < p + d → Lies p (v + u + 4 * p - d) 4 (v + u - d)
lies_within p v u d h k = record { split = omega arith; below = omega arith }

lies_above : (p v u d : ℕ) → v < p → u < p → d ≤ v + u → p ≤ v + u - d → Lies p (v + u + 4 * p - d) 5 (v + u - d - p)
lies_above p v u d a b h k = record { split = omega arith; below = omega arith }

four : (w : ℕ) → 2 ^ (w + 2) ≡ 4 * 2 ^ w
four w = rw (add_two w, pow-succ' 2 (suc w), pow-succ' 2 w) (omega arith)
  where
    add_two : (w : ℕ) → w + 2 ≡ suc (suc w)
    add_two w = omega arith

-- the bits of the sum
abbrev pub count_bits : ℕ → ℕ → ℕ → ℕ → List Bool
count_bits w v u d = low_bits (w + 2) (v + u + 2 ^ (w + 2) - d)

-- what the last two places and the others are
pub record Reads (w : ℕ) (bits : List Bool) (over_bit under : Bool) (low : List Bool) : Type 0 where
  pub at_under : get_or bits (w + 1) false ≡ under
  pub at_over : get_or bits w false ≡ over_bit
  pub rest : take w bits ≡ low

reads_two : (w : ℕ) (low : List Bool) (x y : Bool) → length low ≡ w → Reads w (low ++ (x ∷ (y ∷ []))) x y low
reads_two zero [] x y h = record { at_under = refl; at_over = refl; rest = refl }
reads_two zero (b ∷ low) x y h = absurd (omega arith)
reads_two (suc w) [] x y h = absurd (omega arith)
reads_two (suc w) (b ∷ low) x y h =
    let smaller : Reads w (low ++ (x ∷ (y ∷ []))) x y low = reads_two w low x y (omega arith) in
    let up : suc w + 1 ≡ suc (w + 1) = omega arith in
    record { at_under = rw up smaller.at_under; at_over = smaller.at_over; rest = ap (λ l. b ∷ l) smaller.rest }

reads_sum : (w v u d q r : ℕ) → Lies (2 ^ w) (v + u + 4 * 2 ^ w - d) q r → Reads w (count_bits w v u d) (q % 2 == 1) (q / 2 % 2 == 1) (low_bits w r)
reads_sum w v u d q r lies =
    rw (four w, lies.split, low_bits_two w q r lies.below) (reads_two w (low_bits w r) (q % 2 == 1) (q / 2 % 2 == 1) (length_low w r))

-- what the gates make of them is the step
pub record Steps (c : Counter) (w v : ℕ) (incr decr : Bool) (bits : List Bool) : Type 0 where
  pub under : get_or bits (w + 1) false ≡ (counted c w v incr decr).under
  pub over : (get_or bits w false && not (get_or bits (w + 1) false)) ≡ (counted c w v incr decr).over
  pub value : held_bits (c.up_stops && (get_or bits w false && not (get_or bits (w + 1) false))) (c.down_stops && get_or bits (w + 1) false) (take w bits) ≡ low_bits w (counted c w v incr decr).value

held_none : (bits : List Bool) → held_bits false false bits ≡ bits
held_none [] = refl
held_none (true ∷ bits) = ap (λ l. true ∷ l) (held_none bits)
held_none (false ∷ bits) = ap (λ l. false ∷ l) (held_none bits)

held_above : (bits : List Bool) → held_bits true false bits ≡ replicate (length bits) true
held_above [] = refl
held_above (true ∷ bits) = ap (λ l. true ∷ l) (held_above bits)
held_above (false ∷ bits) = ap (λ l. true ∷ l) (held_above bits)

held_below : (above : Bool) (bits : List Bool) → held_bits above true bits ≡ replicate (length bits) false
held_below above [] = refl
held_below true (true ∷ bits) = ap (λ l. false ∷ l) (held_below true bits)
held_below true (false ∷ bits) = ap (λ l. false ∷ l) (held_below true bits)
held_below false (true ∷ bits) = ap (λ l. false ∷ l) (held_below false bits)
held_below false (false ∷ bits) = ap (λ l. false ∷ l) (held_below false bits)

and_false : (b : Bool) → (b && false) ≡ false
and_false true = refl
and_false false = refl

and_true : (b : Bool) → (b && true) ≡ b
and_true true = refl
and_true false = refl

-- the number that is held at an end
end_above : (stops : Bool) (w r : ℕ) (z : ℤ) → nat_abs z ≡ r → held_bits stops false (low_bits w r) ≡ low_bits w (nat_abs (if stops then pos (2 ^ w - 1) else z))
end_above true w r z e = held_above (low_bits w r) ∙ (ap (λ n. replicate n true) (length_low w r) ∙ sym (low_ones w))
end_above false w r z e = held_none (low_bits w r) ∙ ap (low_bits w) (sym e)

end_below : (stops : Bool) (w r : ℕ) (z : ℤ) → nat_abs z ≡ r → held_bits false stops (low_bits w r) ≡ low_bits w (nat_abs (if stops then pos 0 else z))
end_below true w r z e = held_below false (low_bits w r) ∙ (ap (λ n. replicate n false) (length_low w r) ∙ sym (low_zeros w))
end_below false w r z e = held_none (low_bits w r) ∙ ap (low_bits w) (sym e)

abbrev pub up_of : Counter → Bool → ℕ
up_of c incr = if incr then c.up else 0

abbrev pub down_of : Counter → Bool → ℕ
down_of c decr = if decr then c.down else 0

pub if_below : (p n : ℕ) (b : Bool) → n < p → (if b then n else 0) < p
if_below p n true h = h
if_below p n false h = omega arith

-- by where the sum lies
steps_low : (c : Counter) (w v : ℕ) (incr decr : Bool) → v < 2 ^ w → up_of c incr < 2 ^ w → down_of c decr < 2 ^ w → v + up_of c incr < down_of c decr → Steps c w v incr decr (count_bits w v (up_of c incr) (down_of c decr))
steps_low c w v incr decr a b e h =
    let u : ℕ = up_of c incr in
    let d : ℕ = down_of c decr in
    let p : ℕ = 2 ^ w in
    let r : Reads w (count_bits w v u d) true true (low_bits w (v + u + p - d)) = reads_sum w v u d 3 (v + u + p - d) (lies_below p v u d a b e h) in
    let under : int_lt (pos v +ℤ pos u -ℤ pos d) (pos 0) ≡ true = falls p v u d a b e h in
    let over : int_lt (pos (p - 1)) (pos v +ℤ pos u -ℤ pos d) ≡ false = passes_not p v u d (pow_pos w) (omega arith) in
    record {
      under = r.at_under ∙ sym under;
      over = rw (r.at_over, r.at_under) (sym over);
      value = rw (r.at_over, r.at_under, r.rest, over, under, and_false c.up_stops, and_true c.down_stops) (end_below c.down_stops w (v + u + p - d) (pos v +ℤ pos u -ℤ pos d +ℤ pos (p - 1) +ℤ pos 1) (down_round p v u d (pow_pos w) e h));
    }

steps_mid : (c : Counter) (w v : ℕ) (incr decr : Bool) → down_of c decr ≤ v + up_of c incr → v + up_of c incr < 2 ^ w + down_of c decr → Steps c w v incr decr (count_bits w v (up_of c incr) (down_of c decr))
steps_mid c w v incr decr h k =
    let u : ℕ = up_of c incr in
    let d : ℕ = down_of c decr in
    let p : ℕ = 2 ^ w in
    let r : Reads w (count_bits w v u d) false false (low_bits w (v + u - d)) = reads_sum w v u d 4 (v + u - d) (lies_within p v u d h k) in
    let under : int_lt (pos v +ℤ pos u -ℤ pos d) (pos 0) ≡ false = falls_not p v u d h in
    let over : int_lt (pos (p - 1)) (pos v +ℤ pos u -ℤ pos d) ≡ false = passes_not p v u d (pow_pos w) k in
    record {
      under = r.at_under ∙ sym under;
      over = rw r.at_over (sym over);
      value = rw (r.at_over, r.at_under, r.rest, over, under, and_false c.up_stops, and_false c.down_stops) (held_none (low_bits w (v + u - d)) ∙ ap (low_bits w) (sym (within v u d h)));
    }

steps_high : (c : Counter) (w v : ℕ) (incr decr : Bool) → v < 2 ^ w → up_of c incr < 2 ^ w → down_of c decr ≤ v + up_of c incr → 2 ^ w ≤ v + up_of c incr - down_of c decr → Steps c w v incr decr (count_bits w v (up_of c incr) (down_of c decr))
steps_high c w v incr decr a b h k =
    let u : ℕ = up_of c incr in
    let d : ℕ = down_of c decr in
    let p : ℕ = 2 ^ w in
    let r : Reads w (count_bits w v u d) true false (low_bits w (v + u - d - p)) = reads_sum w v u d 5 (v + u - d - p) (lies_above p v u d a b h k) in
    let under : int_lt (pos v +ℤ pos u -ℤ pos d) (pos 0) ≡ false = falls_not p v u d h in
    let over : int_lt (pos (p - 1)) (pos v +ℤ pos u -ℤ pos d) ≡ true = passes p v u d (pow_pos w) h k in
    record {
      under = r.at_under ∙ sym under;
      over = rw (r.at_over, r.at_under) (sym over);
      value = rw (r.at_over, r.at_under, r.rest, over, and_true c.up_stops, and_false c.down_stops) (end_above c.up_stops w (v + u - d - p) (pos v +ℤ pos u -ℤ pos d -ℤ pos (p - 1) -ℤ pos 1) (up_round p v u d (pow_pos w) h k));
    }

pub steps_are : (c : Counter) (w v : ℕ) (incr decr : Bool) → v < 2 ^ w → c.up < 2 ^ w → c.down < 2 ^ w → Steps c w v incr decr (count_bits w v (up_of c incr) (down_of c decr))
steps_are c w v incr decr hv hu hd =
    let bu : up_of c incr < 2 ^ w = if_below (2 ^ w) c.up incr hu in
    let bd : down_of c decr < 2 ^ w = if_below (2 ^ w) c.down decr hd in
    elim (cases_lt (v + up_of c incr) (down_of c decr)) [
      | inl h ↦ steps_low c w v incr decr hv bu bd h
      | inr h ↦ elim (cases_lt (v + up_of c incr) (2 ^ w + down_of c decr)) [
        | inl k ↦ steps_mid c w v incr decr h k
        | inr k ↦ steps_high c w v incr decr hv bu h (omega arith)
      ]
    ]

-- the difference of the sum, in two places more
low_is : (w n m : ℕ) → n < m → m ≡ 2 ^ w → number_of (low_bits w n) ≡ n
low_is w n m h e = number_of-low_bits w n ∙ mod-eq_of_lt (rw (← e) h)

pub difference_is : (w v u d : ℕ) (wide up down sum : List Bool) → wide ≡ low_bits (w + 2) v → up ≡ low_bits (w + 2) u → down ≡ low_bits (w + 2) d → sum ≡ sum_of wide up
    → v < 2 ^ w → u < 2 ^ w → d < 2 ^ w → difference_of sum down ≡ count_bits w v u d
difference_is w v u d wide up down sum e1 e2 e3 e4 a b c =
    let p : 4 * 2 ^ w ≡ 2 ^ (w + 2) = sym (four w) in
    let n1 : number_of wide ≡ v = ap number_of e1 ∙ low_is (w + 2) v (4 * 2 ^ w) (omega arith) p in
    let n2 : number_of up ≡ u = ap number_of e2 ∙ low_is (w + 2) u (4 * 2 ^ w) (omega arith) p in
    let n3 : number_of down ≡ d = ap number_of e3 ∙ low_is (w + 2) d (4 * 2 ^ w) (omega arith) p in
    let long : length wide ≡ w + 2 = ap length e1 ∙ length_low (w + 2) v in
    let total : sum ≡ low_bits (w + 2) (v + u) = e4 ∙ (rw (long, n1, n2) refl) in
    let n4 : number_of sum ≡ v + u = ap number_of total ∙ low_is (w + 2) (v + u) (4 * 2 ^ w) (omega arith) p in
    let whole : length sum ≡ w + 2 = ap length total ∙ length_low (w + 2) (v + u) in
    rw (whole, n4, n3) refl
