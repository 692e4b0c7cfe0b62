-- The ceiling of the logarithm by the highest place that is true.
use Rattle.std.proofs.Common.{◌≡◌, ℕ, ◌+◌, ◌-◌, ◌*◌, ◌^◌, ◌<◌, ◌≤◌, Bool, true, false, List, [], ◌∷◌, ◌++◌, length, take, drop, get_or, refl, sym, ◌∙◌, ap, arith, add-one, inl, inr}
use Rattle.std.proofs.Math.Nat.{pow-succ'}
use Rattle.std.proofs.Math.Pow.{pow_mono, pow-lt}
use Rattle.std.proofs.lemmas.Bool.{cases_Bool}
use Rattle.std.proofs.lemmas.Bool.Decides.{nat_tests}
use Rattle.std.specs.Prelude.{nat_lt}
use Rattle.std.proofs.lemmas.List.{take-append-drop, length-take-le}
use Rattle.bit_base.specs.Numbers.{number_of}
use Rattle.bit_base.specs.Operators.{is_any, ceiling_of_logarithm}
use Rattle.bit_base.proofs.Numbers.{number_of-below, number_of-append, number_of-drop}
use Rattle.bit_base.proofs.NumberLaws.{power-enough, less-not-enough}

-- the least exponent whose power isn't below
pub least_exponent : (a : List Bool) (r : ℕ) → number_of a ≤ 2 ^ r → (0 < r → 2 ^ (r - 1) < number_of a) → r ≡ ceiling_of_logarithm a
least_exponent a r enough least =
    let below : ceiling_of_logarithm a ≤ r = less-not-enough a r enough in
    let power : number_of a ≤ 2 ^ ceiling_of_logarithm a = power-enough a in
    elim (cases_Bool (nat_lt (ceiling_of_logarithm a) r)) [
      | inl less ↦ (let lower : ceiling_of_logarithm a < r = grind (arith, nat_tests) in
          let mono : 2 ^ ceiling_of_logarithm a ≤ 2 ^ (r - 1) = pow_mono {i = ceiling_of_logarithm a} {j = r - 1} (omega arith) in
          let positive : 0 < r = omega arith in absurd (omega (arith, least positive)))
      | inr other ↦ (let upper : r ≤ ceiling_of_logarithm a = grind (arith, nat_tests) in omega arith)
    ]

pub any_positive : (bits : List Bool) → is_any bits ≡ true → 1 ≤ number_of bits
any_positive [] any = grind arith
any_positive (true ∷ bits) any = omega arith
any_positive (false ∷ bits) any = omega (arith, any_positive bits any)

none-zero : (bits : List Bool) → is_any bits ≡ false → number_of bits ≡ 0
none-zero [] none = refl
none-zero (true ∷ bits) none = grind arith
none-zero (false ∷ bits) none = rw (none-zero bits none) refl

-- a word whose highest true place is i
highest : (a : List Bool) (i : ℕ) → i < length a → get_or a i false ≡ true → number_of (drop (i + 1) a) ≡ 0 → number_of a ≡ number_of (take i a) + 2 ^ i
highest a i within is above =
    let rest : number_of (drop i a) ≡ 1 = number_of-drop i a within ∙ (rw (is, above) refl) in
    let long : length (take i a) ≡ i = length-take-le i a (omega arith) in
    let joined : number_of (take i a ++ drop i a) ≡ number_of (take i a) + 2 ^ length (take i a) * number_of (drop i a) = number_of-append (take i a) (drop i a) in
    ap number_of (sym (take-append-drop i a)) ∙ joined ∙ rw (rest, long) (omega arith)

-- with a true place below it the next exponent is needed
pub log_above : (a : List Bool) (i : ℕ) → i < length a → get_or a i false ≡ true → number_of (drop (i + 1) a) ≡ 0 → is_any (take i a) ≡ true → i + 1 ≡ ceiling_of_logarithm a
log_above a i within is above any =
    let e = highest a i within is above in
    let some = any_positive (take i a) any in
    let long : length (take i a) ≡ i = length-take-le i a (omega arith) in
    let low : number_of (take i a) < 2 ^ i = rw long at (number_of-below (take i a)) in
    let twice : 2 ^ (i + 1) ≡ 2 * 2 ^ i = ap (λ n. 2 ^ n) (add-one i) ∙ pow-succ' 2 i in
    let back : i + 1 - 1 ≡ i = omega arith in
    least_exponent a (i + 1) (omega (arith, e, low, twice)) (λ h. rw back (omega (arith, e, some)))

-- else its own is enough
pub log_at : (a : List Bool) (i : ℕ) → i < length a → get_or a i false ≡ true → number_of (drop (i + 1) a) ≡ 0 → is_any (take i a) ≡ false → i ≡ ceiling_of_logarithm a
log_at a i within is above none =
    let e = highest a i within is above in
    let zero_below = none-zero (take i a) none in
    least_exponent a i (omega (arith, e, zero_below)) (λ h. (let lower : 2 ^ (i - 1) < 2 ^ i = pow-lt {i = i - 1} {j = i} (omega arith) in omega (arith, e, zero_below, lower)))

pub none_true : (a : List Bool) → number_of (drop 0 a) ≡ 0 → 0 ≡ ceiling_of_logarithm a
none_true a none =
    let e : number_of a ≡ 0 = none in
    least_exponent a 0 (rw e (omega arith)) (λ h. absurd (omega arith))
