-- The step of an interrupt field by its bits.
use Rattle.std.proofs.Common.{◌≡◌, ℕ, zero, suc, ◌-◌, ◌==◌, ◌^◌, ◌<◌, Bool, true, false, not, ◌&&◌, ◌||◌, if◌then◌else◌, List, [], ◌∷◌, length, get_or, map, refl, sym, ap, ◌∙◌, arith, Some, None}
use Rattle.std.specs.Prelude.{bit_and, bit_or, unwrap_or}
use Rattle.std.proofs.lemmas.List.{length-map}
use Rattle.std.proofs.lemmas.Nat.{and_le_l}
use Rattle.bit_base.specs.Numbers.{number_of, low_bits}
use Rattle.bit_base.specs.Operators.{each_place, and_of, or_of, is_any}
use Rattle.bit_base.proofs.Numbers.{number_of-below, low_bits-number_of}
use Rattle.field_policies.specs.declared.signal.Gate.{Gate}
use Rattle.field_policies.proofs.BitLemmas.{bit_of_and, bit_of_or}
use Rattle.field_policies.proofs.NumberBits.{bit_of_number}
use Rattle.field_extras.specs.Interrupts.{is_active, interrupt_result, interrupt_bits}
use Rattle.word_gates.proofs.SumLaws.{number_of-not}
use Rattle.extra_gates.specs.Bitwise.{taken_bits, cut_bits}
use Rattle.extra_gates.proofs.NumberLemmas.{low_bits_by, number_by, any_is}

-- words place by place
and_at : (a b : List Bool) (i : ℕ) → get_or (and_of a b) i false ≡ (get_or a i false && get_or b i false)
and_at [] b i = refl
and_at (x ∷ a) [] i = sym (and_false (get_or (x ∷ a) i false))
  where
    and_false : (b : Bool) → (b && false) ≡ false
    and_false true = refl
    and_false false = refl
and_at (x ∷ a) (y ∷ b) zero = refl
and_at (x ∷ a) (y ∷ b) (suc i) = and_at a b i

or_at : (a b : List Bool) (i : ℕ) → length a ≡ length b → get_or (or_of a b) i false ≡ (get_or a i false || get_or b i false)
or_at [] [] i h = refl
or_at [] (y ∷ b) i h = absurd (omega arith)
or_at (x ∷ a) [] i h = absurd (omega arith)
or_at (x ∷ a) (y ∷ b) zero h = refl
or_at (x ∷ a) (y ∷ b) (suc i) h = or_at a b i (omega arith)

each_long : (f : Bool → Bool → Bool) (a b : List Bool) → length a ≡ length b → length (each_place f a b) ≡ length a
each_long f [] b h = refl
each_long f (x ∷ a) [] h = absurd (omega arith)
each_long f (x ∷ a) (y ∷ b) h = let smaller : length (each_place f a b) ≡ length a = each_long f a b (omega arith) in omega arith

pub or_number : (a b : List Bool) → length a ≡ length b → low_bits (length a) (bit_or (number_of a) (number_of b)) ≡ or_of a b
or_number a b h =
    let long : length (or_of a b) ≡ length a = each_long (λ x y. x || y) a b h in
    ap (λ n. low_bits n (bit_or (number_of a) (number_of b))) (sym long)
    ∙ low_bits_by (or_of a b) (bit_or (number_of a) (number_of b)) (λ i lt.
    bit_of_or (number_of a) (number_of b) i ∙ (rw (bit_of_number a i, bit_of_number b i) (sym (or_at a b i h))))

pub and_number : (a b : List Bool) → length a ≡ length b → number_of (and_of a b) ≡ bit_and (number_of a) (number_of b)
and_number a b h =
    let long : length (and_of a b) ≡ length a = each_long (λ x y. x && y) a b h in
    let below : bit_and (number_of a) (number_of b) < 2 ^ length (and_of a b) = rw long (omega (arith, and_le_l (number_of a) (number_of b), number_of-below a)) in
    number_by (and_of a b) (bit_and (number_of a) (number_of b)) below (λ i lt.
    bit_of_and (number_of a) (number_of b) i ∙ (rw (bit_of_number a i, bit_of_number b i) (sym (and_at a b i))))

not_number : (f : List Bool) → number_of (map not f) ≡ 2 ^ length f - 1 - number_of f
not_number f = omega (arith, number_of-not f)

-- hardware is active
pub active_is : (sticky : Bool) (a b : List Bool) → (is_any b && not (sticky && is_any a)) ≡ is_active sticky (number_of a) (number_of b)
active_is sticky a b = rw (any_is a, any_is b) (by sticky (number_of a == 0) (number_of b == 0))
  where
    by : (sticky x y : Bool) → (not y && not (sticky && not x)) ≡ (not y && (not sticky || x))
    by true true true = refl
    by true true false = refl
    by true false true = refl
    by true false false = refl
    by false x y = refl

-- what the field takes; data that isn't there adds nothing
zero_data : (a b : List Bool) → length a ≡ length b → is_any b ≡ false → or_of a b ≡ a
zero_data [] b h none = refl
zero_data (x ∷ a) [] h none = absurd (omega arith)
zero_data (x ∷ a) (true ∷ b) h none = absurd (let e : true ≡ false = none in cc)
zero_data (true ∷ a) (false ∷ b) h none = ap (λ l. true ∷ l) (zero_data a b (omega arith) none)
zero_data (false ∷ a) (false ∷ b) h none = ap (λ l. false ∷ l) (zero_data a b (omega arith) none)

abbrev result_bits : Bool → List Bool → List Bool → List Bool
result_bits sticky a b = low_bits (length a) (unwrap_or (interrupt_result sticky (number_of a) (number_of b)) (number_of a))

sticky_taken : (active : Bool) (a b : List Bool) → length a ≡ length b
    → (if active then b else a) ≡ low_bits (length a) (unwrap_or (if active then Some (number_of b) else None) (number_of a))
sticky_taken true a b h = sym (ap (λ n. low_bits n (number_of b)) h ∙ low_bits-number_of b)
sticky_taken false a b h = sym (low_bits-number_of a)

plain_taken : (active : Bool) (a b : List Bool) → length a ≡ length b → is_any b ≡ active
    → or_of a b ≡ low_bits (length a) (unwrap_or (if active then Some (bit_or (number_of a) (number_of b)) else None) (number_of a))
plain_taken true a b h e = sym (or_number a b h)
plain_taken false a b h e = zero_data a b h e ∙ sym (low_bits-number_of a)

pub taken_is : (sticky : Bool) (a b : List Bool) → length a ≡ length b → taken_bits sticky (is_any b && not (sticky && is_any a)) a b ≡ result_bits sticky a b
taken_is true a b h = ap (λ (t : Bool). taken_bits true t a b) (active_is true a b) ∙ sticky_taken (is_active true (number_of a) (number_of b)) a b h
taken_is false a b h = plain_taken (is_active false (number_of a) (number_of b)) a b h (sym (and_true (is_any b)) ∙ active_is false a b)
  where
    and_true : (b : Bool) → (b && true) ≡ b
    and_true true = refl
    and_true false = refl

-- what reaches the register's interrupt
cut_number : (high : Bool) (a f : List Bool) → length a ≡ length f → number_of (cut_bits high a f) ≡ bit_and (number_of a) (if high then number_of f else 2 ^ length a - 1 - number_of f)
cut_number true a f h = and_number a f h
cut_number false a f h =
    let long : length (map not f) ≡ length f = length-map f not in
    and_number a (map not f) (h ∙ sym long) ∙ (rw (not_number f, h) refl)

pub raised_some : (g : Gate) (a f : List Bool) → length a ≡ length f → is_any (cut_bits g.high a f) ≡ not (interrupt_bits (Some g) (length a) (number_of a) (number_of f) == 0)
raised_some g a f h = any_is (cut_bits g.high a f) ∙ ap (λ n. not (n == 0)) (cut_number g.high a f h)
