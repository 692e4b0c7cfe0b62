-- Where a field stands in a bus word, by what isn't misplaced.
use Rattle.std.proofs.Common.{◌≡◌, ℕ, ◌+◌, ◌-◌, ◌*◌, ◌/◌, ◌%◌, ◌<◌, ◌≤◌, Bool, true, false, not, ◌==◌, min, nat_lt, List, refl, sym, subst, arith}
use Rattle.std.proofs.lemmas.Bool.Decides.{nat_tests}
use Rattle.rdl_text.specs.Forms.{is_reg_width, is_access_width}
use Rattle.rdl_layout.specs.declared.bits.Bits.{Bits}
use Rattle.rdl_layout.specs.Bits.{bits_from, is_across, is_misplaced}
use Rattle.rdl_layout.specs.Misplaced.{is_beyond}
use Rattle.rdl_fields.specs.Fields.{word_of, bit_of}
use Rattle.rdl_regmap.proofs.Instances.{no_left, no_right, held_by_no}

pub data IsAccess (n : ℕ) : Type 0 where
  Eight : n ≡ 8 → IsAccess n
  Sixteen : n ≡ 16 → IsAccess n
  ThirtyTwo : n ≡ 32 → IsAccess n

-- widths of a register and of an access
pub record AreWidths (width access : ℕ) : Type 0 where
  pub bus : IsAccess access
  pub bound : width ≤ 128
  pub whole : width % access ≡ 0
  pub some : 8 ≤ width

pub record IsInside (width access low bits : ℕ) : Type 0 where
  pub within : low + bits ≤ width
  pub one_word : bit_of access low + bits ≤ access
  pub word : low / access < width / access

inside_8 : (width low bits : ℕ) → width ≤ 128 → width % 8 ≡ 0 → 1 ≤ bits → min (low + bits) 129 ≤ width → low / 8 ≡ (min (low + bits) 129 - 1) / 8 → IsInside width 8 low bits
inside_8 width low bits bound whole some le same =
    let m : min (low + bits) 129 ≡ low + bits = omega (arith, bound, le) in
    let s : low / 8 ≡ (low + bits - 1) / 8 = rw m at same in
    record { within = omega (arith, bound, le); one_word = omega (arith, s, some); word = omega (arith, m, le, whole, some) }

inside_16 : (width low bits : ℕ) → width ≤ 128 → width % 16 ≡ 0 → 1 ≤ bits → min (low + bits) 129 ≤ width → low / 16 ≡ (min (low + bits) 129 - 1) / 16 → IsInside width 16 low bits
inside_16 width low bits bound whole some le same =
    let m : min (low + bits) 129 ≡ low + bits = omega (arith, bound, le) in
    let s : low / 16 ≡ (low + bits - 1) / 16 = rw m at same in
    record { within = omega (arith, bound, le); one_word = omega (arith, s, some); word = omega (arith, m, le, whole, some) }

inside_32 : (width low bits : ℕ) → width ≤ 128 → width % 32 ≡ 0 → 1 ≤ bits → min (low + bits) 129 ≤ width → low / 32 ≡ (min (low + bits) 129 - 1) / 32 → IsInside width 32 low bits
inside_32 width low bits bound whole some le same =
    let m : min (low + bits) 129 ≡ low + bits = omega (arith, bound, le) in
    let s : low / 32 ≡ (low + bits - 1) / 32 = rw m at same in
    record { within = omega (arith, bound, le); one_word = omega (arith, s, some); word = omega (arith, m, le, whole, some) }

-- an access isn't 0
pub not_zero : (n : ℕ) → IsAccess n → (n == 0) ≡ false
not_zero n (IsAccess.Eight e) = rw e refl
not_zero n (IsAccess.Sixteen e) = rw e refl
not_zero n (IsAccess.ThirtyTwo e) = rw e refl

inside_by : (width access low bits : ℕ) → AreWidths width access → 1 ≤ bits → min (low + bits) 129 ≤ width → low / access ≡ (min (low + bits) 129 - 1) / access → IsInside width access low bits
inside_by width access low bits w some le same = by w.bus w.whole same
  where
    by : IsAccess access → width % access ≡ 0 → low / access ≡ (min (low + bits) 129 - 1) / access → IsInside width access low bits
    by (IsAccess.Eight e) h s = subst (λ n. IsInside width n low bits) (sym e) (inside_8 width low bits w.bound (subst (λ n. width % n ≡ 0) e h) some le (subst (λ n. low / n ≡ (min (low + bits) 129 - 1) / n) e s))
    by (IsAccess.Sixteen e) h s = subst (λ n. IsInside width n low bits) (sym e) (inside_16 width low bits w.bound (subst (λ n. width % n ≡ 0) e h) some le (subst (λ n. low / n ≡ (min (low + bits) 129 - 1) / n) e s))
    by (IsAccess.ThirtyTwo e) h s = subst (λ n. IsInside width n low bits) (sym e) (inside_32 width low bits w.bound (subst (λ n. width % n ≡ 0) e h) some le (subst (λ n. low / n ≡ (min (low + bits) 129 - 1) / n) e s))

pub inside : (width access low bits : ℕ) (seen : List Bits) → AreWidths width access → 1 ≤ bits → is_misplaced width access seen (bits_from low bits) ≡ false → IsInside width access low bits
inside width access low bits seen w some out =
    let a : nat_lt width (min (low + bits) 129) ≡ false = no_left _ _ (no_left _ _ out) in
    let b : is_across access (bits_from low bits) ≡ false = no_right (nat_lt width (min (low + bits) 129)) _ (no_left _ _ out) in
    let c : not ((low / access) == ((min (low + bits) 129 - 1) / access)) ≡ false = rw (not_zero access w.bus) at b in
    let d : ((low / access) == ((min (low + bits) 129 - 1) / access)) ≡ true = held_by_no _ c in
    inside_by width access low bits w some (grind (arith, nat_tests, a)) (grind (arith, nat_tests, d))

-- ---- addresses

-- a register ends within 2^32 bytes
pub ends_within : (address size : ℕ) → is_beyond address size ≡ false → address + size ≤ 4294967296
ends_within address size e = grind (arith, nat_tests, e)

pub record IsWordAt (width access address low : ℕ) : Type 0 where
  pub is : word_of address access low ≡ address + access / 8 * (low / access)
  pub below : address + access / 8 * (low / access) < 4294967296

word_8 : (width address k : ℕ) → width % 8 ≡ 0 → k < width / 8 → address + width / 8 ≤ 4294967296 → address + 8 / 8 * k < 4294967296
word_8 width address k whole lt le = omega (arith, whole, lt, le)

word_16 : (width address k : ℕ) → width % 16 ≡ 0 → k < width / 16 → address + width / 8 ≤ 4294967296 → address + 16 / 8 * k < 4294967296
word_16 width address k whole lt le = omega (arith, whole, lt, le)

word_32 : (width address k : ℕ) → width % 32 ≡ 0 → k < width / 32 → address + width / 8 ≤ 4294967296 → address + 32 / 8 * k < 4294967296
word_32 width address k whole lt le = omega (arith, whole, lt, le)

-- each bus word of a register has an address
pub word_below : (width access address k : ℕ) → AreWidths width access → k < width / access → address + width / 8 ≤ 4294967296 → address + access / 8 * k < 4294967296
word_below width access address k w lt le = by w.bus w.whole lt
  where
    by : IsAccess access → width % access ≡ 0 → k < width / access → address + access / 8 * k < 4294967296
    by (IsAccess.Eight e) h s = subst (λ n. address + n / 8 * k < 4294967296) (sym e) (word_8 width address k (subst (λ n. width % n ≡ 0) e h) (subst (λ n. k < width / n) e s) le)
    by (IsAccess.Sixteen e) h s = subst (λ n. address + n / 8 * k < 4294967296) (sym e) (word_16 width address k (subst (λ n. width % n ≡ 0) e h) (subst (λ n. k < width / n) e s) le)
    by (IsAccess.ThirtyTwo e) h s = subst (λ n. address + n / 8 * k < 4294967296) (sym e) (word_32 width address k (subst (λ n. width % n ≡ 0) e h) (subst (λ n. k < width / n) e s) le)

pub word_is : (width access address low : ℕ) → AreWidths width access → word_of address access low ≡ address + access / 8 * (low / access)
word_is width access address low w = rw (not_zero access w.bus) refl

pub bit_is : (width access low : ℕ) → AreWidths width access → bit_of access low ≡ low % access
bit_is width access low w = rw (not_zero access w.bus) refl

-- ---- what the widths of registers and accesses are

pub data IsRegWidth (n : ℕ) : Type 0 where
  R8 : n ≡ 8 → IsRegWidth n
  R16 : n ≡ 16 → IsRegWidth n
  R32 : n ≡ 32 → IsRegWidth n
  R64 : n ≡ 64 → IsRegWidth n
  R128 : n ≡ 128 → IsRegWidth n

same_number : (n m : ℕ) → (n == m) ≡ true → n ≡ m
same_number n m e = grind (arith, nat_tests, e)

pub reg_width : (n : ℕ) → is_reg_width n ≡ true → IsRegWidth n
reg_width n e = by (n == 8) (n == 16) (n == 32) (n == 64) (n == 128) refl refl refl refl refl
  where
    by : (a b c d f : Bool) → (n == 8) ≡ a → (n == 16) ≡ b → (n == 32) ≡ c → (n == 64) ≡ d → (n == 128) ≡ f → IsRegWidth n
    by true b c d f p q r s t = IsRegWidth.R8 (same_number n 8 p)
    by false true c d f p q r s t = IsRegWidth.R16 (same_number n 16 q)
    by false false true d f p q r s t = IsRegWidth.R32 (same_number n 32 r)
    by false false false true f p q r s t = IsRegWidth.R64 (same_number n 64 s)
    by false false false false true p q r s t = IsRegWidth.R128 (same_number n 128 t)
    by false false false false false p q r s t = let no = rw (p, q, r, s, t) at e in cc

pub access_width : (n : ℕ) → is_access_width n ≡ true → IsAccess n
access_width n e = by (n == 8) (n == 16) (n == 32) refl refl refl
  where
    by : (a b c : Bool) → (n == 8) ≡ a → (n == 16) ≡ b → (n == 32) ≡ c → IsAccess n
    by true b c p q r = IsAccess.Eight (same_number n 8 p)
    by false true c p q r = IsAccess.Sixteen (same_number n 16 q)
    by false false true p q r = IsAccess.ThirtyTwo (same_number n 32 r)
    by false false false p q r = let no = rw (p, q, r) at e in cc

-- the lesser of a register's width and 32 is an access
pub least_access : (n : ℕ) → IsRegWidth n → IsAccess (min n 32)
least_access n (IsRegWidth.R8 e) = IsAccess.Eight (omega (arith, e))
least_access n (IsRegWidth.R16 e) = IsAccess.Sixteen (omega (arith, e))
least_access n (IsRegWidth.R32 e) = IsAccess.ThirtyTwo (omega (arith, e))
least_access n (IsRegWidth.R64 e) = IsAccess.ThirtyTwo (omega (arith, e))
least_access n (IsRegWidth.R128 e) = IsAccess.ThirtyTwo (omega (arith, e))

pub are_widths : (n m : ℕ) → IsRegWidth n → IsAccess m → m ≤ n → AreWidths n m
are_widths n m r a le = record {
  bus = a;
  bound = bound r;
  whole = whole a r;
  some = some r;
}
  where
    bound : IsRegWidth n → n ≤ 128
    bound (IsRegWidth.R8 e) = omega (arith, e)
    bound (IsRegWidth.R16 e) = omega (arith, e)
    bound (IsRegWidth.R32 e) = omega (arith, e)
    bound (IsRegWidth.R64 e) = omega (arith, e)
    bound (IsRegWidth.R128 e) = omega (arith, e)

    some : IsRegWidth n → 8 ≤ n
    some (IsRegWidth.R8 e) = omega (arith, e)
    some (IsRegWidth.R16 e) = omega (arith, e)
    some (IsRegWidth.R32 e) = omega (arith, e)
    some (IsRegWidth.R64 e) = omega (arith, e)
    some (IsRegWidth.R128 e) = omega (arith, e)

    whole : IsAccess m → IsRegWidth n → n % m ≡ 0
    whole (IsAccess.Eight a) (IsRegWidth.R8 e) = rw (a, e) refl
    whole (IsAccess.Eight a) (IsRegWidth.R16 e) = rw (a, e) refl
    whole (IsAccess.Eight a) (IsRegWidth.R32 e) = rw (a, e) refl
    whole (IsAccess.Eight a) (IsRegWidth.R64 e) = rw (a, e) refl
    whole (IsAccess.Eight a) (IsRegWidth.R128 e) = rw (a, e) refl
    whole (IsAccess.Sixteen a) (IsRegWidth.R8 e) = absurd (omega (arith, a, e, le))
    whole (IsAccess.Sixteen a) (IsRegWidth.R16 e) = rw (a, e) refl
    whole (IsAccess.Sixteen a) (IsRegWidth.R32 e) = rw (a, e) refl
    whole (IsAccess.Sixteen a) (IsRegWidth.R64 e) = rw (a, e) refl
    whole (IsAccess.Sixteen a) (IsRegWidth.R128 e) = rw (a, e) refl
    whole (IsAccess.ThirtyTwo a) (IsRegWidth.R8 e) = absurd (omega (arith, a, e, le))
    whole (IsAccess.ThirtyTwo a) (IsRegWidth.R16 e) = absurd (omega (arith, a, e, le))
    whole (IsAccess.ThirtyTwo a) (IsRegWidth.R32 e) = rw (a, e) refl
    whole (IsAccess.ThirtyTwo a) (IsRegWidth.R64 e) = rw (a, e) refl
    whole (IsAccess.ThirtyTwo a) (IsRegWidth.R128 e) = rw (a, e) refl
