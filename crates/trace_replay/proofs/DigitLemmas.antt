-- Bits and their digits, the highest first.
use Rattle.std.proofs.Common.{◌≡◌, ℕ, ◌<◌, ◌==◌, Bool, true, false, ◌&&◌, if◌then◌else◌, List, [], ◌∷◌, ◌++◌, map, reverse, length, refl, sym, ◌∙◌, ap, inl, inr}
use Rattle.std.specs.List.{list_all}
use Rattle.std.proofs.lemmas.Bool.{cases_Bool, and_parts, and_from, or_cases, eqb-true}
use Rattle.std.proofs.lemmas.List.{map-append, reverse-append, reverse-reverse, length-reverse, length-map}
use Rattle.trace_replay.specs.Lines.{is_binary, all_binary}
use Rattle.trace_replay.specs.TraceText.{digits}

abbrev pub digit_of : Bool → ℕ
digit_of bit = if bit then 0x31 else 0x30

abbrev pub bit_of : ℕ → Bool
bit_of digit = digit == 0x31

bit-digit : (bit : Bool) → bit_of (digit_of bit) ≡ bit
bit-digit true = refl
bit-digit false = refl

digit-binary : (bit : Bool) → is_binary (digit_of bit) ≡ true
digit-binary true = refl
digit-binary false = refl

digit-bit : (digit : ℕ) → is_binary digit ≡ true → digit_of (bit_of digit) ≡ digit
digit-bit digit h = elim (or_cases (digit == 0x30) (digit == 0x31) h) [
  | inl zero_digit ↦ rw (eqb-true digit 0x30 zero_digit) refl
  | inr one_digit ↦ rw (eqb-true digit 0x31 one_digit) refl
]

reverse-map : {A B : Type 0} (f : A → B) (xs : List A) → reverse (map f xs) ≡ map f (reverse xs)
reverse-map f [] = refl
reverse-map f (x ∷ xs) =
    reverse-append (f x ∷ []) (map f xs)
    ∙ ap (λ front. front ++ f x ∷ []) (reverse-map f xs)
    ∙ sym (map-append f (reverse xs) (x ∷ []))
    ∙ ap (map f) (sym (reverse-append (x ∷ []) xs))

map_bits : (bits : List Bool) → map bit_of (map digit_of bits) ≡ bits
map_bits [] = refl
map_bits (bit ∷ bits) = rw (bit-digit bit) (ap (λ more. bit ∷ more) (map_bits bits))

map_digits : (word : List ℕ) → all_binary word ≡ true → map digit_of (map bit_of word) ≡ word
map_digits [] h = refl
map_digits (digit ∷ word) h =
    let parts = and_parts (is_binary digit) (all_binary word) h in
    rw (digit-bit digit parts.0) (ap (λ more. digit ∷ more) (map_digits word parts.1))

map_binary : (bits : List Bool) → all_binary (map digit_of bits) ≡ true
map_binary [] = refl
map_binary (bit ∷ bits) = and_from _ _ (digit-binary bit) (map_binary bits)

-- the bits of the digits of bits are those bits, and the digits of the bits of digits are those digits
pub bits-digits : (bits : List Bool) → map bit_of (reverse (digits bits)) ≡ bits
bits-digits bits =
    ap (map bit_of) (reverse-map digit_of (reverse bits) ∙ ap (map digit_of) (reverse-reverse bits)) ∙ map_bits bits

pub digits-bits : (word : List ℕ) → all_binary word ≡ true → digits (map bit_of (reverse word)) ≡ word
digits-bits word h =
    ap (map digit_of) (reverse-map bit_of (reverse word) ∙ ap (map bit_of) (reverse-reverse word)) ∙ map_digits word h

pub digits-binary : (bits : List Bool) → all_binary (digits bits) ≡ true
digits-binary bits = map_binary (reverse bits)

pub digits-length : (bits : List Bool) → length (digits bits) ≡ length bits
digits-length bits = length-map (reverse bits) digit_of ∙ length-reverse bits

pub bits-length : (word : List ℕ) → length (map bit_of (reverse word)) ≡ length word
bits-length word = length-map (reverse word) bit_of ∙ length-reverse word

-- digits tell the bits
pub same_digits : (a b : List Bool) → digits a ≡ digits b → a ≡ b
same_digits a b same = sym (bits-digits a) ∙ ap (λ word. map bit_of (reverse word)) same ∙ bits-digits b
