-- A state that has the right entry for each field is the next state.
use Rattle.std.proofs.Common.{◌≡◌, ℕ, suc, ◌+◌, ◌^◌, ◌<◌, Bool, false, List, [], ◌∷◌, length, map, Some, slice_get, get_or, refl, arith, ap, subst, ◌∙◌}
use Rattle.std.specs.List.{enumerate_from, range_with_len}
use Rattle.std.proofs.lemmas.List.FromFn.{length-map-range_with_len, get_or-map-range_with_len}
use Rattle.bit_base.specs.Numbers.{number_of}
use Rattle.bit_base.proofs.Numbers.{number_of-below}
use Rattle.field_policies.specs.declared.field.Field.{Field}
use Rattle.field_policies.specs.Bits.{AreBitsOf}
use Rattle.field_policies.proofs.BitLemmas.{one_number}
use Rattle.field_policies.proofs.NumberBits.{bit_of_number}
use Rattle.reg_machine.specs.Nexts.{IsReset}
use Rattle.reg_machine.specs.States.{State, reset_state, number_of_bits, for_each}

-- the number of bits has these bits
pub number_has : (w : ℕ) (bits : ℕ → Bool) → AreBitsOf w bits (number_of_bits w bits)
number_has w bits = record {
  below = subst (λ n. number_of (map bits (range_with_len 0 w)) < 2 ^ n) (length-map-range_with_len bits 0 w) (number_of-below (map bits (range_with_len 0 w)));
  each = λ i h. bit_of_number (map bits (range_with_len 0 w)) i ∙ get_or-map-range_with_len bits 0 w i i false h (omega arith);
}

-- and there is no other
pub number_is : (w n : ℕ) (bits : ℕ → Bool) → AreBitsOf w bits n → n ≡ number_of_bits w bits
number_is w n bits h = one_number w n (number_of_bits w bits) bits h (number_has w bits)

-- a list with the right entry for each field
from_each : {A : Type 0} (each : ℕ → Field → A) (d : A) (k : ℕ) (fields : List Field) (xs : List A) → length xs ≡ length fields
    → ((i : ℕ) (f : Field) → slice_get fields i ≡ Some f → get_or xs i d ≡ each (k + i) f) → xs ≡ map (λ p. each p.0 p.1) (enumerate_from k fields)
from_each each d k [] [] len h = refl
from_each each d k [] (x ∷ xs) len h = cc
from_each each d k (f ∷ fields) [] len h = cc
from_each each d k (f ∷ fields) (x ∷ xs) len h =
    let first : k + 0 ≡ k = omega arith in
    ap (λ y. y ∷ xs) (h 0 f refl ∙ ap (λ n. each n f) first)
    ∙ ap (λ ys. each k f ∷ ys) (from_each each d (k + 1) fields xs (omega (arith, len)) (λ i g at. h (suc i) g at ∙ ap (λ n. each n g) (later i)))
  where
    later : (i : ℕ) → k + suc i ≡ k + 1 + i
    later i = omega arith

pub is_for_each : {A : Type 0} (each : ℕ → Field → A) (d : A) (fields : List Field) (xs : List A) → length xs ≡ length fields
    → ((i : ℕ) (f : Field) → slice_get fields i ≡ Some f → get_or xs i d ≡ each i f) → xs ≡ for_each each fields
is_for_each each d fields xs len h = from_each each d 0 fields xs len (λ i f at. h i f at ∙ ap (λ n. each n f) (from_zero i))
  where
    from_zero : (i : ℕ) → i ≡ 0 + i
    from_zero i = omega arith

-- the state of three lists
abbrev pub state_with : List ℕ → List Bool → List Bool → State
state_with values used known = record { values = values; used = used; known = known }

-- two states with the same lists
pub same_state : (values values' : List ℕ) (used used' known known' : List Bool) → values ≡ values' → used ≡ used' → known ≡ known'
    → state_with values used known ≡ state_with values' used' known'
same_state values values' used used' known known' a b c =
    ap (λ v. state_with v used known) a ∙ ap (λ u. state_with values' u known) b ∙ ap (λ k. state_with values' used' k) c

pub reset_is : (fields : List Field) (values : List ℕ) (used known : List Bool) → IsReset fields values used known → state_with values used known ≡ reset_state fields
reset_is fields values used known r = same_state _ _ _ _ _ _ r.values_are r.used_are r.known_are
