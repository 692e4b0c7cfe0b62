-- A machine's state of one field of eight bits, and words that are unlike.
use Rattle.std.proofs.Common.{◌≡◌, ℕ, ◌^◌, ◌<◌, Bool, true, false, not, ◌&&◌, List, [], ◌∷◌, length, Some, slice_get, eqb, refl, arith, ap, subst, ◌∙◌}
use Rattle.std.specs.Int.Bits.{bit_and}
use Rattle.std.specs.Int.RustNames.{bit_xor}
use Rattle.std.proofs.lemmas.Option.{slice_get_within}
use Rattle.field_policies.specs.declared.field.Field.{Field}
use Rattle.field_policies.specs.Maps.{EachField}
use Rattle.field_policies.specs.Bits.{bit, any_below, AreBitsOf}
use Rattle.bit_base.specs.Operators.{differ}
use Rattle.field_policies.proofs.BitLemmas.{own_bits, and_bits, xor_bits}
use Rattle.reg_machine.specs.Conditions.{IsState}
use Rattle.reg_machine.specs.declared.machine.Machine.{Machine}
use Rattle.reg_machine.proofs.BitMoves.{any_same, none_where}
use Rattle.trace_replay.specs.States.{OfOneByte}
use Rattle.trace_replay.specs.Joint.{unlike}

-- a state of a map with one field of eight bits
pub one_byte : (fields : List Field) (m : Machine) → length fields ≡ 1 → EachField fields (λ f. f.width ≡ 8) → IsState fields m.values.items m.used.items m.known.items → OfOneByte m
one_byte [] m one wide s = cc
one_byte (f ∷ fs) m one wide s = record {
  one = s.values_of.one_each ∙ one;
  used = s.used_of ∙ one;
  known = s.known_of ∙ one;
  fits = fits;
}
  where
    fits : (n value : ℕ) → slice_get m.values.items n ≡ Some value → value < 256
    fits n value at =
        let first : n ≡ 0 = omega (arith, slice_get_within m.values.items n value at, s.values_of.one_each, one) in
        subst (λ w. value < 2 ^ w) (wide 0 f refl) (s.values_of.fit n value f (ap (λ k. slice_get (f ∷ fs) k) first) at)

twice : (b : Bool) → not (not b) ≡ b
twice true = refl
twice false = refl

-- the two words have unlike bits among those that count
pub unlike_where : (shown word counts : ℕ) (f g : ℕ → Bool) → shown < 256 → AreBitsOf 8 f word → AreBitsOf 8 g counts → not (eqb (bit_and counts (bit_xor shown word)) 0) ≡ unlike 8 shown f g
unlike_where shown word counts f g fits p q =
    let h : AreBitsOf 8 (λ j. g j && differ (bit shown j) (f j)) (bit_and counts (bit_xor shown word)) = and_bits 8 counts (bit_xor shown word) g (λ j. differ (bit shown j) (f j)) q (xor_bits 8 shown word (bit shown) f (own_bits 8 shown fits) p) in
    ap not (none_where 8 (bit_and counts (bit_xor shown word)) h.below) ∙ twice (any_below 8 (bit (bit_and counts (bit_xor shown word)))) ∙ any_same 8 (bit (bit_and counts (bit_xor shown word))) (λ j. g j && differ (bit shown j) (f j)) h.each
