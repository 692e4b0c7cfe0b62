-- The bus words of a description by address, and its fields by word and then by lowest bit.
use Rattle.std.specs.Prelude.{ℕ, ◌+◌, ◌*◌, List, map}
use Rattle.std.specs.List.Sorted.{IsPermutation, IsNonDecreasingBy}
use Rattle.rdl_words.specs.Spots.{Spot}
use Rattle.rdl_fields.specs.declared.named.NamedField.{NamedField}

abbrev pub address_of : Spot → ℕ
address_of s = s.address

-- the same bus words, by address
pub record AreWords (spots : List Spot) (words : List ℕ) : Type 0 where
  pub same : IsPermutation (map address_of spots) words
  pub order : IsNonDecreasingBy (λ (w : ℕ). w) words

-- a number for the order by word and then by lowest bit, which is below 2^64
abbrev pub key : NamedField → ℕ
key f = f.spot.word * 18446744073709551616 + f.spot.lsb

-- the same fields, by word and then by lowest bit
pub record AreFields (given fields : List NamedField) : Type 0 where
  pub same : IsPermutation given fields
  pub order : IsNonDecreasingBy key fields
