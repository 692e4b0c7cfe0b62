-- The first open net from the least net of the open bits.
use Rattle.std.proofs.Common.{◌≡◌, ℕ, ◌≤◌, Bool, true, false, not, ◌&&◌, ◌||◌, List, Option, Some, None, refl, sym, ◌∙◌, ap}
use Rattle.std.specs.Prelude.{IfSome, IfNone}
use Rattle.flat_design.specs.declared.net.Net.{Net}
use Rattle.flat_design.specs.declared.item.FlatItem.{FlatItem}
use Rattle.flat_design.specs.Bits.{Set}
use Rattle.flat_offences.specs.Owners.{AreOwners}
use Rattle.flat_drives.specs.Drives.{driven, given_bits, output_bits, IsOpen}
use Rattle.flat_drives.specs.Least.{HasNet, IsLeast, IsLeastNet}

abbrev pub open_bits : List Net → List FlatItem → Set
open_bits nets items i = output_bits nets i && not (driven nets items i || given_bits nets i)

first_part : (a b : Bool) → a && not b ≡ true → a ≡ true
first_part true b h = refl
first_part false b h = cc

second_part : (a b : Bool) → a && not b ≡ true → b ≡ false
second_part true true h = cc
second_part true false h = refl
second_part false b h = cc

parts : (a b : Bool) → a ≡ true → b ≡ false → a && not b ≡ true
parts true true h k = cc
parts true false h k = refl
parts false b h k = cc

open_of : (nets : List Net) (items : List FlatItem) (owners : List ℕ) (n : ℕ) → AreOwners nets owners → HasNet owners (open_bits nets items) n → IsOpen nets items n
open_of nets items owners n own h = record { bit = h.bit; inside = own.only h.bit n h.at; output = first_part _ _ h.is; undriven = second_part _ _ h.is }

has_of : (nets : List Net) (items : List FlatItem) (owners : List ℕ) (n : ℕ) → AreOwners nets owners → IsOpen nets items n → HasNet owners (open_bits nets items) n
has_of nets items owners n own h = record { bit = h.bit; at = own.all h.bit n h.inside; is = parts _ _ h.output h.undriven }

pub open_is : (nets : List Net) (items : List FlatItem) (owners : List ℕ) (o : Option ℕ) → AreOwners nets owners → IsLeastNet owners (open_bits nets items) o → IfSome o (λ n. IsOpen nets items n)
open_is nets items owners None own h = tt
open_is nets items owners (Some n) own h = open_of nets items owners n own h.has

pub open_first : (nets : List Net) (items : List FlatItem) (owners : List ℕ) (o : Option ℕ) → AreOwners nets owners → IsLeastNet owners (open_bits nets items) o → IfSome o (λ n. (m : ℕ) → IsOpen nets items m → n ≤ m)
open_first nets items owners None own h = tt
open_first nets items owners (Some n) own h = λ m k. h.least m (has_of nets items owners m own k)

pub open_none : (nets : List Net) (items : List FlatItem) (owners : List ℕ) (o : Option ℕ) → AreOwners nets owners → IsLeastNet owners (open_bits nets items) o → IfNone o ((m : ℕ) → IsOpen nets items m → ⊥)
open_none nets items owners None own h = λ m k. h m (has_of nets items owners m own k)
open_none nets items owners (Some n) own h = tt
