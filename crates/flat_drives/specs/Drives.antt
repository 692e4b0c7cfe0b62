-- Drivers of bits: each bit has one, but for the bits of inputs and hidden inputs, which have none.
use Rattle.std.specs.Prelude.{◌≡◌, ◌≤◌, ℕ, Bool, true, false, not, ◌&&◌, ◌||◌, List, [], ◌∷◌, Some, slice_get, take}
use Rattle.std.specs.List.{list_any}
use Rattle.flat_design.specs.declared.net.Net.{Net}
use Rattle.flat_design.specs.declared.net.NetKind.{NetKind}
use Rattle.flat_design.specs.declared.net.NetKind.TheVariants as K
use Rattle.flat_design.specs.declared.stmt.FlatLeft.{FlatLeft}
use Rattle.flat_design.specs.declared.item.FlatItem.{FlatItem}
use Rattle.flat_design.specs.declared.item.FlatItem.TheVariants as I
use Rattle.flat_design.specs.Bits.{Set, net_at, of_net}
use Rattle.flat_design.specs.Reads.{no_bits}
use Rattle.flat_design.specs.Flows.{part_drives, left_drives}
use Rattle.flat_design.specs.Systems.{item_flow}
use Rattle.flat_offences.specs.declared.offence.Offence.{Offence}
use Rattle.flat_offences.specs.Offences.{IsFirstOffence}

-- some item drives the bit
abbrev pub driven : List Net → List FlatItem → Set
driven nets items i = list_any (λ x. (item_flow nets x).drives i) items

-- the bit stands twice in the left side
abbrev pub twice : List Net → List FlatLeft → Set
twice nets [] i = false
twice nets (l ∷ left) i = (part_drives nets l i && left_drives nets left i) || twice nets left i

-- only in assignments and port connections
abbrev pub item_twice : List Net → FlatItem → Set
item_twice nets (I.Assign place targets left val connection) = twice nets left
item_twice nets (I.Comb place targets body) = no_bits
item_twice nets (I.Clocked place targets events body) = no_bits

-- an input of the top, the clock too; a net that needs no driver
abbrev pub is_input : NetKind → Bool
is_input K.Clock = true
is_input K.Input = true
is_input _ = false

abbrev pub is_given : NetKind → Bool
is_given K.Clock = true
is_given K.Input = true
is_given K.Hidden = true
is_given _ = false

-- the bits of the inputs of the top, and those that need no driver
abbrev pub input_bits : List Net → Set
input_bits nets i = list_any (λ n. is_input n.kind && of_net n i) nets

abbrev pub given_bits : List Net → Set
given_bits nets i = list_any (λ n. is_given n.kind && of_net n i) nets

-- the bits at which an item offends, after these items and among all: it drives a bit that one before it drives, or that is an input's;
-- a bit stands twice in its left side; or it reads a bit that none drives and that needs a driver
abbrev pub offending : List Net → List FlatItem → List FlatItem → FlatItem → Set
offending nets before all x i = ((item_flow nets x).drives i && (driven nets before i || input_bits nets i)) || (item_twice nets x i || ((item_flow nets x).reads i && not (driven nets all i || given_bits nets i)))

-- the item of a number offends at a bit of the net of a number
pub record Offends (nets : List Net) (items : List FlatItem) (k n : ℕ) : Type 0 where
  pub item : FlatItem
  pub is : slice_get items k ≡ Some item
  pub bit : ℕ
  pub inside : of_net (net_at nets n) bit ≡ true
  pub offends : offending nets (take k items) items item bit ≡ true

-- the bits of outputs
abbrev pub output_bits : List Net → Set
output_bits nets i = list_any (λ n. n.output && of_net n i) nets

-- the net of a number has a bit of an output that none drives and that needs a driver
pub record IsOpen (nets : List Net) (items : List FlatItem) (n : ℕ) : Type 0 where
  pub bit : ℕ
  pub inside : of_net (net_at nets n) bit ≡ true
  pub output : output_bits nets bit ≡ true
  pub undriven : driven nets items bit || given_bits nets bit ≡ false

-- an open output is answered where no item offends
pub record IsOpenOffence (nets : List Net) (items : List FlatItem) (o : Offence) : Type 0 where
  pub place : o.place ≡ record { file = 0; line = 0; column = 0 }
  pub open_net : IsOpen nets items o.net
  pub first : (n : ℕ) → IsOpen nets items n → o.net ≤ n
  pub no_item : (k n : ℕ) → Offends nets items k n → ⊥
