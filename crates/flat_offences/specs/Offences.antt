-- Offences of a design: each is by an item and about a net; the first is answered.
use Rattle.std.specs.Prelude.{◌≡◌, ℕ, Bool, false, not, ◌&&◌, ◌||◌, nat_lt, List, Option, Some, None, slice_get, if◌then◌else◌}
use Rattle.bit_base.specs.Places.{is_before}
use Rattle.flat_design.specs.declared.item.FlatItem.{FlatItem}
use Rattle.flat_design.specs.Systems.{place_of}
use Rattle.flat_offences.specs.declared.offence.Offence.{Offence}

-- an offence at an earlier place, or at the same one about an earlier net
abbrev pub comes_first : Offence → Offence → Bool
comes_first a b = is_before a.place b.place || (not (is_before b.place a.place) && nat_lt a.net b.net)

-- the offence by an item of a place about a net
abbrev pub offence_of : FlatItem → ℕ → Offence
offence_of x n = record { place = place_of x; net = n }

-- the first of the offences so far and that of an item, if it has one
abbrev pub more : Option Offence → FlatItem → Option ℕ → Option Offence
more best x None = best
more None x (Some n) = Some (offence_of x n)
more (Some o) x (Some n) = Some (if comes_first (offence_of x n) o then offence_of x n else o)

-- of the offences of one kind, each by the item of a number about the net of a number: one of them, and none comes first
pub record IsFirstOffence (items : List FlatItem) (offends : ℕ → ℕ → Type 0) (o : Offence) : Type 0 where
  pub number : ℕ
  pub item : FlatItem
  pub there : slice_get items number ≡ Some item
  pub is : offence_of item o.net ≡ o
  pub offence : offends number o.net
  pub first : (k n : ℕ) (x : FlatItem) → slice_get items k ≡ Some x → offends k n → comes_first (offence_of x n) o ≡ false

-- the net that was found for the item of a number
abbrev pub Found : List (Option ℕ) → ℕ → ℕ → Type 0
Found found k n = slice_get found k ≡ Some (Some n)
