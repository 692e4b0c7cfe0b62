-- Nets that fit their design.
use Rattle.std.specs.Prelude.{◌≡◌, ℕ, ◌+◌, Bool, true, false, not, ◌&&◌, ◌||◌, ◌==◌, nat_le, List, [], ◌∷◌, Some, slice_get, take}
use Rattle.std.specs.List.{list_all}
use Rattle.flat_design.specs.declared.net.Net.{Net}
use Rattle.flat_design.specs.declared.net.NetKind.{NetKind}
use Rattle.flat_design.specs.declared.net.NetKind.TheVariants as K
use Rattle.flat_design.specs.Bits.{bits_in}

-- 1 to 1,024 bits, whose places are below 2^32
abbrev pub has_width : Net → Bool
has_width n = nat_le 1 n.width && nat_le n.width 1024

abbrev pub has_places : Net → Bool
has_places n = nat_le (n.lsb + n.width) 4294967296

-- the first bit of each net comes after those of the nets before
abbrev pub AreInRow : List Net → Type 0
AreInRow nets = (k : ℕ) (n : Net) → slice_get nets k ≡ Some n → n.first ≡ bits_in (take k nets)

-- a net of this kind, which some item assigns or not, and some clocked item or not: none is the clock yet, none assigns a hidden net,
-- and the registers are the nets, inputs of the top apart, that a clocked item assigns
abbrev pub kind_fits : NetKind → Bool → Bool → Bool
kind_fits K.Clock assigned clocked = false
kind_fits K.Input assigned clocked = true
kind_fits K.Hidden assigned clocked = not assigned
kind_fits K.Wire assigned clocked = not clocked
kind_fits K.Register assigned clocked = clocked

abbrev pub is_hidden : NetKind → Bool
is_hidden K.Hidden = true
is_hidden _ = false
