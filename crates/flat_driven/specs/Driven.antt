-- Designs in which each bit that needs a driver has one, and none has two.
use Rattle.std.specs.Prelude.{◌⊎◌, ℕ, List}
use Rattle.flat_design.specs.declared.net.Net.{Net}
use Rattle.flat_design.specs.declared.item.FlatItem.{FlatItem}
use Rattle.flat_offences.specs.declared.offence.Offence.{Offence}
use Rattle.flat_offences.specs.Offences.{IsFirstOffence}
use Rattle.flat_drives.specs.Drives.{Offends, IsOpen, IsOpenOffence}

-- no item offends, and no output is open
pub record HaveDrivers (nets : List Net) (items : List FlatItem) : Type 0 where
  pub no_item : (k n : ℕ) → Offends nets items k n → ⊥
  pub no_open : (n : ℕ) → IsOpen nets items n → ⊥

-- the first offence of an item; that of an output, where no item offends
abbrev pub IsDriverOffence : List Net → List FlatItem → Offence → Type 0
IsDriverOffence nets items o = IsFirstOffence items (Offends nets items) o ⊎ IsOpenOffence nets items o

-- an output's offence has no place
abbrev pub open_offence : ℕ → Offence
open_offence n = record { place = record { file = 0; line = 0; column = 0 }; net = n }
