use Rattle.std.proofs.Common.{◌≡◌, ◌<◌, ℕ, take}
use Rattle.std.specs.Prelude.{slice_get, Some}
use Rattle.flat_design.specs.declared.net.Net.{Net}
use Rattle.flat_design.specs.Bits.{bits_in}
use Rattle.flat_raw.proofs.net.are_in_row.Given as goal

abbrev pub invariant-loop-net : goal.invariant-loop-net
invariant-loop-net l = record { sum : l.bits ≡ bits_in (take l.net-index l.nets); few : l.bits < 4294967296; row : (k : ℕ) (n : Net) → k < l.net-index → slice_get l.nets k ≡ Some n → n.first ≡ bits_in (take k l.nets) }
