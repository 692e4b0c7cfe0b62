use Rattle.std.proofs.Common.{◌≡◌, ◌<◌, ℕ, true, false}
use Rattle.std.specs.Prelude.{slice_get, slice_index_or, Some}
use Rattle.flat_design.specs.declared.net.Net.{Net}
use Rattle.flat_raw.specs.Nets.{kind_fits}
use Rattle.flat_raw.proofs.net.kinds_fit.Given as goal

abbrev pub invariant-loop-k : goal.invariant-loop-k
invariant-loop-k l = (k : ℕ) (n : Net) → k < l.k → slice_get l.nets k ≡ Some n → kind_fits n.kind (slice_index_or l.assigned k false) (slice_index_or l.clocked k false) ≡ true
