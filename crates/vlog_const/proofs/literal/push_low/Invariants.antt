use Rattle.std.proofs.Common.{◌≡◌, ◌-◌, ◌++◌}
use Rattle.bit_base.specs.Numbers.{low_bits}
use Rattle.vlog_const.proofs.literal.push_low.Given as goal

abbrev pub invariant-loop-place : goal.invariant-loop-place
invariant-loop-place l = l.bits.items ++ low_bits (l.width - l._place) l.rest ≡ l.initial.bits.items ++ low_bits l.width l.value
