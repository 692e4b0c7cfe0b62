use Rattle.std.proofs.Common.{◌≡◌, ◌-◌, ◌++◌}
use Rattle.bit_base.specs.Numbers.{low_bits}
use Rattle.flat_words.proofs.rows.push_low.Given as goal

abbrev pub invariant-loop-place : goal.invariant-loop-place
invariant-loop-place l = l.row.items ++ low_bits (l.width - l._place) l.rest ≡ l.fn.row.items ++ low_bits l.width l.number
