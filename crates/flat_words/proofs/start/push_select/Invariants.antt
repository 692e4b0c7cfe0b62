use Rattle.std.proofs.Common.{◌≡◌, ◌-◌, ◌++◌}
use Rattle.flat_design.specs.Bits.{bit_at, bits_from}
use Rattle.flat_words.specs.Tables.{in_table}
use Rattle.flat_words.proofs.start.push_select.Given as goal

abbrev pub invariant-loop-k : goal.invariant-loop-k
invariant-loop-k l = l.row.items ++ bits_from (bit_at (in_table l.table) l.net (l.start.plus, l.start.minus)) l.k (l.width - l.k) ≡ l.fn.row.items ++ bits_from (bit_at (in_table l.table) l.net (l.start.plus, l.start.minus)) 0 l.width
