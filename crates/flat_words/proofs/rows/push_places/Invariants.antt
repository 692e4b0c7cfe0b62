use Rattle.std.proofs.Common.{◌≡◌, ◌++◌, drop}
use Rattle.bit_base.specs.Operators.{each_place}
use Rattle.flat_words.specs.Applies.{place_value}
use Rattle.flat_words.proofs.rows.push_places.Given as goal

abbrev pub invariant-loop-i : goal.invariant-loop-i
invariant-loop-i l = l.row.items ++ each_place (place_value l.op) (drop l.i l.a) (drop l.i l.b) ≡ l.fn.row.items ++ each_place (place_value l.op) l.a l.b
