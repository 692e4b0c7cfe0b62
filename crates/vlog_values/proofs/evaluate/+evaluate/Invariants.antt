use Rattle.std.proofs.Common.{◌≡◌, ◌+◌, [], drop, map, true}
use Rattle.vlog_values.specs.Places.{no_values}
use Rattle.vlog_values.specs.Outcomes.{parts_of}
use Rattle.vlog_values.specs.Constants.{read}
use Rattle.vlog_values.proofs.evaluate.+evaluate.Given as goal

abbrev pub invariant-parts-loop-part : goal.invariant-parts-loop-part
invariant-parts-loop-part l = parts_of (map read (drop l.part-index l.list)) (l.first + l.part-index) no_values true l.higher ≡ parts_of (map read l.list) l.first no_values true []
