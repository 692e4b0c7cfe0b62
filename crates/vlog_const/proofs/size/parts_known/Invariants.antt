use Rattle.std.proofs.Common.{◌≡◌, drop}
use Rattle.vlog_const.specs.Sizing.{parts_from, no_parts}
use Rattle.vlog_const.specs.Sized.{known_of}
use Rattle.vlog_const.proofs.size.parts_known.Given as goal

abbrev pub invariant-loop-part : goal.invariant-loop-part
invariant-loop-part l = parts_from l.known (known_of (drop l.part-index l.parts)) ≡ parts_from no_parts (known_of l.parts)
