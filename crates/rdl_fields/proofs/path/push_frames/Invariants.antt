use Rattle.std.proofs.Common.{◌≡◌, ◌++◌, drop, map}
use Rattle.rdl_fields.specs.Paths.{dotted, step_of}
use Rattle.rdl_fields.proofs.path.push_frames.Given as goal

abbrev pub invariant-loop-frame : goal.invariant-loop-frame
invariant-loop-frame l = l.out.items ++ dotted (map step_of (drop l.frame-index l.trail)) ≡ l.fn.out.items ++ dotted (map step_of l.trail)
