use Rattle.std.proofs.Common.{◌≡◌}
use Rattle.sample_blocks.specs.SampleTexts.{section_of}
use Rattle.sample_blocks.proofs.lines.section_lines.Given as goal

abbrev pub invariant-loop-i : goal.invariant-loop-i
invariant-loop-i l = l.text.items ≡ section_of l.section l.i
