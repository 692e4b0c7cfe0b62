use Rattle.std.proofs.Common.{add-one, rules}
use Rattle.sample_blocks.proofs.lines.section_lines.Goals as goal

pub loop-i-preserved : goal.loop-i-preserved
loop-i-preserved c = rw (add-one c.loop-i.i) (search rules)
