use Rattle.rdl_regmap.proofs.MapTold.{never_untold}
use Rattle.rdl_regmap.proofs.parts.map_parts.Goals as goal

pub unreachable-requires : goal.unreachable-requires
unreachable-requires c = never_untold c.args.file.now c.in_ok-check_rdl.ensures.fine (rw c.in_default.is at c.in_ok-parts.ensures)
