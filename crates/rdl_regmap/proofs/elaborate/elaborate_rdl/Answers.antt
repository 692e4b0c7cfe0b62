use Rattle.rdl_regmap.proofs.Valid.{valid}
use Rattle.rdl_regmap.proofs.elaborate.elaborate_rdl.Goals as goal

pub reg_map-requires : goal.reg_map-requires
reg_map-requires c = valid c.args.file.now _ c.requires c.in_ok-parts.ensures.fine c.in_ok-parts.ensures.map
