use Rattle.rdl_regmap.proofs.MapTold.{never_untold}
use Rattle.rdl_regmap.proofs.law.maps_are_told.Goals as goal

pub returns : goal.returns
returns c = never_untold
