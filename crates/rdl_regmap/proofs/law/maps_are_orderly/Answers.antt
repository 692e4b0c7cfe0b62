use Rattle.rdl_regmap.proofs.Orderly.{orderly}
use Rattle.rdl_regmap.proofs.law.maps_are_orderly.Goals as goal

pub returns : goal.returns
returns c = orderly
