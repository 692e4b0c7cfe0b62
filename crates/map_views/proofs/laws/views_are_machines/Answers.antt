use Rattle.map_views.proofs.ViewLemmas.{views_are}
use Rattle.map_views.proofs.laws.views_are_machines.Goals as goal

pub returns : goal.returns
returns c = views_are
