use Rattle.watch_lists.proofs.FitLemmas.{open_are_guarded}
use Rattle.watch_lists.proofs.laws.open_are_guarded.Goals as goal

pub returns : goal.returns
returns c = open_are_guarded
