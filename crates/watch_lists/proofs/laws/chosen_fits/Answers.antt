use Rattle.watch_lists.proofs.FitLemmas.{chosen_fits}
use Rattle.watch_lists.proofs.laws.chosen_fits.Goals as goal

pub returns : goal.returns
returns c = chosen_fits
