use Rattle.watch_lists.proofs.FitLemmas.{first_fits}
use Rattle.watch_lists.proofs.laws.first_fits.Goals as goal

pub returns : goal.returns
returns c = first_fits
