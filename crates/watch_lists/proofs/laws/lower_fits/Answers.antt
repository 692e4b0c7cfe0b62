use Rattle.watch_lists.proofs.FitLemmas.{lower_fits}
use Rattle.watch_lists.proofs.laws.lower_fits.Goals as goal

pub returns : goal.returns
returns c = lower_fits
