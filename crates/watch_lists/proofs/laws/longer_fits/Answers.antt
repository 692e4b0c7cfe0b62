use Rattle.watch_lists.proofs.FitLemmas.{longer_fits}
use Rattle.watch_lists.proofs.laws.longer_fits.Goals as goal

pub returns : goal.returns
returns c = longer_fits
