use Rattle.watch_lists.proofs.FitLemmas.{cut_fits}
use Rattle.watch_lists.proofs.laws.cut_fits.Goals as goal

pub returns : goal.returns
returns c = cut_fits
