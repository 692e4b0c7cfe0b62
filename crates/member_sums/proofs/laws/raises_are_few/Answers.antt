use Rattle.member_sums.proofs.SumLemmas.{few}
use Rattle.member_sums.proofs.laws.raises_are_few.Goals as goal

pub returns : goal.returns
returns c = few
