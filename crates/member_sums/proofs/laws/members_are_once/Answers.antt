use Rattle.member_sums.proofs.SumLemmas.{once}
use Rattle.member_sums.proofs.laws.members_are_once.Goals as goal

pub returns : goal.returns
returns c = once
