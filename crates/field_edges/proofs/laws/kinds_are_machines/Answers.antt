use Rattle.field_edges.proofs.SeesLaws.{kind_is}
use Rattle.field_edges.proofs.laws.kinds_are_machines.Goals as goal

pub returns : goal.returns
returns c = kind_is
