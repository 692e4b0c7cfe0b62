use Rattle.reg_machine.proofs.StartLemmas.{reset_keeps_start, edge_keeps_start}
use Rattle.reg_machine.proofs.laws.starts_stay.Goals as goal

pub returns : goal.returns
returns c = record {
  reset = reset_keeps_start;
  edge = edge_keeps_start;
}
