use Rattle.flat_cost.proofs.Driving as driving
use Rattle.flat_cost.proofs.laws.loads_drive.Goals as goal

pub returns : goal.returns
returns c = driving.loads_drive
