use Rattle.std.proofs.Common.{sym, ap}
use Rattle.flat_ties.proofs.Shaping.{shape_Net, no_whole}
use Rattle.flat_ties.proofs.shape.whole_net.Goals as goal

pub returns-in-Net : goal.returns-in-Net
returns-in-Net c = sym (ap (λ s. s.0) (shape_Net c.args.e.now c.in-Net.net c.in-Net.is))

pub returns-in_default : goal.returns-in_default
returns-in_default c = sym (no_whole c.args.e.now c.in_default.not-Net)
