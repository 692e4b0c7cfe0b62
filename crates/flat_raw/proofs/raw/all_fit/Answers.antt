use Rattle.std.proofs.Common.{◌≡◌, ◌∙◌, ap, refl, length}
use Rattle.flat_raw.proofs.Whole.{items_are}
use Rattle.flat_raw.proofs.raw.all_fit.Goals as goal

pub returns : goal.returns
returns c = items_are c.args.nets.now c.args.items.now _ c.items_fit-fit.result c.in_ok-kinds.kinds c.in_ok-targets.targets c.all_of.result refl c.items_fit-fit.ensures c.in_ok-kinds.ensures c.in_ok-targets.ensures c.all_of.ensures
