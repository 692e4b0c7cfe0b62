use Rattle.std.proofs.Common.{ap}
use Rattle.std.specs.Prelude.{slice_get}
use Rattle.flat_checks.proofs.cycle.shown_cycle.Goals as goal

pub returns : goal.returns
returns c nets h = record { numbers = c.args.numbers.now; cycle = h; place = c.first_place.ensures h.first h.item (ap (λ l. slice_get l 0) h.is) h.there; carried = c.in_ok-nets.ensures }
