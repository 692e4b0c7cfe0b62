use Rattle.std.proofs.Common.{inr, refl}
use Rattle.flat_loops.proofs.SortLemmas.{match_some}
use Rattle.flat_ordered.proofs.first.found_at.Goals as goal

pub returns-in-Some : goal.returns-in-Some
returns-in-Some c = inr (record { number = c.args.number; place = c.args.place; round = c.in-Some.round }, (refl, (refl, (refl, match_some c.in_ok-round_at.field-0 c.in-Some.round _ _ c.in-Some.is c.in_ok-round_at.ensures))))
