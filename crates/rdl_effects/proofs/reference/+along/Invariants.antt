use Rattle.std.proofs.Common.{◌+◌, ◌*◌, length}
use Rattle.rdl_effects.proofs.reference.+along.Given as goal

abbrev pub decreases-facts_on : goal.decreases-facts_on
decreases-facts_on l = 4 * length l.more.now

abbrev pub decreases-facts_in : goal.decreases-facts_in
decreases-facts_in l = 4 * length l.more.now + 1

abbrev pub decreases-facts_below : goal.decreases-facts_below
decreases-facts_below l = 4 * length l.more.now + 2

abbrev pub decreases-facts_along : goal.decreases-facts_along
decreases-facts_along l = 4 * length l.more.now + 3
