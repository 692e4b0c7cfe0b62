use Rattle.std.proofs.Common.{◌≡◌, ◌+◌, ◌*◌, ◌-◌}
use Rattle.parsing.specs.Parser.{many, many_from}
use Rattle.rdl_parse.specs.Grammar.{items, item_of, begins_item}
use Rattle.rdl_parse.proofs.items.+items.Given as goal

abbrev pub decreases-items : goal.decreases-items
decreases-items l = 3 * l.room

abbrev pub decreases-item : goal.decreases-item
decreases-item l = 3 * l.room + 2

abbrev pub decreases-definition : goal.decreases-definition
decreases-definition l = 3 * l.room + 1

abbrev pub invariant-items-loop-turn : goal.invariant-items-loop-turn
invariant-items-loop-turn l = items l.room l.fn.tokens ≡ many_from begins_item (item_of (items (l.room - 1))) (l._turn-end - l._turn) l.found l.tokens
