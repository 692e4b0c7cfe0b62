use Rattle.std.proofs.Common.{◌≡◌, ◌+◌, ◌*◌, ◌-◌}
use Rattle.parsing.specs.Parser.{many, many_from}
use Rattle.vlog_tree.specs.ReadModules.{begins_mitem}
use Rattle.vlog_parse.specs.Nesting.{mitem_in}
use Rattle.vlog_parse.proofs.items.+mitem.Given as goal

abbrev pub decreases-mitems : goal.decreases-mitems
decreases-mitems l = 9 * l.inner + 1

abbrev pub decreases-region : goal.decreases-region
decreases-region l = 9 * l.inner + 2

abbrev pub decreases-body_block : goal.decreases-body_block
decreases-body_block l = 9 * l.inner + 2

abbrev pub decreases-named_block : goal.decreases-named_block
decreases-named_block l = 9 * l.inner + 2

abbrev pub decreases-for_item : goal.decreases-for_item
decreases-for_item l = 9 * l.inner + 4

abbrev pub decreases-gbody : goal.decreases-gbody
decreases-gbody l = 9 * l.inner + 3

abbrev pub decreases-gelse : goal.decreases-gelse
decreases-gelse l = 9 * l.inner + 5

abbrev pub decreases-any_gelse : goal.decreases-any_gelse
decreases-any_gelse l = 9 * l.inner + 6

abbrev pub decreases-gconditional : goal.decreases-gconditional
decreases-gconditional l = 9 * l.inner + 7

abbrev pub decreases-mitem_of : goal.decreases-mitem_of
decreases-mitem_of l = 9 * l.inner + 8

abbrev pub decreases-mitem : goal.decreases-mitem
decreases-mitem l = 9 * l.room

abbrev pub invariant-mitems-loop-turn : goal.invariant-mitems-loop-turn
invariant-mitems-loop-turn l = many begins_mitem (mitem_in l.inner l.levels) l.fn.tokens ≡ many_from begins_mitem (mitem_in l.inner l.levels) (l._turn-end - l._turn) l.found l.tokens
