use Rattle.std.proofs.Common.{take}
use Rattle.vlog_parse.specs.Top.{instances_of_items}
use Rattle.vlog_parse.specs.Met.{Meets}
use Rattle.vlog_parse.proofs.top.+meet.Given as goal

abbrev pub invariant-meet_items-loop-item : goal.invariant-meet_items-loop-item
invariant-meet_items-loop-item l = Meets l.fn.met (instances_of_items (take l.item-index l.items)) l.met
