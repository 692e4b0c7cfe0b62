use Rattle.watch_lists.proofs.WatchLists.{moved_lists}
use Rattle.watch_lists.proofs.visit.move_watch.Goals as goal

pub returns : goal.returns
returns c = moved_lists c.args.lists.now c.args.from.0 c.args.to.0 c.args.i c.args.watch c.swap_remove.result c.push.new.self c.swap_remove.new.self c.index-lists-to.result c.index-lists-from.result c.requires.to c.requires.from c.requires.different c.requires.within c.in_ok-push.ensures.items c.swap_remove.ensures.items
