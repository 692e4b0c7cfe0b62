use Rattle.watch_lists.proofs.WatchLists.{set_lists}
use Rattle.watch_lists.proofs.visit.set_watch.Goals as goal

pub returns : goal.returns
returns c = set_lists c.args.lists.now c.args.list c.args.i c.args.watch c.index-lists-list.result c.requires.list
