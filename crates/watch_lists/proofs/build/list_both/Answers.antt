use Rattle.watch_lists.proofs.WatchLists.{both_lists, one_list, back_lists}
use Rattle.watch_lists.proofs.build.list_both.Goals as goal

pub returns-in-Ok-clause-lists : goal.returns-in-Ok-clause-lists
returns-in-Ok-clause-lists c = both_lists c.args.lists.now c.args.first.0 c.args.second.0 (record { clause = c.args.clause; blocker = c.args.second; start = c.args.start; end = c.args.end }) (record { clause = c.args.clause; blocker = c.args.first; start = c.args.start; end = c.args.end }) c.push.new.self c.push-2.new.self c.index-lists-first.result c.index-lists-second.result c.requires.first c.requires.second c.requires.different c.in_ok-push.ensures.items c.in-Ok.ensures.items

pub returns-in_err-push-clause-err : goal.returns-in_err-push-clause-err
returns-in_err-push-clause-err c = one_list c.from_residual.result c.args.lists.now c.args.first.0 c.push.new.self c.index-lists-first.result c.in_err-push.ensures.items

pub returns-in-Err-clause-err : goal.returns-in-Err-clause-err
returns-in-Err-clause-err c = back_lists c.args.lists.now c.args.first.0 c.args.second.0 (record { clause = c.args.clause; blocker = c.args.second; start = c.args.start; end = c.args.end }) c.push.new.self c.push-2.new.self c.pop.new.self c.index-lists-first.result c.index-lists-second.result c.index-lists-first-in-Err.result c.requires.first c.requires.different c.in_ok-push.ensures.items c.in-Err.ensures.items c.pop.ensures.rest
