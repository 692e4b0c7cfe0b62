use Rattle.std.proofs.Common.{◌∙◌}
use Rattle.watch_lists.proofs.WatchLists.{copy_other, length_copy}
use Rattle.watch_lists.proofs.visit.look_at_copy.Goals as goal

pub returns-clause-others : goal.returns-clause-others
returns-clause-others c = rw (c.requires.entry.start, c.requires.entry.end) (λ j lt away. copy_other c.args.literals.now c.look_at.new.clause c.args.starts.now c.args.watch.clause j c.requires.table c.requires.entry.below lt away ((rw (c.requires.entry.start, c.requires.entry.end) at c.look_at.auto.clause) ∙ length_copy c.args.literals.now c.args.starts.now c.args.watch.clause c.requires.table c.requires.entry.below))
