use Rattle.watch_lists.specs.Watches.{Holds}
use Rattle.watch_lists.proofs.ClosedLemmas.{closed_exactly, given_of, conflict_of}
use Rattle.watch_lists.proofs.watches.Watches.propagate.Goals as goal

pub returns-clause-closed : goal.returns-clause-closed
returns-clause-closed c = λ vars clauses h. closed_exactly c.in_ok-told.told clauses c.args.trail.now.literals.items c.run.new.trail.literals.items (c.in_ok-told.ensures.told vars clauses h) (c.in_ok-told.ensures.least vars clauses h) (c.in_ok-told.ensures.only_appends vars clauses h).front

pub returns-clause-given : goal.returns-clause-given
returns-clause-given c = given_of c.in_ok-told.told (Holds c.args.self.now) c.args.trail.now.literals.items c.run.new.trail.literals.items c.in_ok-told.ensures.told c.in_ok-told.ensures.least (λ vars clauses h. (c.in_ok-told.ensures.only_appends vars clauses h).front)

pub returns-clause-conflict : goal.returns-clause-conflict
returns-clause-conflict c = conflict_of c.in_ok-told.told (Holds c.args.self.now) c.run.new.trail.literals.items c.in_ok-told.ensures.told
