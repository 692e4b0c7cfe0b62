use Rattle.std.proofs.Common.{arith, take}
use Rattle.lemma_checker.specs.Clauses.{IsOver}
use Rattle.watch_lists.proofs.BuildLemmas.{take_clause}
use Rattle.watch_lists.proofs.watches.Watches.of.Goals as goal

pub add-requires-clause-over : goal.add-requires-clause-over
add-requires-clause-over c =
    let over : IsOver c.args.formula.now.vars c.clause-clause.result.now = c.args.formula.now.over.each c.loop-i.i c.clause-clause.result.now c.clause-clause.ensures.value in
    record { low = over.low; high = λ l h. omega (arith, over.high l h, c.loop-i.invariant.size) }

pub loop-i-preserved : goal.loop-i-preserved
loop-i-preserved c = rw (take_clause c.args.formula.now.clauses c.loop-i.i c.clause-clause.result.now c.clause-clause.ensures.value) (c.in_ok-add.ensures.holds c.args.formula.now.vars (take c.loop-i.i c.args.formula.now.clauses) c.loop-i.invariant)
