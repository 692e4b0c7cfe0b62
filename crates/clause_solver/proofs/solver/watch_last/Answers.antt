use Rattle.std.proofs.Common.{◌≡◌, ◌-◌, ◌++◌, ◌∷◌, [], ◌∙◌, List, length, arith, sym, Some, slice_get, subst}
use Rattle.std.proofs.lemmas.Option.{same_Some}
use Rattle.lemma_checker.specs.declared.literal.Literal.{Literal}
use Rattle.lemma_checker.specs.Clauses.{IsOver}
use Rattle.watch_lists.specs.Watches.{Holds, ArePairGuarded}
use Rattle.clause_solver.proofs.WatchLemmas.{pair_or_one}
use Rattle.clause_solver.proofs.solver.watch_last.Goals as goal

pub add-requires-clause-over : goal.add-requires-clause-over
add-requires-clause-over c =
    let over : IsOver c.args.lemmas.now.formula.vars c.clause-clause.result.now = c.args.lemmas.now.over.each (c.len-last.result - 1) c.clause-clause.result.now c.clause-clause.ensures.value in
    record { low = over.low; high = λ l h. omega (arith, over.high l h, c.requires.size) }

pub add-requires-clause-pair : goal.add-requires-clause-pair
add-requires-clause-pair c = λ long.
    let value : slice_get c.args.lemmas.now.added (length c.args.lemmas.now.added - 1) ≡ Some c.clause-clause.result.now = rw c.len-last.ensures at c.clause-clause.ensures.value in
    pair_or_one c.clause-clause.result.now c.args.stop.literal.0 c.args.stop.second.0 c.clause-clause.ensures.distinct (c.requires.pair c.clause-clause.result.now value) long

pub returns-clause-holds : goal.returns-clause-holds
returns-clause-holds c = λ vars clauses d is h.
    let value : slice_get c.args.lemmas.now.added (length c.args.lemmas.now.added - 1) ≡ Some c.clause-clause.result.now = rw c.len-last.ensures at c.clause-clause.ensures.value in
    let same : c.clause-clause.result.now ≡ d = same_Some c.clause-clause.result.now d (sym value ∙ is) in
    subst (λ (e : List Literal). Holds c.add.new.self vars (clauses ++ e ∷ [])) same (c.in_ok-add.ensures.holds vars clauses h)

pub returns-clause-fits : goal.returns-clause-fits
returns-clause-fits c = λ t d is f g.
    let value : slice_get c.args.lemmas.now.added (length c.args.lemmas.now.added - 1) ≡ Some c.clause-clause.result.now = rw c.len-last.ensures at c.clause-clause.ensures.value in
    let same : c.clause-clause.result.now ≡ d = same_Some c.clause-clause.result.now d (sym value ∙ is) in
    c.in_ok-add.ensures.fits t f (λ _. subst (λ (e : List Literal). ArePairGuarded e c.args.stop.literal.0 c.args.stop.second.0 t) (sym same) g)
