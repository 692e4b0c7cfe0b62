use Rattle.std.proofs.Common.{◌∙◌, ap, subst, length, length-set, true, Ok, ◌≡◌, List, ℕ}
use Rattle.lemma_checker.specs.declared.literal.Literal.{Literal}
use Rattle.watch_lists.specs.Scans.{IsTrailOf}
use Rattle.watch_lists.specs.Watches.{Holds}
use Rattle.clause_solver.specs.Solver.{all_of, AreAssigned}
use Rattle.clause_solver.proofs.SolverLemmas.{choose_step}
use Rattle.clause_solver.proofs.WatchLemmas.{choose_fits}
use Rattle.clause_solver.proofs.search.descend.Goals as goal

pub descent-preserved : goal.descent-preserved
descent-preserved c =
    let i = c.descent.invariant in
    let vars : ℕ = c.args.lemmas.now.formula.vars in
    let cs : List (List Literal) = all_of c.args.lemmas.now in
    let told = c.in_ok-told.ensures.told vars cs i.holds in
    let settled = rw c.in_default.is at told in
    let of : IsTrailOf cs c.propagate.new.trail = c.in_ok-told.ensures.trail vars cs i.holds i.state.of in
    let holds : Holds c.propagate.new.self vars cs = c.in_ok-told.ensures.same_clauses vars cs i.holds in
    let free = rw c.as_slice-in-descent.ensures.value at c.in-Some-free_literal.ensures.some in
    let e = c.in_ok-choose-in-Some-free_literal.ensures in
    let x = c.in-Some-free_literal.literal in
    let long : length c.choose.new.self.values.items ≡ length c.propagate.new.trail.values.items = ap length e.values ∙ length-set c.propagate.new.trail.values.items x.0 true in
    let size = c.in_ok-told.ensures.size ∙ i.state.size in
    record {
      state = record {
        of = rw (long, e.literals, e.reasons, e.values, e.starts) (choose_step _ vars cs _ _ _ _ x of settled size free);
        size = long ∙ size;
        news = i.state.news;
      };
      holds = holds;
      fits = choose_fits c.propagate.new.self vars cs c.propagate.new.trail c.choose.new.self x holds c.in_ok-told.ensures.stays_fitting of.same (c.propagate.ensures.done (c.in_ok-told.was ∙ ap Ok c.in_default.is)) free e.literals e.reasons e.values e.starts c.choose.ensures.done;
    }

pub returns-in-Some-clause-state : goal.returns-in-Some-clause-state
returns-in-Some-clause-state c =
    let i = c.descent.invariant in
    record { of = c.in_ok-told.ensures.trail c.args.lemmas.now.formula.vars (all_of c.args.lemmas.now) i.holds i.state.of; size = c.in_ok-told.ensures.size ∙ i.state.size; news = i.state.news }

pub returns-in-Some-clause-end : goal.returns-in-Some-clause-end
returns-in-Some-clause-end c =
    let told = c.in_ok-told.ensures.told c.args.lemmas.now.formula.vars (all_of c.args.lemmas.now) c.descent.invariant.holds in
    rw c.in-Some.is at told

pub returns-in-Some-clause-holds : goal.returns-in-Some-clause-holds
returns-in-Some-clause-holds c = c.in_ok-told.ensures.same_clauses c.args.lemmas.now.formula.vars (all_of c.args.lemmas.now) c.descent.invariant.holds

pub returns-in-None-clause-state : goal.returns-in-None-clause-state
returns-in-None-clause-state c =
    let i = c.descent.invariant in
    record { of = c.in_ok-told.ensures.trail c.args.lemmas.now.formula.vars (all_of c.args.lemmas.now) i.holds i.state.of; size = c.in_ok-told.ensures.size ∙ i.state.size; news = i.state.news }

pub returns-in-None-clause-end : goal.returns-in-None-clause-end
returns-in-None-clause-end c =
    let i = c.descent.invariant in
    let told = c.in_ok-told.ensures.told c.args.lemmas.now.formula.vars (all_of c.args.lemmas.now) i.holds in
    let of : IsTrailOf (all_of c.args.lemmas.now) c.propagate.new.trail = c.in_ok-told.ensures.trail c.args.lemmas.now.formula.vars (all_of c.args.lemmas.now) i.holds i.state.of in
    let assigned = rw c.as_slice-in-descent.ensures.value at c.in-None.ensures.none in
    record { settled = rw c.in_default.is at told; assigned = subst (AreAssigned c.args.lemmas.now.formula.vars) of.same assigned }

pub returns-in-None-clause-holds : goal.returns-in-None-clause-holds
returns-in-None-clause-holds c = c.in_ok-told.ensures.same_clauses c.args.lemmas.now.formula.vars (all_of c.args.lemmas.now) c.descent.invariant.holds
