use Rattle.std.proofs.Common.{sym, ap, refl, subst, ◌≡◌, ◌∙◌, ◌*◌, ◌+◌, ◌++◌, [], ℕ, length, false}
use Rattle.std.proofs.lemmas.List.{length-replicate, append-nil}
use Rattle.watch_lists.specs.Watches.{Holds}
use Rattle.watch_lists.proofs.StartLemmas.{trail_start, start_fits}
use Rattle.clause_solver.specs.Solver.{SolvedIs}
use Rattle.clause_solver.proofs.SolverLemmas.{none_new}
use Rattle.clause_solver.proofs.AnswerLemmas.{solved_same, about_of, full_of, news_of, quiet_of, small_of}
use Rattle.clause_solver.proofs.solver.solve_leading.Goals as goal

pub rounds-requires-clause-ready : goal.rounds-requires-clause-ready
rounds-requires-clause-ready c =
    let e = c.in_ok-trail.ensures.empty in
    let joined : c.args.formula.clauses ++ [] ≡ c.args.formula.clauses = append-nil c.args.formula.clauses in
    let held : Holds c.in_ok-watches.watches c.args.formula.vars (c.args.formula.clauses ++ []) = subst (Holds c.in_ok-watches.watches c.args.formula.vars) (sym joined) c.in_ok-watches.ensures in
    record {
      state = record {
        of = rw (e.0, e.1.0, e.1.1.0) (trail_start _ _ _ e.1.1.1);
        size = ap length e.1.1.1 ∙ (length-replicate _ false ∙ ap (λ (v : ℕ). 2 * v + 2) (sym c.of-lemmas.ensures.vars));
        news = none_new _ _ c.of-lemmas.ensures.added;
      };
      holds = rw (c.of-lemmas.ensures.vars, c.of-lemmas.ensures.clauses, c.of-lemmas.ensures.added) held;
      fits = start_fits c.in_ok-watches.watches c.args.formula.vars c.args.formula.clauses c.in_ok-trail.trail c.in_ok-watches.ensures e.0 e.1.0 e.1.1.0 e.1.1.1 c.in_ok-trail.ensures.done;
    }

pub returns-clause-answer : goal.returns-clause-answer
returns-clause-answer c = solved_same c.in_ok-solved.solved _ _ _ _ c.of-lemmas.ensures.vars c.of-lemmas.ensures.clauses refl c.in_ok-solved.ensures

pub returns-clause-same_formula : goal.returns-clause-same_formula
returns-clause-same_formula c =
    let a : SolvedIs c.in_ok-solved.solved c.args.formula c.args.budget = solved_same c.in_ok-solved.solved _ _ _ _ c.of-lemmas.ensures.vars c.of-lemmas.ensures.clauses refl c.in_ok-solved.ensures in
    about_of c.in_ok-solved.solved c.args.formula c.args.budget a

pub returns-clause-spent_full : goal.returns-clause-spent_full
returns-clause-spent_full c = full_of c.in_ok-solved.solved _ c.args.budget c.in_ok-solved.ensures

pub returns-clause-spent_new : goal.returns-clause-spent_new
returns-clause-spent_new c = news_of c.in_ok-solved.solved _ c.args.budget c.in_ok-solved.ensures

pub returns-clause-spent_no_conflict : goal.returns-clause-spent_no_conflict
returns-clause-spent_no_conflict c = quiet_of c.in_ok-solved.solved _ c.args.budget c.in_ok-solved.ensures

pub returns-clause-spent_not_small : goal.returns-clause-spent_not_small
returns-clause-spent_not_small c = small_of c.in_ok-solved.solved _ c.args.budget c.in_ok-solved.ensures
