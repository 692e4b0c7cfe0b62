use Rattle.std.proofs.Common.{arith, refl, sym, ◌∙◌}
use Rattle.std.proofs.lemmas.List.{length-map}
use Rattle.lemma_checker.specs.Checker.{link}
use Rattle.clause_solver.specs.Solver.{all_of}
use Rattle.clause_solver.proofs.SolverLemmas.{settled_quiet, new_proper}
use Rattle.clause_solver.proofs.FewLemmas.{few_new}
use Rattle.clause_solver.proofs.solver.conclude.Goals as goal

pub propagate-requires : goal.propagate-requires
propagate-requires c = record { fits = c.to_bottom.ensures.fits c.args.watches.now c.args.lemmas.formula.vars (all_of c.args.lemmas) c.requires.ready.holds c.requires.ready.state.of c.requires.ready.fits }

pub returns-in_default : goal.returns-in_default
returns-in_default c =
    let settled = rw c.in_default.is at (c.in_ok-conflict.ensures.told c.args.lemmas.formula.vars (all_of c.args.lemmas) c.requires.ready.holds) in
    record {
      about = record { same_vars = refl; same_clauses = refl };
      full = omega arith;
      chains = sym (length-map c.args.lemmas.chains.items link) ∙ c.args.lemmas.derived.lengths;
      news = c.requires.ready.state.news;
      proper = λ i d is. new_proper _ d (c.requires.ready.state.news.each i d is);
      quiet = settled_quiet _ _ settled;
      small = few_new c.args.lemmas.formula.vars c.args.lemmas.formula.clauses c.args.lemmas.added c.requires.ready.state.news c.args.lemmas.over;
    }

pub settle-requires-clause-trail : goal.settle-requires-clause-trail
settle-requires-clause-trail c = c.in_ok-conflict.ensures.trail c.args.lemmas.formula.vars (all_of c.args.lemmas) c.requires.ready.holds (c.to_bottom.ensures.trail (all_of c.args.lemmas) c.requires.ready.state.of)

pub settle-requires-clause-size : goal.settle-requires-clause-size
settle-requires-clause-size c = c.in_ok-conflict.ensures.size ∙ (c.to_bottom.ensures.size ∙ c.requires.ready.state.size)

pub settle-requires-clause-conflict : goal.settle-requires-clause-conflict
settle-requires-clause-conflict c = rw c.in-Some.is at (c.in_ok-conflict.ensures.told c.args.lemmas.formula.vars (all_of c.args.lemmas) c.requires.ready.holds)

pub settle-requires-clause-seen : goal.settle-requires-clause-seen
settle-requires-clause-seen c = c.requires.seen ∙ sym (c.in_ok-conflict.ensures.size ∙ (c.to_bottom.ensures.size ∙ c.requires.ready.state.size))

pub finish-requires-clause-ready : goal.finish-requires-clause-ready
finish-requires-clause-ready c = record {
  state = record {
    of = c.in_ok-conflict.ensures.trail c.args.lemmas.formula.vars (all_of c.args.lemmas) c.requires.ready.holds (c.to_bottom.ensures.trail (all_of c.args.lemmas) c.requires.ready.state.of);
    size = c.in_ok-conflict.ensures.size ∙ (c.to_bottom.ensures.size ∙ c.requires.ready.state.size);
    news = c.requires.ready.state.news;
  };
  holds = c.in_ok-conflict.ensures.same_clauses c.args.lemmas.formula.vars (all_of c.args.lemmas) c.requires.ready.holds;
  fits = c.in_ok-conflict.ensures.stays_fitting;
}
