use Rattle.std.proofs.Common.{arith, ◌∙◌, sym, ap, ◌++◌, Err}
use Rattle.std.specs.Option.{option_copied}
use Rattle.std.proofs.lemmas.Result.{err_from_is_err_and}
use Rattle.lemma_checker.specs.Clauses.{at}
use Rattle.lemma_checker.proofs.ChainSteps.{chain_no_pivot, chain_no_number, chain_no_clause, chain_no_step, chain_step}
use Rattle.lemma_checker.proofs.resolver.follow.Goals as goal

pub returns-then-i-pivots-clause-bad : goal.returns-then-i-pivots-clause-bad
returns-then-i-pivots-clause-bad c = λ _. sym c.loop-i.invariant.rest ∙ chain_no_pivot (c.args.formula.now ++ c.args.added.now) (at c.loop-i.marks) c.args.ids.now c.args.pivots.now c.loop-i.i (omega arith) (omega arith)

pub returns-in_default-clause-bad : goal.returns-in_default-clause-bad
returns-in_default-clause-bad c = λ _. sym c.loop-i.invariant.rest ∙ chain_no_clause (c.args.formula.now ++ c.args.added.now) (at c.loop-i.marks) c.args.ids.now c.args.pivots.now c.loop-i.i (omega arith) (omega arith) (sym c.clause_at.ensures ∙ ap option_copied c.in_default.is)

pub returns-in_err-resolve-clause-bad : goal.returns-in_err-resolve-clause-bad
returns-in_err-resolve-clause-bad c = λ e.
    let p = err_from_is_err_and c.from_residual.result c.from_residual.ensures.1 in
    sym c.loop-i.invariant.rest ∙ chain_no_step (c.args.formula.now ++ c.args.added.now) (at c.loop-i.marks) c.args.ids.now c.args.pivots.now c.loop-i.i c.in-Some.clause.now (omega arith) (omega arith)
    (sym c.clause_at.ensures ∙ ap option_copied c.in-Some.is)
    (c.in_err-resolve.ensures.bad (ap Err (sym p.2) ∙ (sym p.1 ∙ e)))

pub loop-i-preserved : goal.loop-i-preserved
loop-i-preserved c = record {
  lists = c.resolve.ensures.lists;
  rest = sym (chain_step (c.args.formula.now ++ c.args.added.now) (at c.loop-i.marks) (at c.resolve.new.marks) c.args.ids.now c.args.pivots.now c.loop-i.i c.in-Some.clause.now (omega arith) (omega arith)
      (sym c.clause_at.ensures ∙ ap option_copied c.in-Some.is)
      c.in_ok-resolve.ensures.can
      c.in_ok-resolve.ensures.set) ∙ c.loop-i.invariant.rest;
}

pub returns-then-ids-pivots-clause-bad : goal.returns-then-ids-pivots-clause-bad
returns-then-ids-pivots-clause-bad c = λ _. sym c.loop-i.invariant.rest ∙ chain_no_number (c.args.formula.now ++ c.args.added.now) (at c.loop-i.marks) c.args.ids.now c.args.pivots.now c.loop-i.i (omega arith) (omega arith)
