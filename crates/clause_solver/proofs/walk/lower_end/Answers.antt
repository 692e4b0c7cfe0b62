use Rattle.std.proofs.Common.{arith, ap, sym, ◌∙◌, ◌≡◌, ◌-◌, ◌+◌, ℕ, true, take, subst}
use Rattle.std.proofs.lemmas.Option.{slice_get-get_or}
use Rattle.lemma_checker.specs.Clauses.{at, has, opposite}
use Rattle.clause_solver.proofs.WalkLemmas.{end_less}
use Rattle.clause_solver.proofs.walk.lower_end.Goals as goal

pub loop-low-preserved : goal.loop-low-preserved
loop-low-preserved c =
    let more : c.loop-low.low ≡ (c.loop-low.low - 1) + 1 = omega arith in
    record {
      within = omega (arith, c.loop-low.invariant.within);
      before = end_less (at c.args.seen.now) c.args.literals.now c.args.i (c.loop-low.low - 1) _
          (slice_get-get_or c.args.literals.now (c.loop-low.low - 1) (record { 0 = 0 }) (omega (arith, c.loop-low.invariant.within)))
          (ap (at c.args.seen.now) (sym c.opposite.ensures) ∙ (sym c.is_marked.ensures ∙ c.if-is_marked.false))
          (λ l h there. subst (λ (k : ℕ). has (opposite l) (take k c.args.literals.now) ≡ true) more (c.loop-low.invariant.before l h there));
    }
