use Rattle.std.proofs.Common.{arith, ap, refl, ◌∙◌, ◌≡◌, ◌<◌, ◌-◌, ◌++◌, ℕ, List, ◌+◌, length, get_or, slice_get, Some, subst, inl, inr}
use Rattle.std.proofs.lemmas.Bool.{cases_lt}
use Rattle.std.proofs.lemmas.Option.{slice_get_read, slice_get_within, slice_get-get_or}
use Rattle.lemma_checker.specs.declared.literal.Literal.{Literal}
use Rattle.lemma_checker.specs.Clauses.{at, opposite}
use Rattle.clause_solver.specs.Walks.{IsClearing, AreRising}
use Rattle.clause_solver.proofs.WalkLemmas.{clear_start, cleared, stop_second, stop_alone}
use Rattle.clause_solver.proofs.analysis.clear_bottom.Goals as goal

pub loop-p-init : goal.loop-p-init
loop-p-init c = record {
  within = omega arith;
  clearing = clear_start (length c.args.trail.now.values.items) (c.args.formula.now ++ c.args.added.now) c.args.trail.now.literals.items (c.args.i + 1) c.index-bottom.result.now c.args.seen.now c.args.touched.now.items c.args.chain.now.ids.items c.args.chain.now.pivots.items c.requires.stops.walk;
}

pub loop-p-preserved : goal.loop-p-preserved
loop-p-preserved c =
    let back : c.loop-p.p ≡ (c.loop-p.p - 1) + 1 = omega arith in
    record {
      within = omega (arith, c.loop-p.invariant.within);
      clearing = c.in_ok-clear_at.ensures c.index-bottom.result.now (at c.args.seen.now) (omega (arith, c.loop-p.invariant.within)) (subst (λ (q : ℕ). IsClearing (length c.args.trail.now.values.items) (c.args.formula.now ++ c.args.added.now) c.args.trail.now.literals.items c.index-bottom.result.now q (at c.args.seen.now) c.loop-p.seen c.loop-p.touched.items c.loop-p.chain.ids.items c.loop-p.chain.pivots.items) back c.loop-p.invariant.clearing);
    }

pub returns-clause-stop : goal.returns-clause-stop
returns-clause-stop c =
    let t : List Literal = c.args.trail.now.literals.items in
    let ss : List ℕ = c.args.trail.now.starts.items in
    let found = c.requires.stops.found in
    let rising : AreRising ss = record { each = c.requires.trail.rising } in
    let k_in : c.args.found.level < length ss = slice_get_within ss c.args.found.level found.between.place found.between.is in
    let low_is : slice_get ss 0 ≡ Some c.index-bottom.result.now = slice_get_read ss (length ss) 0 c.index-bottom.result.now refl (omega arith) c.index-bottom.ensures in
    let x_is : slice_get t c.args.i ≡ Some c.index.result.now = slice_get_read t (length t) c.args.i c.index.result.now refl c.requires.within c.index.ensures in
    let done = cleared (length c.args.trail.now.values.items) (c.args.formula.now ++ c.args.added.now) t c.index-bottom.result.now c.loop-p.p (at c.args.seen.now) c.loop-p.seen c.loop-p.touched.items c.loop-p.chain.ids.items c.loop-p.chain.pivots.items (omega arith) c.loop-p.invariant.clearing in
    elim (cases_lt c.index-bottom.result.now c.args.found.low) [
      | inl above ↦
          let y : Literal = get_or t (c.args.found.low - 1) (record { 0 = 0 }) in
          let y_is : slice_get t (c.args.found.low - 1) ≡ Some y = slice_get-get_or t (c.args.found.low - 1) (record { 0 = 0 }) (omega (arith, found.end.within, c.requires.within)) in
          let y_at : slice_get c.as_slice.result.now (c.args.found.low - 1) ≡ Some y = ap (λ (z : List Literal). slice_get z (c.args.found.low - 1)) c.as_slice.ensures.value ∙ y_is in
          rw (c.opposite-literal.ensures, c.last_denied-second.ensures.high y above y_at)
          (stop_second (length c.args.trail.now.values.items) (c.args.formula.now ++ c.args.added.now) t ss c.args.i c.args.seen.now c.args.touched.now.items c.args.chain.now.ids.items c.args.chain.now.pivots.items c.index.result.now y c.args.found.level c.args.found.low c.index-bottom.result.now (at c.loop-p.seen) c.requires.trail.apart c.requires.trail.once rising low_is c.requires.stops.walk x_is (c.requires.stops.marked.each c.index.result.now x_is) found done above y_is)
      | inr under ↦
          let same : c.last_denied-second.result.0 ≡ opposite c.index.result.now.0 = ap (λ (z : Literal). z.0) (c.last_denied-second.ensures.low under) ∙ c.opposite-literal.ensures in
          rw (c.opposite-literal.ensures, same)
          (stop_alone (length c.args.trail.now.values.items) (c.args.formula.now ++ c.args.added.now) t ss c.args.i c.args.seen.now c.args.touched.now.items c.args.chain.now.ids.items c.args.chain.now.pivots.items c.index.result.now c.args.found.level c.args.found.low c.index-bottom.result.now (at c.loop-p.seen) c.requires.trail.apart c.requires.trail.once rising low_is c.requires.stops.walk x_is (c.requires.stops.marked.each c.index.result.now x_is) found done under)
    ]
