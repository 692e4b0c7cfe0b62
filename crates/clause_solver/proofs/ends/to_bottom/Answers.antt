use Rattle.std.proofs.Common.{arith, ◌≡◌, ◌<◌, ◌∙◌, ℕ, List, sym, ap, inl, inr, length, slice_get, Some, get_or, true≢false, eq-eqb}
use Rattle.std.proofs.lemmas.Bool.{cases_eq}
use Rattle.std.proofs.lemmas.Option.{slice_get-get_or}
use Rattle.watch_lists.proofs.FitLemmas.{cut_fits}
use Rattle.clause_solver.proofs.SolverLemmas.{bottom_trail}
use Rattle.clause_solver.proofs.ends.to_bottom.Goals as goal

pub returns-clause-trail : goal.returns-clause-trail
returns-clause-trail c = λ cs tr.
    let some : 0 < length c.as_slice-starts.result.now = elim (cases_eq (length c.as_slice-starts.result.now) 0) [
      | inl e ↦ absurd (true≢false (sym (eq-eqb (length c.as_slice-starts.result.now) 0 e) ∙ (sym c.is_empty.ensures ∙ c.if-is_empty.false)))
      | inr ne ↦ omega arith
    ] in
    let place_is : slice_get c.args.trail.now.starts.items 0 ≡ Some (get_or c.as_slice-starts.result.now 0 0) = ap (λ (xs : List ℕ). slice_get xs 0) (sym c.as_slice-starts.ensures.value) ∙ slice_get-get_or c.as_slice-starts.result.now 0 0 some in
    rw (c.cut.ensures.size, c.cut.ensures.literals, c.cut.ensures.reasons, c.cut.ensures.starts) (bottom_trail _ cs _ _ _ _ _ _ tr place_is c.cut.ensures.size c.cut.ensures.values)

pub returns-clause-fits : goal.returns-clause-fits
returns-clause-fits c = λ w vars cs h tr f.
    let some : 0 < length c.as_slice-starts.result.now = elim (cases_eq (length c.as_slice-starts.result.now) 0) [
      | inl e ↦ absurd (true≢false (sym (eq-eqb (length c.as_slice-starts.result.now) 0 e) ∙ (sym c.is_empty.ensures ∙ c.if-is_empty.false)))
      | inr ne ↦ omega arith
    ] in
    let place : ℕ = get_or c.as_slice-starts.result.now 0 0 in
    let place_is : slice_get c.args.trail.now.starts.items 0 ≡ Some place = ap (λ (xs : List ℕ). slice_get xs 0) (sym c.as_slice-starts.ensures.value) ∙ slice_get-get_or c.as_slice-starts.result.now 0 0 some in
    cut_fits w vars cs c.args.trail.now c.cut.new.self 0 place h f (record { each = tr.rising }) place_is (tr.settled 0 place place_is) (record { literals = c.cut.ensures.literals; reasons = c.cut.ensures.reasons; starts = c.cut.ensures.starts; values = c.cut.ensures.values; size = c.cut.ensures.size; done = omega (arith, c.cut.ensures.done) })
