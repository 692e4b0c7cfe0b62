use Rattle.std.proofs.Common.{◌≡◌, ◌+◌, ◌*◌, ap, ◌∙◌, sym, get_or, length, Bool, true, false, arith, length-set, Ok, List, ℕ}
use Rattle.std.proofs.lemmas.List.{append-nil, length-replicate}
use Rattle.lemma_checker.specs.declared.literal.Literal.{Literal}
use Rattle.lemma_checker.specs.Clauses.{opposite}
use Rattle.watch_lists.specs.Scans.{IsTrailOf}
use Rattle.watch_lists.specs.Watches.{Holds, Fits}
use Rattle.watch_lists.proofs.StartLemmas.{trail_start, start_fits}
use Rattle.watch_lists.proofs.TrailLemmas.{trail_choose}
use Rattle.watch_lists.proofs.FitLemmas.{chosen_fits}
use Rattle.watch_lists.proofs.WatchLists.{length_lists}
use Rattle.solver_tests.proofs.watches.same.Goals as goal

pub loop-choice-init : goal.loop-choice-init
loop-choice-init c =
    let e = c.in_ok-plain.ensures.empty in
    let d = c.in_ok-watched.ensures.empty in
    record {
      of = rw (e.0, e.1.0, e.1.1.0) (trail_start _ _ _ e.1.1.1);
      size = ap length e.1.1.1 ∙ length-replicate (2 * c.args.formula.now.vars + 2) false;
      holds = c.in_ok-watches.ensures;
      fits = start_fits c.in_ok-watches.watches c.args.formula.now.vars c.args.formula.now.clauses c.in_ok-watched.watched c.in_ok-watches.ensures d.0 d.1.0 d.1.1.0 d.1.1.1 c.in_ok-watched.ensures.done;
    }

pub propagate-requires-clause-over : goal.propagate-requires-clause-over
propagate-requires-clause-over c =
    let size = c.loop-choice.invariant.size in
    rw (c.new-none.ensures, append-nil) (record { low = λ i d l is h. (c.args.formula.now.over.each i d is).low l h; high = λ i d l is h. omega (arith, size, (c.args.formula.now.over.each i d is).high l h) })

pub loop-choice-preserved-then-not-is_open : goal.loop-choice-preserved-then-not-is_open
loop-choice-preserved-then-not-is_open c =
    let i = c.loop-choice.invariant in
    record {
      of = rw (c.new-none.ensures, append-nil) at c.in_ok-first.ensures.trail;
      size = c.propagate.ensures.size ∙ i.size;
      holds = c.in_ok-second.ensures.same_clauses c.args.formula.now.vars c.args.formula.now.clauses i.holds;
      fits = c.in_ok-second.ensures.stays_fitting;
    }

pub loop-choice-preserved : goal.loop-choice-preserved
loop-choice-preserved c =
    let i = c.loop-choice.invariant in
    let vars : ℕ = c.args.formula.now.vars in
    let cs : List (List Literal) = c.args.formula.now.clauses in
    let x : Literal = get_or c.args.choices.now c.loop-choice.choice-index (record { 0 = 0 }) in
    let of : IsTrailOf cs c.propagate.new.trail = rw (c.new-none.ensures, append-nil) at c.in_ok-first.ensures.trail in
    let settled = rw (c.new-none.ensures, append-nil, c.in_default-first.is) at c.in_ok-first.ensures.told in
    let unset = rw c.as_slice-in-loop-choice-2.ensures.value at (c.is_open.ensures c.if-not-is_open.false) in
    let e = c.in_ok-choose.ensures in
    let long : length c.choose.new.self.values.items ≡ length c.propagate.new.trail.values.items = ap length e.values ∙ length-set c.propagate.new.trail.values.items x.0 true in
    let size = c.propagate.ensures.size ∙ i.size in
    let holds : Holds c.propagate-in-loop-choice.new.self vars cs = c.in_ok-second.ensures.same_clauses vars cs i.holds in
    let t = c.propagate-in-loop-choice.new.trail in
    let fits : Fits c.propagate-in-loop-choice.new.self t = c.in_ok-second.ensures.stays_fitting in
    let free = rw c.as_slice-in-loop-choice-3.ensures.value at (c.is_open-in-loop-choice.ensures c.if-not-is_open-2.false) in
    let d = c.in_ok-choose-2.ensures in
    record {
      of = rw (long, e.literals, e.reasons, e.values, e.starts) (trail_choose _ cs _ _ _ _ x of settled unset.1.0 unset.0 (sym (ap (λ (g : ℕ → Bool). g x.0) of.same) ∙ unset.1.1.0) (sym (ap (λ (g : ℕ → Bool). g (opposite x.0)) of.same) ∙ unset.1.1.1));
      size = long ∙ size;
      holds = holds;
      fits = chosen_fits c.propagate-in-loop-choice.new.self t c.choose-in-loop-choice.new.self x fits (c.propagate-in-loop-choice.ensures.done (c.in_ok-second.was ∙ ap Ok c.in_default.is)) (record {
        low = free.0;
        high = omega (arith, free.1.0, fits.watching.plain.size, length_lists c.propagate-in-loop-choice.new.self.lists.items);
        absent = sym (ap (λ (g : ℕ → Bool). g x.0) fits.watching.plain.same) ∙ free.1.1.0;
        free = sym (ap (λ (g : ℕ → Bool). g (opposite x.0)) fits.watching.plain.same) ∙ free.1.1.1;
        literals = d.literals;
        reasons = d.reasons;
        values = d.values;
        done = c.choose-in-loop-choice.ensures.done;
      }) d.starts;
    }
