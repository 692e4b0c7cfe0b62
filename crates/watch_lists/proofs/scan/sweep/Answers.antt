use Rattle.std.proofs.Common.{arith, ℕ, ◌≡◌, ◌≤◌, ◌+◌, ◌∙◌, ap, ◌++◌, length, length-append, sym, set, true, not}
use Rattle.std.specs.List.{count_by}
use Rattle.std.specs.Option.{option_copied}
use Rattle.lemma_checker.specs.Clauses.{at}
use Rattle.lemma_checker.proofs.CollectLemmas.{has_push_old}
use Rattle.watch_lists.specs.Scans.{IsUnitNumber, AreWithin}
use Rattle.watch_lists.proofs.TrailLemmas.{unit_step, unit_least, unit_fewer, quiet_next}
use Rattle.watch_lists.proofs.scan.sweep.Goals as goal
use Rattle.watch_lists.proofs.scan.sweep.Goals.{in-Quiet, in-Unit+in_ok-push-in-Unit}

pub loop-number-preserved : goal.loop-number-preserved
loop-number-preserved c =
    let i = c.loop-number.invariant in
    let at_c = sym c.clause_at.ensures ∙ ap option_copied c.in-Some.is in
    elim c.match-status_of.branch [
      | in-Quiet w ↦
          let quiet = rw c.as_slice.ensures.value at w.in-Quiet.ensures in
          rw (w.trail-is, w.more-is) (record {
            trail = i.trail;
            size = i.size;
            starts = i.starts;
            least = i.least;
            kept = i.kept;
            fewer = i.fewer;
            falls = i.falls;
            quiet = λ e. quiet_next (c.args.formula.now ++ c.args.added.now) _ c.loop-number.number _ at_c (i.quiet e) quiet;
          })
      | in-Unit+in_ok-push-in-Unit w ↦
          let forced = rw c.as_slice.ensures.value at w.in-Unit.ensures in
          let few : c.loop-number.number ≤ length (c.args.formula.now ++ c.args.added.now) = omega (arith, length-append c.args.formula.now c.args.added.now) in
          let u : IsUnitNumber (c.args.formula.now ++ c.args.added.now) c.loop-number.number w.in-Unit.literal.0 (at c.loop-number.trail.values.items) = record { few = few; clause = c.in-Some.clause.now; is = at_c; forced = forced } in
          let within : AreWithin (length c.loop-number.trail.values.items) (c.args.formula.now ++ c.args.added.now) = rw i.size c.requires.over in
          let one : count_by not (set c.loop-number.trail.values.items w.in-Unit.literal.0 true) + 1 ≡ count_by not c.loop-number.trail.values.items = unit_fewer _ _ _ _ within u in
          let less : count_by not w.push.new.self.values.items + 1 ≡ count_by not c.loop-number.trail.values.items = ap (λ (n : ℕ). n + 1) (ap (count_by not) w.in_ok-push-in-Unit.ensures.values) ∙ one in
          rw (w.trail-is, w.more-is) (record {
            trail = rw (w.push.ensures.size, w.in_ok-push-in-Unit.ensures.literals, w.in_ok-push-in-Unit.ensures.reasons, w.in_ok-push-in-Unit.ensures.values, w.push.ensures.starts) (unit_step _ _ _ _ _ _ _ _ i.trail within u);
            size = w.push.ensures.size ∙ i.size;
            starts = w.push.ensures.starts ∙ i.starts;
            least = λ from inside. rw w.in_ok-push-in-Unit.ensures.literals (unit_least _ _ _ _ _ _ _ _ _ i.trail u (i.least from inside));
            kept = λ k h. rw w.in_ok-push-in-Unit.ensures.literals (has_push_old k _ _ (i.kept k h));
            fewer = omega (arith, i.fewer, less);
            falls = λ e. omega (arith, i.fewer, less);
            quiet = λ e. absurd (cc);
          })
    ]
