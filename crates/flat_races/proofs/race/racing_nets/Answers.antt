use Rattle.std.proofs.Common.{◌≡◌, ◌∙◌, ◌+◌, sym, ap, subst, refl, length, inl, inr, [], ◌∷◌, Some}
use Rattle.std.specs.Prelude.{slice_get}
use Rattle.std.proofs.lemmas.List.{length-append}
use Rattle.std.proofs.lemmas.Option.{slice_get_read}
use Rattle.flat_drives.proofs.Steps.{pushed_at}
use Rattle.flat_races.specs.Readers.{IsLeastIn, racing}
use Rattle.flat_races.proofs.Counts.{some_same}
use Rattle.flat_races.proofs.race.racing_nets.Goals as goal

pub loop-number-preserved : goal.loop-number-preserved
loop-number-preserved c =
    let items = c.args.items.now in
    let nets = c.args.nets.now in
    let readers = c.args.readers.now in
    let here : slice_get items c.loop-number.number ≡ Some c.index-items-number.result = slice_get_read items (length items) c.loop-number.number c.index-items-number.result refl c.loop-number-test.true c.index-items-number.is in
    record {
      long = ap length c.in_ok-push.ensures.items ∙ length-append c.loop-number.found.items (c.in_ok-net.net ∷ []) ∙ (λ i. c.loop-number.invariant.long i + 1);
      each = λ k x o at g. elim (pushed_at c.loop-number.found.items c.in_ok-net.net k o (ap (λ l. slice_get l k) (sym c.in_ok-push.ensures.items) ∙ g)) [
        | inl old ↦ c.loop-number.invariant.each k x o at old
        | inr now ↦
            let e : c.loop-number.number ≡ k = sym c.loop-number.invariant.long ∙ sym now.0 in
            let same = some_same (sym here ∙ ap (slice_get items) e ∙ at) in
            subst (λ p. IsLeastIn (racing nets readers k x) p) now.1 (subst (λ y. IsLeastIn (racing nets readers k y) c.in_ok-net.net) same (subst (λ j. IsLeastIn (racing nets readers j c.index-items-number.result) c.in_ok-net.net) e c.in_ok-net.ensures))
      ];
    }
