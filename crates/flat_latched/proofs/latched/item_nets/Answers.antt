use Rattle.std.proofs.Common.{◌≡◌, ◌∙◌, ◌+◌, sym, ap, subst, refl, length, inl, inr, [], ◌∷◌, Some}
use Rattle.std.specs.Prelude.{slice_get}
use Rattle.std.proofs.lemmas.List.{length-append}
use Rattle.std.proofs.lemmas.Option.{slice_get_read}
use Rattle.flat_drives.proofs.Steps.{pushed_at}
use Rattle.flat_latched.specs.Least.{IsNetOf}
use Rattle.flat_latched.proofs.Firsts.{some_same}
use Rattle.flat_latched.proofs.latched.item_nets.Goals as goal

pub loop-item-preserved : goal.loop-item-preserved
loop-item-preserved c =
    let items = c.args.items.now in
    let here : slice_get items c.loop-item.item-index ≡ Some c.item-item.result = slice_get_read items (length items) c.loop-item.item-index c.item-item.result refl c.loop-item-test.true c.item-item.is in
    record {
      long = ap length c.in_ok-push.ensures.items ∙ length-append c.loop-item.found.items (c.in_ok-net.net ∷ []) ∙ (λ i. c.loop-item.invariant.long i + 1);
      each = λ k x o at g. elim (pushed_at c.loop-item.found.items c.in_ok-net.net k o (ap (λ l. slice_get l k) (sym c.in_ok-push.ensures.items) ∙ g)) [
        | inl old ↦ c.loop-item.invariant.each k x o at old
        | inr now ↦
            let e : c.loop-item.item-index ≡ k = sym c.loop-item.invariant.long ∙ sym now.0 in
            let same = some_same (sym here ∙ ap (slice_get items) e ∙ at) in
            subst (λ p. IsNetOf c.args.nets.now x p) now.1 (subst (λ y. IsNetOf c.args.nets.now y c.in_ok-net.net) same c.in_ok-net.ensures)
      ];
    }
