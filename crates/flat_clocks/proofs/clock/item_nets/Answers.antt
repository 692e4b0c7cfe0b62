use Rattle.std.proofs.Common.{◌≡◌, ◌∙◌, ◌||◌, ◌+◌, sym, ap, subst, refl, length, inl, inr, ℕ, List, [], ◌∷◌, take, Option, Some}
use Rattle.std.specs.Prelude.{slice_get}
use Rattle.std.proofs.lemmas.List.{length-append}
use Rattle.std.proofs.lemmas.Option.{slice_get_read}
use Rattle.flat_design.specs.declared.net.Net.{Net}
use Rattle.flat_design.specs.declared.item.FlatItem.{FlatItem}
use Rattle.flat_drives.proofs.Steps.{any_more, pushed_at, some_same}
use Rattle.flat_clocks.specs.Signals.{item_clock, item_reset, differ}
use Rattle.flat_clocks.specs.Least.{IsLeastOf, OffendsBy}
use Rattle.flat_clocks.proofs.clock.item_nets.Goals as goal

moved : (nets : List Net) (sources table : List (Option ℕ)) (items : List FlatItem) (i k : ℕ) (x y : FlatItem) (a b : Option ℕ) → i ≡ k → x ≡ y → a ≡ b → IsLeastOf (OffendsBy nets sources table (take i items) x) a → IsLeastOf (OffendsBy nets sources table (take k items) y) b
moved nets sources table items i k x y a b e f g h =
    subst (λ c. IsLeastOf (OffendsBy nets sources table (take k items) y) c) g (subst (λ z. IsLeastOf (OffendsBy nets sources table (take k items) z) a) f (subst (λ n. IsLeastOf (OffendsBy nets sources table (take n items) x) a) e h))

pub loop-item-preserved : goal.loop-item-preserved
loop-item-preserved c =
    let items = c.args.items.now in
    let sources = c.args.sources.now in
    let here : slice_get items c.loop-item.item-index ≡ Some c.item-item.result = slice_get_read items (length items) c.loop-item.item-index c.item-item.result refl c.loop-item-test.true c.item-item.is in
    record {
      long = ap length c.in_ok-push.ensures.items ∙ length-append c.loop-item.found.items (c.in_ok-net.net ∷ []) ∙ (λ i. c.loop-item.invariant.long i + 1);
      clocks = λ s. c.with-clocks.ensures s ∙ (λ i. c.loop-item.invariant.clocks s i || differ (c.item_clock.ensures i) s) ∙ sym (any_more (λ x. differ (item_clock sources x) s) items c.loop-item.item-index c.item-item.result here);
      resets = λ s. c.with-resets.ensures s ∙ (λ i. c.loop-item.invariant.resets s i || differ (c.item_reset.ensures i) s) ∙ sym (any_more (λ x. differ (item_reset sources x) s) items c.loop-item.item-index c.item-item.result here);
      each = λ k x o at g. elim (pushed_at c.loop-item.found.items c.in_ok-net.net k o (ap (λ l. slice_get l k) (sym c.in_ok-push.ensures.items) ∙ g)) [
        | inl old ↦ c.loop-item.invariant.each k x o at old
        | inr now ↦
            let e : c.loop-item.item-index ≡ k = sym c.loop-item.invariant.long ∙ sym now.0 in
            moved c.args.nets.now sources c.args.table.now items c.loop-item.item-index k c.item-item.result x c.in_ok-net.net o e (some_same (sym here ∙ ap (slice_get items) e ∙ at)) now.1
            (c.in_ok-net.ensures (take c.loop-item.item-index items) c.loop-item.invariant.clocks c.loop-item.invariant.resets)
      ];
    }
