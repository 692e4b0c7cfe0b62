use Rattle.std.proofs.Common.{◌≡◌, ◌∙◌, ◌||◌, ◌+◌, ◌<◌, sym, ap, subst, refl, length, inl, inr, arith, ℕ, List, [], ◌∷◌, take, Option, Some}
use Rattle.std.specs.Prelude.{slice_get}
use Rattle.std.proofs.lemmas.List.{length-append}
use Rattle.std.proofs.lemmas.Option.{slice_get_read}
use Rattle.flat_design.specs.declared.net.Net.{Net}
use Rattle.flat_design.specs.declared.item.FlatItem.{FlatItem}
use Rattle.flat_design.specs.Systems.{item_flow}
use Rattle.flat_drives.specs.Drives.{offending}
use Rattle.flat_drives.specs.Least.{IsLeastNet}
use Rattle.flat_drives.proofs.Steps.{any_more, pushed_at, some_same}
use Rattle.flat_drives.proofs.offending.item_nets.Goals as goal

moved : (owners : List ℕ) (nets : List Net) (items : List FlatItem) (i k : ℕ) (x y : FlatItem) (a b : Option ℕ) → i ≡ k → x ≡ y → a ≡ b → IsLeastNet owners (offending nets (take i items) items x) a → IsLeastNet owners (offending nets (take k items) items y) b
moved owners nets items i k x y a b e f g h =
    subst (λ c. IsLeastNet owners (offending nets (take k items) items y) c) g (subst (λ z. IsLeastNet owners (offending nets (take k items) items z) a) f (subst (λ n. IsLeastNet owners (offending nets (take n items) items x) a) e h))

pub loop-item-preserved : goal.loop-item-preserved
loop-item-preserved c =
    let items = c.args.items.now in
    let here : slice_get items c.loop-item.item-index ≡ Some c.item-item.result = slice_get_read items (length items) c.loop-item.item-index c.item-item.result refl c.loop-item-test.true c.item-item.is in
    record {
      long = ap length c.in_ok-push.ensures.items ∙ length-append c.loop-item.found.items (c.in_ok-net.net ∷ []) ∙ (λ i. c.loop-item.invariant.long i + 1);
      before = λ i. c.in_ok-add_drives.ensures i ∙ (λ j. c.loop-item.invariant.before i j || (item_flow c.args.nets.now c.item-item.result).drives i) ∙ sym (any_more (λ x. (item_flow c.args.nets.now x).drives i) items c.loop-item.item-index c.item-item.result here);
      each = λ k x o at g. elim (pushed_at c.loop-item.found.items c.in_ok-net.net k o (ap (λ l. slice_get l k) (sym c.in_ok-push.ensures.items) ∙ g)) [
        | inl old ↦ c.loop-item.invariant.each k x o at old
        | inr now ↦
            let e : c.loop-item.item-index ≡ k = sym c.loop-item.invariant.long ∙ sym now.0 in
            moved c.args.owners.now c.args.nets.now items c.loop-item.item-index k c.item-item.result x c.in_ok-net.net o e (some_same (sym here ∙ ap (slice_get items) e ∙ at)) now.1
            (c.in_ok-net.ensures (take c.loop-item.item-index items) items c.requires c.loop-item.invariant.before)
      ];
    }
