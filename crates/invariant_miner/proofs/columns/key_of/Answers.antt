use Rattle.std.proofs.Common.{◌≡◌, ℕ, List, [], Vec, Global, Some, get_or, slice_get, map, length, refl, ap, ◌∙◌, subst, ◌<◌, ◌^◌, arith}
use Rattle.std.specs.Option.{option_map}
use Rattle.std.proofs.lemmas.Option.{slice_get-map, slice_get_read, get_or_from_slice_get}
use Rattle.invariant_miner.specs.Columns.{masked, mixed}
use Rattle.invariant_miner.proofs.ColumnLemmas.{key_more, words_more}
use Rattle.invariant_miner.proofs.columns.key_of.Goals as goal

pub loop-row-preserved : goal.loop-row-preserved
loop-row-preserved c =
    let rows : List (List ℕ) = map (λ (v : Vec ℕ Global). v.items) c.args.rows.now in
    let at_row : slice_get rows c.loop-row.row-index ≡ Some c.row-item.result.items =
    slice_get-map (λ (v : Vec ℕ Global). v.items) c.args.rows.now c.loop-row.row-index ∙ ap (option_map (λ (v : Vec ℕ Global). v.items)) (slice_get_read c.args.rows.now (length c.args.rows.now) c.loop-row.row-index c.row-item.result refl c.loop-row-test.true c.row-item.is) in
    let here : get_or rows c.loop-row.row-index [] ≡ c.row-item.result.items = get_or_from_slice_get rows c.loop-row.row-index c.row-item.result.items [] at_row in
    let small : (i : ℕ) → get_or c.row-item.result.items i 0 < 2 ^ 64 = λ i. subst (λ (z : List ℕ). get_or z i 0 < 2 ^ 64) c.as_slice.ensures.value (c.masked.ensures.words i) in
    record {
      key = c.mixed-key.ensures ∙ (ap (mixed c.loop-row.key) (c.masked.ensures.value ∙ ap (λ (z : List ℕ). masked c.args.inverted z c.args.n) c.as_slice.ensures.value) ∙ key_more rows c.args.inverted c.args.n c.loop-row.row-index c.loop-row.key c.row-item.result.items here c.loop-row.invariant.key);
      words = λ k i lt. words_more rows c.loop-row.row-index c.row-item.result.items here small c.loop-row.invariant.words k i lt;
      within = omega (arith, c.loop-row-test.true);
    }
