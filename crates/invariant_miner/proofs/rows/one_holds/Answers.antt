use Rattle.std.proofs.Common.{◌≡◌, ◌||◌, List, ℕ, Vec, Global, Some, slice_get, refl, sym, ap, ◌∙◌, map, length, arith}
use Rattle.std.specs.Option.{option_map}
use Rattle.std.proofs.lemmas.List.{length-map}
use Rattle.std.proofs.lemmas.Option.{slice_get-map, slice_get_read}
use Rattle.unroll_cnf.specs.Latches.{holds}
use Rattle.invariant_miner.specs.Samples.{in_row}
use Rattle.invariant_miner.proofs.RowLemmas.{below_none, rows_more, rows_stop, rows_end}
use Rattle.invariant_miner.proofs.rows.one_holds.Goals as goal

pub loop-row-init : goal.loop-row-init
loop-row-init c = below_none _

pub returns-then-not-holds_in_row : goal.returns-then-not-holds_in_row
returns-then-not-holds_in_row c =
    let at_row : slice_get (map (λ (v : Vec ℕ Global). v.items) c.args.rows.now) c.loop-row.row-index ≡ Some c.row-item.result.items =
    slice_get-map (λ (v : Vec ℕ Global). v.items) c.args.rows.now c.loop-row.row-index ∙ ap (option_map (λ (v : Vec ℕ Global). v.items)) (slice_get_read c.args.rows.now (length c.args.rows.now) c.loop-row.row-index c.row-item.result refl c.loop-row-test.true c.row-item.is) in
    sym (rows_stop (map (λ v. v.items) c.args.rows.now) c.loop-row.row-index c.row-item.result.items (λ s. holds s c.args.x || holds s c.args.y) at_row
    (ap (λ (z : List ℕ). in_row z (λ s. holds s c.args.x || holds s c.args.y)) (sym c.as_slice.ensures.value) ∙ (sym c.holds_in_row.ensures ∙ c.if-not-holds_in_row.true)))

pub loop-row-preserved : goal.loop-row-preserved
loop-row-preserved c =
    let at_row : slice_get (map (λ (v : Vec ℕ Global). v.items) c.args.rows.now) c.loop-row.row-index ≡ Some c.row-item.result.items =
    slice_get-map (λ (v : Vec ℕ Global). v.items) c.args.rows.now c.loop-row.row-index ∙ ap (option_map (λ (v : Vec ℕ Global). v.items)) (slice_get_read c.args.rows.now (length c.args.rows.now) c.loop-row.row-index c.row-item.result refl c.loop-row-test.true c.row-item.is) in
    rows_more (map (λ v. v.items) c.args.rows.now) c.loop-row.row-index c.row-item.result.items (λ s. holds s c.args.x || holds s c.args.y) at_row c.loop-row.invariant
    (ap (λ (z : List ℕ). in_row z (λ s. holds s c.args.x || holds s c.args.y)) (sym c.as_slice.ensures.value) ∙ (sym c.holds_in_row.ensures ∙ c.if-not-holds_in_row.false))

pub returns : goal.returns
returns c = sym (rows_end (map (λ v. v.items) c.args.rows.now) c.loop-row.row-index (λ s. holds s c.args.x || holds s c.args.y) (omega (arith, length-map c.args.rows.now (λ v. v.items))) c.loop-row.invariant)
