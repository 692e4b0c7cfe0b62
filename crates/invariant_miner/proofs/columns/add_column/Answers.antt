use Rattle.std.proofs.Common.{◌≡◌, ℕ, false, [], ◌∷◌, ◌++◌, Vec, Global, map, length, refl, ◌∙◌, ap, arith}
use Rattle.invariant_miner.specs.Columns.{column_place}
use Rattle.invariant_miner.proofs.ColumnLemmas.{column_push}
use Rattle.invariant_miner.proofs.columns.add_column.Goals as goal

pub returns-clause-columns : goal.returns-clause-columns
returns-clause-columns c =
    let size : c.len.result ≡ length c.args.columns.now.items = omega (arith, c.len.ensures) in
    column_push (map (λ v. v.items) c.args.rows.now) (length c.args.columns.now.items) c.args.n c.place_of-place.result c.args.columns.now.items c.push.new.self c.index_mut.result.now refl c.requires.columns c.requires.first (omega (arith, size, c.place_of-place.ensures.within)) (c.place_of-place.ensures.place ∙ ap (λ (z : ℕ). column_place (map (λ (v : Vec ℕ Global). v.items) c.args.rows.now) z false c.args.n) size) (c.in_ok-push.ensures.items ∙ ap (λ (z : Vec ℕ Global). z.items ++ c.args.n ∷ []) c.index_mut.ensures.value)
