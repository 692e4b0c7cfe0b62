use Rattle.std.proofs.Common.{ℕ, List, Vec, Global, map, length, find, ap, ◌∙◌}
use Rattle.invariant_miner.specs.Samples.{in_all_rows}
use Rattle.invariant_miner.specs.Candidates.{are_opposite}
use Rattle.invariant_miner.proofs.ColumnLemmas.{opposite_found, list_of, least_within}
use Rattle.invariant_miner.proofs.columns.least_opposite.Goals as goal

pub returns-clause-least : goal.returns-clause-least
returns-clause-least c =
    let items : Vec ℕ Global → List ℕ = λ v. v.items in
    let rows : List (List ℕ) = map items c.args.rows.now in
    c.first_opposite.ensures
    ∙ (ap (find (are_opposite (in_all_rows rows) c.args.n)) (c.as_slice.ensures.value ∙ (ap items c.index-columns-place.is ∙ list_of c.args.columns.now c.place_of-place.result c.index-columns-place.result c.place_of-place.ensures.within))
    ∙ opposite_found rows (length c.args.columns.now) c.args.n c.place_of-place.result (map items c.args.columns.now) c.place_of-place.ensures.words c.requires.columns c.place_of-place.ensures.within c.place_of-place.ensures.place)

pub returns-clause-before : goal.returns-clause-before
returns-clause-before c = least_within (are_opposite (in_all_rows (map (λ (v : Vec ℕ Global). v.items) c.args.rows.now)) c.args.n) c.args.n c.first_opposite.result (returns-clause-least c)
