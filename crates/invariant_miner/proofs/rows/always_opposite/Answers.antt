use Rattle.std.proofs.Common.{◌∙◌, sym, map, refl}
use Rattle.invariant_miner.specs.Candidates.{negated}
use Rattle.invariant_miner.proofs.RowLemmas.{and_first, and_fails, opposite_by}
use Rattle.invariant_miner.proofs.rows.always_opposite.Goals as goal

pub returns-then-one_holds : goal.returns-then-one_holds
returns-then-one_holds c = c.one_holds-then-one_holds.ensures ∙ and_first _ _ _ (sym c.one_holds.ensures ∙ c.if-one_holds.true)
    (opposite_by (map (λ v. v.items) c.args.rows.now) c.plain.result c.plain-2.result c.negated.result c.negated-then-one_holds.result c.args.m c.args.n c.plain.ensures c.plain-2.ensures c.negated.ensures c.negated-then-one_holds.ensures)

pub returns-else-one_holds : goal.returns-else-one_holds
returns-else-one_holds c = c.one_holds.ensures ∙ and_fails _ _ _ (sym c.one_holds.ensures ∙ c.if-one_holds.false)
    (opposite_by (map (λ v. v.items) c.args.rows.now) c.plain.result c.plain-2.result (negated c.args.m) (negated c.args.n) c.args.m c.args.n c.plain.ensures c.plain-2.ensures refl refl)
