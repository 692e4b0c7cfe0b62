use Rattle.std.proofs.Common.{◌∙◌, sym, map, refl}
use Rattle.invariant_miner.specs.Candidates.{plain, negated}
use Rattle.invariant_miner.proofs.RowLemmas.{and_first, and_fails, equal_by}
use Rattle.invariant_miner.proofs.rows.always_equal.Goals as goal

pub returns-then-one_holds : goal.returns-then-one_holds
returns-then-one_holds c = c.one_holds-then-one_holds.ensures ∙ and_first _ _ _ (sym c.one_holds.ensures ∙ c.if-one_holds.true)
    (equal_by (map (λ v. v.items) c.args.rows.now) c.plain.result c.negated.result c.negated-then-one_holds.result c.plain-then-one_holds.result c.args.m c.args.n c.plain.ensures c.negated.ensures c.negated-then-one_holds.ensures c.plain-then-one_holds.ensures)

pub returns-else-one_holds : goal.returns-else-one_holds
returns-else-one_holds c = c.one_holds.ensures ∙ and_fails _ _ _ (sym c.one_holds.ensures ∙ c.if-one_holds.false)
    (equal_by (map (λ v. v.items) c.args.rows.now) c.plain.result c.negated.result (negated c.args.m) (plain c.args.n) c.args.m c.args.n c.plain.ensures c.negated.ensures refl refl)
