use Rattle.std.proofs.Common.{◌≡◌, length, map, ap, sym, ◌∙◌, subst}
use Rattle.lemma_checker.specs.Clauses.{AreDistinct}
use Rattle.unroll_cnf.specs.Latches.{weakened, IsOfLatches}
use Rattle.unroll_cnf.specs.Queries.{latch_literal, set_clause}
use Rattle.unroll_cnf.proofs.SetLemmas.{weakened_latches}
use Rattle.unroll_cnf.proofs.DistinctLemmas.{set_clause_distinct}
use Rattle.unroll_cnf.proofs.sets.push_set_clause.Goals as goal

pub write_literals-requires-clause-of : goal.write_literals-requires-clause-of
write_literals-requires-clause-of c =
    let same : c.as_slice-2.result.now ≡ weakened c.args.clause.now = c.as_slice-2.ensures.value ∙ (c.in_ok-weaken.ensures ∙ ap weakened c.as_slice.ensures.value) in
    subst (IsOfLatches (length c.args.circuit.now.latches.items)) (sym same) (weakened_latches c.args.circuit.now c.args.clause.now c.requires.of)

pub push-requires : goal.push-requires
push-requires c =
    let same : c.as_slice-2.result.now ≡ weakened c.args.clause.now = c.as_slice-2.ensures.value ∙ (c.in_ok-weaken.ensures ∙ ap weakened c.as_slice.ensures.value) in
    let literals : c.as_slice-3.result.now ≡ set_clause c.args.circuit.now c.args.first c.args.clause.now = c.as_slice-3.ensures.value ∙ (c.in_ok-write_literals.ensures ∙ ap (map (latch_literal c.args.circuit.now c.args.first)) same) in
    record { distinct = subst AreDistinct (sym literals) (set_clause_distinct c.args.circuit.now c.args.first c.args.clause.now c.as_slice.ensures.apart c.requires.of) }
