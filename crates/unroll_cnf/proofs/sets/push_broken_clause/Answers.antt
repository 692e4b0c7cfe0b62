use Rattle.std.proofs.Common.{◌≡◌, length, ap, sym, ◌∙◌, subst}
use Rattle.unroll_cnf.specs.Latches.{weakened, IsOfLatches}
use Rattle.unroll_cnf.proofs.SetLemmas.{weakened_latches}
use Rattle.unroll_cnf.proofs.sets.push_broken_clause.Goals as goal

pub push_broken-requires-clause-of : goal.push_broken-requires-clause-of
push_broken-requires-clause-of c =
    let same : c.as_slice-2.result.now ≡ weakened c.args.clause.now = c.as_slice-2.ensures.value ∙ (c.in_ok-weaken.ensures ∙ ap weakened c.as_slice.ensures.value) in
    subst (IsOfLatches (length c.args.circuit.now.latches.items)) (sym same) (weakened_latches c.args.circuit.now c.args.clause.now c.requires.of)
