use Rattle.std.proofs.Common.{Bool, false, ◌+◌, ◌-◌, ◌++◌, List, Vec, Global, map, ap, sym, ◌∙◌, subst}
use Rattle.lemma_checker.specs.declared.literal.Literal.{Literal}
use Rattle.unroll_cnf.specs.Cones.{AreCones}
use Rattle.unroll_cnf.specs.Queries.{base_clauses}
use Rattle.unroll_cnf.proofs.ConeLemmas.{run_marked}
use Rattle.unroll_cnf.proofs.ModelLemmas.{joined_three}
use Rattle.unroll_cnf.proofs.queries.base_list.Goals as goal

pub returns : goal.returns
unfolding base_clauses
returns c =
    let cones : AreCones c.args.circuit.now false (c.args.k - 1 + 1) (map (λ (m : Vec Bool Global). m.items) c.as_slice.result.now) = subst (λ (z : List (Vec Bool Global)). AreCones c.args.circuit.now false (c.args.k - 1 + 1) (map (λ (m : Vec Bool Global). m.items) z)) (sym c.as_slice.ensures.value) c.in_ok-cones.ensures in
    joined_three _ _ _ _ _ _ _ c.new-out.ensures c.in_ok-push_starts.ensures
    (c.in_ok-push_run.ensures ∙ ap (λ (z : List (List Literal)). c.push_starts.new.out ++ z) (run_marked c.args.circuit.now false (c.args.k - 1) _ cones))
    c.in_ok-push_bad.ensures
