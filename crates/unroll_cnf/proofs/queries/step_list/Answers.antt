use Rattle.std.proofs.Common.{ℕ, Bool, true, ◌+◌, ◌++◌, List, Vec, Global, map, ap, sym, ◌∙◌, subst}
use Rattle.lemma_checker.specs.declared.literal.Literal.{Literal}
use Rattle.unroll_cnf.specs.Cones.{AreCones}
use Rattle.unroll_cnf.specs.Queries.{set_clause, step_clauses}
use Rattle.unroll_cnf.proofs.ConeLemmas.{run_marked}
use Rattle.unroll_cnf.proofs.ModelLemmas.{joined_four}
use Rattle.unroll_cnf.proofs.queries.step_list.Goals as goal

pub returns : goal.returns
unfolding step_clauses
returns c =
    let cones : AreCones c.args.circuit.now true (c.args.k + 1) (map (λ (m : Vec Bool Global). m.items) c.as_slice-2.result.now) = subst (λ (z : List (Vec Bool Global)). AreCones c.args.circuit.now true (c.args.k + 1) (map (λ (m : Vec Bool Global). m.items) z)) (sym c.as_slice-2.ensures.value) c.in_ok-cones.ensures in
    joined_four _ _ _ _ _ _ _ _ _ c.new-out.ensures
    (c.in_ok-push_set.ensures ∙ ap (λ (k : ℕ). c.new-out.result ++ map (set_clause c.args.circuit.now k) c.args.set.now) c.first_variable-first.ensures.value)
    (c.in_ok-push_run.ensures ∙ ap (λ (z : List (List Literal)). c.push_set.new.out ++ z) (run_marked c.args.circuit.now true c.args.k _ cones)) c.in_ok-push_good.ensures c.in_ok-push_bad.ensures
