use Rattle.std.proofs.Common.{ℕ, Bool, List, [], ◌∷◌, ◌++◌, map, ap, ◌∙◌}
use Rattle.lemma_checker.specs.declared.literal.Literal.{Literal}
use Rattle.gate_graph.specs.Values.{at}
use Rattle.unroll_cnf.specs.Cones.{set_cone}
use Rattle.unroll_cnf.specs.Queries.{offset, set_clause, all_broken, some_of, keep_clauses}
use Rattle.unroll_cnf.proofs.ConeLemmas.{edge_same}
use Rattle.unroll_cnf.proofs.ModelLemmas.{joined_four}
use Rattle.unroll_cnf.proofs.queries.keep_list.Goals as goal

pub returns : goal.returns
unfolding keep_clauses
returns c =
    joined_four _ _ _ _ _ _ _ _ _ c.new-out.ensures (c.in_ok-push_edge.ensures ∙ ap (λ (z : List (List Literal)). c.new-out.result ++ z) (edge_same c.args.circuit.now (at c.as_slice.result.now) (set_cone c.args.circuit.now c.args.set.now) 0 (λ j. ap (λ (z : List Bool). at z j) c.as_slice.ensures.value ∙ c.in_ok-cone.ensures j)))
    (c.in_ok-push_set.ensures ∙ ap (λ (k : ℕ). c.push_edge.new.out ++ map (set_clause c.args.circuit.now k) c.args.set.now) c.first_variable-first.ensures.value)
    (c.in_ok-push_all_broken.ensures
    ∙ (ap (λ (k : ℕ). c.push_set.new.out ++ all_broken c.args.circuit.now k c.first_variable-second.result c.args.set.now) c.first_variable-first.ensures.value
    ∙ ap (λ (y : ℕ). c.push_set.new.out ++ all_broken c.args.circuit.now (offset c.args.circuit.now 0) y c.args.set.now) c.first_variable-second.ensures.value))
    (c.in_ok-push_some.ensures ∙ ap (λ (y : ℕ). c.push_all_broken.new.out ++ some_of y c.args.set.now ∷ []) c.first_variable-second.ensures.value)
