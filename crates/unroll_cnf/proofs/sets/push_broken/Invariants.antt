use Rattle.std.proofs.Common.{◌≡◌, [], ◌∷◌, ◌++◌, map, take}
use Rattle.unroll_cnf.specs.Queries.{negated, denied, next_literal}
use Rattle.unroll_cnf.proofs.sets.push_broken.Given as goal

abbrev pub invariant-loop-literal : goal.invariant-loop-literal
invariant-loop-literal l = l.out ≡ l.fn.out ++ map (λ m. negated l.y ∷ denied (next_literal l.circuit l.first m) ∷ []) (take l.literal-index l.clause)
