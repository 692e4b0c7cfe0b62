use Rattle.std.proofs.Common.{◌≡◌, map, take}
use Rattle.lemma_checker.specs.Clauses.{assigned}
use Rattle.unroll_cnf.specs.Meaning.{shifted}
use Rattle.unroll_cnf.proofs.model.values_at.Given as goal

abbrev pub invariant-loop-place : goal.invariant-loop-place
invariant-loop-place l = l.list.items ≡ map (shifted (assigned l.values) l.first) (take l.place-index l.places)
