use Rattle.std.proofs.Common.{◌/◌, ap, ◌∙◌}
use Rattle.unroll_cnf.proofs.LiteralLemmas.{opposite_variable}
use Rattle.unroll_cnf.proofs.literals.denied_literal.Goals as goal

pub returns-clause-variable : goal.returns-clause-variable
returns-clause-variable c = ap (λ k. k / 2) c.opposite.ensures ∙ opposite_variable c.args.literal.0
