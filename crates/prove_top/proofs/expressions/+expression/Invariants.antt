use Rattle.std.proofs.Common.{◌+◌, ◌*◌}
use Rattle.prove_top.proofs.expressions.+expression.Given as goal

-- an expression takes one of the room before its form, and a form comes before its parts
abbrev pub decreases-expression : goal.decreases-expression
decreases-expression l = 4 * l.room

abbrev pub decreases-form : goal.decreases-form
decreases-form l = 4 * l.room + 2

abbrev pub decreases-inverse : goal.decreases-inverse
decreases-inverse l = 4 * l.room + 1

abbrev pub decreases-pair : goal.decreases-pair
decreases-pair l = 4 * l.room + 1
