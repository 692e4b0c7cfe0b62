use Rattle.std.proofs.Common.{◌∙◌, ap, length, not}
use Rattle.bit_base.specs.Operators.{differ}
use Rattle.bit_words.proofs.EachPlace.{xnor_of_pairs, length_of_each_place}
use Rattle.bit_words.proofs.bitwise.xnor_of.Goals as goal

pub returns-clause-value : goal.returns-clause-value
returns-clause-value c = c.from.ensures ∙ (c.in_ok-places.ensures ∙ xnor_of_pairs c.args.a.now c.args.b.now)

pub returns-clause-long : goal.returns-clause-long
returns-clause-long c = λ same. ap length (c.from.ensures ∙ (c.in_ok-places.ensures ∙ xnor_of_pairs c.args.a.now c.args.b.now)) ∙ length_of_each_place (λ x y. not (differ x y)) c.args.a.now c.args.b.now same
