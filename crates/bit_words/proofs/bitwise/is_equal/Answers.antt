use Rattle.std.proofs.Common.{◌∙◌}
use Rattle.bit_words.proofs.EachPlace.{equal_by_number}
use Rattle.bit_words.proofs.bitwise.is_equal.Goals as goal

pub returns : goal.returns
returns c = c.eq.ensures ∙ equal_by_number c.args.a.now c.args.b.now c.requires
