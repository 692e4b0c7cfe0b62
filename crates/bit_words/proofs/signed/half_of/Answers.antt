use Rattle.std.proofs.Common.{length}
use Rattle.bit_words.proofs.SignLemmas.{sign_counts, some_places, half_wraps}
use Rattle.bit_words.proofs.signed.half_of.Goals as goal

pub returns-clause-within : goal.returns-clause-within
returns-clause-within c = rw (half_wraps (length c.args.a.now) (some_places c.args.a.now c.requires.negative) c.requires.narrow) (sign_counts c.args.a.now c.requires.negative)
