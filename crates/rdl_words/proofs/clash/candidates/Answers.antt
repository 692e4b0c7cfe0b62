use Rattle.std.proofs.Common.{arith}
use Rattle.rdl_words.proofs.Firsts.{all_noted}
use Rattle.rdl_words.proofs.clash.candidates.Goals as goal

pub returns : goal.returns
returns c = all_noted _ _ c.args.words.now c.loop-at.at (omega (arith, c.loop-at-test.false)) c.loop-at.invariant
