use Rattle.std.proofs.Common.{◌≡◌, sym, ap, ◌∙◌, arith}
use Rattle.next_latches.proofs.NextLemmas.{latches_more, latches_end}
use Rattle.next_latches.proofs.latches.next_latches.Goals as goal

pub returns : goal.returns
returns c = latches_end c.args.fields.now c.args.edges.now c.loop-n.n _ (omega (arith, c.loop-n-test.false)) c.loop-n.invariant
