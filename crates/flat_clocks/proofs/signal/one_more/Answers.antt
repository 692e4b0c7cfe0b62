use Rattle.std.proofs.Common.{◌∙◌, sym}
use Rattle.flat_clocks.proofs.Signalling.{one_still, two_differ}
use Rattle.flat_clocks.proofs.signal.one_more.Goals as goal

pub returns-then-differ : goal.returns-then-differ
returns-then-differ c b = two_differ c.args.seen c.args.next b (sym c.differ.ensures ∙ c.if-differ.true)

pub returns-else-differ : goal.returns-else-differ
returns-else-differ c b = one_still c.args.seen c.args.next b (sym c.differ.ensures ∙ c.if-differ.false)
