use Rattle.flat_clocks.proofs.Signalling.{none_more, still_several}
use Rattle.flat_clocks.proofs.signal.Seen.with.Goals as goal

pub returns-in_default : goal.returns-in_default
returns-in_default c b = none_more c.args.self c.args.signal b c.in_default.is

pub returns-in-Several : goal.returns-in-Several
returns-in-Several c b = still_several c.args.self c.args.signal b c.in-Several.is
