use Rattle.vlog_parse.proofs.Decided.{when_nested, when_unread, when_read}
use Rattle.vlog_parse.proofs.reading.parse_vlog.Goals as goal

pub returns-clause-when_nested : goal.returns-clause-when_nested
returns-clause-when_nested c = when_nested c.args.tokens.now c.read.result c.read.ensures

pub returns-clause-when_unread : goal.returns-clause-when_unread
returns-clause-when_unread c = when_unread c.args.tokens.now c.read.result c.read.ensures

pub returns-clause-when_read : goal.returns-clause-when_read
returns-clause-when_read c = when_read c.args.tokens.now c.read.result c.read.ensures
