use Rattle.std.proofs.Common.{take}
use Rattle.vlog_parse.specs.LeftOut.{HasNoneLeftOut}
use Rattle.vlog_parse.proofs.left_out.first_left_out.Given as goal

abbrev pub invariant-loop-token : goal.invariant-loop-token
invariant-loop-token l = HasNoneLeftOut (take l.token-index l.tokens)
