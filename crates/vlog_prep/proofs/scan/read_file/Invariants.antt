use Rattle.std.proofs.Common.{length}
use Rattle.vlog_prep.proofs.Scanning.{IsScanned}
use Rattle.vlog_prep.proofs.scan.read_file.Given as goal

abbrev pub invariant-loop-rest : goal.invariant-loop-rest
invariant-loop-rest l = IsScanned l.file l.bytes l.fn.pieces l.pieces l.rest l.place l.line

abbrev pub decreases-loop-rest : goal.decreases-loop-rest
decreases-loop-rest l = length l.rest
