use Rattle.std.proofs.Common.{length}
use Rattle.rdl_tree.proofs.Scanning.{IsScanned}
use Rattle.rdl_tree.proofs.scan.scan_rdl.Given as goal

abbrev pub invariant-loop-rest : goal.invariant-loop-rest
invariant-loop-rest l = IsScanned l.bytes l.list l.rest l.place

abbrev pub decreases-loop-rest : goal.decreases-loop-rest
decreases-loop-rest l = length l.rest
