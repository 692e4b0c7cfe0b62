use Rattle.std.proofs.Common.{◌≡◌, ◌≤◌, length, take, drop, IfSome}
use Rattle.tool_edge.specs.Calls.{after_calls}
use Rattle.prove_top.specs.Gather.{gathered, contents, names_of}
use Rattle.prove_top.proofs.GatherLemmas.{prepended}
use Rattle.prove_top.specs.Reads.{whole_reads}
use Rattle.prove_top.proofs.gather.fetch_all.Given as goal

-- the files before this one are whole, and are the first of those gathered
abbrev pub invariant-loop-want : goal.invariant-loop-want
invariant-loop-want g l = record {
  files : g.D.Depot.files l.depot ≡ g.D.Depot.files l.fn.depot;
  answer : IfSome (g.D.Depot.files l.fn.depot) (λ files. gathered files l.wanted ≡ prepended (contents l.files.items) (gathered files (drop l.want-index l.wanted)));
  calls : g.D.Depot.calls l.depot ≡ after_calls (g.D.Depot.calls l.fn.depot) (whole_reads (names_of (take l.want-index l.wanted)));
  length : length l.files.items ≡ l.want-index;
  count : g.D.Depot.faults l.fn.depot ≤ g.D.Depot.faults l.depot;
}
