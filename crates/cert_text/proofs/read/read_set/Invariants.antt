use Rattle.std.proofs.Common.{◌≡◌, ℕ, ◌+◌, ◌-◌, ◌≤◌, [], length}
use Rattle.gate_graph.specs.declared.circuits.Circuit.{Circuit}
use Rattle.unroll_cnf.specs.Latches.{AreOfLatches, weight}
use Rattle.cert_text.specs.Reading.{ClausesDue}
use Rattle.cert_text.specs.Steps.{Leads}
use Rattle.cert_text.proofs.read.read_set.Given as goal

abbrev pub invariant-clauses : goal.invariant-clauses
invariant-clauses l = record {
  leads : (c : Circuit) (k : ℕ) → length c.latches.items ≡ l.latches → Leads c (ClausesDue k [] l.count) l.fn.lines.rest.now l.fn.lines.number (ClausesDue k l.set.items (l.count - length l.set.items)) l.lines.rest.now l.lines.number;
  of : AreOfLatches l.latches l.set.items;
  small : weight l.set.items + length l.lines.rest.now ≤ length l.fn.lines.rest.now;
}

abbrev pub decreases-clauses : goal.decreases-clauses
decreases-clauses l = l.count - length l.set.items
