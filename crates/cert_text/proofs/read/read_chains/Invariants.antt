use Rattle.std.proofs.Common.{◌≡◌, ℕ, ◌+◌, ◌≤◌, List, [], length, map}
use Rattle.lemma_checker.specs.Checker.{link}
use Rattle.gate_graph.specs.declared.circuits.Circuit.{Circuit}
use Rattle.unroll_cnf.specs.declared.latch_literal.LatchLiteral.{LatchLiteral}
use Rattle.cert_text.specs.Reading.{ChainsDue, Link, query_clauses}
use Rattle.cert_text.specs.Steps.{Leads}
use Rattle.cert_text.proofs.read.read_chains.Given as goal

abbrev pub invariant-loop-lemmas : goal.invariant-loop-lemmas
invariant-loop-lemmas l = record {
  same : l.lemmas.formula.clauses ≡ l.fn.formula.clauses;
  leads : (c : Circuit) (k : ℕ) (set : List (List LatchLiteral)) (done : List (List Link)) → l.fn.formula.clauses ≡ query_clauses c k set (length done) → Leads c (ChainsDue k set done []) l.fn.lines.rest.now l.fn.lines.number (ChainsDue k set done (map link l.lemmas.chains.items)) l.lines.rest.now l.lines.number;
  small : length l.lemmas.added + length l.lines.rest.now ≤ length l.fn.lines.rest.now;
}

abbrev pub decreases-loop-lemmas : goal.decreases-loop-lemmas
decreases-loop-lemmas l = length l.lines.rest.now
