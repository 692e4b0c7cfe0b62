use Rattle.std.proofs.Common.{◌≡◌, ◌++◌, drop, take, map}
use Rattle.std.specs.List.{All}
use Rattle.unroll_cnf.specs.Latches.{AreApart}
use Rattle.cert_text.specs.Text.{clause_line, text_of_lines}
use Rattle.cert_text.proofs.write.push_clauses.Given as goal

-- the text so far, and then the lines of the other clauses, are the whole
abbrev pub invariant-loop-clause : goal.invariant-loop-clause
invariant-loop-clause l = record {
  text : l.text.items ++ text_of_lines (map clause_line (drop l.clause-index l.set)) ≡ l.fn.text.items ++ text_of_lines (map clause_line l.set);
  apart : All AreApart (take l.clause-index l.set);
}
