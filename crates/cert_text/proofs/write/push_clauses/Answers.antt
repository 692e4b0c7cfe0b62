use Rattle.std.proofs.Common.{map, [], ◌∷◌}
use Rattle.unroll_cnf.specs.Latches.{AreApart}
use Rattle.cert_text.specs.Text.{clause_line, text_of_lines}
use Rattle.cert_text.proofs.WriteLemmas.{loop_text, loop_each, each_done, line_first}
use Rattle.cert_text.proofs.write.push_clauses.Goals as goal

pub loop-clause-preserved : goal.loop-clause-preserved
loop-clause-preserved c = record {
  text = loop_text (λ j d. text_of_lines (clause_line d ∷ [])) (λ j ds. text_of_lines (map clause_line ds)) c.args.set.now c.loop-clause.clause-index c.clause-item.result _ _ _
      (line_first clause_line) c.loop-clause-test.true c.clause-item.is c.in_ok-push_clause.ensures.text c.loop-clause.invariant.text;
  apart = loop_each AreApart c.args.set.now c.loop-clause.clause-index c.clause-item.result c.loop-clause-test.true c.clause-item.is c.in_ok-push_clause.ensures.apart c.loop-clause.invariant.apart;
}

pub returns-clause-apart : goal.returns-clause-apart
returns-clause-apart c = each_done AreApart c.args.set.now c.loop-clause.clause-index c.loop-clause-test.false c.loop-clause.invariant.apart
