use Rattle.std.proofs.Common.{sym, ◌∙◌}
use Rattle.vlog_prep.proofs.Loops.{closing-here, closing-later, closing-none}
use Rattle.vlog_prep.proofs.lengths.closing_len.Goals as goal

pub returns-then-closes-clause-value : goal.returns-then-closes-clause-value
returns-then-closes-clause-value c =
    sym (closing-here c.args.last c.loop-at.before c.loop-at.at c.args.bytes.now c.loop-at-test.true (sym c.closes.ensures ∙ c.if-closes.true)) ∙ c.loop-at.invariant

pub loop-at-preserved : goal.loop-at-preserved
loop-at-preserved c =
    sym (closing-later c.args.last c.loop-at.before c.loop-at.at c.args.bytes.now c.loop-at-test.true (sym c.closes.ensures ∙ c.if-closes.false)) ∙ c.loop-at.invariant

pub returns-clause-value : goal.returns-clause-value
returns-clause-value c = sym (closing-none c.args.last c.loop-at.before c.loop-at.at c.args.bytes.now c.loop-at-test.false) ∙ c.loop-at.invariant
