use Rattle.std.proofs.Common.{sym, ◌∙◌}
use Rattle.rdl_tree.specs.Closing.{closes}
use Rattle.rdl_tree.proofs.Loops.{closing-here, closing-later, closing-none}
use Rattle.rdl_tree.proofs.lengths.closing_len.Goals as goal

pub returns-then-is_closed-clause-value : goal.returns-then-is_closed-clause-value
returns-then-is_closed-clause-value c =
    sym (closing-here (closes c.args.closing) c.loop-at.last c.loop-at.at c.args.bytes.now c.loop-at-test.true (sym c.is_closed.ensures ∙ c.if-is_closed.true)) ∙ c.loop-at.invariant

pub loop-at-preserved : goal.loop-at-preserved
loop-at-preserved c =
    sym (closing-later (closes c.args.closing) c.loop-at.last c.loop-at.at c.args.bytes.now c.loop-at-test.true (sym c.is_closed.ensures ∙ c.if-is_closed.false)) ∙ c.loop-at.invariant

pub returns-clause-value : goal.returns-clause-value
returns-clause-value c = sym (closing-none (closes c.args.closing) c.loop-at.last c.loop-at.at c.args.bytes.now c.loop-at-test.false) ∙ c.loop-at.invariant
