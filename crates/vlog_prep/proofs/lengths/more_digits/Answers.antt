use Rattle.std.proofs.Common.{sym, ◌∙◌, arith}
use Rattle.vlog_prep.proofs.Loops.{settled-digit, settled-gap, settled-end, settled-empty}
use Rattle.vlog_prep.proofs.lengths.more_digits.Goals as goal
use Rattle.vlog_prep.proofs.lengths.more_digits.Goals.{then-is_digit, else-is_digit+else-byte-ne95}

pub returns-then-byte-ne95-clause-value : goal.returns-then-byte-ne95-clause-value
returns-then-byte-ne95-clause-value c =
    sym (settled-end c.args.base c.loop-at.at c.loop-at.len c.args.bytes.now c.loop-at-test.true (sym c.is_digit.ensures ∙ c.if-is_digit.false) c.if-byte-ne95.true) ∙ c.loop-at.invariant.found

pub loop-at-preserved : goal.loop-at-preserved
loop-at-preserved c =
    let is = sym c.is_digit.ensures in
    elim c.if-is_digit.branch [
      | then-is_digit w ↦ record {
        found = rw w.len-is (sym (settled-digit c.args.base c.loop-at.at c.loop-at.len c.args.bytes.now c.loop-at-test.true (is ∙ w.if-is_digit.true)) ∙ c.loop-at.invariant.found);
        within = rw w.len-is (omega arith);
      }
      | else-is_digit+else-byte-ne95 w ↦ record {
        found = rw w.len-is (sym (settled-gap c.args.base c.loop-at.at c.loop-at.len c.args.bytes.now c.loop-at-test.true (is ∙ w.if-is_digit.false) w.if-byte-ne95.false) ∙ c.loop-at.invariant.found);
        within = rw w.len-is (omega arith);
      }
    ]

pub returns-clause-value : goal.returns-clause-value
returns-clause-value c = sym (settled-empty c.args.base c.loop-at.at c.loop-at.len c.args.bytes.now c.loop-at-test.false) ∙ c.loop-at.invariant.found
