use Rattle.std.proofs.Common.{sym, ◌∙◌, arith}
use Rattle.vlog_parse.proofs.Deep.{small_after, within_more, next_counts, none_taken, nothing_counted, found_deep, all_shallow}
use Rattle.vlog_parse.proofs.depth.first_deep.Goals as goal

pub loop-token-init : goal.loop-token-init
loop-token-init c = (nothing_counted, none_taken c.args.tokens.now)

pub counts_with-now-requires : goal.counts_with-now-requires
counts_with-now-requires c = small_after c.args.tokens.now c.loop-token.token-index c.loop-token.now c.loop-token.invariant.0 (c.loop-token.invariant.1 c.loop-token.token-index (omega arith)) c.loop-token-test.true (omega arith)

pub returns-then-is_over : goal.returns-then-is_over
returns-then-is_over c =
    found_deep c.args.tokens.now c.loop-token.token-index c.token-item.result c.loop-token.now c.counts_with-now.result c.loop-token-test.true c.token-item.is
    c.loop-token.invariant.0 c.loop-token.invariant.1 c.counts_with-now.ensures (sym c.is_over.ensures ∙ c.if-is_over.true)

pub loop-token-preserved : goal.loop-token-preserved
loop-token-preserved c =
    let now = next_counts c.args.tokens.now c.loop-token.token-index c.token-item.result c.loop-token.now c.counts_with-now.result c.loop-token-test.true c.token-item.is c.loop-token.invariant.0 c.counts_with-now.ensures in
    (now, within_more c.args.tokens.now c.loop-token.token-index c.counts_with-now.result now (sym c.is_over.ensures ∙ c.if-is_over.false) c.loop-token.invariant.1)

pub returns : goal.returns
returns c = all_shallow c.args.tokens.now c.loop-token.token-index c.loop-token-test.false c.loop-token.invariant.1
