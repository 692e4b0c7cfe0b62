use Rattle.std.proofs.Common.{arith}
use Rattle.rdl_parse.proofs.Deep.{found_deep, shallow_up_to}
use Rattle.rdl_parse.proofs.reading.first_deep.Goals as goal

pub returns-then-open-gt-LIMIT : goal.returns-then-open-gt-LIMIT
returns-then-open-gt-LIMIT c =
    found_deep c.args.tokens.now c.loop-token.token-index c.loop-token.open c.open_with-open.result c.token-item.result c.loop-token-test.true c.token-item.is
    c.loop-token.invariant.0 c.loop-token.invariant.1 c.open_with-open.ensures c.if-open-gt-LIMIT.true

pub returns : goal.returns
returns c = shallow_up_to c.args.tokens.now c.loop-token.token-index c.loop-token-test.false c.loop-token.invariant.1
