use Rattle.std.proofs.Common.{◌/◌, arith}
use Rattle.invariant_miner.proofs.LaneLemmas.{wire_inverted, wire_plain}
use Rattle.invariant_miner.proofs.lanes.wire_word.Goals as goal

pub returns-then-wire-eq1 : goal.returns-then-wire-eq1
returns-then-wire-eq1 c = λ r lt. wire_inverted c.args.table.now c.args.wire r c.if-wire-eq1.true (omega (arith, c.type_inv.table (c.args.wire.0 / 2))) lt

pub returns-else-wire-eq1 : goal.returns-else-wire-eq1
returns-else-wire-eq1 c = λ r lt. wire_plain c.args.table.now c.args.wire r c.if-wire-eq1.false
