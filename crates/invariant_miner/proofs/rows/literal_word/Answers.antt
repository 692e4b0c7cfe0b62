use Rattle.std.proofs.Common.{arith}
use Rattle.invariant_miner.proofs.RowLemmas.{literal_inverted, literal_plain}
use Rattle.invariant_miner.proofs.rows.literal_word.Goals as goal

pub returns-then-literal-clause-bits : goal.returns-then-literal-clause-bits
returns-then-literal-clause-bits c = λ r lt. literal_inverted c.args.row.now c.args.literal c.word_of-word.result r c.word_of-word.ensures (omega (arith, c.word_of-word.ensures, c.type_inv.row c.args.literal.latch)) c.if-literal.true lt

pub returns-else-literal-clause-bits : goal.returns-else-literal-clause-bits
returns-else-literal-clause-bits c = λ r lt. literal_plain c.args.row.now c.args.literal c.word_of-word.result r c.word_of-word.ensures c.if-literal.false

pub returns-else-literal-clause-small : goal.returns-else-literal-clause-small
returns-else-literal-clause-small c = omega (arith, c.word_of-word.ensures, c.type_inv.row c.args.literal.latch)
