use Rattle.std.proofs.Common.{◌≡◌, ℕ, List, sym, ap, ◌∙◌, arith, length, take, not, ◌||◌}
use Rattle.std.specs.List.{list_any}
use Rattle.std.proofs.lemmas.List.{take_all}
use Rattle.gate_graph.specs.Values.{at}
use Rattle.unroll_cnf.specs.declared.latch_literal.LatchLiteral.{LatchLiteral}
use Rattle.unroll_cnf.specs.Latches.{holds, meets}
use Rattle.invariant_miner.specs.Lanes.{lane}
use Rattle.invariant_miner.proofs.SiftLemmas.{none_met, literal_more, literals_met}
use Rattle.invariant_miner.proofs.sift.clause_word.Goals as goal

pub loop-literal-init : goal.loop-literal-init
loop-literal-init c = λ r lt. none_met c.args.row.now c.word_of-word.result r c.word_of-word.ensures (omega (arith, c.word_of-word.ensures, c.type_inv.row 0)) lt

pub loop-literal-preserved : goal.loop-literal-preserved
loop-literal-preserved c = λ r lt. literal_more c.args.row.now c.as_slice-literals.result.now c.loop-literal.literal-index c.loop-literal.word c.literal_word-word.result r _ c.loop-literal-test.true (c.loop-literal.invariant r lt) (c.literal_word-word.ensures.bits r lt)

pub returns-clause-bits : goal.returns-clause-bits
returns-clause-bits c = λ r lt. literals_met c.args.row.now c.args.clause.now c.as_slice-literals.result.now c.loop-literal.literal-index c.loop-literal.word r c.as_slice-literals.ensures.value (omega arith) (c.loop-literal.invariant r lt)
