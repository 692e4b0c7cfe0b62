use Rattle.std.proofs.Common.{◌∙◌, sym, map, arith}
use Rattle.invariant_miner.specs.Samples.{in_all_rows}
use Rattle.invariant_miner.specs.Candidates.{are_opposite}
use Rattle.invariant_miner.proofs.ColumnLemmas.{find_step, find_found, find_none}
use Rattle.invariant_miner.proofs.columns.first_opposite.Goals as goal

pub returns-then-always_opposite : goal.returns-then-always_opposite
returns-then-always_opposite c = find_found (are_opposite (in_all_rows (map (λ v. v.items) c.args.rows.now)) c.args.n) c.args.list.now c.loop-m.m-index 0 c.loop-m-test.true (sym c.always_opposite.ensures ∙ c.if-always_opposite.true) ∙ c.loop-m.invariant

pub loop-m-preserved : goal.loop-m-preserved
loop-m-preserved c = find_step (are_opposite (in_all_rows (map (λ v. v.items) c.args.rows.now)) c.args.n) c.args.list.now c.loop-m.m-index 0 c.loop-m-test.true (sym c.always_opposite.ensures ∙ c.if-always_opposite.false) ∙ c.loop-m.invariant

pub returns : goal.returns
returns c = find_none (are_opposite (in_all_rows (map (λ v. v.items) c.args.rows.now)) c.args.n) c.args.list.now c.loop-m.m-index (omega arith) ∙ c.loop-m.invariant
