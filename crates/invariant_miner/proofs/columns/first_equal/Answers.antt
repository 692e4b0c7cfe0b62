use Rattle.std.proofs.Common.{◌∙◌, sym, map, arith}
use Rattle.invariant_miner.specs.Samples.{in_all_rows}
use Rattle.invariant_miner.specs.Candidates.{are_equal}
use Rattle.invariant_miner.proofs.ColumnLemmas.{find_step, find_found, find_none}
use Rattle.invariant_miner.proofs.columns.first_equal.Goals as goal

pub returns-then-always_equal : goal.returns-then-always_equal
returns-then-always_equal c = find_found (are_equal (in_all_rows (map (λ v. v.items) c.args.rows.now)) c.args.n) c.args.list.now c.loop-m.m-index 0 c.loop-m-test.true (sym c.always_equal.ensures ∙ c.if-always_equal.true) ∙ c.loop-m.invariant

pub loop-m-preserved : goal.loop-m-preserved
loop-m-preserved c = find_step (are_equal (in_all_rows (map (λ v. v.items) c.args.rows.now)) c.args.n) c.args.list.now c.loop-m.m-index 0 c.loop-m-test.true (sym c.always_equal.ensures ∙ c.if-always_equal.false) ∙ c.loop-m.invariant

pub returns : goal.returns
returns c = find_none (are_equal (in_all_rows (map (λ v. v.items) c.args.rows.now)) c.args.n) c.args.list.now c.loop-m.m-index (omega arith) ∙ c.loop-m.invariant
