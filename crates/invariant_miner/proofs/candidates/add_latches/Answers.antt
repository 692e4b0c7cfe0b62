use Rattle.std.proofs.Common.{ℕ, ◌∙◌, ◌+◌, Vec, Global, refl, sym, subst, map, arith}
use Rattle.invariant_miner.specs.Samples.{in_all_rows}
use Rattle.invariant_miner.specs.Candidates.{latch_clauses}
use Rattle.invariant_miner.specs.Columns.{AreColumns}
use Rattle.invariant_miner.proofs.FreshLemmas.{appended_more, appended_all}
use Rattle.invariant_miner.proofs.ColumnLemmas.{columns_by, first_columns}
use Rattle.invariant_miner.proofs.candidates.add_latches.Goals as goal

pub loop-n-init : goal.loop-n-init
loop-n-init c = record {
  list = refl;
  columns = first_columns (map (λ (v : Vec ℕ Global). v.items) c.args.rows.now) (c.args.latches + 1) c.in_ok-columns.columns.items c.in_ok-columns.ensures.count c.in_ok-columns.ensures.columns;
  some = omega (arith, c.in_ok-columns.ensures.count);
}

pub add_latch-requires-clause-columns : goal.add_latch-requires-clause-columns
add_latch-requires-clause-columns c = columns_by (map (λ (v : Vec ℕ Global). v.items) c.args.rows.now) c.loop-n.n c.as_slice.result.now c.loop-n.columns.items c.as_slice.ensures.value c.loop-n.invariant.columns

pub loop-n-preserved : goal.loop-n-preserved
loop-n-preserved c = record {
  list = appended_more (latch_clauses (in_all_rows (map (λ v. v.items) c.args.rows.now))) c.loop-n.n c.args.latches c.loop-n.list.items c.add_latch.new.list.items (omega arith) c.in_ok-add_latch.ensures ∙ c.loop-n.invariant.list;
  columns = subst (λ (z : ℕ). AreColumns (map (λ (v : Vec ℕ Global). v.items) c.args.rows.now) z (c.loop-n.n + 1) (map (λ (v : Vec ℕ Global). v.items) c.add_column.new.columns.items)) (sym c.in_ok-add_column.ensures.count) c.in_ok-add_column.ensures.columns;
  some = omega (arith, c.in_ok-add_column.ensures.count, c.loop-n.invariant.some);
}

pub returns : goal.returns
returns c = appended_all (latch_clauses (in_all_rows (map (λ v. v.items) c.args.rows.now))) c.loop-n.n c.args.latches c.loop-n.list.items (omega arith) ∙ c.loop-n.invariant.list
