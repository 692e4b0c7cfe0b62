use Rattle.std.proofs.Common.{◌∙◌, sym, map, arith}
use Rattle.invariant_miner.specs.Samples.{in_all_rows}
use Rattle.invariant_miner.specs.Candidates.{pair_clauses}
use Rattle.invariant_miner.proofs.ListedLemmas.{new_more, new_all}
use Rattle.invariant_miner.proofs.candidates.add_pairs.Goals as goal

pub loop-b-preserved : goal.loop-b-preserved
loop-b-preserved c = rw c.in_ok-add_signs.ensures (new_more (pair_clauses (in_all_rows (map (λ v. v.items) c.args.rows.now)) c.args.a) c.args.later.now c.loop-b.b-index 0 c.loop-b.list.items c.loop-b-test.true ∙ c.loop-b.invariant)

pub returns : goal.returns
returns c = sym (new_all (pair_clauses (in_all_rows (map (λ v. v.items) c.args.rows.now)) c.args.a) c.args.later.now c.loop-b.b-index c.loop-b.list.items (omega arith)) ∙ c.loop-b.invariant
