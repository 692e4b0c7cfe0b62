use Rattle.std.proofs.Common.{◌∙◌, ap, map}
use Rattle.unroll_cnf.specs.declared.latch_literal.LatchLiteral.{LatchLiteral}
use Rattle.invariant_miner.specs.Samples.{in_all_rows}
use Rattle.invariant_miner.specs.Candidates.{holds_in_all}
use Rattle.invariant_miner.proofs.RowLemmas.{rows_no_live}
use Rattle.invariant_miner.proofs.rows.no_samples.Goals as goal

pub returns : goal.returns
returns c = c.always_holds.ensures ∙ (ap (λ (x : LatchLiteral). holds_in_all (in_all_rows (map (λ v. v.items) c.args.rows.now)) x) c.negated.ensures ∙ rows_no_live (map (λ v. v.items) c.args.rows.now))
