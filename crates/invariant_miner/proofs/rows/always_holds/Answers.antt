use Rattle.std.proofs.Common.{◌∙◌, map}
use Rattle.unroll_cnf.specs.Latches.{holds}
use Rattle.invariant_miner.proofs.RowLemmas.{rows_once}
use Rattle.invariant_miner.proofs.rows.always_holds.Goals as goal

pub returns : goal.returns
returns c = c.one_holds.ensures ∙ rows_once (map (λ v. v.items) c.args.rows.now) (λ s. holds s c.args.x)
