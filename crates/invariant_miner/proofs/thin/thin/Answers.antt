use Rattle.std.proofs.Common.{◌≡◌, ◌<◌, ◌≤◌, length, subst, sym, arith}
use Rattle.invariant_miner.specs.Thinned.{LeavesSet, IsAskable}
use Rattle.invariant_miner.proofs.KeptLemmas.{greatest_of}
use Rattle.invariant_miner.proofs.SiftLemmas.{above_above, above_askable}
use Rattle.invariant_miner.proofs.thin.thin.Goals as goal

pub ask-requires-clause-askable : goal.ask-requires-clause-askable
ask-requires-clause-askable c = rw c.as_slice-in-thinning.ensures.value (above_askable c.args.circuit.now c.args.list.items c.thinning.current.items c.thinning.invariant c.requires.askable)

pub returns-in-Closed-clause-kept_askable : goal.returns-in-Closed-clause-kept_askable
returns-in-Closed-clause-kept_askable c = above_askable c.args.circuit.now c.args.list.items c.thinning.current.items c.thinning.invariant c.requires.askable

pub thinning-preserved : goal.thinning-preserved
thinning-preserved c = above_above c.args.circuit.now c.args.list.items c.thinning.current.items c.narrow.new.clauses.items c.thinning.invariant c.in_ok-narrow-in-Leaves.ensures.above
