use Rattle.std.proofs.Common.{◌<◌, ◌≤◌, length, arith}
use Rattle.invariant_miner.proofs.SiftLemmas.{above_above, above_short}
use Rattle.invariant_miner.proofs.ThinLemmas.{dropped_less, leaves_length, leaves_above}
use Rattle.invariant_miner.proofs.thin.narrow.Goals as goal

pub sift-requires : goal.sift-requires
sift-requires c = record { state = leaves_length c.args.circuit.now c.args.clauses.now.items c.args.state.now c.requires.leaves }

pub returns-clause-above : goal.returns-clause-above
returns-clause-above c = above_above c.args.circuit.now c.args.clauses.now.items c.keep_met.new.clauses.items c.sift.new.clauses.items
    (leaves_above c.args.circuit.now c.args.clauses.now.items c.keep_met.new.clauses.items c.args.state.now c.requires.leaves c.keep_met.ensures)
    c.in_ok-sift.ensures

pub returns-clause-fewer : goal.returns-clause-fewer
returns-clause-fewer c =
    let less : length c.keep_met.new.clauses.items < length c.args.clauses.now.items = dropped_less c.args.state.now c.args.clauses.now.items c.keep_met.new.clauses.items c.keep_met.ensures c.requires.leaves.fails in
    omega (arith, less, above_short c.args.circuit.now c.keep_met.new.clauses.items c.sift.new.clauses.items c.in_ok-sift.ensures)
