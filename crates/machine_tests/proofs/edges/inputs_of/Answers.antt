use Rattle.std.proofs.Common.{lit<}
use Rattle.machine_tests.proofs.OneFieldLemmas.{seven_inputs, masked, one_if_small}
use Rattle.machine_tests.proofs.edges.inputs_of.Goals as goal

pub returns : goal.returns
returns c = seven_inputs c.args.width _ _ _ _ _ _ _ (masked _ _ _ c.ones.ensures) (lit< tt) (one_if_small _ _ c.one_if-set.ensures) (lit< tt)
    (lit< tt) (one_if_small _ _ c.one_if-incr.ensures) (one_if_small _ _ c.one_if-decr.ensures)
