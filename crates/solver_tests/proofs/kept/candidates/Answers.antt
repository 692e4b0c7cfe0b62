use Rattle.std.proofs.Common.{length, sym, subst, ap, arith}
use Rattle.unroll_cnf.specs.Latches.{IsOfLatches}
use Rattle.invariant_miner.proofs.ThinLemmas.{askable_list, one_of, two_of}
use Rattle.solver_tests.proofs.kept.candidates.Goals as goal

pub returns : goal.returns
returns c =
    askable_list c.args.circuit.now _ _ _ _ _ _ _ c.new-list.ensures.items c.in_ok-push.ensures.items c.in_ok-push-2.ensures.items c.in_ok-push-3.ensures.items
    (subst (IsOfLatches (length c.args.circuit.now.latches.items)) (sym c.in_ok-first.ensures) (one_of (length c.args.circuit.now.latches.items) c.literal.result (omega (arith, c.literal.ensures, c.requires.latches))))
    (subst (IsOfLatches (length c.args.circuit.now.latches.items)) (sym c.in_ok-second.ensures) (two_of (length c.args.circuit.now.latches.items) c.literal-2.result c.literal-3.result (omega (arith, c.literal-2.ensures, c.requires.latches)) (omega (arith, c.literal-3.ensures, c.requires.latches))))
    (subst (IsOfLatches (length c.args.circuit.now.latches.items)) (sym c.in_ok-third.ensures) (two_of (length c.args.circuit.now.latches.items) c.literal-4.result c.literal-5.result (omega (arith, c.literal-4.ensures, c.requires.latches)) (omega (arith, c.literal-5.ensures, c.requires.latches))))
    (omega (arith, ap length c.in_ok-first.ensures, ap length c.in_ok-second.ensures, ap length c.in_ok-third.ensures))
