use Rattle.std.proofs.Common.{◌≡◌, arith, subst, length}
use Rattle.reg_machine.specs.Conditions.{edge_of}
use Rattle.reg_machine.specs.Nexts.{AreNext}
use Rattle.reg_machine.proofs.NextLemmas.{next_more}
use Rattle.reg_machine.proofs.state.next_state.Goals as goal

pub loop-number-preserved : goal.loop-number-preserved
loop-number-preserved c = next_more (edge_of c.args.map.now c.args.values.now c.args.hw.now c.args.event) c.args.values.now c.args.used.now c.args.known.now c.loop-number.number _ _ _ _ _ _
    (omega arith) (omega arith) (omega arith) c.loop-number.invariant c.state_next-state.ensures

pub returns : goal.returns
returns c = let last : c.loop-number.number ≡ length c.args.map.now.fields.items = omega arith in
    subst (λ n. AreNext (edge_of c.args.map.now c.args.values.now c.args.hw.now c.args.event) c.args.values.now c.args.used.now c.args.known.now n c.loop-number.next c.loop-number.used c.loop-number.known) last c.loop-number.invariant
