use Rattle.reg_machine.specs.Conditions.{edge_of}
use Rattle.reg_machine.specs.Nexts.{AreNext}
use Rattle.reg_machine.proofs.state.next_state.Given as goal

abbrev pub invariant-loop-number : goal.invariant-loop-number
invariant-loop-number l = AreNext (edge_of l.map l.values l.hw l.event) l.values l.fn.used l.fn.known l.number l.next l.used l.known
