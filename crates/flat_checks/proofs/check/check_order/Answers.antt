use Rattle.std.proofs.Common.{sym, subst}
use Rattle.flat_ordered.specs.Firsts.{IsOrdered}
use Rattle.flat_checks.specs.Cycles.{AreAssigning}
use Rattle.flat_checks.proofs.Answering.{loop_assigns}
use Rattle.flat_checks.proofs.check.check_order.Goals as goal

pub refuse_cycle-requires : goal.refuse_cycle-requires
refuse_cycle-requires c =
    subst (AreAssigning c.args.items.now) (sym c.as_slice.ensures.value)
    (loop_assigns c.args.nets.now c.args.items.now c.in-Loop.numbers.items (subst (IsOrdered c.args.nets.now c.args.items.now) c.in-Loop.is c.in_ok-order.ensures))
