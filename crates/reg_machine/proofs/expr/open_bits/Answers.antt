use Rattle.field_policies.specs.Expressions.{is_open}
use Rattle.field_policies.proofs.BitLemmas.{full_bits}
use Rattle.reg_machine.proofs.Views.{open_high, open_low}
use Rattle.reg_machine.proofs.expr.open_bits.Goals as goal

pub returns-then-gate : goal.returns-then-gate
returns-then-gate c = rw c.in-Some.is (open_high c.args.map.now.fields.items c.args.map.now.inputs.items c.args.values.now c.args.hw.now c.in-Some.gate c.args.width _
    c.if-gate.true (c.requires.wide c.in-Some.gate c.in-Some.is) c.expr_value-value.ensures.value c.expr_value-value.ensures.fits)

pub returns-else-gate : goal.returns-else-gate
returns-else-gate c = rw (c.in-Some.is, c.ones.ensures) (open_low c.args.map.now.fields.items c.args.map.now.inputs.items c.args.values.now c.args.hw.now c.in-Some.gate c.args.width _
    c.if-gate.false (c.requires.wide c.in-Some.gate c.in-Some.is) c.expr_value-value.ensures.value c.expr_value-value.ensures.fits)

pub returns-in-None : goal.returns-in-None
unfolding is_open
returns-in-None c = rw (c.in-None.is, c.ones-in-None.ensures) (full_bits c.args.width)
