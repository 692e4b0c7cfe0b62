use Rattle.std.proofs.Common.{sym, ap, ◌∙◌}
use Rattle.flat_design.specs.declared.expr.FlatNode.TheVariants as n
use Rattle.flat_ties.proofs.Shaping.{shape_Unary, no_inverted}
use Rattle.flat_ties.proofs.shape.inverted_net.Goals as goal

pub returns-in-Unary : goal.returns-in-Unary
returns-in-Unary c = c.inverted.ensures ∙ sym (ap (λ s. s.1) (shape_Unary c.args.e.now c.in-Unary.op c.get.result.now (c.in-Unary.is ∙ ap (n.Unary c.in-Unary.op) (sym c.get.ensures))))

pub returns-in_default : goal.returns-in_default
returns-in_default c = sym (no_inverted c.args.e.now c.in_default.not-Unary)
