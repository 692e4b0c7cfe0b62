use Rattle.std.proofs.Common.{◌∙◌, sym, ap}
use Rattle.flat_design.specs.declared.expr.FlatNode.TheVariants as n
use Rattle.flat_flows.proofs.Spreading.{spread_size, spread_wide, unspread_cut, unspread_other}
use Rattle.flat_flows.proofs.full.+own_size.Goals as goal

pub returns-then-arg-e : goal.returns-then-arg-e
returns-then-arg-e t c =
    c.own_size.ensures ∙ sym (ap (λ s. s.own) (spread_wide c.args.e.now c.get-arg.result.now c.in-Resize.by_sign (c.in-Resize.is ∙ ap (λ x. n.Resize x c.in-Resize.by_sign) (sym c.get-arg.ensures)) (spread_size c.get-arg.result.now) c.if-arg-e.true))

pub returns-else-arg-e : goal.returns-else-arg-e
returns-else-arg-e t c =
    sym (ap (λ s. s.own) (unspread_cut c.args.e.now c.get-arg.result.now c.in-Resize.by_sign (c.in-Resize.is ∙ ap (λ x. n.Resize x c.in-Resize.by_sign) (sym c.get-arg.ensures)) (spread_size c.get-arg.result.now) c.if-arg-e.false))

pub returns-in_default : goal.returns-in_default
returns-in_default t c = sym (ap (λ s. s.own) (unspread_other c.args.e.now (λ a by_sign q. c.in_default.not-Resize a by_sign q)))
