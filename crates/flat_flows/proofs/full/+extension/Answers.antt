use Rattle.std.proofs.Common.{◌∙◌, ◌≤◌, refl, sym, ap, subst}
use Rattle.bit_base.specs.Numbers.{extended}
use Rattle.flat_design.specs.declared.expr.FlatNode.TheVariants as n
use Rattle.flat_design.specs.Flows.{Spread, spread}
use Rattle.flat_flows.proofs.Spreading.{spread_size, spread_wide, unspread_cut, unspread_other, word_of}
use Rattle.flat_flows.proofs.full.+extension.Goals as goal

pub returns-in_ok-word-in-Resize : goal.returns-in_ok-word-in-Resize
returns-in_ok-word-in-Resize t c few =
    word_of c.extended_to.result (spread c.args.e.now) _ c.args.number (spread_wide c.args.e.now c.get-arg.result.now c.in-Resize.by_sign (c.in-Resize.is ∙ ap (λ x. n.Resize x c.in-Resize.by_sign) (sym c.get-arg.ensures)) (spread_size c.get-arg.result.now) c.if-arg-e.true)
    (extended c.args.e.now.size c.in-Resize.by_sign c.as_slice.result.now)
    (ap (extended c.args.e.now.size c.in-Resize.by_sign) (c.as_slice.ensures ∙ c.in_ok-word-in-Resize.ensures (subst (λ (s : Spread). s.own ≤ 8) (spread_wide c.args.e.now c.get-arg.result.now c.in-Resize.by_sign (c.in-Resize.is ∙ ap (λ x. n.Resize x c.in-Resize.by_sign) (sym c.get-arg.ensures)) (spread_size c.get-arg.result.now) c.if-arg-e.true) few))) c.extended_to.ensures.value

pub returns-else-arg-e : goal.returns-else-arg-e
returns-else-arg-e t c few =
    word_of c.word_at.result (spread c.args.e.now) _ c.args.number (unspread_cut c.args.e.now c.get-arg.result.now c.in-Resize.by_sign (c.in-Resize.is ∙ ap (λ x. n.Resize x c.in-Resize.by_sign) (sym c.get-arg.ensures)) (spread_size c.get-arg.result.now) c.if-arg-e.false) _ refl (c.word_at.ensures (subst (λ (s : Spread). s.own ≤ 8) (unspread_cut c.args.e.now c.get-arg.result.now c.in-Resize.by_sign (c.in-Resize.is ∙ ap (λ x. n.Resize x c.in-Resize.by_sign) (sym c.get-arg.ensures)) (spread_size c.get-arg.result.now) c.if-arg-e.false) few))

pub returns-in_default : goal.returns-in_default
returns-in_default t c few =
    word_of c.word_at-in_default.result (spread c.args.e.now) _ c.args.number (unspread_other c.args.e.now (λ a by_sign q. c.in_default.not-Resize a by_sign q)) _ refl (c.word_at-in_default.ensures (subst (λ (s : Spread). s.own ≤ 8) (unspread_other c.args.e.now (λ a by_sign q. c.in_default.not-Resize a by_sign q)) few))
