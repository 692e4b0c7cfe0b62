use Rattle.std.proofs.Common.{◌∙◌, Some, sym, ap}
use Rattle.flat_rules.specs.Rules.{is_inside}
use Rattle.flat_rules.proofs.Nodes.{constant_none, constant_some}
use Rattle.flat_rules.proofs.rule.is_inside.Goals as goal

pub returns-in-Constant : goal.returns-in-Constant
returns-in-Constant c nets h =
    c.lies_in.ensures ∙ ap (λ b. is_inside c.args.net.now c.args.width (Some (c.args.index.now.signed, b))) c.as_slice.ensures
    ∙ ap (is_inside c.args.net.now c.args.width) (sym (constant_some nets c.args.index.now c.in-Constant.bits c.in-Constant.is h))

pub returns-in_default : goal.returns-in_default
returns-in_default c nets h = ap (is_inside c.args.net.now c.args.width) (sym (constant_none nets c.args.index.now c.in_default.not-Constant))
