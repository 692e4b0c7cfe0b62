use Rattle.std.proofs.Common.{◌∙◌, ap, sym, false}
use Rattle.std.specs.Prelude.{Some}
use Rattle.bit_base.specs.Numbers.{extended}
use Rattle.flat_flows.proofs.ReadNodes.{read_Constant, no_constant}
use Rattle.flat_flows.proofs.range.constant_of.Goals as goal

pub returns-in_ok-word-in-Constant : goal.returns-in_ok-word-in-Constant
returns-in_ok-word-in-Constant c nets =
    ap (λ r. r.0) (read_Constant nets c.args.e.now c.in-Constant.bits c.in-Constant.is) ∙ ap (λ w. Some (c.args.e.now.signed, w)) (sym (c.in_ok-word-in-Constant.ensures.value ∙ ap (extended c.args.e.now.size false) c.as_slice.ensures))

pub returns-in_default : goal.returns-in_default
returns-in_default c nets = no_constant nets c.args.e.now c.in_default.not-Constant
