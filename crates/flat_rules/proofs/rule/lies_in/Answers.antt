use Rattle.std.proofs.Common.{◌∙◌, sym}
use Rattle.flat_rules.proofs.Sums.{negative_out}
use Rattle.flat_rules.proofs.rule.lies_in.Goals as goal

pub returns-then-sign_of : goal.returns-then-sign_of
returns-then-sign_of c = negative_out c.args.net.now c.args.width c.args.signed c.args.bits.now c.if-signed.true (sym c.sign_of.ensures ∙ c.if-sign_of.true)
