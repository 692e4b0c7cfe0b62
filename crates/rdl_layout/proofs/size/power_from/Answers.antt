use Rattle.std.proofs.Common.{◌∙◌, ap, sym, arith}
use Rattle.std.proofs.lemmas.Bool.{lt-leb}
use Rattle.rdl_layout.specs.Sizes.{capped}
use Rattle.rdl_layout.proofs.Powers.{stays, goes, ends, is_le}
use Rattle.rdl_layout.proofs.size.power_from.Goals as goal

pub returns-then-size-power : goal.returns-then-size-power
returns-then-size-power c = c.capped.ensures ∙ ap capped (sym (stays _ c.loop-at.power c.args.size (is_le _ _ c.if-size-power.true)) ∙ c.loop-at.invariant.same)

pub loop-at-preserved : goal.loop-at-preserved
loop-at-preserved c = record {
  same = sym (goes c.loop-at._at c.loop-at.power c.args.size c.loop-at-test.true (lt-leb _ _ c.if-size-power.false)) ∙ c.loop-at.invariant.same;
  bound = omega (arith, c.if-size-power.false, c.requires);
}

pub returns : goal.returns
returns c = c.capped-2.ensures ∙ ap capped (sym (ends c.loop-at._at c.loop-at.power c.args.size c.loop-at-test.false) ∙ c.loop-at.invariant.same)
