use Rattle.std.proofs.Common.{◌∙◌, sym}
use Rattle.std.specs.Prelude.{is_some}
use Rattle.flat_design.specs.Reads.{constant_in}
use Rattle.flat_flows.proofs.ReadNodes.{rest_of}
use Rattle.flat_flows.proofs.Matching.{all_more, not_all}
use Rattle.flat_flows.proofs.full.are_constant.Goals as goal

pub loop-label-preserved : goal.loop-label-preserved
loop-label-preserved c nets =
    all_more (λ l. is_some (constant_in nets l.value)) _ _ c.label-item.result (rest_of c.args.labels.now c.loop-label.label-index c.label-item.result c.loop-label-test.true c.label-item.is) (sym (c.is_constant.ensures nets) ∙ c.if-not-is_constant.false) ∙ c.loop-label.invariant nets

pub returns-then-not-is_constant : goal.returns-then-not-is_constant
returns-then-not-is_constant c nets =
    sym (sym (c.loop-label.invariant nets) ∙ not_all (λ l. is_some (constant_in nets l.value)) _ _ c.label-item.result (rest_of c.args.labels.now c.loop-label.label-index c.label-item.result c.loop-label-test.true c.label-item.is) (sym (c.is_constant.ensures nets) ∙ c.if-not-is_constant.true))
