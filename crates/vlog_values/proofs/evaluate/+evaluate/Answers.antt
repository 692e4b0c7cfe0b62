use Rattle.std.proofs.Common.{subst, sym, ◌∙◌, ap}
use Rattle.std.specs.Prelude.{Err}
use Rattle.vlog_values.specs.Steps.{Comes}
use Rattle.vlog_values.specs.declared.sized.SizedNode.TheVariants as n
use Rattle.vlog_values.proofs.OutcomeLemmas as L
use Rattle.vlog_values.proofs.PartsLemmas.{refused_part, next_part}
use Rattle.vlog_values.proofs.evaluate.+evaluate.Goals as goal

pub evaluate-returns-in-Missing-clause-value : goal.evaluate-returns-in-Missing-clause-value
evaluate-returns-in-Missing-clause-value t c = L.value_Missing c.args.context c.args.e.now c.in-Missing.is ∙ ap Err (sym c.leading.ensures)

pub evaluate-returns-in-Number-clause-value : goal.evaluate-returns-in-Number-clause-value
evaluate-returns-in-Number-clause-value t c = subst (λ o. Comes o c.number.result) (sym (L.value_Number c.args.context c.args.e.now c.in-Number.bits c.in-Number.unknown c.in-Number.is)) c.number.ensures.value

pub evaluate-returns-in-Constant-clause-value : goal.evaluate-returns-in-Constant-clause-value
evaluate-returns-in-Constant-clause-value t c = subst (λ o. Comes o c.constant_word.result) (sym (L.value_Constant c.args.context c.args.e.now c.in-Constant.bits c.in-Constant.is)) c.constant_word.ensures.value

pub evaluate-returns-in-Net-clause-value : goal.evaluate-returns-in-Net-clause-value
evaluate-returns-in-Net-clause-value t c = subst (λ o. Comes o c.net.result) (sym (L.value_Net c.args.context c.args.e.now c.in-Net.signal c.in-Net.is)) c.net.ensures.value

pub evaluate-returns-in-Bit-clause-value : goal.evaluate-returns-in-Bit-clause-value
evaluate-returns-in-Bit-clause-value t c = subst (λ o. Comes o c.bit.result) (sym (L.value_Bit c.args.context c.args.e.now c.in-Bit.signal c.in-Bit.bracket c.get.result.now (c.in-Bit.is ∙ ap (λ x. n.Bit c.in-Bit.signal c.in-Bit.bracket x) (sym c.get.ensures)))) c.bit.ensures.value

pub evaluate-returns-in-Range-clause-value : goal.evaluate-returns-in-Range-clause-value
evaluate-returns-in-Range-clause-value t c = subst (λ o. Comes o c.range.result) (sym (L.value_Range c.args.context c.args.e.now c.in-Range.signal c.in-Range.bracket c.get-in-Range.result.now (c.in-Range.is ∙ ap (λ x. n.Range c.in-Range.signal c.in-Range.bracket x) (sym c.get-in-Range.ensures)))) c.range.ensures.value

pub evaluate-returns-in-Upward-clause-value : goal.evaluate-returns-in-Upward-clause-value
evaluate-returns-in-Upward-clause-value t c = subst (λ o. Comes o c.upward.result) (sym (L.value_Upward c.args.context c.args.e.now c.in-Upward.signal c.in-Upward.bracket c.get-in-Upward.result.now (c.in-Upward.is ∙ ap (λ x. n.Upward c.in-Upward.signal c.in-Upward.bracket x) (sym c.get-in-Upward.ensures)))) c.upward.ensures.value

pub evaluate-returns-in-Group-clause-value : goal.evaluate-returns-in-Group-clause-value
evaluate-returns-in-Group-clause-value t c = subst (λ o. Comes o c.group.result) (sym (L.value_Group c.args.context c.args.e.now c.get-in-Group.result.now (c.in-Group.is ∙ ap (λ x. n.Group x) (sym c.get-in-Group.ensures)))) c.group.ensures.value

pub evaluate-returns-in-Unary-clause-value : goal.evaluate-returns-in-Unary-clause-value
evaluate-returns-in-Unary-clause-value t c = subst (λ o. Comes o c.unary.result) (sym (L.value_Unary c.args.context c.args.e.now c.in-Unary.operator c.get-in-Unary.result.now (c.in-Unary.is ∙ ap (λ x. n.Unary c.in-Unary.operator x) (sym c.get-in-Unary.ensures)))) c.unary.ensures.value

pub evaluate-returns-in-Binary-clause-value : goal.evaluate-returns-in-Binary-clause-value
evaluate-returns-in-Binary-clause-value t c = subst (λ o. Comes o c.binary.result) (sym (L.value_Binary c.args.context c.args.e.now c.in-Binary.operator c.get-in-Binary.result.now (c.in-Binary.is ∙ ap (λ x. n.Binary c.in-Binary.operator x) (sym c.get-in-Binary.ensures)))) c.binary.ensures.value

pub evaluate-returns-in-Choice-clause-value : goal.evaluate-returns-in-Choice-clause-value
evaluate-returns-in-Choice-clause-value t c = subst (λ o. Comes o c.choice.result) (sym (L.value_Choice c.args.context c.args.e.now c.get-in-Choice.result.now (c.in-Choice.is ∙ ap (λ x. n.Choice x) (sym c.get-in-Choice.ensures)))) c.choice.ensures.value

pub evaluate-returns-in-Join-clause-value : goal.evaluate-returns-in-Join-clause-value
evaluate-returns-in-Join-clause-value t c = subst (λ o. Comes o c.join.result) (sym (L.value_Join c.args.context c.args.e.now c.as_slice.result.now (c.in-Join.is ∙ ap (λ x. n.Join x) (sym c.as_slice.ensures)))) c.join.ensures.value

pub evaluate-returns-in-Repeat-clause-value : goal.evaluate-returns-in-Repeat-clause-value
evaluate-returns-in-Repeat-clause-value t c = subst (λ o. Comes o c.replication.result) (sym (L.value_Repeat c.args.context c.args.e.now c.get-in-Repeat.result.now (c.in-Repeat.is ∙ ap (λ x. n.Repeat x) (sym c.get-in-Repeat.ensures)))) c.replication.ensures.value

pub evaluate-returns-in-Call-clause-value : goal.evaluate-returns-in-Call-clause-value
evaluate-returns-in-Call-clause-value t c = subst (λ o. Comes o c.call.result) (sym (L.value_Call c.args.context c.args.e.now c.in-Call.function c.get-in-Call.result.now (c.in-Call.is ∙ ap (λ x. n.Call c.in-Call.function x) (sym c.get-in-Call.ensures)))) c.call.ensures.value

pub parts-returns-in-Err : goal.parts-returns-in-Err
parts-returns-in-Err t c =
    refused_part c.args.list.now c.loop-part.part-index _ c.loop-part.higher c.as_slice.result.now c.part-item.result _ c.in-Err.stop c.loop-part-test.true c.part-item.is c.loop-part.invariant c.as_slice.ensures c.in-Err.ensures

pub parts-loop-part-preserved : goal.parts-loop-part-preserved
parts-loop-part-preserved t c =
    next_part c.args.list.now c.loop-part.part-index c.args.first c.loop-part.higher c.as_slice.result.now c.in-Ok.bits c.part-item.result _ c.loop-part-test.true c.part-item.is c.loop-part.invariant c.as_slice.ensures c.in-Ok.ensures
