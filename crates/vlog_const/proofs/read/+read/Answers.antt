use Rattle.std.proofs.Common.{◌≡◌, ◌∙◌, ◌∷◌, map, sym, ap, subst}
use Rattle.std.specs.Prelude.{IfOk}
use Rattle.vlog_const.specs.Sized.{prefix_of, function_named, bit_node, range_node, upward_node, group_node, prefix_node, infix_node, choice_node, join_node, repeat_node, call_node, sized_of, sized_prim, sized_next}
use Rattle.vlog_const.proofs.SizedLemmas as S
use Rattle.vlog_const.proofs.read.+read.Goals as goal

pub sized_of-returns-in-Prim : goal.sized_of-returns-in-Prim
sized_of-returns-in-Prim t c = subst (λ x. IfOk c.sized_prim.result (λ e. e ≡ x)) (ap (sized_prim c.args.scope.now) c.get.ensures ∙ sym (S.expr_Prim c.args.scope.now c.args.expr.now c.in-Prim.prim c.in-Prim.is)) c.sized_prim.ensures

pub sized_of-returns-in_ok-operand-in-Unary : goal.sized_of-returns-in_ok-operand-in-Unary
sized_of-returns-in_ok-operand-in-Unary t c = subst (λ x. IfOk c.prefix_node.result (λ e. e ≡ x)) ((λ i. prefix_node ((c.prefix_of-op.ensures ∙ ap prefix_of c.as_bytes.ensures) i) c.in-Unary.operator.place ((c.in_ok-operand-in-Unary.ensures ∙ ap (sized_of c.args.scope.now) c.get-in-Unary.ensures) i)) ∙ sym (S.expr_Unary c.args.scope.now c.args.expr.now c.in-Unary.operator c.in-Unary.operand c.in-Unary.is)) c.prefix_node.ensures

pub sized_of-returns-in_ok-right-in-Binary : goal.sized_of-returns-in_ok-right-in-Binary
sized_of-returns-in_ok-right-in-Binary t c = subst (λ x. IfOk c.infix_node.result (λ e. e ≡ x)) ((λ i. infix_node (c.infix_of.ensures i) ((c.in_ok-left-in-Binary.ensures ∙ ap (sized_of c.args.scope.now) c.get-in-Binary.ensures) i) ((c.in_ok-right-in-Binary.ensures ∙ ap (sized_of c.args.scope.now) c.get-in-Binary-2.ensures) i)) ∙ sym (S.expr_Binary c.args.scope.now c.args.expr.now c.in-Binary.left c.in-Binary.operator c.in-Binary.right c.in-Binary.is)) c.infix_node.ensures

pub sized_of-returns-in_ok-no_value-in-Choice : goal.sized_of-returns-in_ok-no_value-in-Choice
sized_of-returns-in_ok-no_value-in-Choice t c = subst (λ x. IfOk c.choice_node.result (λ e. e ≡ x)) ((λ i. choice_node ((c.in_ok-test-in-Choice.ensures ∙ ap (sized_of c.args.scope.now) c.get-in-Choice.ensures) i) ((c.in_ok-yes_value-in-Choice.ensures ∙ ap (sized_of c.args.scope.now) c.get-in-Choice-2.ensures) i) ((c.in_ok-no_value-in-Choice.ensures ∙ ap (sized_of c.args.scope.now) c.get-in-Choice-3.ensures) i)) ∙ sym (S.expr_Choice c.args.scope.now c.args.expr.now c.in-Choice.test c.in-Choice.field-1 c.in-Choice.yes_value c.in-Choice.field-3 c.in-Choice.no_value c.in-Choice.is)) c.choice_node.ensures

pub sized_prim-returns-in-Number : goal.sized_prim-returns-in-Number
sized_prim-returns-in-Number t c = subst (λ x. IfOk c.number.result (λ e. e ≡ x)) (sym (S.prim_Number c.args.scope.now c.args.prim.now c.in-Number.token c.in-Number.is)) c.number.ensures

pub sized_prim-returns-in-Name : goal.sized_prim-returns-in-Name
sized_prim-returns-in-Name t c = subst (λ x. IfOk c.named.result (λ e. e ≡ x)) (sym (S.prim_Name c.args.scope.now c.args.prim.now c.in-Name.token c.in-Name.select c.in-Name.is)) c.named.ensures

pub sized_prim-returns-in_ok-whole-in-Group : goal.sized_prim-returns-in_ok-whole-in-Group
sized_prim-returns-in_ok-whole-in-Group t c = subst (λ x. IfOk c.group_node.result (λ e. e ≡ x)) ((λ i. group_node c.in-Group.open.place ((c.in_ok-whole-in-Group.ensures ∙ ap (sized_of c.args.scope.now) c.get.ensures) i)) ∙ sym (S.prim_Group c.args.scope.now c.args.prim.now c.in-Group.open c.in-Group.expr c.in-Group.field-2 c.in-Group.is)) c.group_node.ensures

pub sized_prim-returns-in_ok-parts-in-Join : goal.sized_prim-returns-in_ok-parts-in-Join
sized_prim-returns-in_ok-parts-in-Join t c = c.join_node.ensures ∙ (λ i. join_node c.in-Join.open.place ((c.in_ok-parts-in-Join.ensures ∙ (λ i. (c.in_ok-first-in-Join.ensures ∙ ap (sized_of c.args.scope.now) c.get-in-Join.ensures) i ∷ map (sized_next c.args.scope.now) (c.as_slice.ensures i))) i)) ∙ sym (S.prim_Join c.args.scope.now c.args.prim.now c.in-Join.open c.in-Join.first c.in-Join.more c.in-Join.field-3 c.in-Join.is)

pub sized_prim-returns-in_ok-parts-in-Repeat : goal.sized_prim-returns-in_ok-parts-in-Repeat
sized_prim-returns-in_ok-parts-in-Repeat t c = subst (λ x. IfOk c.repeat_node.result (λ e. e ≡ x)) ((λ i. repeat_node c.in-Repeat.open.place ((c.in_ok-count-in-Repeat.ensures ∙ ap (sized_of c.args.scope.now) c.get-in-Repeat.ensures) i) ((c.in_ok-parts-in-Repeat.ensures ∙ (λ i. (c.in_ok-first-in-Repeat.ensures ∙ ap (sized_of c.args.scope.now) c.get-in-Repeat-2.ensures) i ∷ map (sized_next c.args.scope.now) (c.as_slice-in-Repeat.ensures i))) i)) ∙ sym (S.prim_Repeat c.args.scope.now c.args.prim.now c.in-Repeat.open c.in-Repeat.count c.in-Repeat.field-2 c.in-Repeat.first c.in-Repeat.more c.in-Repeat.field-5 c.in-Repeat.field-6 c.in-Repeat.is)) c.repeat_node.ensures

pub sized_prim-returns-in_ok-argument-in-Call : goal.sized_prim-returns-in_ok-argument-in-Call
sized_prim-returns-in_ok-argument-in-Call t c = subst (λ x. IfOk c.call_node.result (λ e. e ≡ x)) ((λ i. call_node ((c.function_named-named.ensures ∙ ap function_named c.as_bytes.ensures) i) c.in-Call.function.place ((c.in_ok-argument-in-Call.ensures ∙ ap (sized_of c.args.scope.now) c.get-in-Call.ensures) i)) ∙ sym (S.prim_Call c.args.scope.now c.args.prim.now c.in-Call.function c.in-Call.field-1 c.in-Call.expr c.in-Call.field-3 c.in-Call.is)) c.call_node.ensures

pub sized_select-returns-in_ok-index-in-Bit : goal.sized_select-returns-in_ok-index-in-Bit
sized_select-returns-in_ok-index-in-Bit t c = subst (λ x. IfOk c.bit_node.result (λ e. e ≡ x)) ((λ i. bit_node c.in-Bit.open.place ((c.in_ok-index-in-Bit.ensures ∙ ap (sized_of c.args.scope.now) c.get.ensures) i) c.args.place c.args.signal) ∙ sym (ap (λ f. f c.args.place c.args.signal) (S.select_Bit c.args.scope.now c.args.select.now c.in-Bit.open c.in-Bit.index c.in-Bit.field-2 c.in-Bit.is))) c.bit_node.ensures

pub sized_select-returns-in_ok-low-in-Range : goal.sized_select-returns-in_ok-low-in-Range
sized_select-returns-in_ok-low-in-Range t c = subst (λ x. IfOk c.range_node.result (λ e. e ≡ x)) ((λ i. range_node c.in-Range.open.place ((c.in_ok-high-in-Range.ensures ∙ ap (sized_of c.args.scope.now) c.get-in-Range.ensures) i) ((c.in_ok-low-in-Range.ensures ∙ ap (sized_of c.args.scope.now) c.get-in-Range-2.ensures) i) c.args.place c.args.signal) ∙ sym (ap (λ f. f c.args.place c.args.signal) (S.select_Range c.args.scope.now c.args.select.now c.in-Range.open c.in-Range.high c.in-Range.field-2 c.in-Range.low c.in-Range.field-4 c.in-Range.is))) c.range_node.ensures

pub sized_select-returns-in_ok-width-in-Upward : goal.sized_select-returns-in_ok-width-in-Upward
sized_select-returns-in_ok-width-in-Upward t c = subst (λ x. IfOk c.upward_node.result (λ e. e ≡ x)) ((λ i. upward_node c.in-Upward.open.place ((c.in_ok-low-in-Upward.ensures ∙ ap (sized_of c.args.scope.now) c.get-in-Upward.ensures) i) ((c.in_ok-width-in-Upward.ensures ∙ ap (sized_of c.args.scope.now) c.get-in-Upward-2.ensures) i) c.args.place c.args.signal) ∙ sym (ap (λ f. f c.args.place c.args.signal) (S.select_Upward c.args.scope.now c.args.select.now c.in-Upward.open c.in-Upward.low c.in-Upward.field-2 c.in-Upward.width c.in-Upward.field-4 c.in-Upward.is))) c.upward_node.ensures
