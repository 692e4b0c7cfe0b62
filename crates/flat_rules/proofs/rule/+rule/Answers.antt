use Rattle.std.proofs.Common.{◌∙◌, ◌&&◌, Bool, ℕ, sym, ap}
use Rattle.std.specs.Prelude.{nat_le}
use Rattle.flat_design.specs.declared.expr.FlatNode.TheVariants as n
use Rattle.flat_rules.specs.Rules.{Ruled, rules, widest}
use Rattle.flat_rules.proofs.Nodes as nodes
use Rattle.flat_rules.proofs.rule.+rule.Goals as goal

of_size : ℕ → Bool → Bool
of_size size obeys = nat_le 1 size && (nat_le size widest && obeys)

answer : Ruled → Bool
answer r = r.obeys

pub obeys-returns-in-Constant : goal.obeys-returns-in-Constant
unfolding of_size answer
obeys-returns-in-Constant t c = c.ruled.ensures ∙ ap (of_size c.args.e.now.size) c.constant_obeys.ensures ∙ ap answer (sym (nodes.rules_Constant c.args.nets.now c.args.e.now c.in-Constant.bits c.in-Constant.is))

pub obeys-returns-in-Net : goal.obeys-returns-in-Net
unfolding of_size answer
obeys-returns-in-Net t c = c.ruled-in-Net.ensures ∙ ap (of_size c.args.e.now.size) c.net_obeys.ensures ∙ ap answer (sym (nodes.rules_Net c.args.nets.now c.args.e.now c.in-Net.net c.in-Net.is))

pub obeys-returns-in-Select : goal.obeys-returns-in-Select
unfolding answer
obeys-returns-in-Select t c =
    c.select_ruled.ensures c.obeys-obey.ensures
    ∙ ap answer (sym (nodes.rules_Select c.args.nets.now c.args.e.now c.in-Select.net c.get-index.result.now c.in-Select.width (c.in-Select.is ∙ ap (λ x. n.Select c.in-Select.net x c.in-Select.width) (sym c.get-index.ensures))))

pub obeys-returns-in-Unary : goal.obeys-returns-in-Unary
unfolding answer
obeys-returns-in-Unary t c =
    c.unary_ruled.ensures (rules c.args.nets.now c.get-arg.result.now) (c.own_of.ensures c.args.nets.now) c.obeys-obey-in-Unary.ensures
    ∙ ap answer (sym (nodes.rules_Unary c.args.nets.now c.args.e.now c.in-Unary.op c.get-arg.result.now (c.in-Unary.is ∙ ap (λ x. n.Unary c.in-Unary.op x) (sym c.get-arg.ensures))))

pub obeys-returns-in-Binary : goal.obeys-returns-in-Binary
unfolding answer
obeys-returns-in-Binary t c =
    c.binary_ruled.ensures (rules c.args.nets.now c.get-left.result.now) (rules c.args.nets.now c.get-right.result.now) (c.own_of-in-Binary.ensures c.args.nets.now) (c.own_of-in-Binary-2.ensures c.args.nets.now)
    (c.both.ensures ∙ (λ i. c.obeys-a.ensures i && c.obeys-b.ensures i))
    ∙ ap answer (sym (nodes.rules_Binary c.args.nets.now c.args.e.now c.in-Binary.op c.get-left.result.now c.get-right.result.now (c.in-Binary.is ∙ (λ i. n.Binary c.in-Binary.op (sym c.get-left.ensures i) (sym c.get-right.ensures i)))))

pub obeys-returns-in-Choice : goal.obeys-returns-in-Choice
unfolding answer
obeys-returns-in-Choice t c =
    c.choice_ruled.ensures (rules c.args.nets.now c.get-test.result.now) (rules c.args.nets.now c.get-yes.result.now) (rules c.args.nets.now c.get-no.result.now) (c.own_of-in-Choice.ensures c.args.nets.now) (c.own_of-in-Choice-2.ensures c.args.nets.now)
    (c.both-in-Choice-2.ensures ∙ (λ i. c.obeys-t.ensures i && (c.both-in-Choice.ensures ∙ (λ j. c.obeys-a-in-Choice.ensures j && c.obeys-b-in-Choice.ensures j)) i))
    ∙ ap answer (sym (nodes.rules_Choice c.args.nets.now c.args.e.now c.get-test.result.now c.get-yes.result.now c.get-no.result.now (c.in-Choice.is ∙ (λ i. n.Choice (sym c.get-test.ensures i) (sym c.get-yes.ensures i) (sym c.get-no.ensures i)))))

pub obeys-returns-in-Join : goal.obeys-returns-in-Join
unfolding answer
obeys-returns-in-Join t c =
    c.join_ruled.ensures c.args.nets.now c.all_obey-obey.ensures
    ∙ ap answer (sym (nodes.rules_Join c.args.nets.now c.args.e.now c.in-Join.count c.as_slice-parts.result.now (c.in-Join.is ∙ ap (λ x. n.Join c.in-Join.count x) (sym c.as_slice-parts.ensures))))

pub obeys-returns-in-Resize : goal.obeys-returns-in-Resize
unfolding of_size answer
obeys-returns-in-Resize t c =
    c.ruled-in-Resize.ensures ∙ ap (of_size c.args.e.now.size) c.obeys.ensures
    ∙ ap answer (sym (nodes.rules_Resize c.args.nets.now c.args.e.now c.get.result.now c.in-Resize.by_sign (c.in-Resize.is ∙ ap (λ x. n.Resize x c.in-Resize.by_sign) (sym c.get.ensures))))
