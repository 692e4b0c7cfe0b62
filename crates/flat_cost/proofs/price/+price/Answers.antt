use Rattle.std.proofs.Common.{◌∙◌, ◌+◌, false, sym, ap}
use Rattle.flat_design.specs.declared.expr.FlatNode.TheVariants as n
use Rattle.flat_design.specs.Prices.{price, priced, read_cost}
use Rattle.flat_cost.specs.Cuts.{cut}
use Rattle.flat_cost.proofs.Nodes as nodes
use Rattle.flat_cost.proofs.price.+price.Goals as goal

pub price_of-returns-in-Constant : goal.price_of-returns-in-Constant
price_of-returns-in-Constant t c = c.priced.ensures ∙ ap cut (sym (nodes.price_Constant c.args.nets.now c.args.e.now _ c.in-Constant.is))

pub price_of-returns-in-Net : goal.price_of-returns-in-Net
price_of-returns-in-Net t c = c.priced-in-Net.ensures ∙ ap cut (sym (nodes.price_Net c.args.nets.now c.args.e.now _ c.in-Net.is))

pub price_of-returns-in-Select : goal.price_of-returns-in-Select
price_of-returns-in-Select t c =
    c.select_price.ensures (price c.args.nets.now c.get.result.now) c.price_of-index.ensures
    ∙ ap (λ w. cut (priced c.args.e.now.size false ((price c.args.nets.now c.get.result.now).cost + read_cost w (price c.args.nets.now c.get.result.now)))) c.width_of.ensures
    ∙ ap cut (sym (nodes.price_Select c.args.nets.now c.args.e.now c.in-Select.net c.get.result.now c.in-Select.width (c.in-Select.is ∙ ap (λ x. n.Select c.in-Select.net x c.in-Select.width) (sym c.get.ensures))))

pub price_of-returns-in-Unary : goal.price_of-returns-in-Unary
price_of-returns-in-Unary t c =
    c.unary_price.ensures (price c.args.nets.now c.get-in-Unary.result.now) c.price_of-a.ensures
    ∙ ap cut (sym (nodes.price_Unary c.args.nets.now c.args.e.now c.in-Unary.op c.get-in-Unary.result.now (c.in-Unary.is ∙ ap (λ x. n.Unary c.in-Unary.op x) (sym c.get-in-Unary.ensures))))

pub price_of-returns-in-Binary : goal.price_of-returns-in-Binary
price_of-returns-in-Binary t c =
    c.binary_price.ensures (price c.args.nets.now c.get-in-Binary.result.now) (price c.args.nets.now c.get-in-Binary-2.result.now) c.price_of-a-in-Binary.ensures c.price_of-b.ensures
    ∙ ap cut (sym (nodes.price_Binary c.args.nets.now c.args.e.now c.in-Binary.op c.get-in-Binary.result.now c.get-in-Binary-2.result.now (c.in-Binary.is ∙ (λ i. n.Binary c.in-Binary.op (sym c.get-in-Binary.ensures i) (sym c.get-in-Binary-2.ensures i)))))

pub price_of-returns-in-Choice : goal.price_of-returns-in-Choice
price_of-returns-in-Choice t c =
    c.choice_price.ensures (price c.args.nets.now c.get-in-Choice.result.now) (price c.args.nets.now c.get-in-Choice-2.result.now) (price c.args.nets.now c.get-in-Choice-3.result.now) c.price_of-t.ensures c.price_of-a-in-Choice.ensures c.price_of-b-in-Choice.ensures
    ∙ ap cut (sym (nodes.price_Choice c.args.nets.now c.args.e.now c.get-in-Choice.result.now c.get-in-Choice-2.result.now c.get-in-Choice-3.result.now (c.in-Choice.is ∙ (λ i. n.Choice (sym c.get-in-Choice.ensures i) (sym c.get-in-Choice-2.ensures i) (sym c.get-in-Choice-3.ensures i)))))

pub price_of-returns-in-Join : goal.price_of-returns-in-Join
price_of-returns-in-Join t c =
    c.join_price.ensures ∙ ap cut (sym (nodes.price_Join c.args.nets.now c.args.e.now c.in-Join.count c.as_slice.result.now (c.in-Join.is ∙ ap (λ x. n.Join c.in-Join.count x) (sym c.as_slice.ensures))))

pub price_of-returns-in-Resize : goal.price_of-returns-in-Resize
price_of-returns-in-Resize t c =
    c.resize_price.ensures (price c.args.nets.now c.get-in-Resize.result.now) c.price_of-a-in-Resize.ensures
    ∙ ap cut (sym (nodes.price_Resize c.args.nets.now c.args.e.now c.get-in-Resize.result.now c.in-Resize.by_sign (c.in-Resize.is ∙ ap (λ x. n.Resize x c.in-Resize.by_sign) (sym c.get-in-Resize.ensures))))
