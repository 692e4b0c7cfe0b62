use Rattle.std.proofs.Common.{◌≡◌, ◌∙◌, ◌+◌, ap, subst, length, arith, [], ◌∷◌}
use Rattle.std.proofs.lemmas.List.{length-append}
use Rattle.flat_loops.specs.Feeding.{IsRowOf}
use Rattle.flat_loops.proofs.FeedLemmas.{entry, graph_more}
use Rattle.flat_loops.proofs.feeds.graph_of.Goals as goal

pub loop-item-preserved : goal.loop-item-preserved
loop-item-preserved c = record {
  nodes = let e : length c.push.new.self ≡ length c.loop-item.graph + 1 = ap length c.in_ok-push.ensures ∙ length-append c.loop-item.graph (c.in_ok-row.row.items ∷ []) in let n : length c.loop-item.graph ≡ c.loop-item.item-index = c.loop-item.invariant.nodes in omega arith;
  feeds = graph_more c.args.nets.now c.args.items.now c.loop-item.item-index c.item-item.result c.in_ok-table.table.items c.loop-item.graph c.push.new.self c.in_ok-row.row.items c.loop-item.invariant.feeds c.loop-item.invariant.nodes
      (entry c.args.items.now c.loop-item.item-index c.item-item.result c.loop-item-test.true c.item-item.is) c.in_ok-table.ensures
      (subst (λ t. IsRowOf c.args.nets.now c.item-item.result t c.in_ok-row.row.items) c.as_slice.ensures.value c.in_ok-row.ensures) c.in_ok-push.ensures;
}
