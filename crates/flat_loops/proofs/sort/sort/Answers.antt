use Rattle.std.proofs.Common.{◌≡◌, ◌<◌, ◌∙◌, length, true, ap, arith}
use Rattle.std.specs.Prelude.{slice_index_or}
use Rattle.flat_orders.specs.Orders.{among}
use Rattle.flat_loops.proofs.SortLemmas.{match_none, entry_there, covers_more, whole}
use Rattle.flat_loops.proofs.sort.sort.Goals as goal

pub sort_from-requires-clause-node : goal.sort_from-requires-clause-node
sort_from-requires-clause-node c =
    let there : among (slice_index_or c.args.nodes.now c.loop-node.node-index 0) c.args.nodes.now ≡ true = entry_there c.args.nodes.now c.loop-node.node-index c.loop-node-test.true in
    let low : slice_index_or c.args.nodes.now c.loop-node.node-index 0 < length c.args.graph.now = c.requires.nodes (slice_index_or c.args.nodes.now c.loop-node.node-index 0) there in
    let same : length c.loop-node.seen ≡ length c.args.graph.now = c.loop-node.invariant.bound in
    omega arith

pub loop-node-preserved : goal.loop-node-preserved
loop-node-preserved c =
    let s = match_none c.in_ok-found.field-0 _ _ c.in_default.not-Some c.in_ok-found.ensures.sorted in
    record {
      search = s.search;
      bound = s.bound ∙ c.loop-node.invariant.bound;
      covers = λ k on. covers_more c.loop-node.order.items c.sort_from.new.order.items c.args.nodes.now c.loop-node.node-index k c.loop-node-test.true c.loop-node.invariant.covers s.kept s.there on;
      only = λ set closed all. s.within set closed (c.loop-node.invariant.only set closed all) (all (slice_index_or c.args.nodes.now c.loop-node.node-index 0) (entry_there c.args.nodes.now c.loop-node.node-index c.loop-node-test.true));
    }

pub returns : goal.returns
returns c = record {
  sorted = c.loop-node.invariant.search.sorted;
  covers = λ k on. c.loop-node.invariant.covers k (ap (among k) (whole c.args.nodes.now c.loop-node.node-index c.loop-node-test.false) ∙ on);
  only = c.loop-node.invariant.only;
}
