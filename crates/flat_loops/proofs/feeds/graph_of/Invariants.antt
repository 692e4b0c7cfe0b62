use Rattle.std.proofs.Common.{◌≡◌, length}
use Rattle.flat_loops.specs.Feeding.{AreFeeds}
use Rattle.flat_loops.proofs.feeds.graph_of.Given as goal

abbrev pub invariant-loop-item : goal.invariant-loop-item
invariant-loop-item l = record { nodes : length l.graph ≡ l.item-index; feeds : AreFeeds l.nets l.items l.item-index l.graph }
