-- Both directions, by induction over the reset edges and by the traffic after them.
use Rattle.apb_rules.proofs.Driven.{legal_is_master, master_is_legal, master_unselected}
use Rattle.apb_rules.proofs.legal.master_edge_by_edge.Goals as goal

pub returns : goal.returns
returns c = λ edges. (
  λ legal. (
    master_unselected c.args.style c.args.bytes c.args.resets edges legal,
    master_is_legal c.args.style c.args.bytes c.args.resets edges legal,
  ),
  λ each. legal_is_master c.args.style c.args.bytes c.args.resets edges each.0 each.1,
)
