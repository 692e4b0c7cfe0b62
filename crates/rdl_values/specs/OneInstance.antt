-- Instances (SystemRDL 2.0, clause 5.1.2, "Instantiating components"): an instance, with the component that it has.
use Rattle.rdl_tree.specs.declared.tree.RdlInst.{RdlInst}
use Rattle.rdl_text.specs.Components.{Component}

pub record Instance : Type 0 where
  pub inst : RdlInst
  pub component : Component
