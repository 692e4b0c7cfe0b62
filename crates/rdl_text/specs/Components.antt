-- Components (SystemRDL 2.0, clause 5.1, "Defining components"): a definition, with what stands before it in the text.
use Rattle.rdl_tree.specs.declared.tree.RdlDef.{RdlDef}
use Rattle.rdl_text.specs.Chains.{Chain}

pub record Component : Type 0 where
  pub definition : RdlDef
  pub chain : Chain
