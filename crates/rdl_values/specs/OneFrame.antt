-- Frames: an instance on the way from the top to an instance, with the assignments that can reach what stands there.
use Rattle.std.specs.Prelude.{ℕ, List}
use Rattle.rdl_tree.specs.declared.tree.RdlInst.{RdlInst}
use Rattle.rdl_tree.specs.declared.tree.RdlPath.{RdlPath}
use Rattle.rdl_tree.specs.declared.tree.RdlProp.{RdlProp}
use Rattle.rdl_text.specs.declared.instance.Body.{Body}

-- an assignment to a path
pub record Target : Type 0 where
  pub path : RdlPath
  pub prop : RdlProp

-- the instance, the kind of its component, and which element of an array it is; the assignments to paths in the body in
-- which it stands; the assignments of its component's body; and the defaults in force for that body, the nearest last
pub record Frame : Type 0 where
  pub inst : RdlInst
  pub kind : Body
  pub index : ℕ
  pub targets : List Target
  pub own : List RdlProp
  pub defaults : List RdlProp

-- the way to an instance: its frame, behind those of the instances around it, the outermost first
abbrev pub Trail : Type 0
Trail = List Frame
