-- What a frame holds: the assignments of a body, those to paths, and the defaults that stand before it (SystemRDL 2.0, clauses
-- 5.1.3, "Property assignment", and 5.1.3.4, "Property defaults").
use Rattle.std.specs.Prelude.{ℕ, List, [], ◌∷◌, ◌++◌}
use Rattle.rdl_tree.specs.declared.tree.RdlItem.{RdlItem, out-RdlItem}
use Rattle.rdl_tree.specs.declared.tree.RdlItem.TheOpen.{RdlItem-F}
use Rattle.rdl_tree.specs.declared.tree.RdlDef.{RdlDef, out-RdlDef}
use Rattle.rdl_tree.specs.declared.tree.RdlProp.{RdlProp}
use Rattle.rdl_text.specs.Chains.{Chain}
use Rattle.rdl_text.specs.Instances.{kind_of}
use Rattle.rdl_values.specs.OneInstance.{Instance}
use Rattle.rdl_values.specs.OneFrame.{Target, Frame}

abbrev pub target_by : RdlItem-F RdlItem RdlDef → List Target
target_by (RdlItem-F.Dynamic path arrow prop semi) = record { path = path; prop = prop } ∷ []
target_by _ = []

abbrev pub targets_of : List RdlItem → List Target
targets_of [] = []
targets_of (x ∷ xs) = target_by (out-RdlItem x) ++ targets_of xs

abbrev pub own_by : RdlItem-F RdlItem RdlDef → List RdlProp
own_by (RdlItem-F.Prop prop semi) = prop ∷ []
own_by _ = []

abbrev pub own_of : List RdlItem → List RdlProp
own_of [] = []
own_of (x ∷ xs) = own_by (out-RdlItem x) ++ own_of xs

abbrev pub default_by : RdlItem-F RdlItem RdlDef → List RdlProp
default_by (RdlItem-F.Default word prop semi) = prop ∷ []
default_by _ = []

abbrev pub defaults_in : List RdlItem → List RdlProp
defaults_in [] = []
defaults_in (x ∷ xs) = default_by (out-RdlItem x) ++ defaults_in xs

-- those before a body in the bodies around it in the text, and in the description
abbrev pub defaults_of : Chain → List RdlProp
defaults_of [] = []
defaults_of (before ∷ inner) = defaults_in before ++ defaults_of inner

-- the frame of an element, with these assignments to paths in the body in which it stands
abbrev pub frame_of : List Target → Instance → ℕ → Frame
frame_of targets i k = record {
  inst = i.inst;
  kind = kind_of i.component;
  index = k;
  targets = targets;
  own = own_of (out-RdlDef i.component.definition).items;
  defaults = defaults_of i.component.chain;
}
