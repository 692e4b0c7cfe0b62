-- What the instances below a component give, one after the other: each instance, before those inside of it.
use Rattle.std.specs.Prelude.{ℕ, zero, suc, List, [], ◌∷◌, ◌++◌}
use Rattle.rdl_tree.specs.declared.tree.RdlDef.{out-RdlDef}
use Rattle.rdl_text.specs.Components.{Component}
use Rattle.rdl_values.specs.OneInstance.{Instance}
use Rattle.rdl_values.specs.OneFrame.{Target, Trail}
use Rattle.rdl_values.specs.Instances.{instances_of, count_of}
use Rattle.rdl_values.specs.Frames.{targets_of, frame_of}

abbrev pub Gives : Type 0 → Type 0
Gives A = Trail → Component → List A

-- the elements of an instance below this number
abbrev pub over_elements : {A : Type 0} → Gives A → Trail → List Target → Instance → ℕ → List A
over_elements give up targets i zero = []
over_elements give up targets i (suc n) = over_elements give up targets i n ++ give (up ++ frame_of targets i n ∷ []) i.component

abbrev pub over_instances : {A : Type 0} → Gives A → Trail → List Target → List Instance → List A
over_instances give up targets [] = []
over_instances give up targets (i ∷ is) = over_elements give up targets i (count_of i) ++ over_instances give up targets is

-- the component itself, and what stands in it, nested as deep as there is room
unfoldable pub over : {A : Type 0} → Gives A → ℕ → Gives A
over give zero up c = give up c
over give (suc room) up c = give up c ++ over_instances (over give room) up (targets_of (out-RdlDef c.definition).items) (instances_of c)
