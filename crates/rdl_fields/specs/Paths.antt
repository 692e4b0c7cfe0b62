-- The paths of fields (SystemRDL 2.0, clause 5.1.2.1, "Instance name referencing"): the names of the instances below the top,
-- joined by `.`; an element of an array is its name with `[i]`, from 0.
use Rattle.std.specs.Prelude.{ℕ, if◌then◌else◌, List, [], ◌∷◌, ◌++◌, Option, Some, None, map}
use Rattle.std.specs.Option.{option_map}
use Rattle.std.specs.Fmt.{decimal}
use Rattle.field_policies.specs.FieldPath.{Step, step_text, path_text}
use Rattle.rdl_tree.specs.declared.tree.RdlPath.{RdlPath}
use Rattle.rdl_tree.specs.declared.tree.RdlStep.{RdlStep}
use Rattle.rdl_tree.specs.declared.tree.RdlNextStep.{RdlNextStep}
use Rattle.rdl_values.specs.OneFrame.{Frame, Trail}
use Rattle.rdl_values.specs.Values.{is_array}

abbrev pub step_by : List ℕ → Option ℕ → Step
step_by name index = record { name = name; element = option_map decimal index }

-- ---- of an instance

abbrev pub element_of : Frame → Option ℕ
element_of f = if is_array f.kind f.inst then Some f.index else None

abbrev pub step_of : Frame → Step
step_of f = step_by f.inst.name.text (element_of f)

abbrev pub path_at : Trail → List ℕ
path_at t = path_text (map step_of t)

-- ---- of what a reference names: it starts from the component in which its assignment stands, and these are around that

abbrev pub index_of : RdlStep → Option ℕ
index_of s = option_map (λ i. i.number.value) s.index

abbrev pub named_step : RdlStep → Step
named_step s = step_by s.name.text (index_of s)

abbrev pub next_step : RdlNextStep → Step
next_step n = named_step n.step

abbrev pub named_steps : RdlPath → List Step
named_steps path = named_step path.first ∷ map next_step path.more

abbrev pub target_of : Trail → RdlPath → List ℕ
target_of up path = path_text (map step_of up ++ named_steps path)

-- ---- the text of a path behind a dot

abbrev pub dotted : List Step → List ℕ
dotted [] = []
dotted (s ∷ ss) = 46 ∷ (step_text s ++ dotted ss)
