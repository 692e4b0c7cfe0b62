-- The limits on the instances of a description: at most 1,048,576, elements of arrays counted and fields not, and at most 64
-- deep in one another.
use Rattle.std.specs.Prelude.{ℕ, zero, suc, ◌+◌, ◌*◌, min, Bool, nat_lt, if◌then◌else◌, List, [], ◌∷◌, Option, Some, None}
use Rattle.rdl_tree.specs.declared.tree.RdlFile.{RdlFile}
use Rattle.rdl_text.specs.Components.{Component}
use Rattle.rdl_text.specs.Instances.{kind_of, is_field}
use Rattle.rdl_values.specs.OneInstance.{Instance}
use Rattle.rdl_values.specs.Instances.{instances_of, count_of, top_of}

abbrev pub most_instances : ℕ
most_instances = 1048576

-- an instance with those inside of it, where `inner` counts these
abbrev pub number_with : (Component → ℕ) → Instance → ℕ
number_with inner i = if is_field (kind_of i.component) then 0 else count_of i * (1 + inner i.component)

abbrev pub numbers_with : (Component → ℕ) → List Instance → ℕ
numbers_with inner [] = 0
numbers_with inner (i ∷ is) = number_with inner i + numbers_with inner is

-- the instances inside of an instance; what nests deeper than there is room counts as too many
unfoldable pub number_inside : ℕ → Component → ℕ
number_inside zero c = 1048576
number_inside (suc room) c = numbers_with (number_inside room) (instances_of c)

-- the instances below a component
abbrev pub number_in : ℕ → Component → ℕ
number_in room c = numbers_with (number_inside room) (instances_of c)

-- a number, as far as it matters
abbrev pub cut : ℕ → ℕ
cut n = min n 1048577

abbrev pub number_below : Option Component → ℕ
number_below None = 0
number_below (Some c) = number_in 64 c

abbrev pub has_too_many : RdlFile → Bool
has_too_many file = nat_lt most_instances (number_below (top_of file))
