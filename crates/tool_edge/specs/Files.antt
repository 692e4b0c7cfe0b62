-- The files of a depot, as a map from names to bytes.
use Rattle.std.specs.Prelude.{◌≡◌, ℕ, ◌+◌, ◌≤◌, ◌⊎◌, if◌then◌else◌, nat_le, List, [], length, take, Option, None, Some}
use Rattle.std.specs.Option.{option_map}
use Rattle.std.specs.Str.{bytes_eq}
use Rattle.tool_edge.specs.declared.depot.Fetched.{Fetched}
use Rattle.tool_edge.specs.declared.depot.Fetched.TheVariants.{Whole, Long, Missing}

-- the bytes under each name, where there is such a file
abbrev pub Files : Type 0
Files = List ℕ → Option (List ℕ)

-- no file at all
abbrev pub no_files : Files
no_files name = None

-- the same files, but for this name, which has these bytes
abbrev pub with_file : Files → List ℕ → List ℕ → Files
with_file files name bytes other = if bytes_eq name other then Some bytes else files other

-- the same of files that may not be told
abbrev pub with_told_file : Option Files → List ℕ → List ℕ → Option Files
with_told_file told name bytes = option_map (λ files. with_file files name bytes) told

-- how a fetch with this limit answers for what is held under the name
abbrev pub fetch_answer : ℕ → Option (List ℕ) → Fetched
fetch_answer limit None = Missing
fetch_answer limit (Some bytes) = if nat_le (length bytes) limit then Whole else Long

-- what it fetches: the bytes up to the limit, and one more where there are more
abbrev pub fetched_bytes : ℕ → Option (List ℕ) → List ℕ
fetched_bytes limit None = []
fetched_bytes limit (Some bytes) = take (limit + 1) bytes

-- how many bytes each answer comes with
abbrev pub HasLength : ℕ → Fetched → ℕ → Type 0
HasLength limit Whole count = count ≤ limit
HasLength limit Long count = count ≡ limit + 1
HasLength limit Missing count = count ≡ 0

-- all files as before, or this one now a prefix of these bytes
abbrev pub PartlyStored : Option Files → List ℕ → List ℕ → Option Files → Type 0
PartlyStored old name bytes new = (new ≡ old) ⊎ ((n : ℕ) × (new ≡ with_told_file old name (take n bytes)))
