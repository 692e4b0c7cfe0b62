-- What the files of a command give, where the depot tells them.
use Rattle.std.specs.Prelude.{◌≡◌, ℕ, nat_le, if◌then◌else◌, Option, Some, None, Result, Ok, Err, List, [], ◌∷◌, length, map, MatchResult, ⊤}
use Rattle.std.specs.declared.vec.Vec.{Vec}
use Rattle.std.specs.declared.alloc.Global.{Global}
use Rattle.tool_edge.specs.Files.{Files}
use Rattle.prove_top.specs.declared.gather.Wanted.{Wanted}
use Rattle.prove_top.specs.declared.gather.Shortfall.{Shortfall}
use Rattle.prove_top.specs.declared.gather.Shortfall.TheVariants.{Missing, Long}
use Rattle.prove_top.specs.declared.gather.Halt.{Halt}
use Rattle.prove_top.specs.declared.gather.Halt.TheVariants.{NoMemory, Failed, Short}

-- the names, in their order
abbrev pub names_of : List Wanted → List (List ℕ)
names_of wanted = map (λ want. want.name) wanted

-- one file: its bytes, where it is there and isn't too long
abbrev pub fetched_one : Wanted → Option (List ℕ) → Result (List ℕ) Shortfall
fetched_one want None = Err (Missing want.name)
fetched_one want (Some bytes) = if nat_le (length bytes) want.limit then Ok bytes else Err (Long want.kind want.name)

-- all files, or what the first of them lacks that lacks something
abbrev pub gather_more : Result (List ℕ) Shortfall → Result (List (List ℕ)) Shortfall → Result (List (List ℕ)) Shortfall
gather_more (Err short) more = Err short
gather_more (Ok bytes) (Err short) = Err short
gather_more (Ok bytes) (Ok files) = Ok (bytes ∷ files)

abbrev pub gathered : Files → List Wanted → Result (List (List ℕ)) Shortfall
gathered files [] = Ok []
gathered files (want ∷ wanted) = gather_more (fetched_one want (files want.name)) (gathered files wanted)

-- a fact about one way to halt
abbrev pub IfShort : Halt → (Shortfall → Type 0) → Type 0
IfShort (Short short) P = P short
IfShort (Failed name) P = ⊤
IfShort NoMemory P = ⊤

abbrev pub IfFailed : Halt → Type 0 → Type 0
IfFailed (Failed name) P = P
IfFailed (Short short) P = ⊤
IfFailed NoMemory P = ⊤

-- the bytes of the files
abbrev pub contents : List (Vec ℕ Global) → List (List ℕ)
contents files = map (λ v. v.items) files

-- the answer of a fetch, for one file and for all: the files' own where it is bytes or a shortfall
abbrev pub AnswersOne : Result (List ℕ) Shortfall → Result (Vec ℕ Global) Halt → Type 0
AnswersOne expected result = MatchResult result (λ bytes. expected ≡ Ok bytes.items) (λ halt. IfShort halt (λ short. expected ≡ Err short))

abbrev pub AnswersAs : Result (List (List ℕ)) Shortfall → Result (Vec (Vec ℕ Global) Global) Halt → Type 0
AnswersAs expected result = MatchResult result (λ files. expected ≡ Ok (contents files.items)) (λ halt. IfShort halt (λ short. expected ≡ Err short))
