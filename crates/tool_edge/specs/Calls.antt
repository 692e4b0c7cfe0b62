-- The calls of a depot, in their order: read or store, the name, and the answer.
use Rattle.std.specs.Prelude.{ℕ, Bool, true, false, List, [], ◌∷◌, ◌++◌, Option, Result, Ok, Err}
use Rattle.std.specs.Option.{option_map}
use Rattle.tool_edge.specs.declared.depot.Fetched.{Fetched}
use Rattle.tool_edge.specs.declared.depot.Fetched.TheVariants as fetched
use Rattle.tool_edge.specs.declared.depot.DepotFault.{DepotFault}
use Rattle.tool_edge.specs.declared.depot.DepotFault.TheVariants as fault
use Rattle.tool_edge.specs.declared.depot.DepotAnswer.{DepotAnswer}
use Rattle.tool_edge.specs.declared.depot.DepotAnswer.TheVariants.{Whole, Long, Missing, Stored, Failed}
use Rattle.tool_edge.specs.declared.depot.DepotCall.{DepotCall}

-- the list of one call
abbrev pub one_call : List ℕ → Bool → DepotAnswer → List DepotCall
one_call name store answer = record { name = name; store = store; answer = answer } ∷ []

-- a fetch's answer as the list has it
abbrev pub entry_of : Fetched → DepotAnswer
entry_of fetched.Whole = Whole
entry_of fetched.Long = Long
entry_of fetched.Missing = Missing

-- what a fetch of this name with this result appends: its entry, or nothing where it wanted memory
abbrev pub fetch_call : List ℕ → Result Fetched DepotFault → List DepotCall
fetch_call name (Ok answer) = one_call name false (entry_of answer)
fetch_call name (Err fault.Failed) = one_call name false Failed
fetch_call name (Err fault.NoMemory) = []

-- the same of a store
abbrev pub store_call : {U : Type 0} → List ℕ → Result U DepotFault → List DepotCall
store_call name (Ok stored) = one_call name true Stored
store_call name (Err fault.Failed) = one_call name true Failed
store_call name (Err fault.NoMemory) = []

-- the told calls with more of them
abbrev pub after_calls : Option (List DepotCall) → List DepotCall → Option (List DepotCall)
after_calls told more = option_map (λ calls. calls ++ more) told
