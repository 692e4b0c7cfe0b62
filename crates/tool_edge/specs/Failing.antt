-- Calls that are to fail, by their numbers, which count from 1.
use Rattle.std.specs.Prelude.{◌≡◌, ℕ, ◌+◌, ◌-◌, ◌^◌, ◌==◌, min, Bool, true, false, List, Result, Ok, Err}
use Rattle.std.specs.List.{list_any}
use Rattle.tool_edge.specs.declared.depot.DepotFault.{DepotFault}
use Rattle.tool_edge.specs.declared.depot.DepotFault.TheVariants as fault
use Rattle.tool_edge.specs.declared.sink.SinkFault.{SinkFault}
use Rattle.tool_edge.specs.declared.sink.SinkFault.TheVariants as refusal

-- whether the call of this number is to fail
abbrev pub is_due : List ℕ → ℕ → Bool
is_due failing number = list_any (λ call. call == number) failing

-- a call answers Failed where it was due to fail, and only there; want of memory tells nothing
abbrev pub FailsWhereDue : {U : Type 0} → Bool → Result U DepotFault → Type 0
FailsWhereDue due (Ok answer) = due ≡ false
FailsWhereDue due (Err fault.Failed) = due ≡ true
FailsWhereDue due (Err fault.NoMemory) = Unit {0}

-- the same of a sink
abbrev pub RefusesWhereDue : {U : Type 0} → Bool → Result U SinkFault → Type 0
RefusesWhereDue due (Ok answer) = due ≡ false
RefusesWhereDue due (Err refusal.Failed) = due ≡ true
RefusesWhereDue due (Err refusal.NoMemory) = Unit {0}

-- a count of a u64, raised by one, which stands still at its last value
abbrev pub raised : ℕ → ℕ
raised count = min (count + 1) (2 ^ 64 - 1)

-- the count of faults after a call: raised where it failed
abbrev pub faults_after : {U : Type 0} → ℕ → Result U DepotFault → ℕ
faults_after count (Ok answer) = count
faults_after count (Err fault.Failed) = raised count
faults_after count (Err fault.NoMemory) = count

-- the same of a sink
abbrev pub refusals_after : {U : Type 0} → ℕ → Result U SinkFault → ℕ
refusals_after count (Ok answer) = count
refusals_after count (Err refusal.Failed) = raised count
refusals_after count (Err refusal.NoMemory) = count

-- the number of the next put: one more, unless the put wanted memory
abbrev pub next_after : {U : Type 0} → ℕ → Result U SinkFault → ℕ
next_after number (Ok answer) = raised number
next_after number (Err refusal.Failed) = raised number
next_after number (Err refusal.NoMemory) = number
