-- The bytes of a description determine whether they are refused, for what, and where.
use Rattle.std.specs.Prelude.{◌≡◌, ℕ, List, Result, Ok, Err}
use Rattle.rdl_tree.specs.declared.fault.RdlFault.{RdlFault}
use Rattle.rdl_tree.specs.declared.fault.RdlFault.TheVariants.{NoMemory, At}
use Rattle.rdl_report.specs.Described.{IsMapText, IsRefusedAt}

-- an answer that tells something of the bytes
abbrev pub IsAnswer : List ℕ → Result (Unit {0}) RdlFault → Type 0
IsAnswer bytes (Ok x) = (text : List ℕ) × IsMapText bytes text
IsAnswer bytes (Err NoMemory) = ⊥
IsAnswer bytes (Err (At code place)) = IsRefusedAt bytes code place

abbrev pub HasOneAnswer : Type 0
HasOneAnswer = (bytes : List ℕ) (a b : Result (Unit {0}) RdlFault) → IsAnswer bytes a → IsAnswer bytes b → a ≡ b
