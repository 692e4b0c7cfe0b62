-- A description determines the answer, but for want of memory.
use Rattle.std.specs.Prelude.{◌≡◌, Result, Ok, Err}
use Rattle.rdl_tree.specs.declared.fault.RdlFault.{RdlFault}
use Rattle.rdl_tree.specs.declared.fault.RdlFault.TheVariants.{NoMemory, At}
use Rattle.rdl_tree.specs.declared.tree.RdlFile.{RdlFile}
use Rattle.rdl_elab.specs.Refusals.{IsFine, Refuses}

-- an answer that tells something of the description
abbrev pub IsAnswer : RdlFile → Result (Unit {0}) RdlFault → Type 0
IsAnswer file (Ok x) = IsFine file
IsAnswer file (Err NoMemory) = ⊥
IsAnswer file (Err (At code place)) = Refuses file (At code place)

abbrev pub HasOneAnswer : Type 0
HasOneAnswer = (file : RdlFile) (a b : Result (Unit {0}) RdlFault) → IsAnswer file a → IsAnswer file b → a ≡ b
