-- What a cost counts.
use Rattle.std.specs.Prelude.{◌≡◌, ℕ, List}
use Rattle.flat_design.specs.declared.net.Net.{Net}
use Rattle.flat_design.specs.declared.stmt.FlatStmt.{FlatStmt}
use Rattle.flat_design.specs.Flows.{flow}
use Rattle.flat_design.specs.Prices.{load}

-- the bits that the cost of a statement counts are those that the statement drives
abbrev pub LoadsDrive : Type 0
LoadsDrive = (nets : List Net) (s : FlatStmt) (i : ℕ) → (load nets s).drives i ≡ (flow nets s).drives i
