-- What is true of every expression, statement and item: what they don't read has no part in what they do, and what they don't drive
-- stays.
use Rattle.std.specs.Prelude.{◌≡◌, ◌⊎◌, ℕ, false, List, length, Some}
use Rattle.flat_design.specs.declared.net.Net.{Net}
use Rattle.flat_design.specs.declared.expr.FlatExpr.{FlatExpr}
use Rattle.flat_design.specs.declared.stmt.FlatStmt.{FlatStmt}
use Rattle.flat_design.specs.declared.item.FlatItem.{FlatItem}
use Rattle.flat_design.specs.Bits.{Values, Agree}
use Rattle.flat_design.specs.Values.{Value, value}
use Rattle.flat_design.specs.Reads.{Read, read}
use Rattle.flat_design.specs.Statements.{State, Run, run, put_all}
use Rattle.flat_design.specs.Flows.{Flow, flow}
use Rattle.flat_design.specs.Systems.{item_run, item_flow}

-- what an expression comes to is fixed where it is a constant, and by the bits that it reads
pub record IsFramed (f : Values → Value) (r : Read) : Type 0 where
  pub fixed : (x : Value) → r.0 ≡ Some x → (v : Values) → f v ≡ x
  pub frame : (v w : Values) → Agree r.1 v w → f v ≡ f w

pub record IsFlow (r : Run) (f : Flow) : Type 0 where
  -- a bit that isn't driven stays
  pub stays : (s : State) (i : ℕ) → f.drives i ≡ false → (r s).now i ≡ s.now i
  -- where the bits that are read agree, a bit is the same afterwards if it was before, or if no path leaves it
  pub same : (s t : State) → Agree f.reads s.now t.now → (i : ℕ) → (s.now i ≡ t.now i) ⊎ (f.leaves i ≡ false) → (r s).now i ≡ (r t).now i
  -- and the updates that wait are the same
  pub later : (s t : State) → Agree f.reads s.now t.now → s.later ≡ t.later → (r s).later ≡ (r t).later
  -- no update is added to a bit that isn't driven
  pub kept : (s : State) (v : Values) (i : ℕ) → f.drives i ≡ false → put_all (r s).later v i ≡ put_all s.later v i

-- an expression has as many bits as its size says
abbrev pub ValueHasSize : Type 0
ValueHasSize = (nets : List Net) (v : Values) (e : FlatExpr) → length (value nets v e).1 ≡ e.size

abbrev pub ExprIsFramed : Type 0
ExprIsFramed = (nets : List Net) (e : FlatExpr) → IsFramed (λ v. value nets v e) (read nets e)

abbrev pub StmtHasFlow : Type 0
StmtHasFlow = (nets : List Net) (s : FlatStmt) → IsFlow (run nets s) (flow nets s)

abbrev pub ItemHasFlow : Type 0
ItemHasFlow = (nets : List Net) (x : FlatItem) → IsFlow (item_run nets x) (item_flow nets x)
