-- What a walk over a statement finds, of its flow.
use Rattle.std.specs.Prelude.{◌≡◌, ℕ, not, ◌&&◌, List, Bool}
use Rattle.flat_design.specs.Flows.{Flow}
use Rattle.flat_orders.specs.Orders.{among}
use Rattle.flat_flows.specs.declared.found.Found.{Found}
use Rattle.flat_flows.specs.Tables.{in_table, Grows, Gains}

-- the tables have the same numbers
abbrev pub Same : List Bool → List Bool → Type 0
Same a b = (i : ℕ) → in_table a i ≡ in_table b i

-- a list has what no path leaves, without what was sure before
abbrev pub Fixes : Flow → List Bool → List ℕ → Type 0
Fixes f sure fixed = (i : ℕ) → among i fixed ≡ (not (f.leaves i) && not (in_table sure i))

-- where some bits were sure to be assigned before a part with this flow: what was found grows by what the part reads of other bits and
-- by what it drives
pub record Adds (f : Flow) (sure : List Bool) (old new : Found) : Type 0 where
  pub reads : Grows old.reads f.reads sure new.reads
  pub drives : Gains old.drives f.drives new.drives

-- and the list has the bits that it is sure to assign besides
pub record Walked (f : Flow) (sure : List Bool) (old new : Found) (fixed : List ℕ) : Type 0 where
  pub adds : Adds f sure old new
  pub fixes : Fixes f sure fixed
