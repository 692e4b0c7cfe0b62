-- Items, and the valuations that settle them.
use Rattle.std.specs.Prelude.{◌≡◌, ℕ, Bool, true, false, List, [], ◌∷◌, Some, slice_get, if◌then◌else◌}
use Rattle.bit_base.specs.declared.place.Place.{Place}
use Rattle.flat_design.specs.declared.net.Net.{Net}
use Rattle.flat_design.specs.declared.item.FlatItem.{FlatItem}
use Rattle.flat_design.specs.declared.item.FlatItem.TheVariants as I
use Rattle.flat_design.specs.Bits.{Values}
use Rattle.flat_design.specs.Values.{value}
use Rattle.flat_design.specs.Statements.{Run, run, assigned, updates_of, put_all}
use Rattle.flat_design.specs.Flows.{Flow, flow, assign_flow}

abbrev pub is_clocked : FlatItem → Bool
is_clocked (I.Assign place targets left val connection) = false
is_clocked (I.Comb place targets body) = false
is_clocked (I.Clocked place targets events body) = true

abbrev pub place_of : FlatItem → Place
place_of (I.Assign place targets left val connection) = place
place_of (I.Comb place targets body) = place
place_of (I.Clocked place targets events body) = place

abbrev pub targets_of : FlatItem → List ℕ
targets_of (I.Assign place targets left val connection) = targets
targets_of (I.Comb place targets body) = targets
targets_of (I.Clocked place targets events body) = targets

-- what an item does: an assignment is done at once
unfoldable pub item_run : List Net → FlatItem → Run
item_run nets (I.Assign place targets left val connection) = λ s. assigned false (updates_of nets s.now left (value nets s.now val).1) s
item_run nets (I.Comb place targets body) = run nets body
item_run nets (I.Clocked place targets events body) = run nets body

-- what an item reads, leaves and drives; events aren't reads
unfoldable pub item_flow : List Net → FlatItem → Flow
item_flow nets (I.Assign place targets left val connection) = assign_flow nets left val false
item_flow nets (I.Comb place targets body) = flow nets body
item_flow nets (I.Clocked place targets events body) = flow nets body

-- the values after an item has run
abbrev pub after_item : List Net → FlatItem → Values → Values
after_item nets x v = (item_run nets x (record { now = v; later = [] })).now

-- an item of this number that no clock starts
abbrev pub IsUnclocked : List FlatItem → ℕ → FlatItem → Type 0
IsUnclocked items k x = (slice_get items k ≡ Some x) × (is_clocked x ≡ false)

-- the settled valuations of a base, which has the bits of registers and inputs, and false elsewhere: each item that no clock starts
-- ends with the valuation's own bits in what it drives, and what no such item drives is as in the base
pub record IsSettled (nets : List Net) (items : List FlatItem) (base v : Values) : Type 0 where
  pub holds : (k : ℕ) (x : FlatItem) → IsUnclocked items k x → (i : ℕ) → (item_flow nets x).drives i ≡ true → after_item nets x v i ≡ v i
  pub rest : (i : ℕ) → ((k : ℕ) (x : FlatItem) → IsUnclocked items k x → (item_flow nets x).drives i ≡ false) → v i ≡ base i

-- the clocked bodies, one after the other
abbrev pub run_clocked : List Net → List FlatItem → Run
run_clocked nets [] s = s
run_clocked nets (x ∷ items) s = run_clocked nets items (if is_clocked x then item_run nets x s else s)

-- the values after a clock edge: the bodies ran, and then the updates are done
abbrev pub after_edge : List Net → List FlatItem → Values → Values
after_edge nets items v = put_all (run_clocked nets items (record { now = v; later = [] })).later (run_clocked nets items (record { now = v; later = [] })).now
