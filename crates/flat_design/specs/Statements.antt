-- The effect of a flat statement: the current values, and the updates that wait for the end of the edge (IEEE 1364-2005, 9.2, 9.4
-- and 9.5).
use Rattle.std.specs.Prelude.{ℕ, ◌+◌, ◌-◌, Bool, false, not, ◌||◌, if◌then◌else◌, List, [], ◌∷◌, ◌++◌, map, drop, sum, Option, Some, None, unwrap_or, slice_index_or}
use Rattle.std.specs.List.{list_any}
use Rattle.bit_base.specs.Operators.{is_any, each_place, differ, are_all}
use Rattle.flat_design.specs.declared.net.Net.{Net}
use Rattle.flat_design.specs.declared.expr.FlatExpr.{FlatExpr}
use Rattle.flat_design.specs.declared.stmt.FlatLeft.{FlatLeft}
use Rattle.flat_design.specs.declared.stmt.FlatLabel.{FlatLabel}
use Rattle.flat_design.specs.declared.stmt.FlatStmt.{FlatStmt}
use Rattle.flat_design.specs.declared.stmt.FlatStmt.TheOpen.{FlatStmt-F, FlatArm-F}
use Rattle.flat_design.specs.declared.stmt.FlatStmt.TheFolds.{fold-FlatStmt}
use Rattle.flat_design.specs.Bits.{Values, Offset, net_at, offset_of, selected}
use Rattle.flat_design.specs.Values.{value}

-- what an update writes, bit by bit
abbrev pub Update : Type 0
Update = ℕ → Option Bool

abbrev pub put : Update → Values → Values
put u v i = unwrap_or (u i) (v i)

-- one after the other, so that a later one wins
abbrev pub put_all : List Update → Values → Values
put_all [] v = v
put_all (u ∷ us) v = put_all us (put u v)

-- the current values, and the updates that wait, in their order
pub record State : Type 0 where
  pub now : Values
  pub later : List Update

abbrev pub Run : Type 0
Run = State → State

-- ---- assignments

-- where a part of a left side begins, its index taken from these values
abbrev pub start_of : List Net → Values → Net → Option FlatExpr → Offset
start_of nets v net None = (0, 0)
start_of nets v net (Some index) = offset_of (value nets v index).0 (value nets v index).1 net.lsb

abbrev pub left_offset : List Net → Values → FlatLeft → Offset
left_offset nets v l = start_of nets v (net_at nets l.net) l.index

-- so many bits of a word, from place low of the word on, written at an offset; nothing outside the net
abbrev pub update_of : Net → Offset → ℕ → List Bool → Update
update_of net o width bits i = if selected net o width i then Some (slice_index_or bits (i - net.first + o.1 - o.0) false) else None

abbrev pub left_size : List FlatLeft → ℕ
left_size left = sum (map (λ l. l.width) left)

-- all indexes are taken first; the highest part comes first, so that the lowest wins
abbrev pub updates_of : List Net → Values → List FlatLeft → List Bool → List Update
updates_of nets v [] bits = []
updates_of nets v (l ∷ left) bits = update_of (net_at nets l.net) (left_offset nets v l) l.width (drop (left_size left) bits) ∷ updates_of nets v left bits

-- `<=` waits, `=` is done at once
abbrev pub assigned : Bool → List Update → Run
assigned later us s = if later then record { now = s.now; later = s.later ++ us } else record { now = put_all us s.now; later = s.later }

-- ---- branches

-- a label matches a word where they agree in each bit that the label cares for
abbrev pub matches_label : List Net → Values → List Bool → FlatLabel → Bool
matches_label nets v word label = are_all (each_place (λ care same. not care || same) label.care (each_place (λ x y. not (differ x y)) (value nets v label.value).1 word))

abbrev pub matches_any : List Net → Values → List Bool → List FlatLabel → Bool
matches_any nets v word labels = list_any (matches_label nets v word) labels

-- an arm: whether it matches a word, and its body
abbrev pub ArmRun : Type 0
ArmRun = (Values → List Bool → Bool) × Run

abbrev pub run_all : List Run → Run
run_all [] s = s
run_all (r ∷ rs) s = run_all rs (r s)

abbrev pub run_other : Option Run → Run
run_other None s = s
run_other (Some r) s = r s

-- the first arm that matches, else the default
abbrev pub run_arms : List Bool → List ArmRun → Run → Run
run_arms word [] other s = other s
run_arms word (a ∷ arms) other s = if a.0 s.now word then a.1 s else run_arms word arms other s

abbrev pub run_layer : List Net → FlatStmt-F Run ArmRun → Run
run_layer nets (FlatStmt-F.Block body) s = run_all body s
run_layer nets (FlatStmt-F.Assign left val later) s = assigned later (updates_of nets s.now left (value nets s.now val).1) s
run_layer nets (FlatStmt-F.If test then_ else_) s = if is_any (value nets s.now test).1 then then_ s else run_other else_ s
run_layer nets (FlatStmt-F.Case selector arms other) s = run_arms (value nets s.now selector).1 arms (run_other other) s

abbrev pub arm_layer : List Net → FlatArm-F Run ArmRun → ArmRun
arm_layer nets a = (λ v word. matches_any nets v word a.labels, a.body)

unfoldable pub run : List Net → FlatStmt → Run
run nets = fold-FlatStmt Run ArmRun (run_layer nets) (arm_layer nets)
