use Rattle.std.proofs.Common.{◌≡◌, ℕ, ◌||◌, drop}
use Rattle.flat_design.specs.Flows.{left_drives}
use Rattle.flat_flows.specs.Tables.{in_table}
use Rattle.flat_flows.proofs.left.add_left_drives.Given as goal

-- the table with what the other parts drive is that with what all drive
abbrev pub invariant-loop-part : goal.invariant-loop-part
invariant-loop-part l = (i : ℕ) → (in_table l.into i || left_drives l.nets (drop l.part-index l.left) i) ≡ (in_table l.fn.into i || left_drives l.nets l.left i)
