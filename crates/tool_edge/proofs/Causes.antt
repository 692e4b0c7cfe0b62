-- Counts of faults over several calls.
use Rattle.std.proofs.Common.{ℕ, ◌-◌, ◌^◌, ◌≤◌, arith, inl, inr}
use Rattle.std.proofs.lemmas.Bool.{cases_eq}
use Rattle.tool_edge.specs.Causes.{Rose}

-- a count that rose after some calls has risen since before them
pub Rose-before : (before middle now : ℕ) → before ≤ middle → Rose middle now → Rose before now
Rose-before before middle now later rose moves = omega (arith, rose moves)

-- a count that rose still has after further calls
pub Rose-after : (before middle now : ℕ) → before ≤ middle → Rose before middle → middle ≤ now → Rose before now
Rose-after before middle now later rose more moves =
    elim (cases_eq middle (2 ^ 64 - 1)) [ inl last ↦ omega (arith, moves) | inr below ↦ omega (arith, rose below) ]
