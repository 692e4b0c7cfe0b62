-- What the parts of a statement drive, and what its branches cost.
use Rattle.std.specs.Prelude.{ℕ, ◌+◌, ◌*◌, Bool, ◌||◌, List, length, map, sum, Option, Some, None}
use Rattle.flat_design.specs.declared.net.Net.{Net}
use Rattle.flat_design.specs.declared.stmt.FlatLabel.{FlatLabel}
use Rattle.flat_design.specs.declared.stmt.FlatArm.{FlatArm}
use Rattle.flat_design.specs.declared.stmt.FlatStmt.{FlatStmt}
use Rattle.flat_design.specs.declared.stmt.FlatStmt.TheFolds.{fold-FlatArm}
use Rattle.flat_design.specs.Bits.{Set, bits_in, count_below}
use Rattle.flat_design.specs.Reads.{no_bits}
use Rattle.flat_design.specs.Prices.{Load, ArmLoad, load, load_layer, arm_layer, price, arms_drive}

unfoldable pub arm_load : List Net → FlatArm → ArmLoad
arm_load nets = fold-FlatArm Load ArmLoad (load_layer nets) (arm_layer nets)

abbrev pub other_drives : List Net → Option FlatStmt → Set
other_drives nets None = no_bits
other_drives nets (Some s) = (load nets s).drives

abbrev pub other_cost : List Net → Option FlatStmt → ℕ
other_cost nets None = 0
other_cost nets (Some s) = (load nets s).cost

-- how many bits the branches of an `if` drive, each counted once; and those of a case
abbrev pub if_bits : List Net → FlatStmt → Option FlatStmt → ℕ
if_bits nets s other = count_below (bits_in nets) (λ i. (load nets s).drives i || other_drives nets other i)

abbrev pub case_bits : List Net → List FlatArm → Option FlatStmt → ℕ
case_bits nets arms other = count_below (bits_in nets) (λ i. arms_drive (map (arm_load nets) arms) i || other_drives nets other i)

-- labels where the branches drive so many bits
abbrev pub labels_cost : List Net → ℕ → List FlatLabel → ℕ
labels_cost nets bits labels = sum (map (λ l. (price nets l.value).cost + (4 * (price nets l.value).size + 3 * bits)) labels)

-- arms where they drive so many bits
abbrev pub arm_cost : ℕ → ArmLoad → ℕ
arm_cost bits a = a.cost + a.body.cost + (4 * a.bits + 3 * (a.labels * bits))
