-- Laws of the report of a register map.
use Rattle.std.specs.Prelude.{◌≡◌, ◌⊎◌, ℕ, List, [], ◌++◌}
use Rattle.field_policies.specs.declared.field.Field.{Field}
use Rattle.map_report.specs.Digits.{hex_of}
use Rattle.map_report.specs.Reports.{ReportsFields}

-- a text begins with this one
abbrev pub StartsWith : List ℕ → List ℕ → Type 0
StartsWith head text = (rest : List ℕ) × (text ≡ head ++ rest)

-- the report of no field is empty, every other begins with an address
abbrev pub BeginWithAddresses : Type 0
BeginWithAddresses = (words : List ℕ) (fields : List Field) (text : List ℕ) → ReportsFields words fields text → (text ≡ []) ⊎ ((address : ℕ) × StartsWith (hex_of 8 address) text)

-- a register map has one report
abbrev pub HasOneReport : Type 0
HasOneReport = (words : List ℕ) (fields : List Field) (s t : List ℕ) → ReportsFields words fields s → ReportsFields words fields t → s ≡ t
