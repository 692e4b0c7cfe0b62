-- The report of a register map (this project's own): a line for each field, in their order.
use Rattle.std.specs.Prelude.{◌≡◌, ℕ, ◌+◌, ◌-◌, ◌/◌, if◌then◌else◌, List, [], ◌∷◌, ◌++◌, Option, slice_index_or, codes, ⊤}
use Rattle.std.specs.Fmt.{decimal}
use Rattle.field_policies.specs.declared.field.Field.{Field}
use Rattle.field_policies.specs.declared.policy.Policy.{Policy}
use Rattle.field_policies.specs.declared.map.RegMap.{RegMap}
use Rattle.map_report.specs.Digits.{hex_of}
use Rattle.map_report.specs.Names.{name_text, IsPolicyOf}

-- the bits within the word, the highest first
unfoldable pub bits_text : Field → List ℕ
bits_text f = codes "[" ++ (decimal (f.lsb + f.width - 1) ++ (codes ":" ++ (decimal f.lsb ++ codes "]")))

-- the value after reset, in as many digits as the field's bits need, or a dash where it isn't known
unfoldable pub reset_text : Field → List ℕ
reset_text f = if f.starts_known then hex_of ((f.width + 3) / 4) f.reset else codes "-"

-- the word's address in eight digits, the path, and the bits
unfoldable pub place_text : List ℕ → Field → List ℕ
place_text words f = hex_of 8 (slice_index_or words f.word 0) ++ (codes " " ++ (f.path ++ (codes " " ++ bits_text f)))

-- where a field stands, its policy, and its reset
unfoldable pub field_line : List ℕ → Field → Option Policy → List ℕ
field_line words f policy = place_text words f ++ (codes " " ++ (name_text policy ++ (codes " " ++ reset_text f)))

-- the lines, each with its line feed
abbrev pub lines_text : List ℕ → List Field → List (Option Policy) → List ℕ
lines_text words [] policies = []
lines_text words (f ∷ fields) [] = []
lines_text words (f ∷ fields) (policy ∷ policies) = field_line words f policy ++ 10 ∷ lines_text words fields policies

abbrev pub ArePoliciesOf : List Field → List (Option Policy) → Type 0
ArePoliciesOf [] [] = ⊤
ArePoliciesOf [] (policy ∷ policies) = ⊥
ArePoliciesOf (f ∷ fields) [] = ⊥
ArePoliciesOf (f ∷ fields) (policy ∷ policies) = IsPolicyOf f policy × ArePoliciesOf fields policies

-- a text is the report of fields in these words
pub record ReportsFields (words : List ℕ) (fields : List Field) (text : List ℕ) : Type 0 where
  pub policies : List (Option Policy)
  pub named : ArePoliciesOf fields policies
  pub is : text ≡ lines_text words fields policies

-- a text is the report of a register map
abbrev pub Reports : RegMap → List ℕ → Type 0
Reports m text = ReportsFields m.words.items m.fields.items text
