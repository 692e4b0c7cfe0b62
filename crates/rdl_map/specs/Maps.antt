-- The register map of a description (SystemRDL 2.0, clauses 5 and 9 to 13): the bits of a bus word, the bus words by address, the
-- fields by word and then by lowest bit, and the hardware inputs, field by field.
use Rattle.std.specs.Prelude.{◌≡◌, ℕ, Bool, nat_lt, List, [], ◌∷◌, false, length, ◌&&◌, Option, Some, None}
use Rattle.std.specs.List.{list_all}
use Rattle.rdl_tree.specs.declared.tree.RdlFile.{RdlFile}
use Rattle.rdl_layout.specs.declared.register.Register.{Register}
use Rattle.rdl_layout.specs.Registers.{registers_of}
use Rattle.rdl_words.specs.Words.{spots_of}
use Rattle.rdl_fields.specs.declared.named.NamedField.{NamedField}
use Rattle.rdl_fields.specs.Registers.{fields_of}
use Rattle.rdl_numbers.specs.Orders.{AreWords, AreFields}
use Rattle.rdl_numbers.specs.Inputs.{inputs_of}
use Rattle.rdl_map.specs.declared.map.Parts.{Parts}
use Rattle.rdl_map.specs.Fields.{AreFrom, are_told}

-- the bits of an access, which are those of the first register's: all have the same
abbrev pub bus_of : List Register → ℕ
bus_of [] = 32
bus_of (r ∷ rs) = r.access

abbrev pub is_narrow : NamedField → Bool
is_narrow f = nat_lt f.spot.width 4294967296

-- the map with these words and fields
pub record IsBuiltOf (bits : ℕ) (told : List ℕ) (given : List NamedField) (m : Parts) : Type 0 where
  pub bus : m.bus_width ≡ bits
  pub words : m.words.items ≡ told
  pub fields : AreFrom told given 0 0 given m.fields.items
  pub inputs : m.inputs.items ≡ inputs_of given

pub record IsMapOf (file : RdlFile) (m : Parts) : Type 0 where
  pub bus_width : m.bus_width ≡ bus_of (registers_of file)
  pub words : AreWords (spots_of (registers_of file)) m.words.items
  -- the fields of the description in the order of the map
  pub given : List NamedField
  pub order : AreFields (fields_of file) given
  pub fields : AreFrom m.words.items given 0 0 given m.fields.items
  pub inputs : m.inputs.items ≡ inputs_of given

-- whether all of a map can be told: what is named is there, and numbers have 32 bits
abbrev pub is_map_told : List ℕ → List NamedField → Bool
is_map_told words given = nat_lt (length words) 4294967296 && (nat_lt (length given) 134217728 && (list_all is_narrow given && are_told words given 0 given))

-- the words and fields of a description, of which something can't be told
pub record IsUntold (file : RdlFile) : Type 0 where
  pub words : List ℕ
  pub given : List NamedField
  pub same : AreWords (spots_of (registers_of file)) words
  pub order : AreFields (fields_of file) given
  pub untold : is_map_told words given ≡ false

abbrev pub IsMapAnswer : RdlFile → Option Parts → Type 0
IsMapAnswer file (Some m) = IsMapOf file m
IsMapAnswer file None = IsUntold file
