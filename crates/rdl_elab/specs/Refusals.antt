-- What a description is refused for, by code and place: names before properties before values before places before sizes, and of
-- one code the first in the text. What asks for effective values counts where there aren't too many instances.
use Rattle.std.specs.Prelude.{◌≡◌, ◌⊎◌, ℕ, Bool, true, false, ◌||◌, nat_lt, List, length, Contains, Option, Some, None, sum_by}
use Rattle.bit_base.specs.declared.place.Place.{Place}
use Rattle.bit_base.specs.Places.{is_before}
use Rattle.rdl_tree.specs.declared.fault.RdlFault.{RdlFault}
use Rattle.rdl_tree.specs.declared.fault.RdlFault.TheVariants.{NoMemory, At}
use Rattle.rdl_tree.specs.declared.fault.RdlCode.TheVariants.{RdlName, RdlProperty, RdlValue, RdlPlace, RdlSize}
use Rattle.rdl_tree.specs.declared.tree.RdlFile.{RdlFile}
use Rattle.rdl_text.specs.declared.text.Check.TheVariants as check
use Rattle.rdl_text.specs.Refusals as text
use Rattle.rdl_effects.specs.declared.effect.Effect.TheVariants as effect
use Rattle.rdl_effects.specs.Limits.{has_too_many}
use Rattle.rdl_effects.specs.Refusals.{IsConflict}
use Rattle.rdl_layout.specs.declared.register.Notes.{Notes}
use Rattle.rdl_layout.specs.declared.register.Register.{Register}
use Rattle.rdl_layout.specs.Registers.{registers_of, misplaced_of}
use Rattle.rdl_words.specs.Words.{spots_of}
use Rattle.rdl_words.specs.Clashes.{IsClash}
use Rattle.rdl_elab.specs.Unlike.{IsUnlike}

abbrev pub IsFew : RdlFile → Type 0
IsFew file = has_too_many file ≡ false

-- ---- the conditions of each code, with their places

abbrev pub IsName : RdlFile → Place → Type 0
IsName file p = text.IsFault check.Names file p

abbrev pub IsProperty : RdlFile → Place → Type 0
IsProperty file p = text.IsFault check.Properties file p ⊎ (IsFew file × IsConflict effect.Properties file p)

abbrev pub IsValue : RdlFile → Place → Type 0
IsValue file p = text.IsFault check.Values file p ⊎ (IsFew file × (IsConflict effect.Values file p ⊎ IsUnlike (registers_of file) p))

abbrev pub IsPlace : RdlFile → Place → Type 0
IsPlace file p = IsFew file × (Contains (misplaced_of file) p ⊎ IsClash (spots_of (registers_of file)) p)

-- the bits of all fields
abbrev pub bits_in : List Register → ℕ
bits_in rs = sum_by (λ (r : Register). r.bits) rs

-- over 1,024 bus words or 4,096 bits of fields
abbrev pub is_large : List Register → Bool
is_large rs = nat_lt 1024 (length (spots_of rs)) || nat_lt 4096 (bits_in rs)

abbrev pub whole : Place
whole = record { file = 0; line = 0; column = 0 }

abbrev pub IsLarge : RdlFile → Type 0
IsLarge file = (has_too_many file ≡ true) ⊎ (is_large (registers_of file) ≡ true)

abbrev pub IsSize : RdlFile → Place → Type 0
IsSize file p = IsLarge file × (p ≡ whole)

abbrev pub whole_if : Bool → Option Place
whole_if true = Some whole
whole_if false = None

-- what a walk over the instances finds; none where there are too many
pub record AreSome (file : RdlFile) (notes : Notes) : Type 0 where
  pub few : IsFew file
  pub registers : notes.registers.items ≡ registers_of file
  pub misplaced : notes.misplaced.items ≡ misplaced_of file

abbrev pub AreNotes : RdlFile → Option Notes → Type 0
AreNotes file None = has_too_many file ≡ true
AreNotes file (Some notes) = AreSome file notes

-- ---- the least code, at the first of its places

abbrev pub HasNone : (RdlFile → Place → Type 0) → RdlFile → Type 0
HasNone P file = (p : Place) → P file p → ⊥

pub record IsFirst (P : RdlFile → Place → Type 0) (file : RdlFile) (p : Place) : Type 0 where
  pub here : P file p
  pub first : (q : Place) → P file q → is_before q p ≡ false

pub record IsFine (file : RdlFile) : Type 0 where
  pub names : HasNone IsName file
  pub properties : HasNone IsProperty file
  pub values : HasNone IsValue file
  pub places : HasNone IsPlace file
  pub sizes : HasNone IsSize file

abbrev pub Refuses : RdlFile → RdlFault → Type 0
Refuses file NoMemory = Unit {0}
Refuses file (At RdlName p) = IsFirst IsName file p
Refuses file (At RdlProperty p) = HasNone IsName file × IsFirst IsProperty file p
Refuses file (At RdlValue p) = HasNone IsName file × HasNone IsProperty file × IsFirst IsValue file p
Refuses file (At RdlPlace p) = HasNone IsName file × HasNone IsProperty file × HasNone IsValue file × IsFirst IsPlace file p
Refuses file (At RdlSize p) = HasNone IsName file × HasNone IsProperty file × HasNone IsValue file × HasNone IsPlace file × IsFirst IsSize file p
Refuses file (At _ p) = ⊥
