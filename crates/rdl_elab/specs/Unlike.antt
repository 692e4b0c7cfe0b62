-- Registers with unlike accesses (the widths of a bus word), refused at the later of each two.
use Rattle.std.specs.Prelude.{◌≡◌, ◌≢◌, ℕ, false, not, ◌==◌, List, [], ◌∷◌, ◌++◌, Some, slice_get, if◌then◌else◌}
use Rattle.bit_base.specs.declared.place.Place.{Place}
use Rattle.bit_base.specs.Places.{is_before}
use Rattle.rdl_text.specs.Names.{place_if}
use Rattle.rdl_layout.specs.declared.register.Register.{Register}
use Rattle.rdl_words.specs.Clashes.{later}

pub record IsUnlike (registers : List Register) (p : Place) : Type 0 where
  pub first : ℕ
  pub second : ℕ
  pub a : Register
  pub b : Register
  pub here : slice_get registers first ≡ Some a
  pub there : slice_get registers second ≡ Some b
  pub other : a.access ≢ b.access
  pub place : p ≡ later a.place b.place

-- a register of the list, and none stands before it in the text
pub record IsFirstRegister (r : Register) (registers : List Register) : Type 0 where
  pub at : ℕ
  pub among : slice_get registers at ≡ Some r
  pub before : (k : ℕ) (s : Register) → slice_get registers k ≡ Some s → is_before s.place r.place ≡ false

-- the places of registers with another access
abbrev pub others : ℕ → List Register → List Place
others access [] = []
others access (r ∷ rs) = place_if (not (r.access == access)) r.place ++ others access rs

abbrev pub earlier_register : Register → Register → Register
earlier_register a b = if is_before b.place a.place then b else a
