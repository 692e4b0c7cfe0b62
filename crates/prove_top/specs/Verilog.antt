-- The Verilog of the first form (IEEE 1364-2005: a flat module with two continuous assignments of
-- constants, one of PRDATA, and one clocked process).
use Rattle.std.specs.Prelude.{ℕ, Option, Some, None, List, [], ◌∷◌, ◌++◌}
use Rattle.prove_top.specs.Reading.{Read, then_read, marked, limited_at}
use Rattle.prove_top.specs.Spelling.{spelling, IsFirstForm}
use Rattle.prove_top.specs.declared.verilog.Drivers.{Drivers}
use Rattle.prove_top.specs.declared.verilog.TheConstants.{VERILOG_HEAD, VERILOG_MIDDLE, VERILOG_TAIL}

-- the text with these two expressions
abbrev pub verilog_text : Drivers → List ℕ
verilog_text drivers =
    VERILOG_HEAD.now ++ (spelling drivers.read_data ++ (VERILOG_MIDDLE.now ++ (spelling drivers.next ++ VERILOG_TAIL.now)))

-- both are of the first form
pub record AreFirstForm (drivers : Drivers) : Type 0 where
  pub read_data : IsFirstForm drivers.read_data
  pub next : IsFirstForm drivers.next

-- the reading of two expressions between three fixed texts, that of a Verilog text from its front, and
-- that of a whole text
unfoldable pub two_at : List ℕ → List ℕ → List ℕ → List ℕ → Read Drivers
two_at head middle tail bytes =
    then_read (marked head (tt {0}) bytes) (λ _ r1. then_read (limited_at r1) (λ read_data r2.
    then_read (marked middle (tt {0}) r2) (λ _ r3. then_read (limited_at r3) (λ next r4.
    then_read (marked tail (tt {0}) r4) (λ _ r5. Some (record { read_data = read_data; next = next }, r5))))))

unfoldable pub drivers_at : List ℕ → Read Drivers
drivers_at bytes = two_at VERILOG_HEAD.now VERILOG_MIDDLE.now VERILOG_TAIL.now bytes

abbrev pub whole_at : {A : Type 0} → A → List ℕ → Option A
whole_at found [] = Some found
whole_at found (byte ∷ rest) = None

abbrev pub whole : {A : Type 0} → Read A → Option A
whole None = None
whole (Some found) = whole_at found.0 found.1

unfoldable pub drivers_of : List ℕ → Option Drivers
drivers_of bytes = whole (drivers_at bytes)
