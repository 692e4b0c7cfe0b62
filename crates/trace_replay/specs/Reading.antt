-- What reading a text as a trace of a block gives (this project's own): the trace that it is the text of,
-- or the first line that is wrong.
use Rattle.std.specs.Prelude.{◌≡◌, ℕ, zero, suc, ◌+◌, ◌<◌, ◌≤◌, ◌⊎◌, ⊤, Bool, true, Result, Ok, Err, List, [], ◌∷◌, length, slice_index_or}
use Rattle.trace_replay.specs.Blocks.{FlatBlock}
use Rattle.trace_replay.specs.declared.trace.Trace.{Trace}
use Rattle.trace_replay.specs.declared.trace.TheConstants.{START_BITS, EDGE_LIMIT}
use Rattle.trace_replay.specs.declared.input.TheConstants.{INPUT_BITS}
use Rattle.trace_replay.specs.declared.fault.TraceCode.{TraceCode}
use Rattle.trace_replay.specs.declared.fault.TraceCode.TheVariants as code
use Rattle.trace_replay.specs.declared.fault.TraceFault.{TraceFault}
use Rattle.trace_replay.specs.declared.fault.TraceFault.TheVariants.{NoMemory, At}
use Rattle.trace_replay.specs.Lines.{has_form, lines_of}
use Rattle.trace_replay.specs.LegalTrace.{HasSizes, IsFirstForbidden}
use Rattle.trace_replay.specs.Trace.{lists_of}
use Rattle.trace_replay.specs.TraceText.{header_line, start_line, edge_line, end_line, trace_text}

-- a line at a place of a list, counted from 0, where it has its line feed
abbrev pub line_at : List (List ℕ) → ℕ → List ℕ
line_at lines place = slice_index_or lines place []

abbrev pub HasLine : List (List ℕ) → ℕ → Type 0
HasLine lines place = place + 1 < length lines

-- a line of a trace at this place, before the last
abbrev pub IsTraceLine : ℕ → List ℕ → Type 0
IsTraceLine zero line = line ≡ header_line
IsTraceLine (suc zero) line = (bits : List Bool) × (length bits ≡ START_BITS) × (line ≡ start_line bits)
IsTraceLine (suc (suc edge)) line = (edge < EDGE_LIMIT) × ((bits : List Bool) × (length bits ≡ INPUT_BITS) × (line ≡ edge_line bits))

pub record IsRight (lines : List (List ℕ)) (place : ℕ) : Type 0 where
  pub there : HasLine lines place
  pub right : IsTraceLine place (line_at lines place)

-- the last line of a trace
pub record IsEnd (lines : List (List ℕ)) (place : ℕ) : Type 0 where
  pub there : HasLine lines place
  pub after_start : 2 ≤ place
  pub last : line_at lines place ≡ end_line

-- nothing follows the line at this place
pub record IsLast (lines : List (List ℕ)) (place : ℕ) : Type 0 where
  pub one_more : length lines ≡ place + 2
  pub empty : line_at lines (place + 1) ≡ []

-- a line of the form that is due there
pub record IsOfForm (lines : List (List ℕ)) (place : ℕ) : Type 0 where
  pub there : HasLine lines place
  pub form : has_form place (line_at lines place) ≡ true

-- the lines before this place are right, and the one there isn't
pub record IsFirstOther (lines : List (List ℕ)) (place : ℕ) : Type 0 where
  pub before : (k : ℕ) → k < place → IsRight lines k
  pub here : IsRight lines place → ⊥

-- the first line that isn't right is there and has the form, but another name or number of digits
pub record IsWrongName (lines : List (List ℕ)) (line : ℕ) : Type 0 where
  pub place : ℕ
  pub first : IsFirstOther lines place
  pub form : IsOfForm lines place
  pub number : line ≡ place + 1

-- the first line that isn't right is neither of the form nor the last one; or it is the last one, and text
-- follows it
pub record IsWrongLine (lines : List (List ℕ)) (line : ℕ) : Type 0 where
  pub place : ℕ
  pub first : IsFirstOther lines place
  pub why : ((IsEnd lines place → ⊥) × (IsOfForm lines place → ⊥) × (line ≡ place + 1))
      ⊎ (IsEnd lines place × (IsLast lines place → ⊥) × (line ≡ place + 2))

-- a text that is one of a trace with the block's lengths, but for the wires of an edge
pub record IsIllegal (block : FlatBlock) (bytes : List ℕ) (line : ℕ) : Type 0 where
  pub start : List Bool
  pub edges : List (List Bool)
  pub edge : ℕ
  pub sizes : HasSizes start edges
  pub text : bytes ≡ trace_text start edges
  pub first : IsFirstForbidden block start edges edge
  pub number : line ≡ edge + 3

-- a text that is refused as a trace of the block, for this reason at this line, whatever its size
abbrev pub IsRefusedAt : FlatBlock → List ℕ → TraceCode → ℕ → Type 0
IsRefusedAt block bytes code.TraceLine line = IsWrongLine (lines_of bytes) line
IsRefusedAt block bytes code.TraceName line = IsWrongName (lines_of bytes) line
IsRefusedAt block bytes code.TraceIllegal line = IsIllegal block bytes line
IsRefusedAt block bytes code.TraceSize line = ⊥

-- a fact, where memory isn't wanted
abbrev pub UnlessWanting : {A : Type 0} → Result A TraceFault → Type 0 → Type 0
UnlessWanting (Err NoMemory) P = ⊤
UnlessWanting (Err (At code line)) P = P
UnlessWanting (Ok trace) P = P

-- the answer is this trace
abbrev pub GivesTrace : Result Trace TraceFault → List Bool → List (List Bool) → Type 0
GivesTrace (Ok trace) start edges = (trace.start.items ≡ start) × (lists_of trace.edges.items ≡ edges)
GivesTrace (Err fault) start edges = ⊥

-- the answer is this refusal
abbrev pub Refuses : {A : Type 0} → Result A TraceFault → TraceCode → ℕ → Type 0
Refuses (Ok trace) code line = ⊥
Refuses (Err NoMemory) code line = ⊥
Refuses (Err (At found at_line)) code line = (found ≡ code) × (at_line ≡ line)
