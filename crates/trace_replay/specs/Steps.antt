-- What the steps of the reading of a trace text tell.
use Rattle.std.specs.Prelude.{◌≡◌, ◌≢◌, ℕ, zero, suc, ◌+◌, ◌<◌, ◌⊎◌, ⊤, Bool, true, Option, Some, None, Result, Ok, Err, List, [], ◌∷◌, ◌++◌, length}
use Rattle.std.specs.Borrow.{Bor}
use Rattle.std.specs.declared.vec.Vec.{Vec}
use Rattle.std.specs.declared.alloc.Global.{Global}
use Rattle.trace_replay.specs.declared.trace.TheConstants.{START_BITS, EDGE_LIMIT}
use Rattle.trace_replay.specs.declared.input.TheConstants.{INPUT_BITS}
use Rattle.trace_replay.specs.declared.fault.TraceCode.{TraceCode}
use Rattle.trace_replay.specs.declared.fault.TraceCode.TheVariants as code
use Rattle.trace_replay.specs.declared.fault.TraceFault.{TraceFault}
use Rattle.trace_replay.specs.declared.fault.TraceFault.TheVariants.{NoMemory, At}
use Rattle.trace_replay.specs.Lines.{all_binary, has_form}
use Rattle.trace_replay.specs.Reading.{IsTraceLine, IsWrongLine, IsWrongName}
use Rattle.trace_replay.specs.LegalTrace.{HasSizes}
use Rattle.trace_replay.specs.Trace.{lists_of}
use Rattle.trace_replay.specs.TraceText.{field_text, header_line, start_line, edge_line, end_line, trace_lines}
use Rattle.trace_replay.specs.declared.trace.Trace.{Trace}

-- what follows a text, where it comes first
abbrev pub Follows : List ℕ → List ℕ → Option (Bor (List ℕ)) → Type 0
Follows head text (Some rest) = text ≡ head ++ rest.now
Follows head text None = (rest : List ℕ) → text ≢ head ++ rest

-- a name and so many digits from the front of a text, and what follows
abbrev pub FieldAt : List ℕ → ℕ → List ℕ → Option (Bor (List ℕ) × Bor (List ℕ)) → Type 0
FieldAt name width text (Some found) =
    (text ≡ name ++ (found.0.now ++ found.1.now)) × (length found.0.now ≡ width) × (all_binary found.0.now ≡ true)
FieldAt name width text None = (bits : List Bool) (rest : List ℕ) → length bits ≡ width → text ≢ field_text name bits ++ rest

-- the bits of a whole line of this form
abbrev pub BitsOf : (List Bool → List ℕ) → ℕ → List ℕ → Option (Vec Bool Global) → Type 0
BitsOf line_of width line (Some bits) = (length bits.items ≡ width) × (line ≡ line_of bits.items)
BitsOf line_of width line None = (bits : List Bool) → length bits ≡ width → line ≢ line_of bits

-- the next line of a text is taken, where it has its line feed
abbrev pub TakesLine : List (List ℕ) → Option (Bor (List ℕ)) → List (List ℕ) → Type 0
TakesLine old (Some line) new = (old ≡ line.now ∷ new) × (0 < length new)
TakesLine old None new = length old ≡ 1

-- a fact about the next line, where it has its line feed
abbrev pub Begins : List (List ℕ) → (List ℕ → Type 0) → Type 0
Begins [] P = ⊥
Begins (line ∷ []) P = ⊥
Begins (line ∷ next ∷ more) P = P line

-- the last line of a trace comes next, at this place
abbrev pub IsEndAt : ℕ → List ℕ → Type 0
IsEndAt zero line = ⊥
IsEndAt (suc zero) line = ⊥
IsEndAt (suc (suc edge)) line = line ≡ end_line

-- the line at a place, which comes next, is refused
abbrev pub IsRefusedAt : ℕ → List (List ℕ) → TraceCode → ℕ → Type 0
IsRefusedAt place lines code.TraceName line = Begins lines (λ l. has_form place l ≡ true) × (line ≡ place + 1)
IsRefusedAt place lines code.TraceLine line =
    ((Begins lines (IsEndAt place) → ⊥) × (Begins lines (λ l. has_form place l ≡ true) → ⊥) × (line ≡ place + 1))
    ⊎ (Begins lines (IsEndAt place) × (lines ≢ end_line ∷ [] ∷ []) × (line ≡ place + 2))
IsRefusedAt place lines code.TraceIllegal line = ⊥
IsRefusedAt place lines code.TraceSize line = ⊥

-- the step at a place: what it takes, or why it is refused
abbrev pub StepRefused : ℕ → List (List ℕ) → TraceFault → Type 0
StepRefused place lines NoMemory = ⊤
StepRefused place lines (At code line) = (Begins lines (IsTraceLine place) → ⊥) × IsRefusedAt place lines code line

abbrev pub HeaderStep : {A : Type 0} → List (List ℕ) → Result A TraceFault → List (List ℕ) → Type 0
HeaderStep old (Ok done) new = (old ≡ header_line ∷ new) × (0 < length new)
HeaderStep old (Err fault) new = StepRefused 0 old fault

abbrev pub StartStep : List (List ℕ) → Result (Vec Bool Global) TraceFault → List (List ℕ) → Type 0
StartStep old (Ok bits) new = (old ≡ start_line bits.items ∷ new) × (0 < length new) × (length bits.items ≡ START_BITS)
StartStep old (Err fault) new = StepRefused 1 old fault

abbrev pub EdgeStep : ℕ → List (List ℕ) → Result (Option (Vec Bool Global)) TraceFault → List (List ℕ) → Type 0
EdgeStep edge old (Ok (Some bits)) new =
    (old ≡ edge_line bits.items ∷ new) × (0 < length new) × (length bits.items ≡ INPUT_BITS) × (edge < EDGE_LIMIT)
EdgeStep edge old (Ok None) new = old ≡ end_line ∷ [] ∷ []
EdgeStep edge old (Err fault) new = StepRefused (suc (suc edge)) old fault

-- the lines of a whole text: those of a trace, or the first that is wrong
abbrev pub WrongAt : List (List ℕ) → TraceCode → ℕ → Type 0
WrongAt lines code.TraceLine line = IsWrongLine lines line
WrongAt lines code.TraceName line = IsWrongName lines line
WrongAt lines code.TraceIllegal line = ⊥
WrongAt lines code.TraceSize line = ⊥

abbrev pub ReadsLines : List (List ℕ) → Result Trace TraceFault → Type 0
ReadsLines lines (Ok trace) =
    HasSizes trace.start.items (lists_of trace.edges.items) × (lines ≡ trace_lines trace.start.items (lists_of trace.edges.items) ++ [] ∷ [])
ReadsLines lines (Err NoMemory) = ⊤
ReadsLines lines (Err (At code line)) = WrongAt lines code line
