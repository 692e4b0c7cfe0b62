-- The text of a trace (this project's own): a first line, a line for the register's start, one for each
-- edge, and a last one, each with a line feed; bits are binary digits, the highest first.
use Rattle.std.specs.Prelude.{ℕ, Bool, if◌then◌else◌, List, [], ◌∷◌, ◌++◌, map, reverse, take, drop, codes}
use Rattle.trace_replay.specs.declared.input.Input.{Input}
use Rattle.trace_replay.specs.declared.input.TheConstants.{INPUTS}
use Rattle.trace_replay.specs.Inputs.{input_label, input_width}

abbrev pub digits : List Bool → List ℕ
digits bits = map (λ bit. if bit then 0x31 else 0x30) (reverse bits)

-- a name with its sign of equality, or a word and a blank, and then bits
abbrev pub field_text : List ℕ → List Bool → List ℕ
field_text name bits = name ++ digits bits

-- the bits of several inputs, one input after the other
abbrev pub fields_text : List Input → List Bool → List ℕ
fields_text [] bits = []
fields_text (input ∷ inputs) bits =
    field_text (input_label input) (take (input_width input) bits) ++ fields_text inputs (drop (input_width input) bits)

-- the lines, without their line feeds
abbrev pub header_line : List ℕ
header_line = codes "rdltrace 1"

abbrev pub start_line : List Bool → List ℕ
start_line bits = field_text (codes "start v ") bits

unfoldable pub edge_line : List Bool → List ℕ
edge_line bits = codes "edge" ++ fields_text INPUTS bits

abbrev pub end_line : List ℕ
end_line = codes "end"

-- the lines of a trace with this start and these edges
abbrev pub trace_lines : List Bool → List (List Bool) → List (List ℕ)
trace_lines start edges = header_line ∷ start_line start ∷ map edge_line edges ++ end_line ∷ []

-- lines, each with its line feed
abbrev pub text_of_lines : List (List ℕ) → List ℕ
text_of_lines [] = []
text_of_lines (line ∷ lines) = line ++ (10 ∷ text_of_lines lines)

-- the text of a trace
unfoldable pub trace_text : List Bool → List (List Bool) → List ℕ
trace_text start edges = text_of_lines (trace_lines start edges)
