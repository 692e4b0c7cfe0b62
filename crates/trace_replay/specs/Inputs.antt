-- The inputs of a flat block but the clock, by name and width (IEEE 1364-2005, 12.3: port declarations; the
-- names are those of the first form).
use Rattle.std.specs.Prelude.{ℕ, ◌+◌, List, [], ◌∷◌, codes}
use Rattle.trace_replay.specs.declared.input.Input.{Input}
use Rattle.trace_replay.specs.declared.input.Input.TheVariants.{ResetN, Select, Enable, Write, Address, WriteData}

-- what stands before its digits in a trace: a blank, its name and the sign of equality
abbrev pub input_label : Input → List ℕ
input_label ResetN = codes " rst_n="
input_label Select = codes " psel="
input_label Enable = codes " penable="
input_label Write = codes " pwrite="
input_label Address = codes " paddr="
input_label WriteData = codes " pwdata="

abbrev pub input_width : Input → ℕ
input_width ResetN = 1
input_width Select = 1
input_width Enable = 1
input_width Write = 1
input_width Address = 2
input_width WriteData = 8

-- how many bits several inputs have
abbrev pub width_of : List Input → ℕ
width_of [] = 0
width_of (input ∷ inputs) = input_width input + width_of inputs
