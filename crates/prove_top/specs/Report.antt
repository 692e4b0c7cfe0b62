-- What a command reports: a status and a line (this project's own).
use Rattle.std.specs.Prelude.{ℕ, Bool, if◌then◌else◌, Option, Some, None, List, [], ◌∷◌, ◌++◌, codes}
use Rattle.std.specs.Fmt.{decimal}
use Rattle.bit_base.specs.declared.place.Place.{Place}
use Rattle.rdl_tree.specs.declared.fault.RdlCode.{RdlCode}
use Rattle.rdl_tree.specs.declared.fault.RdlCode.TheVariants as rdl
use Rattle.trace_replay.specs.declared.fault.TraceCode.{TraceCode}
use Rattle.trace_replay.specs.declared.fault.TraceCode.TheVariants as code
use Rattle.trace_replay.specs.declared.joint.Difference.{Difference}
use Rattle.trace_replay.specs.declared.joint.Difference.TheVariants as difference
use Rattle.prove_top.specs.declared.report.Refusal.{Refusal}
use Rattle.prove_top.specs.declared.report.Refusal.TheVariants as refusal
use Rattle.prove_top.specs.declared.report.Report.{Report}
use Rattle.prove_top.specs.declared.report.Report.TheVariants as report
use Rattle.prove_top.specs.declared.report.Status.{Status}
use Rattle.prove_top.specs.declared.report.Status.TheVariants as status

-- the number of a status, which is the program's
abbrev pub status_number : Status → ℕ
status_number status.Yes = 0
status_number status.No = 1
status_number status.Unknown = 2
status_number status.Refused = 3
status_number status.Usage = 4
status_number status.Fault = 5
status_number status.NoMemory = 6

-- the status of a report
abbrev pub status_of : Report → Status
status_of report.Usage = status.Usage
status_of (report.Refused why file) = status.Refused
status_of (report.WrongTrace why line file) = status.Refused
status_of (report.Refuted edge what trace file) = status.No
status_of (report.Agrees edges) = status.Yes
status_of (report.Differs edge what) = status.No
status_of report.Simulated = status.Unknown
status_of (report.WrongDescription code place file) = status.Refused
status_of (report.Described map_text) = status.Yes
status_of (report.Fault store file) = status.Fault

-- a refusal of a file: its code, the file at 0:0, and its name
abbrev pub refusal_head : Refusal → List ℕ
refusal_head refusal.RdlSize = codes "refused 108 "
refusal_head refusal.VlogSize = codes "refused 213 "
refusal_head refusal.PortSize = codes "refused 307 "
refusal_head refusal.TraceSize = codes "refused 504 "
refusal_head refusal.NoFile = codes "refused 701 "
refusal_head refusal.NotYet = codes "refused 801 "

abbrev pub refusal_tail : Refusal → List ℕ
refusal_tail refusal.RdlSize = codes ":0:0 RdlSize"
refusal_tail refusal.VlogSize = codes ":0:0 VlogSize"
refusal_tail refusal.PortSize = codes ":0:0 PortSize"
refusal_tail refusal.TraceSize = codes ":0:0 TraceSize"
refusal_tail refusal.NoFile = codes ":0:0 NoFile"
refusal_tail refusal.NotYet = codes ":0:0 NotYet"

-- a difference; the one `out` line has the key c.v
abbrev pub difference_text : Difference → List ℕ
difference_text difference.Wait = codes " wait"
difference_text difference.Error = codes " error"
difference_text difference.ReadData = codes " readdata"
difference_text (difference.Output line) = codes " output c.v"

abbrev pub refuted_line : ℕ → Difference → List ℕ
refuted_line edge what = codes "refuted edge=" ++ decimal edge ++ difference_text what

-- the lines of a trace that is run
abbrev pub agrees_line : ℕ → List ℕ
agrees_line edges = codes "agrees edges=" ++ decimal edges ++ []

abbrev pub differs_line : ℕ → Difference → List ℕ
differs_line edge what = codes "differs edge=" ++ decimal edge ++ difference_text what

-- a refusal of a trace: its code, the file, the line at column 1, and its name
abbrev pub code_head : TraceCode → List ℕ
code_head code.TraceLine = codes "refused 501 "
code_head code.TraceName = codes "refused 502 "
code_head code.TraceIllegal = codes "refused 503 "
code_head code.TraceSize = codes "refused 504 "

abbrev pub code_tail : TraceCode → List ℕ
code_tail code.TraceLine = codes ":1 TraceLine"
code_tail code.TraceName = codes ":1 TraceName"
code_tail code.TraceIllegal = codes ":1 TraceIllegal"
code_tail code.TraceSize = codes ":1 TraceSize"

abbrev pub wrong_line : TraceCode → ℕ → List ℕ → List ℕ
wrong_line why line file = code_head why ++ (file ++ codes ":" ++ decimal line) ++ code_tail why

-- a refusal of a description: its code, the file, the place, and its name
abbrev pub rdl_head : RdlCode → List ℕ
rdl_head rdl.RdlByte = codes "refused 101 "
rdl_head rdl.RdlSyntax = codes "refused 102 "
rdl_head rdl.RdlDeep = codes "refused 103 "
rdl_head rdl.RdlName = codes "refused 104 "
rdl_head rdl.RdlProperty = codes "refused 105 "
rdl_head rdl.RdlValue = codes "refused 106 "
rdl_head rdl.RdlPlace = codes "refused 107 "
rdl_head rdl.RdlSize = codes "refused 108 "
rdl_head rdl.NoReset = codes "refused 109 "

abbrev pub rdl_tail : RdlCode → List ℕ
rdl_tail rdl.RdlByte = codes " RdlByte"
rdl_tail rdl.RdlSyntax = codes " RdlSyntax"
rdl_tail rdl.RdlDeep = codes " RdlDeep"
rdl_tail rdl.RdlName = codes " RdlName"
rdl_tail rdl.RdlProperty = codes " RdlProperty"
rdl_tail rdl.RdlValue = codes " RdlValue"
rdl_tail rdl.RdlPlace = codes " RdlPlace"
rdl_tail rdl.RdlSize = codes " RdlSize"
rdl_tail rdl.NoReset = codes " NoReset"

abbrev pub place_text : Place → List ℕ
place_text place = codes ":" ++ decimal place.line ++ (codes ":" ++ decimal place.column ++ [])

abbrev pub description_line : RdlCode → Place → List ℕ → List ℕ
description_line why place file = rdl_head why ++ (file ++ place_text place ++ []) ++ rdl_tail why

-- the line of a call of the depot that failed, before the file's name
abbrev pub fault_head : Bool → List ℕ
fault_head store = if store then codes "fault store " else codes "fault read "

-- the line of a report, and its text
abbrev pub line_of : Report → List ℕ
line_of report.Usage = codes "usage: rdlprove prove, check, replay, map, sample or equal"
line_of (report.Refused why file) = refusal_head why ++ file ++ refusal_tail why
line_of (report.WrongTrace why line file) = wrong_line why line file
line_of (report.Refuted edge what trace file) = refuted_line edge what
line_of (report.Agrees edges) = agrees_line edges
line_of (report.Differs edge what) = differs_line edge what
line_of report.Simulated = codes "unknown simulated"
line_of (report.WrongDescription why place file) = description_line why place file
line_of (report.Described map_text) = map_text
line_of (report.Fault store file) = fault_head store ++ file ++ []

-- each line of a register map has its line feed already
abbrev pub line_end : Report → List ℕ
line_end (report.Described map_text) = []
line_end _ = 10 ∷ []

abbrev pub heading_of : Report → List ℕ
heading_of said = line_of said ++ line_end said

-- the trace text that follows the line, where there is one and it has no file of its own
abbrev pub following : Option (List ℕ) → List ℕ → List ℕ
following None trace = trace
following (Some file) trace = []

abbrev pub trace_of : Report → List ℕ
trace_of report.Usage = []
trace_of (report.Refused why file) = []
trace_of (report.WrongTrace why line file) = []
trace_of (report.Refuted edge what trace file) = following file trace
trace_of (report.Agrees edges) = []
trace_of (report.Differs edge what) = []
trace_of report.Simulated = []
trace_of (report.WrongDescription code place file) = []
trace_of (report.Described map_text) = []
trace_of (report.Fault store file) = []

-- the file that a report has for its trace, and that trace
abbrev pub file_of : Report → Option (List ℕ)
file_of report.Usage = None
file_of (report.Refused why file) = None
file_of (report.WrongTrace why line file) = None
file_of (report.Refuted edge what trace file) = file
file_of (report.Agrees edges) = None
file_of (report.Differs edge what) = None
file_of report.Simulated = None
file_of (report.WrongDescription code place file) = None
file_of (report.Described map_text) = None
file_of (report.Fault store file) = None

abbrev pub run_trace : Report → List ℕ
run_trace report.Usage = []
run_trace (report.Refused why file) = []
run_trace (report.WrongTrace why line file) = []
run_trace (report.Refuted edge what trace file) = trace
run_trace (report.Agrees edges) = []
run_trace (report.Differs edge what) = []
run_trace report.Simulated = []
run_trace (report.WrongDescription code place file) = []
run_trace (report.Described map_text) = []
run_trace (report.Fault store file) = []

unfoldable pub text_of : Report → List ℕ
text_of said = heading_of said ++ trace_of said
