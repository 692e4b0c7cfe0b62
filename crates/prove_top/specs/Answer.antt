-- The report that the told files give.
use Rattle.std.specs.Prelude.{◌≡◌, ℕ, ◌<◌, ◌≤◌, Bool, true, false, Option, Some, None, Result, Ok, Err, List, [], ◌∷◌, length, slice_index_or, codes, ⊤}
use Rattle.std.specs.Str.{bytes_eq}
use Rattle.tool_edge.specs.Files.{Files}
use Rattle.trace_replay.specs.declared.block.Block.{Block}
use Rattle.trace_replay.specs.Blocks.{first_block}
use Rattle.trace_replay.specs.declared.fault.TraceCode.{TraceCode}
use Rattle.trace_replay.specs.declared.fault.TraceCode.TheVariants as code
use Rattle.trace_replay.specs.declared.joint.Difference.{Difference}
use Rattle.trace_replay.specs.declared.read.TheConstants.{TRACE_LIMIT}
use Rattle.trace_replay.specs.LegalTrace.{IsLegalTrace}
use Rattle.trace_replay.specs.Reading.{IsRefusedAt}
use Rattle.trace_replay.specs.Trace.{trace_difference}
use Rattle.trace_replay.specs.TraceText.{trace_text}
use Rattle.rdl_report.specs.Described as descriptions
use Rattle.rdl_report.specs.Described.{IsMapText}
use Rattle.prove_top.specs.declared.gather.Kind.{Kind}
use Rattle.prove_top.specs.declared.gather.Kind.TheVariants.{Description, Ports, Verilog, Trace}
use Rattle.prove_top.specs.declared.gather.Wanted.{Wanted}
use Rattle.prove_top.specs.declared.gather.Shortfall.{Shortfall}
use Rattle.prove_top.specs.declared.gather.Shortfall.TheVariants.{Missing, Long}
use Rattle.prove_top.specs.declared.plan.TheConstants.{DESCRIPTION_LIMIT, PORTS_LIMIT, VERILOG_LIMIT, TRACE_FILE_LIMIT, PORTS}
use Rattle.prove_top.specs.declared.report.Refusal.{Refusal}
use Rattle.prove_top.specs.declared.report.Refusal.TheVariants.{RdlSize, VlogSize, PortSize, TraceSize, NoFile, NotYet}
use Rattle.prove_top.specs.declared.report.Report.{Report}
use Rattle.prove_top.specs.declared.report.Report.TheVariants.{Usage, Refused, WrongTrace, WrongDescription, Described, Refuted, Simulated, Agrees, Differs, Fault}
use Rattle.prove_top.specs.declared.verilog.Drivers.{Drivers}
use Rattle.prove_top.specs.declared.words.Command.{Command}
use Rattle.prove_top.specs.declared.words.BlockTask.{BlockTask}
use Rattle.prove_top.specs.declared.words.Task.{Task}
use Rattle.prove_top.specs.declared.words.Task.TheVariants as tasks
use Rattle.prove_top.specs.declared.words.Work.{Work}
use Rattle.prove_top.specs.declared.words.Work.TheVariants as work
use Rattle.prove_top.specs.Description.{reset_of}
use Rattle.prove_top.specs.Gather.{gathered, names_of}
use Rattle.prove_top.specs.Reads.{failed_of, whole_reads}
use Rattle.prove_top.specs.Report.{file_of}
use Rattle.tool_edge.specs.declared.depot.DepotCall.{DepotCall}
use Rattle.prove_top.specs.Sampled.{sampled, sampled_trace}
use Rattle.prove_top.specs.Verilog.{drivers_of}
use Rattle.prove_top.specs.Words.{command_of, task_of, task_asked}

-- the files of a task, in the order of its words
abbrev pub block_wanted : BlockTask → List Wanted
block_wanted task =
    record { name = task.rdl; limit = DESCRIPTION_LIMIT; kind = Description }
    ∷ record { name = task.ports; limit = PORTS_LIMIT; kind = Ports }
    ∷ record { name = task.verilog; limit = VERILOG_LIMIT; kind = Verilog } ∷ []

abbrev pub wanted_for : Work → List Wanted → List Wanted
wanted_for (work.Sample seed) wanted = wanted
wanted_for (work.Replay trace) wanted = record { name = trace; limit = TRACE_FILE_LIMIT; kind = Trace } ∷ wanted

abbrev pub wanted_of : BlockTask → List Wanted
wanted_of task = wanted_for task.work (block_wanted task)

-- the file of a description, and the files of a task
abbrev pub description_wanted : List ℕ → List Wanted
description_wanted rdl = record { name = rdl; limit = DESCRIPTION_LIMIT; kind = Description } ∷ []

abbrev pub wanted_files : Task → List Wanted
wanted_files (tasks.Block task) = wanted_of task
wanted_files (tasks.Describe rdl) = description_wanted rdl

-- what the files lack, as a refusal
abbrev pub size_refusal : Kind → Refusal
size_refusal Description = RdlSize
size_refusal Ports = PortSize
size_refusal Verilog = VlogSize
size_refusal Trace = TraceSize

abbrev pub short_report : Shortfall → Report
short_report (Missing name) = Refused NoFile name
short_report (Long kind name) = Refused (size_refusal kind) name

abbrev pub trace_name : Work → List ℕ → List ℕ
trace_name (work.Sample seed) other = other
trace_name (work.Replay trace) other = trace

abbrev pub name_of : BlockTask → Kind → List ℕ
name_of task Description = task.rdl
name_of task Ports = task.ports
name_of task Verilog = task.verilog
name_of task Trace = trace_name task.work task.rdl

-- the block of three texts, or the first that isn't of the first form: description, Verilog, ports
abbrev pub block_with : Option ℕ → Option Drivers → Bool → Result Block Kind
block_with None drivers ports = Err Description
block_with (Some reset) None ports = Err Verilog
block_with (Some reset) (Some drivers) false = Err Ports
block_with (Some reset) (Some drivers) true = Ok (first_block reset drivers.read_data drivers.next)

abbrev pub block_of : List ℕ → List ℕ → List ℕ → Result Block Kind
block_of rdl ports verilog = block_with (reset_of rdl) (drivers_of verilog) (bytes_eq ports PORTS.now)

-- the report of the sampled run: its first difference, and its trace, cut after that edge, with the name
-- of the file that it is to be stored in
abbrev pub difference_report : Block → ℕ → Option (List ℕ) → Option (ℕ × Difference) → Report
difference_report block seed to None = Simulated
difference_report block seed to (Some first) = Refuted first.0 first.1 (sampled_trace block seed first.0) to

unfoldable pub run_report : Block → ℕ → Option (List ℕ) → Report
run_report block seed to = difference_report block seed to (sampled block seed)

abbrev pub sample_report : BlockTask → ℕ → Result Block Kind → Report
sample_report task seed (Ok block) = run_report block seed task.trace_file
sample_report task seed (Err kind) = Refused NotYet (name_of task kind)

-- a text is that of a legal trace of the block, whose run has this first difference, or none
pub record ReplaysTo (block : Block) (text : List ℕ) (found : Option (ℕ × Difference)) (count : ℕ) : Type 0 where
  pub start : List Bool
  pub edges : List (List Bool)
  pub short : length text ≤ TRACE_LIMIT
  pub legal : IsLegalTrace block start edges
  pub is : text ≡ trace_text start edges
  pub counted : count ≡ length edges
  pub first : trace_difference block start edges ≡ found

-- what the run of a trace text is reported as: its first difference, or that it has none at any of its
-- edges; or why the text isn't that of a legal trace
abbrev pub Replays : Block → List ℕ → List ℕ → Report → Type 0
Replays block name text (Agrees edges) = ReplaysTo block text None edges
Replays block name text (Differs edge what) = (count : ℕ) × ReplaysTo block text (Some (edge, what)) count
Replays block name text (WrongTrace code line file) = (file ≡ name) × (length text ≤ TRACE_LIMIT) × IsRefusedAt block text code line
Replays block name text (Refused TraceSize file) = (file ≡ name) × (TRACE_LIMIT < length text)
Replays block name text (Refused RdlSize file) = ⊥
Replays block name text (Refused VlogSize file) = ⊥
Replays block name text (Refused PortSize file) = ⊥
Replays block name text (Refused NoFile file) = ⊥
Replays block name text (Refused NotYet file) = ⊥
Replays block name text Usage = ⊥
Replays block name text (Refuted edge what trace to) = ⊥
Replays block name text Simulated = ⊥
Replays block name text (WrongDescription code place file) = ⊥
Replays block name text (Described map_text) = ⊥
Replays block name text (Fault store file) = ⊥

abbrev pub ReplayAnswer : BlockTask → List ℕ → List ℕ → Result Block Kind → Report → Type 0
ReplayAnswer task trace text (Ok block) report = Replays block trace text report
ReplayAnswer task trace text (Err kind) report = report ≡ Refused NotYet (name_of task kind)

-- the report of a trace that is refused, and that of a legal one
abbrev pub wrong_report : List ℕ → TraceCode → ℕ → Report
wrong_report name code.TraceSize line = Refused TraceSize name
wrong_report name code.TraceLine line = WrongTrace code.TraceLine line name
wrong_report name code.TraceName line = WrongTrace code.TraceName line name
wrong_report name code.TraceIllegal line = WrongTrace code.TraceIllegal line name

abbrev pub trace_report : ℕ → Option (ℕ × Difference) → Report
trace_report count None = Agrees count
trace_report count (Some first) = Differs first.0 first.1

-- the report of a task on its texts
abbrev pub text_at : List (List ℕ) → ℕ → List ℕ
text_at texts place = slice_index_or texts place []

abbrev pub WorkAnswer : BlockTask → List (List ℕ) → Work → Report → Type 0
WorkAnswer task texts (work.Sample seed) report = report ≡ sample_report task seed (block_of (text_at texts 0) (text_at texts 1) (text_at texts 2))
WorkAnswer task texts (work.Replay trace) report = ReplayAnswer task trace (text_at texts 0) (block_of (text_at texts 1) (text_at texts 2) (text_at texts 3)) report

abbrev pub TextsAnswer : BlockTask → List (List ℕ) → Report → Type 0
TextsAnswer task texts report = WorkAnswer task texts task.work report

-- the report of a task on the told files
abbrev pub FilesAnswer : BlockTask → Result (List (List ℕ)) Shortfall → Report → Type 0
FilesAnswer task (Err short) report = report ≡ short_report short
FilesAnswer task (Ok texts) report = TextsAnswer task texts report

-- the report of a description: the lines of its register map, or what refuses it and where
abbrev pub DescriptionAnswer : List ℕ → List ℕ → Report → Type 0
DescriptionAnswer name bytes (Described text) = IsMapText bytes text
DescriptionAnswer name bytes (WrongDescription code place file) = (file ≡ name) × descriptions.IsRefusedAt bytes code place
DescriptionAnswer name bytes Usage = ⊥
DescriptionAnswer name bytes (Refused why file) = ⊥
DescriptionAnswer name bytes (WrongTrace why line file) = ⊥
DescriptionAnswer name bytes (Refuted edge what trace to) = ⊥
DescriptionAnswer name bytes Simulated = ⊥
DescriptionAnswer name bytes (Agrees edges) = ⊥
DescriptionAnswer name bytes (Differs edge what) = ⊥
DescriptionAnswer name bytes (Fault store file) = ⊥

abbrev pub GatheredAnswer : List ℕ → Result (List (List ℕ)) Shortfall → Report → Type 0
GatheredAnswer name (Err short) report = report ≡ short_report short
GatheredAnswer name (Ok texts) report = DescriptionAnswer name (text_at texts 0) report

abbrev pub TaskAnswer : Files → Task → Report → Type 0
TaskAnswer files (tasks.Block task) report = FilesAnswer task (gathered files (wanted_of task)) report
TaskAnswer files (tasks.Describe rdl) report = GatheredAnswer rdl (gathered files (description_wanted rdl)) report

-- the report of the words
abbrev pub AskedAnswer : Files → Option Task → Report → Type 0
AskedAnswer files None report = report ≡ Refused NotYet (codes "words")
AskedAnswer files (Some task) report = TaskAnswer files task report

abbrev pub CommandAnswer : Files → Option Command → Report → Type 0
CommandAnswer files None report = report ≡ Usage
CommandAnswer files (Some command) report = AskedAnswer files (task_of command) report

abbrev pub Answers : Files → List (List ℕ) → Report → Type 0
Answers files words report = CommandAnswer files (command_of words) report

-- the names that the words ask for
abbrev pub task_names : Option Task → List (List ℕ)
task_names None = []
task_names (Some task) = names_of (wanted_files task)

abbrev pub names_asked : List (List ℕ) → List (List ℕ)
names_asked words = task_names (task_asked words)

-- facts about one kind of report
abbrev pub IsUsage : Report → Type 0
IsUsage Usage = ⊤
IsUsage (Refused why file) = ⊥
IsUsage (WrongTrace why line file) = ⊥
IsUsage (Refuted edge what trace to) = ⊥
IsUsage Simulated = ⊥
IsUsage (WrongDescription code place file) = ⊥
IsUsage (Described map_text) = ⊥
IsUsage (Agrees edges) = ⊥
IsUsage (Differs edge what) = ⊥
IsUsage (Fault store file) = ⊥

-- an answer to files, whose trace is for this file, if for one
abbrev pub IsAnswer : Option (List ℕ) → Report → Type 0
IsAnswer to Usage = ⊥
IsAnswer to (Refused why file) = ⊤
IsAnswer to (WrongTrace why line file) = ⊤
IsAnswer to (Refuted edge what trace file) = file ≡ to
IsAnswer to Simulated = ⊤
IsAnswer to (WrongDescription code place file) = ⊤
IsAnswer to (Described map_text) = ⊤
IsAnswer to (Agrees edges) = ⊤
IsAnswer to (Differs edge what) = ⊤
IsAnswer to (Fault store file) = ⊥

abbrev pub IfFault : Report → Type 0 → Type 0
IfFault (Fault store file) P = P
IfFault Usage P = ⊤
IfFault (Refused why file) P = ⊤
IfFault (WrongTrace why line file) P = ⊤
IfFault (Refuted edge what trace to) P = ⊤
IfFault Simulated P = ⊤
IfFault (WrongDescription code place file) P = ⊤
IfFault (Described map_text) P = ⊤
IfFault (Agrees edges) P = ⊤
IfFault (Differs edge what) P = ⊤

abbrev pub UnlessFault : Report → Type 0 → Type 0
UnlessFault (Fault store file) P = ⊤
UnlessFault Usage P = P
UnlessFault (Refused why file) P = P
UnlessFault (WrongTrace why line file) P = P
UnlessFault (Refuted edge what trace to) P = P
UnlessFault Simulated P = P
UnlessFault (WrongDescription code place file) P = P
UnlessFault (Described map_text) P = P
UnlessFault (Agrees edges) P = P
UnlessFault (Differs edge what) P = P

-- a report names the call that failed, where one did
abbrev pub TellsFailed : Report → Option (Bool × List ℕ) → Type 0
TellsFailed (Fault store file) failed = failed ≡ Some (store, file)
TellsFailed Usage failed = failed ≡ None
TellsFailed (Refused why file) failed = failed ≡ None
TellsFailed (WrongTrace why line file) failed = failed ≡ None
TellsFailed (Refuted edge what trace to) failed = failed ≡ None
TellsFailed Simulated failed = failed ≡ None
TellsFailed (WrongDescription code place file) failed = failed ≡ None
TellsFailed (Described map_text) failed = failed ≡ None
TellsFailed (Agrees edges) failed = failed ≡ None
TellsFailed (Differs edge what) failed = failed ≡ None

-- the reads that a report comes after: whole ones of all names, where the file of its name is to be stored
pub record ComesAfter (names : List (List ℕ)) (to : Option (List ℕ)) (report : Report) (added : List DepotCall) : Type 0 where
  pub failure : TellsFailed report (failed_of added)
  pub whole : (name : List ℕ) → file_of report ≡ Some name → (added ≡ whole_reads names) × (to ≡ Some name)
