-- When each refusal comes: what words and told files give in place of an answer.
use Rattle.std.specs.Prelude.{◌≡◌, ◌↔◌, ◌⊎◌, ℕ, ◌≤◌, Option, Some, None, Result, Ok, Err, List, ◌++◌, length, IsSome, IsSomeAnd, codes, ⊤}
use Rattle.std.specs.Option.{option_and_then}
use Rattle.tool_edge.specs.Files.{Files}
use Rattle.tool_edge.specs.Written.{after_put}
use Rattle.bit_base.specs.declared.place.Place.{Place}
use Rattle.rdl_report.specs.Described as descriptions
use Rattle.rdl_tree.specs.declared.fault.RdlCode.{RdlCode}
use Rattle.trace_replay.specs.Reading.{IsRefusedAt}
use Rattle.trace_replay.specs.declared.fault.TraceCode.{TraceCode}
use Rattle.trace_replay.specs.declared.read.TheConstants.{TRACE_LIMIT}
use Rattle.prove_top.specs.declared.gather.Kind.{Kind}
use Rattle.prove_top.specs.declared.gather.Kind.TheVariants.{Description, Ports, Verilog, Trace}
use Rattle.prove_top.specs.declared.gather.Shortfall.{Shortfall}
use Rattle.prove_top.specs.declared.gather.Shortfall.TheVariants.{Missing, Long}
use Rattle.prove_top.specs.declared.report.Refusal.TheVariants.{RdlSize, VlogSize, PortSize, TraceSize, NoFile, NotYet}
use Rattle.prove_top.specs.declared.report.Report.{Report}
use Rattle.prove_top.specs.declared.report.Report.TheVariants.{Usage, Refused, WrongTrace, WrongDescription, Described, Refuted, Simulated, Agrees, Differs, Fault}
use Rattle.prove_top.specs.declared.report.Status.{Status}
use Rattle.prove_top.specs.declared.words.BlockTask.{BlockTask}
use Rattle.prove_top.specs.declared.words.Task.{Task}
use Rattle.prove_top.specs.declared.words.Task.TheVariants as tasks
use Rattle.prove_top.specs.declared.words.Work.{Work}
use Rattle.prove_top.specs.declared.words.Work.TheVariants as work
use Rattle.prove_top.specs.Answer.{name_of, wanted_files, wanted_of}
use Rattle.prove_top.specs.Asked.{asked_description, asked_replay, made_of}
use Rattle.prove_top.specs.Ends.{UnlessFailed}
use Rattle.prove_top.specs.Gather.{gathered}
use Rattle.prove_top.specs.Report.{text_of}
use Rattle.prove_top.specs.Words.{command_of, description_asked, task_asked}

-- what the first of the files of the words lacks that lacks something: it isn't there, or it is too long
abbrev pub shortfall_of : {A : Type 0} → Result A Shortfall → Option Shortfall
shortfall_of (Ok texts) = None
shortfall_of (Err short) = Some short

abbrev pub lack_in : Files → Option Task → Option Shortfall
lack_in files None = None
lack_in files (Some task) = shortfall_of (gathered files (wanted_files task))

abbrev pub lacking : Files → List (List ℕ) → Option Shortfall
lacking files words = lack_in files (task_asked words)

-- words of the grammar that aren't answered yet
abbrev pub AreLater : List (List ℕ) → Type 0
AreLater words = IsSome (command_of words) × (task_asked words ≡ None)

-- the file, the first in the order description, Verilog, ports, that isn't of the first form
pub record IsOtherForm (files : Files) (words : List (List ℕ)) (file : List ℕ) : Type 0 where
  pub task : BlockTask
  pub texts : List (List ℕ)
  pub kind : Kind
  pub asked : task_asked words ≡ Some (tasks.Block task)
  pub whole : gathered files (wanted_of task) ≡ Ok texts
  pub form : made_of task.work texts ≡ Err kind
  pub name : file ≡ name_of task kind

-- what isn't answered yet: the words, or this file
abbrev pub IsNotYet : Files → List (List ℕ) → List ℕ → Type 0
IsNotYet files words file = (AreLater words × (file ≡ codes "words")) ⊎ IsOtherForm files words file

-- the name of the trace of `replay`, and that its text is refused for this reason at this line
abbrev pub trace_of_work : Work → Option (List ℕ)
trace_of_work (work.Sample seed) = None
trace_of_work (work.Replay trace) = Some trace

abbrev pub trace_of_task : Task → Option (List ℕ)
trace_of_task (tasks.Block task) = trace_of_work task.work
trace_of_task (tasks.Describe rdl) = None

abbrev pub replayed : List (List ℕ) → Option (List ℕ)
replayed words = option_and_then trace_of_task (task_asked words)

abbrev pub IsTraceRefused : Files → List (List ℕ) → TraceCode → ℕ → Type 0
IsTraceRefused files words code line = IsSomeAnd (asked_replay files words) (λ asked. (length asked.1 ≤ TRACE_LIMIT) × IsRefusedAt asked.0 asked.1 code line)

-- the description that `map` is asked for is refused for this code at this place
abbrev pub IsDescriptionRefused : Files → List (List ℕ) → RdlCode → Place → Type 0
IsDescriptionRefused files words code place = IsSomeAnd (asked_description files words) (λ bytes. descriptions.IsRefusedAt bytes code place)

-- a report is the refusal that words and told files give
abbrev pub IsRefusal : Files → List (List ℕ) → Report → Type 0
IsRefusal files words (Refused NoFile file) = lacking files words ≡ Some (Missing file)
IsRefusal files words (Refused RdlSize file) = lacking files words ≡ Some (Long Description file)
IsRefusal files words (Refused PortSize file) = lacking files words ≡ Some (Long Ports file)
IsRefusal files words (Refused VlogSize file) = lacking files words ≡ Some (Long Verilog file)
IsRefusal files words (Refused TraceSize file) = lacking files words ≡ Some (Long Trace file)
IsRefusal files words (Refused NotYet file) = IsNotYet files words file
IsRefusal files words (WrongTrace code line file) = (replayed words ≡ Some file) × IsTraceRefused files words code line
IsRefusal files words Usage = ⊥
IsRefusal files words (Refuted edge what trace to) = ⊥
IsRefusal files words Simulated = ⊥
IsRefusal files words (WrongDescription code place file) = (description_asked words ≡ Some file) × IsDescriptionRefused files words code place
IsRefusal files words (Described map_text) = ⊥
IsRefusal files words (Agrees edges) = ⊥
IsRefusal files words (Differs edge what) = ⊥
IsRefusal files words (Fault store file) = ⊥

-- its text is put
pub record PutsRefusal (files : Files) (words : List (List ℕ)) (old new : Option (List ℕ)) : Type 0 where
  pub report : Report
  pub refusal : IsRefusal files words report
  pub put : new ≡ after_put old (text_of report)

-- where the sink tells its bytes and nothing failed, exactly this report is put where P holds
abbrev pub PutsIff : Option (List ℕ) → Option (List ℕ) → Status → Report → Type 0 → Type 0
PutsIff None new ended report P = ⊤
PutsIff (Some put) new ended report P = UnlessFailed ended ((new ≡ Some (put ++ text_of report)) ↔ P)
