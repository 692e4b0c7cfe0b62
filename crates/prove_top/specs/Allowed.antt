-- Which reports the words' command may give, whatever the files hold.
use Rattle.std.specs.Prelude.{◌≡◌, ℕ, Option, Some, None, List, codes, ⊤}
use Rattle.rdl_report.specs.Described.{IsMapText}
use Rattle.prove_top.specs.declared.report.Refusal.TheVariants.{NotYet}
use Rattle.prove_top.specs.declared.report.Report.{Report}
use Rattle.prove_top.specs.declared.report.Report.TheVariants.{Usage, Refused, WrongTrace, WrongDescription, Described, Refuted, Simulated, Agrees, Differs, Fault}
use Rattle.prove_top.specs.declared.report.Status.{Status}
use Rattle.prove_top.specs.declared.words.Command.{Command}
use Rattle.prove_top.specs.declared.words.Task.{Task}
use Rattle.prove_top.specs.declared.words.Task.TheVariants as tasks
use Rattle.prove_top.specs.declared.words.Work.{Work}
use Rattle.prove_top.specs.declared.words.Work.TheVariants as work
use Rattle.prove_top.specs.Report.{status_of, text_of}
use Rattle.prove_top.specs.Words.{command_of, task_of}
use Rattle.tool_edge.specs.Written.{after_put}

-- of a sampled run: its difference, whose trace is for this file if for one, that there is none, a refusal,
-- or a call that failed
abbrev pub MaySample : Option (List ℕ) → Report → Type 0
MaySample to (Refuted edge what trace file) = file ≡ to
MaySample to Simulated = ⊤
MaySample to (WrongDescription code place file) = ⊥
MaySample to (Described map_text) = ⊥
MaySample to (Refused why file) = ⊤
MaySample to (Fault store file) = ⊤
MaySample to Usage = ⊥
MaySample to (WrongTrace why line file) = ⊥
MaySample to (Agrees edges) = ⊥
MaySample to (Differs edge what) = ⊥

-- of a replay of the trace of this name: its first difference, that there is none, why the text is no legal
-- trace, another refusal, or a call that failed
abbrev pub MayReplay : List ℕ → Report → Type 0
MayReplay trace (Agrees edges) = ⊤
MayReplay trace (Differs edge what) = ⊤
MayReplay trace (WrongTrace why line file) = file ≡ trace
MayReplay trace (Refused why file) = ⊤
MayReplay trace (Fault store file) = ⊤
MayReplay trace Usage = ⊥
MayReplay trace (Refuted edge what text to) = ⊥
MayReplay trace Simulated = ⊥
MayReplay trace (WrongDescription code place file) = ⊥
MayReplay trace (Described map_text) = ⊥

-- of the description of this name: the register map of some description, a refusal, or a call that failed
abbrev pub MayDescribe : List ℕ → Report → Type 0
MayDescribe name (Described text) = (bytes : List ℕ) × IsMapText bytes text
MayDescribe name (WrongDescription code place file) = file ≡ name
MayDescribe name (Refused why file) = ⊤
MayDescribe name (Fault store file) = ⊤
MayDescribe name Usage = ⊥
MayDescribe name (WrongTrace why line file) = ⊥
MayDescribe name (Refuted edge what trace to) = ⊥
MayDescribe name Simulated = ⊥
MayDescribe name (Agrees edges) = ⊥
MayDescribe name (Differs edge what) = ⊥

abbrev pub MayWork : Option (List ℕ) → Work → Report → Type 0
MayWork to (work.Sample seed) report = MaySample to report
MayWork to (work.Replay trace) report = MayReplay trace report

-- a command that isn't answered yet is refused as such
abbrev pub MayTask : Option Task → Report → Type 0
MayTask None report = report ≡ Refused NotYet (codes "words")
MayTask (Some (tasks.Block task)) report = MayWork task.trace_file task.work report
MayTask (Some (tasks.Describe rdl)) report = MayDescribe rdl report

-- words outside the grammar have the usage line
abbrev pub MayCommand : Option Command → Report → Type 0
MayCommand None report = report ≡ Usage
MayCommand (Some command) report = MayTask (task_of command) report

abbrev pub MayCome : List (List ℕ) → Report → Type 0
MayCome words report = MayCommand (command_of words) report

-- such a report is put, and the command ends as it says
pub record PutsAllowed (words : List (List ℕ)) (old new : Option (List ℕ)) (ended : Status) : Type 0 where
  pub report : Report
  pub may : MayCome words report
  pub said : ended ≡ status_of report
  pub put : new ≡ after_put old (text_of report)
