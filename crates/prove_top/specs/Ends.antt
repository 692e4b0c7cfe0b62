-- How a command ends: its report put, a put that failed, or want of memory.
use Rattle.std.specs.Prelude.{◌≡◌, ℕ, Bool, Option, Some, List, ◌⊎◌, ⊤}
use Rattle.tool_edge.specs.Causes.{Rose}
use Rattle.tool_edge.specs.Files.{Files}
use Rattle.tool_edge.specs.Written.{after_put, AppendsPart}
use Rattle.tool_edge.specs.declared.depot.DepotCall.{DepotCall}
use Rattle.prove_top.specs.declared.report.Report.{Report}
use Rattle.prove_top.specs.declared.report.Status.{Status}
use Rattle.prove_top.specs.declared.report.Status.TheVariants as status
use Rattle.prove_top.specs.declared.report.TheConstants.{MEMORY_LINE}
use Rattle.prove_top.specs.Report.{file_of, run_trace, status_of, text_of}
use Rattle.prove_top.specs.Store.{Kept, files_after}
use Rattle.prove_top.specs.Allowed.{MayCome}
use Rattle.prove_top.specs.Answer.{Answers, UnlessFault, TellsFailed}
use Rattle.prove_top.specs.Reads.{failed_of}

-- the text is put, and the command ends as is due
pub record Completes (due : Status) (text : List ℕ) (old new : Option (List ℕ)) (ended : Status) : Type 0 where
  pub said : ended ≡ due
  pub written : new ≡ after_put old text

-- a put failed, with its cause: a part of the text is put
pub record FailsPut (text : List ℕ) (old new : Option (List ℕ)) (before now : ℕ) (ended : Status) : Type 0 where
  pub said : ended ≡ status.Fault
  pub rose : Rose before now
  pub written : AppendsPart old text new

-- memory is wanted: a part of the text is put, then a part of the line that says so
pub record WantsMemory (text : List ℕ) (old new : Option (List ℕ)) (ended : Status) : Type 0 where
  pub said : ended ≡ status.NoMemory
  pub written : (middle : Option (List ℕ)) × AppendsPart old text middle × AppendsPart middle MEMORY_LINE.now new

abbrev pub EndsPut : Status → List ℕ → Option (List ℕ) → Option (List ℕ) → ℕ → ℕ → Status → Type 0
EndsPut due text old new before now ended =
    Completes due text old new ended ⊎ FailsPut text old new before now ended ⊎ WantsMemory text old new ended

abbrev pub Ends : Report → Option (List ℕ) → Option (List ℕ) → ℕ → ℕ → Status → Type 0
Ends report old new before now ended = EndsPut (status_of report) (text_of report) old new before now ended

-- a report that the words' command may give: about the call that failed, else one that the told files give
pub record MayReport (told : Option Files) (words : List (List ℕ)) (failed : Option (Bool × List ℕ)) (report : Report) : Type 0 where
  pub command : MayCome words report
  pub failure : TellsFailed report failed
  pub answer : (files : Files) → told ≡ Some files → UnlessFault report (Answers files words report)

-- such a report ends the command
pub record Reported (told : Option Files) (words : List (List ℕ)) (old new : Option (List ℕ)) (before now : ℕ) (ended : Status) (added : List DepotCall) : Type 0 where
  pub report : Report
  pub may : MayReport told words (failed_of added) report
  pub ends : Ends report old new before now ended

-- memory is wanted before there is a report: a part of the line that says so is put
pub record Wanting (old new : Option (List ℕ)) (ended : Status) : Type 0 where
  pub said : ended ≡ status.NoMemory
  pub written : AppendsPart old MEMORY_LINE.now new

abbrev pub Ran : Option Files → List (List ℕ) → Option (List ℕ) → Option (List ℕ) → ℕ → ℕ → Status → List DepotCall → Type 0
Ran told words old new before now ended added = Reported told words old new before now ended added ⊎ Wanting old new ended

-- how a command ends, and what it stores
pub record Runs (told after : Option Files) (words : List (List ℕ)) (old new : Option (List ℕ)) (before now : ℕ) (ended : Status) (added : List DepotCall) : Type 0 where
  pub ran : Ran told words old new before now ended added
  pub kept : Kept told words added after

-- the report that is put, which words and told files give, and the files after it
pub record PutsAnswer (files : Files) (words : List (List ℕ)) (old new : Option (List ℕ)) (after : Option Files) (ended : Status) : Type 0 where
  pub report : Report
  pub answer : Answers files words report
  pub kept : after ≡ files_after (file_of report) (run_trace report) (Some files)
  pub said : ended ≡ status_of report
  pub put : new ≡ after_put old (text_of report)

-- a fact where neither the outside failed nor memory was wanted
abbrev pub UnlessFailed : Status → Type 0 → Type 0
UnlessFailed status.Yes P = P
UnlessFailed status.No P = P
UnlessFailed status.Unknown P = P
UnlessFailed status.Refused P = P
UnlessFailed status.Usage P = P
UnlessFailed status.Fault P = ⊤
UnlessFailed status.NoMemory P = ⊤

-- a fact under the statuses that store nothing
abbrev pub UnlessStores : Status → Type 0 → Type 0
UnlessStores status.Yes P = P
UnlessStores status.No P = ⊤
UnlessStores status.Unknown P = P
UnlessStores status.Refused P = P
UnlessStores status.Usage P = P
UnlessStores status.Fault P = ⊤
UnlessStores status.NoMemory P = ⊤
