-- The reports that the words' command may give.
use Rattle.std.proofs.Common.{◌≡◌, ℕ, List, Option, Some, None, Result, Ok, Err, IfOk, inl, inr, refl, sym, subst, Bool, true}
use Rattle.std.proofs.lemmas.Option.{none-some}
use Rattle.tool_edge.specs.Files.{Files}
use Rattle.tool_edge.specs.declared.depot.DepotCall.{DepotCall}
use Rattle.trace_replay.specs.declared.block.Block.{Block}
use Rattle.trace_replay.specs.declared.joint.Difference.{Difference}
use Rattle.prove_top.specs.declared.gather.Kind.{Kind}
use Rattle.prove_top.specs.declared.gather.Shortfall.{Shortfall}
use Rattle.prove_top.specs.declared.gather.Shortfall.TheVariants.{Missing, Long}
use Rattle.prove_top.specs.declared.report.Report.{Report}
use Rattle.prove_top.specs.declared.report.Report.TheVariants.{Usage, Refused, WrongTrace, WrongDescription, Described, Refuted, Simulated, Agrees, Differs, Fault}
use Rattle.prove_top.specs.declared.report.Status.{Status}
use Rattle.prove_top.specs.declared.report.Status.TheVariants as status
use Rattle.prove_top.specs.declared.words.Command.{Command}
use Rattle.prove_top.specs.declared.words.BlockTask.{BlockTask}
use Rattle.prove_top.specs.declared.words.Task.{Task}
use Rattle.prove_top.specs.declared.words.Task.TheVariants as tasks
use Rattle.prove_top.specs.declared.words.Work.{Work}
use Rattle.prove_top.specs.declared.words.Work.TheVariants as work
use Rattle.prove_top.specs.Allowed.{MaySample, MayReplay, MayWork, MayTask, MayCommand, MayCome, PutsAllowed}
use Rattle.prove_top.specs.Answer.{DescriptionAnswer, difference_report, run_report, sample_report, Replays, ReplayAnswer, WorkAnswer, TextsAnswer, text_at, block_of, short_report}
use Rattle.prove_top.specs.Ends.{Ends, UnlessFailed}
use Rattle.prove_top.specs.Report.{file_of, run_trace}
use Rattle.prove_top.specs.Sampled.{sampled}
use Rattle.prove_top.specs.Store.{StoreStep}
use Rattle.prove_top.specs.Words.{command_of, task_of}
use Rattle.prove_top.proofs.EndLemmas.{unless-any, unless-fault, unless-memory}

difference-may : (block : Block) (seed : ℕ) (to : Option (List ℕ)) (found : Option (ℕ × Difference)) → MaySample to (difference_report block seed to found)
difference-may block seed to None = tt
difference-may block seed to (Some first) = refl

sample-may : (task : BlockTask) (seed : ℕ) (block : Result Block Kind) → MaySample task.trace_file (sample_report task seed block)
unfolding run_report
sample-may task seed (Ok block) = difference-may block seed task.trace_file (sampled block seed)
sample-may task seed (Err kind) = tt

replays-may : (block : Block) (trace text : List ℕ) (report : Report) → Replays block trace text report → MayReplay trace report
replays-may block trace text (Agrees edges) h = tt
replays-may block trace text (Differs edge what) h = tt
replays-may block trace text (WrongTrace code line file) h = h.0
replays-may block trace text (Refused why file) h = tt
replays-may block trace text Usage h = h
replays-may block trace text (Refuted edge what trace_text to) h = h
replays-may block trace text Simulated h = h
replays-may block trace text (WrongDescription code place file) h = h
replays-may block trace text (Described map_text) h = h
replays-may block trace text (Fault store file) h = tt

replay-may : (task : BlockTask) (trace text : List ℕ) (block : Result Block Kind) (report : Report) → ReplayAnswer task trace text block report → MayReplay trace report
replay-may task trace text (Ok block) report h = replays-may block trace text report h
replay-may task trace text (Err kind) report h = let P : Report → Type 0 = λ r. MayReplay trace r in subst P (sym h) tt

-- what a task comes to on its texts
work-may : (task : BlockTask) (texts : List (List ℕ)) (asked : Work) (report : Report) → WorkAnswer task texts asked report → MayWork task.trace_file asked report
work-may task texts (work.Sample seed) report h =
    let P : Report → Type 0 = λ r. MaySample task.trace_file r in
    subst P (sym h) (sample-may task seed (block_of (text_at texts 0) (text_at texts 1) (text_at texts 2)))
work-may task texts (work.Replay trace) report h =
    replay-may task trace (text_at texts 0) (block_of (text_at texts 1) (text_at texts 2) (text_at texts 3)) report h

pub texts-may : {E : Type 0} (task : BlockTask) (texts : List (List ℕ)) (r : Result Report E) → IfOk r (λ report. TextsAnswer task texts report) → IfOk r (λ report. MayTask (Some (tasks.Block task)) report)
texts-may task texts (Ok report) h = work-may task texts task.work report h
texts-may task texts (Err e) h = tt

short-work : (to : Option (List ℕ)) (asked : Work) (short : Shortfall) → MayWork to asked (short_report short)
short-work to (work.Sample seed) (Missing name) = tt
short-work to (work.Sample seed) (Long kind name) = tt
short-work to (work.Replay trace) (Missing name) = tt
short-work to (work.Replay trace) (Long kind name) = tt

pub short-may : (task : BlockTask) (short : Shortfall) → MayTask (Some (tasks.Block task)) (short_report short)
short-may task short = short-work task.trace_file task.work short

fault-work : (to : Option (List ℕ)) (asked : Work) (store : Bool) (name : List ℕ) → MayWork to asked (Fault store name)
fault-work to (work.Sample seed) store name = tt
fault-work to (work.Replay trace) store name = tt

pub fault-may : (task : BlockTask) (store : Bool) (name : List ℕ) → MayTask (Some (tasks.Block task)) (Fault store name)
fault-may task store name = fault-work task.trace_file task.work store name

pub plan-may : {E : Type 0} (r : Result Report E) (words : List (List ℕ)) (command : Command) (task : Option Task) → command_of words ≡ Some command → task_of command ≡ task
    → IfOk r (λ report. MayTask task report) → IfOk r (λ report. MayCome words report)
plan-may r words command task is answered h =
    let P : Option Command → Type 0 = λ c. IfOk r (λ report. MayCommand c report) in
    let Q : Option Task → Type 0 = λ t. IfOk r (λ report. MayTask t report) in
    subst P (sym is) (subst Q (sym answered) h)

-- a report with a file for its trace is one of a task, so a failed store may be told
task-fault : (task : Option Task) (report : Report) (name : List ℕ) → file_of report ≡ Some name → MayTask task report → MayTask task (Fault true name)
task-fault None report name is h = let P : Report → Type 0 = λ r. file_of r ≡ Some name in absurd (none-some name (subst P h is))
task-fault (Some (tasks.Block task)) report name is h = fault-may task true name
task-fault (Some (tasks.Describe rdl)) report name is h = tt

command-fault : (command : Option Command) (report : Report) (name : List ℕ) → file_of report ≡ Some name → MayCommand command report → MayCommand command (Fault true name)
command-fault None report name is h = let P : Report → Type 0 = λ r. file_of r ≡ Some name in absurd (none-some name (subst P h is))
command-fault (Some command) report name is h = task-fault (task_of command) report name is h

stored-may : {E : Type 0} (words : List (List ℕ)) (report : Report) (result : Result Report E) (before after : Option Files) (calls_before calls_after : Option (List DepotCall)) (to : Option (List ℕ))
    → file_of report ≡ to → MayCome words report → StoreStep to (run_trace report) report result before after calls_before calls_after → IfOk result (λ said. MayCome words said)
stored-may {E = E} words report result before after calls_before calls_after None is may step =
    let P : Result Report E → Type 0 = λ r. IfOk r (λ said. MayCome words said) in subst P (sym step.0) may
stored-may words report (Ok said) before after calls_before calls_after (Some name) is may (inl whole) =
    let P : Report → Type 0 = λ r. MayCome words r in subst P (sym whole.stands) may
stored-may words report (Ok said) before after calls_before calls_after (Some name) is may (inr failed) =
    let P : Report → Type 0 = λ r. MayCome words r in subst P (sym failed.failure) (command-fault (command_of words) report name is may)
stored-may words report (Err e) before after calls_before calls_after (Some name) is may step = tt

pub decided-may : {E : Type 0} (words : List (List ℕ)) (report : Report) (result : Result Report E) (before after : Option Files) (calls_before calls_after : Option (List DepotCall))
    → MayCome words report → StoreStep (file_of report) (run_trace report) report result before after calls_before calls_after → IfOk result (λ said. MayCome words said)
decided-may words report result before after calls_before calls_after may step =
    stored-may words report result before after calls_before calls_after (file_of report) refl may step

-- such a report is put, unless the outside failed
pub puts-allowed : (report : Report) (words : List (List ℕ)) (old new : Option (List ℕ)) (before now : ℕ) (ended : Status)
    → MayCome words report → Ends report old new before now ended → UnlessFailed ended (PutsAllowed words old new ended)
puts-allowed report words old new before now ended may (inl done) =
    unless-any ended (PutsAllowed words old new ended) (record { report = report; may = may; said = done.said; put = done.written })
puts-allowed report words old new before now ended may (inr (inl fails)) = unless-fault ended (PutsAllowed words old new ended) fails.said
puts-allowed report words old new before now ended may (inr (inr wants)) = unless-memory ended (PutsAllowed words old new ended) wants.said

pub wanting-allowed : (words : List (List ℕ)) (old new : Option (List ℕ)) (ended : Status) → ended ≡ status.NoMemory → UnlessFailed ended (PutsAllowed words old new ended)
wanting-allowed words old new ended said = unless-memory ended (PutsAllowed words old new ended) said

-- of a description
description-may : (name bytes : List ℕ) (report : Report) → DescriptionAnswer name bytes report → MayTask (Some (tasks.Describe name)) report
description-may name bytes (Described text) h = (bytes, h)
description-may name bytes (WrongDescription code place file) h = h.0
description-may name bytes Usage h = h
description-may name bytes (Refused why file) h = tt
description-may name bytes (WrongTrace why line file) h = h
description-may name bytes (Refuted edge what trace to) h = h
description-may name bytes Simulated h = h
description-may name bytes (Agrees edges) h = h
description-may name bytes (Differs edge what) h = h
description-may name bytes (Fault store file) h = tt

pub described-may : {E : Type 0} (name bytes : List ℕ) (r : Result Report E) → IfOk r (λ report. DescriptionAnswer name bytes report) → IfOk r (λ report. MayTask (Some (tasks.Describe name)) report)
described-may name bytes (Ok report) h = description-may name bytes report h
described-may name bytes (Err e) h = tt

pub lacking-may : (name : List ℕ) (short : Shortfall) → MayTask (Some (tasks.Describe name)) (short_report short)
lacking-may name (Missing file) = tt
lacking-may name (Long kind file) = tt
