-- What an answer to three texts tells of the whole command.
use Rattle.std.proofs.Common.{◌≡◌, ℕ, ◌<◌, ◌≤◌, Bool, List, [], ◌∷◌, length, get_or, Option, Some, None, Result, Ok, Err, IfOk, IfSome, Vec, Global, refl, sym, ap, subst, ◌∙◌}
use Rattle.tool_edge.specs.Files.{Files}
use Rattle.tool_edge.specs.declared.depot.DepotCall.{DepotCall}
use Rattle.prove_top.specs.declared.report.Report.{Report}
use Rattle.prove_top.specs.declared.report.Report.TheVariants.{Usage, Refused, WrongTrace, WrongDescription, Described, Refuted, Simulated, Agrees, Differs, Fault}
use Rattle.prove_top.specs.declared.words.Command.{Command}
use Rattle.prove_top.specs.declared.words.BlockTask.{BlockTask}
use Rattle.prove_top.specs.declared.words.Task.{Task}
use Rattle.prove_top.specs.declared.words.Task.TheVariants as tasks
use Rattle.prove_top.specs.declared.words.Work.{Work}
use Rattle.prove_top.specs.declared.words.Work.TheVariants as work
use Rattle.prove_top.specs.declared.gather.Shortfall.{Shortfall}
use Rattle.trace_replay.specs.declared.block.Block.{Block}
use Rattle.trace_replay.specs.declared.fault.TraceCode.{TraceCode}
use Rattle.trace_replay.specs.declared.fault.TraceCode.TheVariants as code
use Rattle.trace_replay.specs.declared.fault.TraceFault.TheVariants.{At}
use Rattle.trace_replay.specs.declared.joint.Difference.{Difference}
use Rattle.trace_replay.specs.declared.read.TheConstants.{TRACE_LIMIT}
use Rattle.trace_replay.specs.declared.trace.Trace.{Trace}
use Rattle.trace_replay.specs.LegalTrace.{IsLegalTrace}
use Rattle.trace_replay.specs.Lines.{lines_of}
use Rattle.trace_replay.specs.Reading.{IsIllegal, IsWrongLine, IsWrongName, Refuses}
use Rattle.trace_replay.specs.Trace.{trace_difference}
use Rattle.trace_replay.specs.TraceText.{trace_text}
use Rattle.prove_top.specs.Answer.{DescriptionAnswer, GatheredAnswer, description_wanted, ComesAfter, IsAnswer, IsUsage, IfFault, UnlessFault, TellsFailed, Answers, CommandAnswer, AskedAnswer, TaskAnswer, FilesAnswer, TextsAnswer, WorkAnswer, ReplayAnswer, Replays, block_of, block_wanted, wanted_for, wanted_of, short_report, sample_report, trace_report, wrong_report, text_at}
use Rattle.prove_top.specs.declared.gather.Wanted.{Wanted}
use Rattle.prove_top.specs.Gather.{contents, gathered, names_of}
use Rattle.prove_top.specs.Reads.{AreReads, ReadsOnly, failed_of, whole_reads}
use Rattle.prove_top.specs.Report.{file_of}
use Rattle.std.proofs.lemmas.List.{get_or-map}
use Rattle.prove_top.specs.Words.{command_of, task_of}

answer-usage : (asked : Option (List ℕ)) (report : Report) → IsAnswer asked report → IsUsage report → ⊥
answer-usage asked Usage answer usage = answer
answer-usage asked (Refused why file) answer usage = usage
answer-usage asked (Refuted edge what trace to) answer usage = usage
answer-usage asked Simulated answer usage = usage
answer-usage asked (WrongDescription code place file) answer usage = usage
answer-usage asked (Described map_text) answer usage = usage
answer-usage asked (WrongTrace why line file) answer usage = usage
answer-usage asked (Agrees edges) answer usage = usage
answer-usage asked (Differs edge what) answer usage = usage
answer-usage asked (Fault store file) answer usage = usage

answer-tells : (asked : Option (List ℕ)) (report : Report) (failed : Option (Bool × List ℕ)) → IsAnswer asked report → failed ≡ None → TellsFailed report failed
answer-tells asked Usage failed answer none = none
answer-tells asked (Refused why file) failed answer none = none
answer-tells asked (Refuted edge what trace to) failed answer none = none
answer-tells asked Simulated failed answer none = none
answer-tells asked (WrongDescription code place file) failed answer none = none
answer-tells asked (Described map_text) failed answer none = none
answer-tells asked (WrongTrace why line file) failed answer none = none
answer-tells asked (Agrees edges) failed answer none = none
answer-tells asked (Differs edge what) failed answer none = none
answer-tells asked (Fault store file) failed answer none = absurd answer

answer-rose : (asked : Option (List ℕ)) (report : Report) (P : Type 0) → IsAnswer asked report → IfFault report P
answer-rose asked Usage P answer = tt
answer-rose asked (Refused why file) P answer = tt
answer-rose asked (Refuted edge what trace to) P answer = tt
answer-rose asked Simulated P answer = tt
answer-rose asked (WrongDescription code place file) P answer = tt
answer-rose asked (Described map_text) P answer = tt
answer-rose asked (WrongTrace why line file) P answer = tt
answer-rose asked (Agrees edges) P answer = tt
answer-rose asked (Differs edge what) P answer = tt
answer-rose asked (Fault store file) P answer = absurd answer

pub answered-usage : {E : Type 0} (asked : Option (List ℕ)) (r : Result Report E) → IfOk r (IsAnswer asked) → IfOk r (λ report. IsUsage report → ⊥)
answered-usage asked (Ok report) answer = answer-usage asked report answer
answered-usage asked (Err e) answer = tt

pub answered-rose : {E : Type 0} (asked : Option (List ℕ)) (P : Type 0) (r : Result Report E) → IfOk r (IsAnswer asked) → IfOk r (λ report. IfFault report P)
answered-rose asked P (Ok report) answer = answer-rose asked report P answer
answered-rose asked P (Err e) answer = tt

answer-file : (asked : Option (List ℕ)) (report : Report) (name : List ℕ) → IsAnswer asked report → file_of report ≡ Some name → asked ≡ Some name
answer-file asked Usage name answer is = cc
answer-file asked (Refused why file) name answer is = cc
answer-file asked (Refuted edge what trace to) name answer is = sym answer ∙ is
answer-file asked Simulated name answer is = cc
answer-file asked (WrongDescription code place file) name answer is = cc
answer-file asked (Described map_text) name answer is = cc
answer-file asked (WrongTrace why line file) name answer is = cc
answer-file asked (Agrees edges) name answer is = cc
answer-file asked (Differs edge what) name answer is = cc
answer-file asked (Fault store file) name answer is = cc

whole-none : (names : List (List ℕ)) → failed_of (whole_reads names) ≡ None
whole-none [] = refl
whole-none (name ∷ names) = whole-none names

comes-answered : {E : Type 0} (names : List (List ℕ)) (asked : Option (List ℕ)) (r : Result Report E) (added : List DepotCall) → IfOk r (IsAnswer asked) → added ≡ whole_reads names
    → IfOk r (λ report. ComesAfter names asked report added)
comes-answered names asked (Ok report) added answer whole = record {
  failure = answer-tells asked report (failed_of added) answer (ap failed_of whole ∙ whole-none names);
  whole = λ name is. (whole, answer-file asked report name answer is);
}
comes-answered names asked (Err e) added answer whole = tt

pub reads-answered : {E : Type 0} (wanted due : List Wanted) (asked : Option (List ℕ)) (before after : Option (List DepotCall)) (r : Result Report E) → wanted ≡ due → IfOk r (IsAnswer asked)
    → ReadsOnly (names_of wanted) before after (λ added. added ≡ whole_reads (names_of wanted))
    → ReadsOnly (names_of due) before after (λ added. IfOk r (λ report. ComesAfter (names_of due) asked report added))
reads-answered wanted due asked before after r same answer all =
    let P : List Wanted → Type 0 = λ w. AreReads (names_of w) all.added in
    record {
      added = all.added;
      told = all.told;
      reads = subst P same all.reads;
      ends = comes-answered (names_of due) asked r all.added answer (all.ends ∙ ap (λ w. whole_reads (names_of w)) same);
    }

pub plan-answer : {E : Type 0} (told : Option Files) (r : Result Report E) (words : List (List ℕ)) (command : Command) (task : Task) → command_of words ≡ Some command → task_of command ≡ Some task
    → IfSome told (λ files. IfOk r (λ report. UnlessFault report (TaskAnswer files task report)))
    → IfSome told (λ files. IfOk r (λ report. UnlessFault report (Answers files words report)))
plan-answer None r words command task is answered h = h
plan-answer (Some files) r words command task is answered h =
    let P : Option Command → Type 0 = λ c. IfOk r (λ report. UnlessFault report (CommandAnswer files c report)) in
    let Q : Option Task → Type 0 = λ t. IfOk r (λ report. UnlessFault report (AskedAnswer files t report)) in
    subst P (sym is) (subst Q (sym answered) h)

answer-files : (files : Files) (task : BlockTask) (got : Result (List (List ℕ)) Shortfall) (report : Report) → gathered files (wanted_of task) ≡ got → FilesAnswer task got report → TaskAnswer files (tasks.Block task) report
answer-files files task got report is h = let P : Result (List (List ℕ)) Shortfall → Type 0 = λ g. FilesAnswer task g report in subst P (sym is) h

any-answer : (report : Report) (A : Type 0) → A → UnlessFault report A
any-answer Usage A a = a
any-answer (Refused why file) A a = a
any-answer (WrongTrace why line file) A a = a
any-answer (Refuted edge what trace to) A a = a
any-answer Simulated A a = a
any-answer (WrongDescription code place file) A a = a
any-answer (Described map_text) A a = a
any-answer (Agrees edges) A a = a
any-answer (Differs edge what) A a = a
any-answer (Fault store file) A a = tt

-- the answer to gathered files, and to files that lack something
pub texts-answer : {E : Type 0} (told : Option Files) (task : BlockTask) (asked : List Wanted) (texts : List (List ℕ)) (r : Result Report E) → asked ≡ wanted_of task
    → IfSome told (λ files. gathered files asked ≡ Ok texts) → IfOk r (TextsAnswer task texts)
    → IfSome told (λ files. IfOk r (λ report. UnlessFault report (TaskAnswer files (tasks.Block task) report)))
texts-answer None task asked texts r same is h = tt
texts-answer (Some files) task asked texts (Ok report) same is h =
    any-answer report (TaskAnswer files (tasks.Block task) report) (answer-files files task (Ok texts) report (sym (ap (gathered files) same) ∙ is) h)
texts-answer (Some files) task asked texts (Err e) same is h = tt

pub short-answer : (told : Option Files) (task : BlockTask) (asked : List Wanted) (short : Shortfall) (report : Report) → asked ≡ wanted_of task
    → IfSome told (λ files. gathered files asked ≡ Err short) → report ≡ short_report short
    → IfSome told (λ files. UnlessFault report (TaskAnswer files (tasks.Block task) report))
short-answer None task asked short report same is h = tt
short-answer (Some files) task asked short report same is h =
    any-answer report (TaskAnswer files (tasks.Block task) report) (answer-files files task (Err short) report (sym (ap (gathered files) same) ∙ is) h)

-- the same of a description
gathered-files : (files : Files) (rdl : List ℕ) (got : Result (List (List ℕ)) Shortfall) (report : Report) → gathered files (description_wanted rdl) ≡ got → GatheredAnswer rdl got report
    → TaskAnswer files (tasks.Describe rdl) report
gathered-files files rdl got report is h = let P : Result (List (List ℕ)) Shortfall → Type 0 = λ g. GatheredAnswer rdl g report in subst P (sym is) h

pub description-answer : {E : Type 0} (told : Option Files) (rdl : List ℕ) (asked : List Wanted) (texts : List (List ℕ)) (r : Result Report E) → asked ≡ description_wanted rdl
    → IfSome told (λ files. gathered files asked ≡ Ok texts) → IfOk r (λ report. DescriptionAnswer rdl (text_at texts 0) report)
    → IfSome told (λ files. IfOk r (λ report. UnlessFault report (TaskAnswer files (tasks.Describe rdl) report)))
description-answer None rdl asked texts r same is h = tt
description-answer (Some files) rdl asked texts (Ok report) same is h =
    any-answer report (TaskAnswer files (tasks.Describe rdl) report) (gathered-files files rdl (Ok texts) report (sym (ap (gathered files) same) ∙ is) h)
description-answer (Some files) rdl asked texts (Err e) same is h = tt

pub no-description : (told : Option Files) (rdl : List ℕ) (asked : List Wanted) (short : Shortfall) (report : Report) → asked ≡ description_wanted rdl
    → IfSome told (λ files. gathered files asked ≡ Err short) → report ≡ short_report short
    → IfSome told (λ files. UnlessFault report (TaskAnswer files (tasks.Describe rdl) report))
no-description None rdl asked short report same is h = tt
no-description (Some files) rdl asked short report same is h =
    any-answer report (TaskAnswer files (tasks.Describe rdl) report) (gathered-files files rdl (Err short) report (sym (ap (gathered files) same) ∙ is) h)

-- the texts of a task, by their places
text-is : (files : List (Vec ℕ Global)) (place : ℕ) (file : Vec ℕ Global) → place < length files → file ≡ get_or files place file → file.items ≡ text_at (contents files) place
text-is files place file below is = ap (λ (v : Vec ℕ Global). v.items) is ∙ sym (get_or-map (λ (v : Vec ℕ Global). v.items) files place file [] below)

pub sample-texts : {E : Type 0} (task : BlockTask) (texts : List (List ℕ)) (seed : ℕ) (rdl ports verilog : List ℕ) (r : Result Report E) → task.work ≡ work.Sample seed
    → rdl ≡ text_at texts 0 → ports ≡ text_at texts 1 → verilog ≡ text_at texts 2
    → IfOk r (λ report. report ≡ sample_report task seed (block_of rdl ports verilog)) → IfOk r (TextsAnswer task texts)
sample-texts task texts seed rdl ports verilog (Err e) is a b d h = tt
sample-texts task texts seed rdl ports verilog (Ok report) is a b d h =
    let P : Work → Type 0 = λ w. WorkAnswer task texts w report in
    let all : report ≡ sample_report task seed (block_of (text_at texts 0) (text_at texts 1) (text_at texts 2)) =
    h ∙ ap (λ t. sample_report task seed (block_of t ports verilog)) a ∙ ap (λ t. sample_report task seed (block_of (text_at texts 0) t verilog)) b
    ∙ ap (λ t. sample_report task seed (block_of (text_at texts 0) (text_at texts 1) t)) d in
    subst P (sym is) all

pub replay-texts : {E : Type 0} (task : BlockTask) (texts : List (List ℕ)) (trace text rdl ports verilog : List ℕ) (r : Result Report E) → task.work ≡ work.Replay trace
    → text ≡ text_at texts 0 → rdl ≡ text_at texts 1 → ports ≡ text_at texts 2 → verilog ≡ text_at texts 3
    → IfOk r (λ report. ReplayAnswer task trace text (block_of rdl ports verilog) report) → IfOk r (TextsAnswer task texts)
replay-texts task texts trace text rdl ports verilog (Err e) is a b d f h = tt
replay-texts task texts trace text rdl ports verilog (Ok report) is a b d f h =
    let P : Work → Type 0 = λ w. WorkAnswer task texts w report in
    let A : List ℕ → Type 0 = λ t. ReplayAnswer task trace t (block_of rdl ports verilog) report in
    let B : List ℕ → Type 0 = λ t. ReplayAnswer task trace (text_at texts 0) (block_of t ports verilog) report in
    let D : List ℕ → Type 0 = λ t. ReplayAnswer task trace (text_at texts 0) (block_of (text_at texts 1) t verilog) report in
    let F : List ℕ → Type 0 = λ t. ReplayAnswer task trace (text_at texts 0) (block_of (text_at texts 1) (text_at texts 2) t) report in
    subst P (sym is) (subst F f (subst D d (subst B b (subst A a h))))

pub file-text : (files : List (Vec ℕ Global)) (place : ℕ) (file : Vec ℕ Global) (bytes : List ℕ) → bytes ≡ file.items → place < length files → file ≡ get_or files place file
    → bytes ≡ text_at (contents files) place
file-text files place file bytes same below is = same ∙ text-is files place file below is

pub task-files : (task : BlockTask) (seed : ℕ) → task.work ≡ work.Sample seed → length (wanted_of task) ≡ 3
task-files task seed is = ap (λ w. length (wanted_for w (block_wanted task))) is

pub trace-files : (task : BlockTask) (trace : List ℕ) → task.work ≡ work.Replay trace → length (wanted_of task) ≡ 4
trace-files task trace is = ap (λ w. length (wanted_for w (block_wanted task))) is

-- what a reading of a trace text tells of its report
found-replays : (block : Block) (name text : List ℕ) (start : List Bool) (edges : List (List Bool)) (count : ℕ) → length text ≤ TRACE_LIMIT → IsLegalTrace block start edges
    → text ≡ trace_text start edges → count ≡ length edges → (found : Option (ℕ × Difference)) → trace_difference block start edges ≡ found → Replays block name text (trace_report count found)
found-replays block name text start edges count short legal is counted None first =
    record { start = start; edges = edges; short = short; legal = legal; is = is; counted = counted; first = first }
found-replays block name text start edges count short legal is counted (Some found) first =
    (count, record { start = start; edges = edges; short = short; legal = legal; is = is; counted = counted; first = first })

pub legal-replays : (block : Block) (name text : List ℕ) (start : List Bool) (edges : List (List Bool)) (count : ℕ) → length text ≤ TRACE_LIMIT → IsLegalTrace block start edges
    → text ≡ trace_text start edges → count ≡ length edges → Replays block name text (trace_report count (trace_difference block start edges))
legal-replays block name text start edges count short legal is counted = found-replays block name text start edges count short legal is counted (trace_difference block start edges) refl

pub wrong-replays : (block : Block) (name text : List ℕ) (why : TraceCode) (line : ℕ)
    → ((n : ℕ) → Refuses {A = Trace} (Err (At why line)) code.TraceSize n → (TRACE_LIMIT < length text) × (n ≡ 0))
    → ((n : ℕ) → Refuses {A = Trace} (Err (At why line)) code.TraceLine n → (length text ≤ TRACE_LIMIT) × IsWrongLine (lines_of text) n)
    → ((n : ℕ) → Refuses {A = Trace} (Err (At why line)) code.TraceName n → (length text ≤ TRACE_LIMIT) × IsWrongName (lines_of text) n)
    → ((n : ℕ) → Refuses {A = Trace} (Err (At why line)) code.TraceIllegal n → (length text ≤ TRACE_LIMIT) × IsIllegal block text n)
    → Replays block name text (wrong_report name why line)
wrong-replays block name text code.TraceSize line a b d f = (refl, (a line (refl, refl)).0)
wrong-replays block name text code.TraceLine line a b d f = let h = b line (refl, refl) in (refl, h.0, h.1)
wrong-replays block name text code.TraceName line a b d f = let h = d line (refl, refl) in (refl, h.0, h.1)
wrong-replays block name text code.TraceIllegal line a b d f = let h = f line (refl, refl) in (refl, h.0, h.1)

pub as-replays : {E : Type 0} (block : Block) (name text : List ℕ) (due : Report) (r : Result Report E) → Replays block name text due → IfOk r (λ report. report ≡ due)
    → IfOk r (λ report. Replays block name text report)
as-replays block name text due (Ok report) h is = let P : Report → Type 0 = λ x. Replays block name text x in subst P (sym is) h
as-replays block name text due (Err e) h is = tt
