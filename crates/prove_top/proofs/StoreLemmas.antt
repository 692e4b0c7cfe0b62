-- The store after the reads: the calls, the files, and what is stored.
use Rattle.std.proofs.Common.{◌≡◌, ◌≢◌, ℕ, Bool, true, false, List, [], ◌∷◌, ◌++◌, Option, Some, None, Result, Ok, Err, IfOk, IfSome, IsSomeAnd, ◌⊎◌, inl, inr, refl, sym, ◌∙◌, ap, subst, take}
use Rattle.std.proofs.lemmas.Bool.{false_from_ne_true}
use Rattle.std.proofs.lemmas.Slice.Eq.{bytes_eq-Decides}
use Rattle.std.specs.Str.{bytes_eq}
use Rattle.std.specs.Prelude.{if◌then◌else◌}
use Rattle.tool_edge.specs.Calls.{one_call, after_calls}
use Rattle.tool_edge.specs.Files.{Files, PartlyStored, with_file, with_told_file}
use Rattle.tool_edge.specs.declared.depot.DepotCall.{DepotCall}
use Rattle.tool_edge.specs.declared.depot.DepotAnswer.{DepotAnswer}
use Rattle.tool_edge.specs.declared.depot.DepotAnswer.TheVariants as answered
use Rattle.trace_replay.specs.declared.block.Block.{Block}
use Rattle.trace_replay.specs.declared.joint.Difference.{Difference}
use Rattle.prove_top.specs.declared.report.Report.{Report}
use Rattle.prove_top.specs.declared.report.Report.TheVariants.{Usage, Refused, WrongTrace, WrongDescription, Described, Refuted, Simulated, Agrees, Differs, Fault}
use Rattle.prove_top.specs.declared.report.Status.{Status}
use Rattle.prove_top.specs.declared.report.Status.TheVariants as status
use Rattle.prove_top.specs.Answer.{GatheredAnswer, description_wanted, Answers, AskedAnswer, CommandAnswer, ComesAfter, FilesAnswer, ReplayAnswer, TellsFailed, UnlessFault, WorkAnswer, block_of, difference_report, names_asked, run_report, sample_report, short_report, text_at, wanted_of}
use Rattle.prove_top.specs.Asked.{asked_block, of_task, of_texts, sample_block, with_block}
use Rattle.prove_top.specs.Gather.{gathered}
use Rattle.std.specs.Option.{option_and_then}
use Rattle.prove_top.specs.declared.gather.Kind.{Kind}
use Rattle.prove_top.specs.declared.gather.Shortfall.{Shortfall}
use Rattle.prove_top.specs.declared.gather.Shortfall.TheVariants.{Missing, Long}
use Rattle.prove_top.specs.declared.words.Command.{Command}
use Rattle.prove_top.specs.declared.words.BlockTask.{BlockTask}
use Rattle.prove_top.specs.declared.words.Task.{Task}
use Rattle.prove_top.specs.declared.words.Task.TheVariants as tasks
use Rattle.prove_top.specs.declared.words.Work.{Work}
use Rattle.prove_top.specs.declared.words.Work.TheVariants as work
use Rattle.prove_top.specs.Clauses.{Added, FilesEnd, OthersKept, StoreAfterReads, WholeButTheLast}
use Rattle.prove_top.specs.Ends.{PutsAnswer, Runs, UnlessFailed, UnlessStores}
use Rattle.prove_top.specs.Reads.{AreCalls, AreReads, Called, GoesOn, ReadsOnly, failed_of, whole_reads}
use Rattle.prove_top.specs.Report.{file_of, run_trace, status_of}
use Rattle.prove_top.specs.Sampled.{sampled, sampled_trace}
use Rattle.prove_top.specs.Store.{Kept, Settles, StoreKept, StoreStep, TraceDue, files_after}
use Rattle.prove_top.specs.Words.{command_of, task_of, trace_file}
use Rattle.prove_top.proofs.ClauseLemmas.{reads-stores}
use Rattle.prove_top.proofs.EndLemmas.{report-map}
use Rattle.prove_top.proofs.GatherLemmas.{after_calls-twice, failed-whole}

goes-map : (answer : DepotAnswer) (P Q N : Type 0) → (P → Q) → GoesOn answer P N → GoesOn answer Q N
goes-map answered.Whole P Q N f goes = f goes
goes-map answered.Long P Q N f goes = goes
goes-map answered.Missing P Q N f goes = goes
goes-map answered.Stored P Q N f goes = goes
goes-map answered.Failed P Q N f goes = goes

goes-on : (answer : DepotAnswer) (more none : Type 0) → (none → ⊥) → GoesOn answer more none → (answer ≡ answered.Whole) × more
goes-on answered.Whole more none not goes = (refl, goes)
goes-on answered.Long more none not goes = absurd (not goes)
goes-on answered.Missing more none not goes = absurd (not goes)
goes-on answered.Stored more none not goes = absurd (not goes)
goes-on answered.Failed more none not goes = absurd (not goes)

-- reads alone, and whole reads and a store
reads-calls : (names : List (List ℕ)) (to : Option (List ℕ)) (calls : List DepotCall) → AreReads names calls → AreCalls names to calls
reads-calls names to [] reads = tt
reads-calls [] to (call ∷ calls) reads = absurd reads
reads-calls (name ∷ names) to (call ∷ calls) reads =
    (reads.0, reads.1, goes-map call.answer (AreReads names calls) (AreCalls names to calls) (calls ≡ []) (reads-calls names to calls) reads.2)

store-calls : (names : List (List ℕ)) (name : List ℕ) (answer : DepotAnswer) → AreCalls names (Some name) (whole_reads names ++ one_call name true answer)
store-calls [] name answer = (refl, refl, refl)
store-calls (first ∷ names) name answer = (refl, refl, store-calls names name answer)

not-empty : (call : DepotCall) (calls : List DepotCall) → call ∷ calls ≡ [] → ⊥
not-empty call calls is = cc

pub calls-stop : (names : List (List ℕ)) (to : Option (List ℕ)) (calls : List DepotCall) → AreCalls names to calls → WholeButTheLast calls
calls-stop names to [] are = tt
calls-stop names to (call ∷ []) are = tt
calls-stop [] to (call ∷ next ∷ calls) are = absurd (not-empty next calls are.2)
calls-stop (name ∷ names) to (call ∷ next ∷ calls) are =
    let goes = goes-on call.answer (AreCalls names to (next ∷ calls)) (next ∷ calls ≡ []) (not-empty next calls) are.2 in
    (goes.0, calls-stop names to (next ∷ calls) goes.1)

-- a store among such calls
no-parts : (front back : List DepotCall) (call : DepotCall) (Q : Type 0) → [] ≡ front ++ call ∷ back → Q
no-parts [] back call Q is = cc
no-parts (first ∷ front) back call Q is = cc

abbrev call_of : List ℕ → Bool → DepotAnswer → DepotCall
call_of name store answer = record { name = name; store = store; answer = answer }

whole-read : (call : DepotCall) (name : List ℕ) → call.name ≡ name → call.store ≡ false → call.answer ≡ answered.Whole → call ≡ record { name = name; store = false; answer = answered.Whole }
whole-read call name named reads whole = ap (λ n. call_of n call.store call.answer) named ∙ ap (λ s. call_of name s call.answer) reads ∙ ap (call_of name false) whole

head-is : (a b : DepotCall) (more rest : List DepotCall) → a ∷ more ≡ b ∷ rest → a ≡ b
head-is a b more rest is = cc

tail-is : (a b : DepotCall) (more rest : List DepotCall) → a ∷ more ≡ b ∷ rest → more ≡ rest
tail-is a b more rest is = cc

pub store-after : (names : List (List ℕ)) (to : Option (List ℕ)) (calls : List DepotCall) → AreCalls names to calls → StoreAfterReads names calls
store-after names to [] are front back call is stores = no-parts front back call _ is
store-after [] to (first ∷ calls) are [] back call is stores = (refl, sym (tail-is first call calls back is) ∙ are.2)
store-after [] to (first ∷ calls) are (one ∷ front) back call is stores =
    no-parts front back call _ (sym are.2 ∙ tail-is first one calls (front ++ call ∷ back) is)
store-after (name ∷ names) to (first ∷ calls) are [] back call is stores =
    let same = head-is first call calls back is in
    let no_way : true ≡ false = sym stores ∙ ap (λ c. c.store) (sym same) ∙ are.1 in cc
store-after (name ∷ names) to (first ∷ calls) are (one ∷ front) back call is stores =
    let same = head-is first one calls (front ++ call ∷ back) is in
    let more = tail-is first one calls (front ++ call ∷ back) is in
    let goes = goes-on first.answer (AreCalls names to calls) (calls ≡ []) (λ none. no-parts front back call _ (sym none ∙ more)) are.2 in
    let rest = store-after names to calls goes.1 front back call more stores in
    (ap (λ c. c ∷ front) (sym same ∙ whole-read first name are.0 are.1 goes.0) ∙ ap (λ cs. record { name = name; store = false; answer = answered.Whole } ∷ cs) rest.0, rest.1)

first-is : (first : ℕ × Difference) (edge : ℕ) (what : Difference) → first.0 ≡ edge → first.1 ≡ what → first ≡ (edge, what)
first-is first edge what a b = ap (λ e. (e, first.1)) a ∙ ap (λ w. (edge, w)) b

refuted-says : (block : Block) (seed : ℕ) (first : ℕ × Difference) (due : Option (List ℕ)) → sampled block seed ≡ Some first
    → (edge : ℕ) (what : Difference) (trace : List ℕ) (to : Option (List ℕ)) → Refuted first.0 first.1 (sampled_trace block seed first.0) due ≡ Refuted edge what trace to
    → (sampled block seed ≡ Some (edge, what)) × (trace ≡ sampled_trace block seed edge)
refuted-says block seed first due is edge what trace to h =
    let e : first.0 ≡ edge = cc in
    let w : first.1 ≡ what = cc in
    let t : sampled_trace block seed first.0 ≡ trace = cc in
    (is ∙ ap Some (first-is first edge what e w), sym t ∙ ap (sampled_trace block seed) e)

refuted-found : (block : Block) (seed : ℕ) (due : Option (List ℕ)) (found : Option (ℕ × Difference)) → sampled block seed ≡ found
    → (edge : ℕ) (what : Difference) (trace : List ℕ) (to : Option (List ℕ)) → Refuted edge what trace to ≡ difference_report block seed due found
    → (sampled block seed ≡ Some (edge, what)) × (trace ≡ sampled_trace block seed edge)
refuted-found block seed due None is edge what trace to h = cc
refuted-found block seed due (Some first) is edge what trace to h = refuted-says block seed first due is edge what trace to (sym h)

refuted-run : (block : Block) (seed : ℕ) (due : Option (List ℕ)) (edge : ℕ) (what : Difference) (trace : List ℕ) (to : Option (List ℕ)) → Refuted edge what trace to ≡ run_report block seed due
    → (sampled block seed ≡ Some (edge, what)) × (trace ≡ sampled_trace block seed edge)
unfolding run_report
refuted-run block seed due edge what trace to h = refuted-found block seed due (sampled block seed) refl edge what trace to h

-- what a report of a difference says of the sampled run
module _ (edge : ℕ) (what : Difference) (trace : List ℕ) (to : Option (List ℕ)) where
  abbrev IsCut : Block × ℕ → Type 0
  IsCut a = (sampled a.0 a.1 ≡ Some (edge, what)) × (trace ≡ sampled_trace a.0 a.1 edge)

  cut-of-block : (task : BlockTask) (seed : ℕ) (made : Result Block Kind) → Refuted edge what trace to ≡ sample_report task seed made → IsSomeAnd (with_block seed made) IsCut
  cut-of-block task seed (Err kind) h = cc
  cut-of-block task seed (Ok block) h = refuted-run block seed task.trace_file edge what trace to h

  cut-of-replay : (task : BlockTask) (name text : List ℕ) (made : Result Block Kind) (Q : Type 0) → ReplayAnswer task name text made (Refuted edge what trace to) → Q
  cut-of-replay task name text (Err kind) Q h = cc
  cut-of-replay task name text (Ok block) Q h = absurd h

  cut-of-work : (task : BlockTask) (texts : List (List ℕ)) (does : Work) → WorkAnswer task texts does (Refuted edge what trace to) → IsSomeAnd (sample_block does texts) IsCut
  cut-of-work task texts (work.Sample seed) h = cut-of-block task seed (block_of (text_at texts 0) (text_at texts 1) (text_at texts 2)) h
  cut-of-work task texts (work.Replay name) h =
      cut-of-replay task name (text_at texts 0) (block_of (text_at texts 1) (text_at texts 2) (text_at texts 3)) (IsSomeAnd (sample_block (work.Replay name) texts) IsCut) h

  other-short : (short : Shortfall) (Q : Type 0) → Refuted edge what trace to ≡ short_report short → Q
  other-short (Missing name) Q h = cc
  other-short (Long kind name) Q h = cc

  cut-of-files : (task : BlockTask) (got : Result (List (List ℕ)) Shortfall) → FilesAnswer task got (Refuted edge what trace to) → IsSomeAnd (of_texts sample_block task got) IsCut
  cut-of-files task (Err short) h = other-short short (IsSomeAnd (of_texts sample_block task (Err short)) IsCut) h
  cut-of-files task (Ok texts) h = cut-of-work task texts task.work h

  cut-of-gathered : (rdl : List ℕ) (got : Result (List (List ℕ)) Shortfall) (Q : Type 0) → GatheredAnswer rdl got (Refuted edge what trace to) → Q
  cut-of-gathered rdl (Err short) Q h = other-short short Q h
  cut-of-gathered rdl (Ok texts) Q h = absurd h

  cut-of-asked : (files : Files) (task : Option Task) → AskedAnswer files task (Refuted edge what trace to) → IsSomeAnd (of_task sample_block files task) IsCut
  cut-of-asked files None h = cc
  cut-of-asked files (Some (tasks.Block task)) h = cut-of-files task (gathered files (wanted_of task)) h
  cut-of-asked files (Some (tasks.Describe rdl)) h = cut-of-gathered rdl (gathered files (description_wanted rdl)) ⊥ h

  cut-of-command : (files : Files) (command : Option Command) → CommandAnswer files command (Refuted edge what trace to)
      → IsSomeAnd (of_task sample_block files (option_and_then task_of command)) IsCut
  cut-of-command files None h = cc
  cut-of-command files (Some command) h = cut-of-asked files (task_of command) h

-- the trace that a report is to store
pub some-and : {A : Type 0} (o : Option A) (P : A → Type 0) → IsSomeAnd o P → (a : A) × (o ≡ Some a) × P a
some-and None P h = absurd h
some-and (Some a) P h = (a, refl, h)

no-file : (name : List ℕ) (Q : Type 0) → ◌≡◌ {A = Option (List ℕ)} None (Some name) → Q
no-file name Q is = cc

trace-due : (files : Files) (words : List (List ℕ)) (report : Report) (name : List ℕ) → Answers files words report → trace_file words ≡ Some name → file_of report ≡ Some name
    → TraceDue files words name (run_trace report)
trace-due files words (Refuted edge what trace to) name answer asked is =
    let found = some-and (asked_block files words) (λ a. (sampled a.0 a.1 ≡ Some (edge, what)) × (trace ≡ sampled_trace a.0 a.1 edge)) (cut-of-command edge what trace to files (command_of words) answer) in
    record { asked = asked; block = found.0.0; seed = found.0.1; of = found.1; edge = edge; difference = what; first = found.2.0; trace = found.2.1 }
trace-due files words Usage name answer asked is = no-file name _ is
trace-due files words (Refused why file) name answer asked is = no-file name _ is
trace-due files words (WrongTrace why line file) name answer asked is = no-file name _ is
trace-due files words Simulated name answer asked is = no-file name _ is
trace-due files words (WrongDescription code place file) name answer asked is = no-file name _ is
trace-due files words (Described map_text) name answer asked is = no-file name _ is
trace-due files words (Agrees edges) name answer asked is = no-file name _ is
trace-due files words (Differs edge what) name answer asked is = no-file name _ is
trace-due files words (Fault store file) name answer asked is = no-file name _ is

due-answered : (files : Files) (words : List (List ℕ)) (report : Report) (name : List ℕ) → UnlessFault report (Answers files words report)
    → trace_file words ≡ Some name → file_of report ≡ Some name → TraceDue files words name (run_trace report)
due-answered files words (Refuted edge what trace to) name answer asked is = trace-due files words (Refuted edge what trace to) name answer asked is
due-answered files words Usage name answer asked is = no-file name _ is
due-answered files words (Refused why file) name answer asked is = no-file name _ is
due-answered files words (WrongTrace why line file) name answer asked is = no-file name _ is
due-answered files words Simulated name answer asked is = no-file name _ is
due-answered files words (WrongDescription code place file) name answer asked is = no-file name _ is
due-answered files words (Described map_text) name answer asked is = no-file name _ is
due-answered files words (Agrees edges) name answer asked is = no-file name _ is
due-answered files words (Differs edge what) name answer asked is = no-file name _ is
due-answered files words (Fault store file) name answer asked is = no-file name _ is

due-told : (told : Option Files) (words : List (List ℕ)) (report : Report) (name : List ℕ) → IfSome told (λ files. UnlessFault report (Answers files words report))
    → trace_file words ≡ Some name → file_of report ≡ Some name → (files : Files) → told ≡ Some files → TraceDue files words name (run_trace report)
due-told None words report name answer asked is files of = cc
due-told (Some given) words report name answer asked is files of =
    let same : given ≡ files = cc in
    let P : Files → Type 0 = λ f. TraceDue f words name (run_trace report) in
    subst P same (due-answered given words report name answer asked is)

-- one step: the report before the store and after it
settles-step : {E : Type 0} (files : Files) (words : List (List ℕ)) (report : Report) (result : Result Report E) (middle after : Option Files) (calls_before calls_after : Option (List DepotCall))
    (to : Option (List ℕ)) → file_of report ≡ to → middle ≡ Some files → UnlessFault report (Answers files words report)
    → StoreStep to (run_trace report) report result middle after calls_before calls_after
    → IfOk result (λ said. UnlessFault said (Settles files words said after))
settles-step {E = E} files words report result middle after calls_before calls_after None is same answer step =
    let P : Result Report E → Type 0 = λ r. IfOk r (λ said. UnlessFault said (Settles files words said after)) in
    subst P (sym step.0)
    (report-map report (Answers files words report) (Settles files words report after)
    (λ a. record { answer = a; kept = step.1 ∙ same ∙ sym (ap (λ t. files_after t (run_trace report) (Some files)) is) }) answer)
settles-step files words report (Ok said) middle after calls_before calls_after (Some name) is same answer (inl whole) =
    let P : Report → Type 0 = λ r. UnlessFault r (Settles files words r after) in
    subst P (sym whole.stands)
    (report-map report (Answers files words report) (Settles files words report after)
    (λ a. record {
      answer = a;
      kept = whole.files ∙ ap (λ t. with_told_file t name (run_trace report)) same ∙ sym (ap (λ t. files_after t (run_trace report) (Some files)) is);
    }) answer)
settles-step files words report (Ok said) middle after calls_before calls_after (Some name) is same answer (inr failed) =
    let P : Report → Type 0 = λ r. UnlessFault r (Settles files words r after) in subst P (sym failed.failure) tt
settles-step files words report (Err e) middle after calls_before calls_after (Some name) is same answer step = tt

pub decided-answer : {E : Type 0} (told : Option Files) (words : List (List ℕ)) (report : Report) (result : Result Report E) (middle after : Option Files) (calls_before calls_after : Option (List DepotCall))
    → middle ≡ told → IfSome told (λ files. UnlessFault report (Answers files words report))
    → StoreStep (file_of report) (run_trace report) report result middle after calls_before calls_after
    → IfSome told (λ files. IfOk result (λ said. UnlessFault said (Settles files words said after)))
decided-answer None words report result middle after calls_before calls_after same answer step = tt
decided-answer (Some files) words report result middle after calls_before calls_after same answer step =
    settles-step files words report result middle after calls_before calls_after (file_of report) refl same answer step

failed-none : (names : List (List ℕ)) → failed_of (whole_reads names) ≡ None
failed-none [] = refl
failed-none (name ∷ names) = failed-none names

module _ (told : Option Files) (words : List (List ℕ)) (report : Report) (middle after : Option Files) (before between now : Option (List DepotCall)) (same : middle ≡ told)
    (answer : IfSome told (λ files. UnlessFault report (Answers files words report)))
    (reads : ReadsOnly (names_asked words) before between (λ added. ComesAfter (names_asked words) (trace_file words) report added)) where
  -- the calls after a store
  stored-calls : (name : List ℕ) (how : DepotAnswer) (said : Report) → file_of report ≡ Some name → now ≡ after_calls between (one_call name true how)
      → StoreKept how told name (run_trace report) after → TellsFailed said (failed_of (one_call name true how))
      → Called (names_asked words) (trace_file words) before now (λ added. TellsFailed said (failed_of added) × Kept told words added after)
  stored-calls name how said is calls kept tells =
      let comes = reads.ends.whole name is in
      let last : List DepotCall = one_call name true how in
      let all : reads.added ++ last ≡ whole_reads (names_asked words) ++ last = ap (λ cs. cs ++ last) comes.0 in
      let P : List DepotCall → Type 0 = λ cs. AreCalls (names_asked words) (trace_file words) cs in
      let Q : Option (List ℕ) → Type 0 = λ to. AreCalls (names_asked words) to (whole_reads (names_asked words) ++ last) in
      let R : Option (Bool × List ℕ) → Type 0 = λ failed. TellsFailed said failed in
      record {
        added = reads.added ++ last;
        told = calls ∙ ap (λ t. after_calls t last) reads.told ∙ after_calls-twice before reads.added last;
        calls = subst P (sym all) (subst Q (sym comes.1) (store-calls (names_asked words) name how));
        ends = (
          subst R (sym (ap failed_of all ∙ failed-whole (names_asked words) last)) tells,
          inr (record {
            name = name;
            text = run_trace report;
            answer = how;
            asked = comes.1;
            due = due-told told words report name answer comes.1 is;
            last = all;
            kept = kept;
          }),
        );
      }

  -- the calls without one
  bare-calls : now ≡ between → after ≡ middle → Called (names_asked words) (trace_file words) before now (λ added. TellsFailed report (failed_of added) × Kept told words added after)
  bare-calls calls files = record {
    added = reads.added;
    told = calls ∙ reads.told;
    calls = reads-calls (names_asked words) (trace_file words) reads.added reads.reads;
    ends = (reads.ends.failure, inl (reads-stores (names_asked words) reads.added reads.reads, files ∙ same));
  }

  whole-tells : (name : List ℕ) → file_of report ≡ Some name → TellsFailed report None
  whole-tells name is =
      let comes = reads.ends.whole name is in
      let R : Option (Bool × List ℕ) → Type 0 = λ failed. TellsFailed report failed in
      subst R (ap failed_of comes.0 ∙ failed-none (names_asked words)) reads.ends.failure

  pub decided-calls : {E : Type 0} (result : Result Report E) (to : Option (List ℕ)) → file_of report ≡ to → StoreStep to (run_trace report) report result middle after between now
      → Called (names_asked words) (trace_file words) before now (λ added. IfOk result (λ said. TellsFailed said (failed_of added)) × Kept told words added after)
  decided-calls {E = E} result None is step =
      let P : Result Report E → Type 0 = λ r. Called (names_asked words) (trace_file words) before now (λ added. IfOk r (λ said. TellsFailed said (failed_of added)) × Kept told words added after) in
      subst P (sym step.0) (bare-calls step.2 step.1)
  decided-calls (Ok said) (Some name) is (inl whole) =
      let P : Report → Type 0 = λ r. TellsFailed r None in
      stored-calls name answered.Stored said is whole.calls (whole.files ∙ ap (λ t. with_told_file t name (run_trace report)) same) (subst P (sym whole.stands) (whole-tells name is))
  decided-calls (Ok said) (Some name) is (inr failed) =
      let P : Report → Type 0 = λ r. TellsFailed r (Some (true, name)) in
      let Q : Option Files → Type 0 = λ t. PartlyStored t name (run_trace report) after in
      stored-calls name answered.Failed said is failed.calls (subst Q same failed.files) (subst P (sym failed.failure) refl)
  decided-calls (Err e) (Some name) is step =
      let bare = bare-calls step.1 step.0 in
      record { added = bare.added; told = bare.told; calls = bare.calls; ends = (tt, bare.ends.1) }

-- memory is wanted before there is a report
pub wanting-calls : {E : Type 0} (told : Option Files) (words : List (List ℕ)) (result : Result Report E) (e : E) (after : Option Files) (before now : Option (List DepotCall)) (P : List DepotCall → Type 0)
    → result ≡ Err e → after ≡ told → ReadsOnly (names_asked words) before now P
    → Called (names_asked words) (trace_file words) before now (λ added. IfOk result (λ said. TellsFailed said (failed_of added)) × Kept told words added after)
wanting-calls {E = E} told words result e after before now P is same reads =
    let Q : Result Report E → Type 0 = λ r. Called (names_asked words) (trace_file words) before now (λ added. IfOk r (λ said. TellsFailed said (failed_of added)) × Kept told words added after) in
    subst Q (sym is) (record {
      added = reads.added;
      told = reads.told;
      calls = reads-calls (names_asked words) (trace_file words) reads.added reads.reads;
      ends = (tt, inl (reads-stores (names_asked words) reads.added reads.reads, same));
    })

-- which files change
any-stores : (ended : Status) (P : Type 0) → P → UnlessStores ended P
any-stores status.Yes P p = p
any-stores status.No P p = tt
any-stores status.Unknown P p = p
any-stores status.Refused P p = p
any-stores status.Usage P p = p
any-stores status.Fault P p = tt
any-stores status.NoMemory P p = tt

keeps-none : (answer : DepotAnswer) (name text : List ℕ) (after : Option Files) → StoreKept answer None name text after → after ≡ None
keeps-none answered.Stored name text after kept = kept
keeps-none answered.Failed name text after (inl kept) = kept
keeps-none answered.Failed name text after (inr kept) = kept.1
keeps-none answered.Whole name text after kept = absurd kept
keeps-none answered.Long name text after kept = absurd kept
keeps-none answered.Missing name text after kept = absurd kept

kept-none : (words : List (List ℕ)) (added : List DepotCall) (after : Option Files) → Kept None words added after → after ≡ None
kept-none words added after (inl bare) = bare.1
kept-none words added after (inr stores) = keeps-none stores.answer stores.name stores.text after stores.kept

other-file : (report : Report) → (status_of report ≡ status.No → ⊥) → file_of report ≡ None
other-file Usage other = refl
other-file (Refused why file) other = refl
other-file (WrongTrace why line file) other = refl
other-file (Refuted edge what trace to) other = absurd (other refl)
other-file Simulated other = refl
other-file (WrongDescription code place file) other = refl
other-file (Described map_text) other = refl
other-file (Agrees edges) other = refl
other-file (Differs edge what) other = refl
other-file (Fault store file) other = refl

puts-kept : (files : Files) (words : List (List ℕ)) (old new : Option (List ℕ)) (after : Option Files) (ended : Status) → (ended ≡ status.No → ⊥) → PutsAnswer files words old new after ended → after ≡ Some files
puts-kept files words old new after ended other puts =
    puts.kept ∙ ap (λ t. files_after t (run_trace puts.report) (Some files)) (other-file puts.report (λ no. other (puts.said ∙ no)))

pub files-kept : (told after : Option Files) (words : List (List ℕ)) (old new : Option (List ℕ)) (ended : Status) (added : List DepotCall) → Kept told words added after
    → IfSome told (λ files. UnlessFailed ended (PutsAnswer files words old new after ended)) → UnlessStores ended (after ≡ told)
files-kept None after words old new ended added kept puts = any-stores ended (after ≡ None) (kept-none words added after kept)
files-kept (Some files) after words old new status.Yes added kept puts = puts-kept files words old new after status.Yes (λ no. cc) puts
files-kept (Some files) after words old new status.No added kept puts = tt
files-kept (Some files) after words old new status.Unknown added kept puts = puts-kept files words old new after status.Unknown (λ no. cc) puts
files-kept (Some files) after words old new status.Refused added kept puts = puts-kept files words old new after status.Refused (λ no. cc) puts
files-kept (Some files) after words old new status.Usage added kept puts = puts-kept files words old new after status.Usage (λ no. cc) puts
files-kept (Some files) after words old new status.Fault added kept puts = tt
files-kept (Some files) after words old new status.NoMemory added kept puts = tt

-- the other names
other-kept : (files : Files) (name bytes other : List ℕ) → (name ≡ other → ⊥) → with_file files name bytes other ≡ files other
other-kept files name bytes other unlike =
    ap (λ b. if b then Some bytes else files other) (false_from_ne_true (bytes_eq name other) (λ yes. unlike ((bytes_eq-Decides name other).0 yes)))

others-as : (files now : Files) (to : Option (List ℕ)) → now ≡ files → (other : List ℕ) → to ≢ Some other → now other ≡ files other
others-as files now to same other unlike = ap (λ f. f other) same

others-with : (files now : Files) (to : Option (List ℕ)) (name bytes : List ℕ) → to ≡ Some name → now ≡ with_file files name bytes → (other : List ℕ) → to ≢ Some other → now other ≡ files other
others-with files now to name bytes asked same other unlike = ap (λ f. f other) same ∙ other-kept files name bytes other (λ is. unlike (asked ∙ ap Some is))

told-as : (files now : Files) → Some now ≡ Some files → now ≡ files
told-as files now same = cc

others-stored : (files now : Files) (to : Option (List ℕ)) (name text : List ℕ) (answer : DepotAnswer) → to ≡ Some name → StoreKept answer (Some files) name text (Some now)
    → (other : List ℕ) → to ≢ Some other → now other ≡ files other
others-stored files now to name text answered.Stored asked kept = others-with files now to name text asked (told-as (with_file files name text) now kept)
others-stored files now to name text answered.Failed asked (inl kept) = others-as files now to (told-as files now kept)
others-stored files now to name text answered.Failed asked (inr kept) = others-with files now to name (take kept.0 text) asked (told-as (with_file files name (take kept.0 text)) now kept.1)
others-stored files now to name text answered.Whole asked kept = absurd kept
others-stored files now to name text answered.Long asked kept = absurd kept
others-stored files now to name text answered.Missing asked kept = absurd kept

pub others-kept : (told after : Option Files) (words : List (List ℕ)) (added : List DepotCall) → Kept told words added after → OthersKept (trace_file words) told after
others-kept None after words added kept = tt
others-kept (Some files) None words added kept = tt
others-kept (Some files) (Some now) words added (inl bare) = others-as files now (trace_file words) (told-as files now bare.1)
others-kept (Some files) (Some now) words added (inr stores) = others-stored files now (trace_file words) stores.name stores.text stores.answer stores.asked stores.kept

-- the file that was due
ends-kept : (files : Files) (added : List DepotCall) (names : List (List ℕ)) (name text : List ℕ) (answer : DepotAnswer) (after : Option Files)
    → added ≡ whole_reads names ++ one_call name true answer → StoreKept answer (Some files) name text after
    → (after ≡ with_told_file (Some files) name text) ⊎ ((failed_of added ≡ Some (true, name)) × PartlyStored (Some files) name text after)
ends-kept files added names name text answered.Stored after last kept = inl kept
ends-kept files added names name text answered.Failed after last kept = inr (ap failed_of last ∙ failed-whole names (one_call name true answered.Failed), kept)
ends-kept files added names name text answered.Whole after last kept = absurd kept
ends-kept files added names name text answered.Long after last kept = absurd kept
ends-kept files added names name text answered.Missing after last kept = absurd kept

files-end : (files : Files) (words : List (List ℕ)) (added : List DepotCall) (after : Option Files) → Kept (Some files) words added after → FilesEnd files words (failed_of added) after
files-end files words added after (inl bare) = inl bare.1
files-end files words added after (inr stores) = inr (record {
  name = stores.name;
  text = stores.text;
  due = stores.due files refl;
  kept = ends-kept files added (names_asked words) stores.name stores.text stores.answer after stores.last stores.kept;
})

pub kept-of : (told after : Option Files) (words : List (List ℕ)) (before now : Option (List DepotCall)) (old new : Option (List ℕ)) (rose now_rose : ℕ) (ended : Status)
    → Called (names_asked words) (trace_file words) before now (Runs told after words old new rose now_rose ended)
    → Called (names_asked words) (trace_file words) before now (λ added. Kept told words added after)
kept-of told after words before now old new rose now_rose ended all = record { added = all.added; told = all.told; calls = all.calls; ends = all.ends.kept }

pub file-ends : (told after : Option Files) (words : List (List ℕ)) (before now : Option (List DepotCall)) (P : Type 0)
    → Called (names_asked words) (trace_file words) before now (λ added. Kept told words added after)
    → IfSome told (λ files. Added before now (λ added. P → FilesEnd files words (failed_of added) after))
file-ends None after words before now P called = tt
file-ends (Some files) after words before now P called = record { added = called.added; told = called.told; holds = λ p. files-end files words called.added after called.ends }
