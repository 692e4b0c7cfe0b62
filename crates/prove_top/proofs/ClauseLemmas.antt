-- What the calls and the end of a command tell, clause by clause.
use Rattle.std.proofs.Common.{◌≡◌, ◌↔◌, ℕ, Bool, false, is_some, codes, List, [], ◌∷◌, Option, Some, None, Result, Ok, Err, IfSome, IsSome, IsSomeAnd, ◌⊎◌, inl, inr, refl, sym, ap, subst, arith, append-nil, ◌∙◌}
use Rattle.tool_edge.specs.Causes.{Rose}
use Rattle.tool_edge.specs.Calls.{after_calls}
use Rattle.tool_edge.specs.Files.{Files}
use Rattle.tool_edge.specs.Written.{after_put, AppendsPart}
use Rattle.tool_edge.specs.declared.depot.DepotCall.{DepotCall}
use Rattle.tool_edge.specs.declared.depot.DepotAnswer.{DepotAnswer}
use Rattle.tool_edge.specs.declared.depot.DepotAnswer.TheVariants as answered
use Rattle.trace_replay.specs.declared.block.Block.{Block}
use Rattle.trace_replay.specs.declared.joint.Difference.{Difference}
use Rattle.prove_top.specs.declared.gather.Kind.{Kind}
use Rattle.prove_top.specs.declared.gather.Shortfall.{Shortfall}
use Rattle.prove_top.specs.declared.gather.Shortfall.TheVariants.{Missing, Long}
use Rattle.prove_top.specs.declared.report.Report.{Report}
use Rattle.prove_top.specs.declared.report.Report.TheVariants.{Usage, Refused, WrongTrace, WrongDescription, Described, Refuted, Simulated, Agrees, Differs, Fault}
use Rattle.prove_top.specs.declared.report.Refusal.TheVariants.{RdlSize, VlogSize, PortSize, TraceSize, NoFile, NotYet}
use Rattle.prove_top.specs.declared.report.Status.{Status}
use Rattle.prove_top.specs.declared.report.Status.TheVariants as status
use Rattle.prove_top.specs.declared.words.BlockTask.{BlockTask}
use Rattle.prove_top.specs.declared.words.Task.{Task}
use Rattle.prove_top.specs.declared.words.Task.TheVariants as tasks
use Rattle.prove_top.specs.declared.words.Work.{Work}
use Rattle.prove_top.specs.declared.words.Work.TheVariants as work
use Rattle.trace_replay.specs.Trace.{trace_difference}
use Rattle.trace_replay.specs.Laws.{OneReading}
use Rattle.prove_top.specs.Answer.{DescriptionAnswer, GatheredAnswer, description_wanted, TellsFailed, Answers, CommandAnswer, AskedAnswer, FilesAnswer, WorkAnswer, ReplayAnswer, Replays, ReplaysTo, short_report, sample_report, block_of, run_report, difference_report, text_at, wanted_of, name_of, names_asked, task_names}
use Rattle.prove_top.specs.Asked.{description_in, first_text, with_block, sample_block, replay_block, of_texts, of_task}
use Rattle.prove_top.specs.Clauses.{Added, IsFaultOrMemory, PutsPart, PutsFault, PutsPartThenMemory, SampledDiffers, SampledAgrees, DescriptionHasMap, ReplayAgrees, ReplayDiffers}
use Rattle.prove_top.specs.Ends.{Ends, MayReport, PutsAnswer, Ran, Runs, UnlessFailed}
use Rattle.prove_top.specs.Gather.{gathered}
use Rattle.prove_top.specs.Reads.{AreCalls, AreReads, Called, GoesOn, NoStores, failed_of}
use Rattle.prove_top.specs.Report.{status_of, text_of}
use Rattle.prove_top.specs.Sampled.{sampled}
use Rattle.std.specs.Option.{option_and_then}
use Rattle.prove_top.specs.declared.words.Command.{Command}
use Rattle.prove_top.specs.Words.{command_of, task_of, trace_file, trace_file_of}
use Rattle.rdl_report.specs.Described.{IsMapText}
use Rattle.rdl_report.specs.OneAnswer.{HasOneAnswer}
use Rattle.prove_top.proofs.DescriptionLemmas.{map_or_refused}
use Rattle.prove_top.proofs.EndLemmas.{part-whole, unless-map}

module _ (names : List (List ℕ)) (to : Option (List ℕ)) (before after : Option (List DepotCall)) (P : List DepotCall → Type 0) where
  pub added-calls : Called names to before after P → Added before after (AreCalls names to)
  added-calls r = record { added = r.added; told = r.told; holds = r.calls }

  pub added-by : (Q : List DepotCall → Type 0) → ((calls : List DepotCall) → AreCalls names to calls → P calls → Q calls) → Called names to before after P → Added before after Q
  added-by Q f r = record { added = r.added; told = r.told; holds = f r.added r.calls r.ends }

goes-stores : (answer : DepotAnswer) (names : List (List ℕ)) (calls : List DepotCall) → ((reads : AreReads names calls) → NoStores calls) → GoesOn answer (AreReads names calls) (calls ≡ []) → NoStores calls
goes-stores answered.Whole names calls f goes = f goes
goes-stores answered.Long names calls f goes = let Q : List DepotCall → Type 0 = NoStores in subst Q (sym goes) tt
goes-stores answered.Missing names calls f goes = let Q : List DepotCall → Type 0 = NoStores in subst Q (sym goes) tt
goes-stores answered.Stored names calls f goes = let Q : List DepotCall → Type 0 = NoStores in subst Q (sym goes) tt
goes-stores answered.Failed names calls f goes = let Q : List DepotCall → Type 0 = NoStores in subst Q (sym goes) tt

pub reads-stores : (names : List (List ℕ)) (calls : List DepotCall) → AreReads names calls → NoStores calls
reads-stores names [] reads = tt
reads-stores [] (call ∷ calls) reads = absurd reads
reads-stores (name ∷ names) (call ∷ calls) reads = (reads.1, goes-stores call.answer names calls (reads-stores names calls) reads.2)

-- a report is about the call that failed
tells-fault : (report : Report) (store : Bool) (name : List ℕ) (failed : Option (Bool × List ℕ)) → failed ≡ Some (store, name) → TellsFailed report failed → report ≡ Fault store name
tells-fault (Fault which file) store name failed is tells =
    let same : ◌≡◌ {A = Bool × List ℕ} (which, file) (store, name) = cc in ap (λ p. Fault p.0 p.1) same
tells-fault Usage store name failed is tells = cc
tells-fault (Refused why file) store name failed is tells = cc
tells-fault (Refuted edge what trace to) store name failed is tells = cc
tells-fault Simulated store name failed is tells = cc
tells-fault (WrongDescription code place file) store name failed is tells = cc
tells-fault (Described map_text) store name failed is tells = cc
tells-fault (WrongTrace why line file) store name failed is tells = cc
tells-fault (Agrees edges) store name failed is tells = cc
tells-fault (Differs edge what) store name failed is tells = cc

no-fault : (report : Report) (failed : Option (Bool × List ℕ)) (Q : Type 0) → failed ≡ None → TellsFailed report failed → status_of report ≡ status.Fault → Q
no-fault (Fault store file) failed Q is tells said = cc
no-fault Usage failed Q is tells said = cc
no-fault (Refused why file) failed Q is tells said = cc
no-fault (Refuted edge what trace to) failed Q is tells said = cc
no-fault Simulated failed Q is tells said = cc
no-fault (WrongDescription code place file) failed Q is tells said = cc
no-fault (Described map_text) failed Q is tells said = cc
no-fault (WrongTrace why line file) failed Q is tells said = cc
no-fault (Agrees edges) failed Q is tells said = cc
no-fault (Differs edge what) failed Q is tells said = cc

never-memory : (report : Report) (Q : Type 0) → status_of report ≡ status.NoMemory → Q
never-memory (Fault store file) Q said = cc
never-memory Usage Q said = cc
never-memory (Refused why file) Q said = cc
never-memory (Refuted edge what trace to) Q said = cc
never-memory Simulated Q said = cc
never-memory (WrongDescription code place file) Q said = cc
never-memory (Described map_text) Q said = cc
never-memory (WrongTrace why line file) Q said = cc
never-memory (Agrees edges) Q said = cc
never-memory (Differs edge what) Q said = cc

module _ (told : Option Files) (words : List (List ℕ)) (old new : Option (List ℕ)) (before now : ℕ) (ended : Status) (calls : List DepotCall) where
  last-of : (report : Report) (store : Bool) (name : List ℕ) → report ≡ Fault store name → Ends report old new before now ended → IsFaultOrMemory ended
  last-of report store name is (inl done) = inl (done.said ∙ ap status_of is)
  last-of report store name is (inr (inl fails)) = inl fails.said
  last-of report store name is (inr (inr wants)) = inr wants.said

  last-at : (failed : Option (Bool × List ℕ)) → failed_of calls ≡ failed → IsSome failed → (report : Report) → TellsFailed report (failed_of calls) → Ends report old new before now ended → IsFaultOrMemory ended
  last-at None is some report tells ends = cc
  last-at (Some failed) is some report tells ends = last-of report failed.0 failed.1 (tells-fault report failed.0 failed.1 (failed_of calls) is tells) ends

  pub last_failed : Ran told words old new before now ended calls → IsSome (failed_of calls) → IsFaultOrMemory ended
  last_failed (inl ran) some = last-at (failed_of calls) refl some ran.report ran.may.failure ran.ends
  last_failed (inr wants) some = inr wants.said

  fault-of : (report : Report) (store : Bool) (name : List ℕ) → report ≡ Fault store name → Ends report old new before now ended → ended ≡ status.Fault → PutsFault store name old new before now
  fault-of report store name is (inl done) said = inl (done.written ∙ ap (λ r. after_put old (text_of r)) is)
  fault-of report store name is (inr (inl fails)) said =
      let Q : Report → Type 0 = λ r. AppendsPart old (text_of r) new in inr (fails.rose, subst Q is fails.written)
  fault-of report store name is (inr (inr wants)) said = let no_way : status.NoMemory ≡ status.Fault = sym wants.said ∙ said in cc

  pub fault_report : Ran told words old new before now ended calls → (store : Bool) (name : List ℕ) → failed_of calls ≡ Some (store, name) → ended ≡ status.Fault → PutsFault store name old new before now
  fault_report (inl ran) store name is said = fault-of ran.report store name (tells-fault ran.report store name (failed_of calls) is ran.may.failure) ran.ends said
  fault_report (inr wants) store name is said = let no_way : status.NoMemory ≡ status.Fault = sym wants.said ∙ said in cc

  without-of : (report : Report) → TellsFailed report (failed_of calls) → failed_of calls ≡ None → Ends report old new before now ended → ended ≡ status.Fault → Rose before now
  without-of report tells none (inl done) said = no-fault report (failed_of calls) (Rose before now) none tells (sym done.said ∙ said)
  without-of report tells none (inr (inl fails)) said = fails.rose
  without-of report tells none (inr (inr wants)) said = let no_way : status.NoMemory ≡ status.Fault = sym wants.said ∙ said in cc

  pub fault_without : Ran told words old new before now ended calls → failed_of calls ≡ None → ended ≡ status.Fault → Rose before now
  fault_without (inl ran) none said = without-of ran.report ran.may.failure none ran.ends said
  fault_without (inr wants) none said = let no_way : status.NoMemory ≡ status.Fault = sym wants.said ∙ said in cc

  prefix-of : (report : Report) → MayReport told words (failed_of calls) report → Ends report old new before now ended → ended ≡ status.Fault → PutsPart told words (failed_of calls) old new
  prefix-of report may (inl done) said = record { report = report; may = may; part = part-whole old (text_of report) new done.written }
  prefix-of report may (inr (inl fails)) said = record { report = report; may = may; part = fails.written }
  prefix-of report may (inr (inr wants)) said = let no_way : status.NoMemory ≡ status.Fault = sym wants.said ∙ said in cc

  pub report_prefix : Ran told words old new before now ended calls → ended ≡ status.Fault → PutsPart told words (failed_of calls) old new
  report_prefix (inl ran) said = prefix-of ran.report ran.may ran.ends said
  report_prefix (inr wants) said = let no_way : status.NoMemory ≡ status.Fault = sym wants.said ∙ said in cc

  memory-of : (report : Report) → MayReport told words (failed_of calls) report → Ends report old new before now ended → ended ≡ status.NoMemory → PutsPartThenMemory told words (failed_of calls) old new
  memory-of report may (inl done) said = never-memory report (PutsPartThenMemory told words (failed_of calls) old new) (sym done.said ∙ said)
  memory-of report may (inr (inl fails)) said = let no_way : status.Fault ≡ status.NoMemory = sym fails.said ∙ said in cc
  memory-of report may (inr (inr wants)) said = record { middle = wants.written.0; first = inl (record { report = report; may = may; part = wants.written.1 }); last = wants.written.2 }

  pub no_memory_bytes : Ran told words old new before now ended calls → ended ≡ status.NoMemory → PutsPartThenMemory told words (failed_of calls) old new
  no_memory_bytes (inl ran) said = memory-of ran.report ran.may ran.ends said
  no_memory_bytes (inr wants) said = record { middle = old; first = inr refl; last = wants.written }

abbrev HasMap : List ℕ → Type 0
HasMap bytes = (text : List ℕ) × IsMapText bytes text

-- the status of a report, by the block and the seed, the block and the trace text, or the bytes of the
-- description, that were asked for
record Says (report : Report) (asked : Option (Block × ℕ)) (replayed : Option (Block × List ℕ)) (described : Option (List ℕ)) : Type 0 where
  unknown : (status_of report ≡ status.Unknown) ↔ IsSomeAnd asked (λ a. sampled a.0 a.1 ≡ None)
  agrees : (status_of report ≡ status.Yes) ↔ (IsSomeAnd replayed (λ a. (count : ℕ) × ReplaysTo a.0 a.1 None count) ⊎ IsSomeAnd described HasMap)
  differs : (status_of report ≡ status.No)
      ↔ (IsSomeAnd asked (λ a. IsSome (sampled a.0 a.1)) ⊎ IsSomeAnd replayed (λ a. (first : ℕ × Difference) × ((count : ℕ) × ReplaysTo a.0 a.1 (Some first) count)))

neither-of : {P Q : Type 0} → (P → ⊥) → (Q → ⊥) → P ↔ Q
neither-of p q = (λ h. absurd (p h), λ h. absurd (q h))

either-none : {A B : Type 0} → (A → ⊥) → (B → ⊥) → A ⊎ B → ⊥
either-none a b (inl h) = a h
either-none a b (inr h) = b h

-- a report under another status says nothing of a block
quiet : (report : Report) → (status_of report ≡ status.Refused) ⊎ (status_of report ≡ status.Usage) → Says report None None None
quiet report (inl is) = record {
  unknown = neither-of (λ h. let no_way : status.Refused ≡ status.Unknown = sym is ∙ h in cc) (λ h. h);
  agrees = neither-of (λ h. let no_way : status.Refused ≡ status.Yes = sym is ∙ h in cc) (either-none (λ h. h) (λ h. h));
  differs = neither-of (λ h. let no_way : status.Refused ≡ status.No = sym is ∙ h in cc) (either-none (λ h. h) (λ h. h));
}
quiet report (inr is) = record {
  unknown = neither-of (λ h. let no_way : status.Usage ≡ status.Unknown = sym is ∙ h in cc) (λ h. h);
  agrees = neither-of (λ h. let no_way : status.Usage ≡ status.Yes = sym is ∙ h in cc) (either-none (λ h. h) (λ h. h));
  differs = neither-of (λ h. let no_way : status.Usage ≡ status.No = sym is ∙ h in cc) (either-none (λ h. h) (λ h. h));
}

difference-says : (block : Block) (seed : ℕ) (to : Option (List ℕ)) (first : Option (ℕ × Difference)) → first ≡ sampled block seed → Says (difference_report block seed to first) (Some (block, seed)) None None
difference-says block seed due None is = record {
  unknown = (λ h. sym is, λ h. refl);
  agrees = neither-of (λ h. cc) (either-none (λ h. h) (λ h. h));
  differs = neither-of (λ h. cc) (either-none (λ h. let no_way : is_some (sampled block seed) ≡ false = ap is_some (sym is) in cc) (λ h. h));
}
difference-says block seed due (Some first) is = record {
  unknown = neither-of (λ h. cc) (λ h. let no_way : ◌≡◌ {A = Option (ℕ × Difference)} (Some first) None = is ∙ h in cc);
  agrees = neither-of (λ h. cc) (either-none (λ h. h) (λ h. h));
  differs = (λ h. inl (ap is_some (sym is)), λ h. refl);
}

run-says : (block : Block) (seed : ℕ) (to : Option (List ℕ)) → Says (run_report block seed to) (Some (block, seed)) None None
unfolding run_report
run-says block seed to = difference-says block seed to (sampled block seed) refl

sample-says : (task : BlockTask) (seed : ℕ) (block : Result Block Kind) → Says (sample_report task seed block) (with_block seed block) None None
sample-says task seed (Ok block) = run-says block seed task.trace_file
sample-says task seed (Err kind) = quiet (Refused NotYet (name_of task kind)) (inl refl)

some-none : (first : ℕ × Difference) → ◌≡◌ {A = Option (ℕ × Difference)} (Some first) None → ⊥
some-none first same = cc

wrong-says : (block : Block) (text : List ℕ) (report : Report) → status_of report ≡ status.Refused → ((found : Option (ℕ × Difference)) (count : ℕ) → ReplaysTo block text found count → ⊥)
    → Says report None (Some (block, text)) None
wrong-says block text report is none = record {
  unknown = neither-of (λ h. let no_way : status.Refused ≡ status.Unknown = sym is ∙ h in cc) (λ h. h);
  agrees = neither-of (λ h. let no_way : status.Refused ≡ status.Yes = sym is ∙ h in cc) (either-none (λ h. none None h.0 h.1) (λ h. h));
  differs = neither-of (λ h. let no_way : status.Refused ≡ status.No = sym is ∙ h in cc) (either-none (λ h. h) (λ h. none (Some h.0) h.1.0 h.1.1));
}

says-as : (report due : Report) (asked : Option (Block × ℕ)) (replayed : Option (Block × List ℕ)) (described : Option (List ℕ)) → report ≡ due → Says due asked replayed described → Says report asked replayed described
says-as report due asked replayed described is h = let P : Report → Type 0 = λ r. Says r asked replayed described in subst P (sym is) h

-- the run of a trace text has one first difference
module _ (law : OneReading) (reads : HasOneAnswer) where
  one-run : (block : Block) (text : List ℕ) (a b : Option (ℕ × Difference)) (m n : ℕ) → ReplaysTo block text a m → ReplaysTo block text b n → a ≡ b
  one-run block text a b m n one two =
      let same = law.one_trace block text one.start two.start one.edges two.edges one.legal two.legal one.is two.is in
      sym one.first ∙ ap (λ s. trace_difference block s one.edges) same.0 ∙ ap (λ es. trace_difference block two.start es) same.1 ∙ two.first

  replays-says : (block : Block) (name text : List ℕ) (report : Report) → Replays block name text report → Says report None (Some (block, text)) None
  replays-says block name text (Agrees edges) h = record {
    unknown = neither-of (λ e. cc) (λ e. e);
    agrees = (λ e. inl (edges, h), λ e. refl);
    differs = neither-of (λ e. cc) (either-none (λ e. e) (λ e. some-none e.0 (one-run block text (Some e.0) None e.1.0 edges e.1.1 h)));
  }
  replays-says block name text (Differs edge what) h = record {
    unknown = neither-of (λ e. cc) (λ e. e);
    agrees = neither-of (λ e. cc) (either-none (λ e. some-none (edge, what) (one-run block text (Some (edge, what)) None h.0 e.0 h.1 e.1)) (λ e. e));
    differs = (λ e. inr ((edge, what), h), λ e. refl);
  }
  replays-says block name text (WrongTrace why line file) h =
      wrong-says block text (WrongTrace why line file) refl (λ found count to. law.legal_or_refused block text to.start to.edges why line to.legal to.is h.2)
  replays-says block name text (Refused TraceSize file) h = wrong-says block text (Refused TraceSize file) refl (λ found count to. let short = to.short in absurd (omega (arith, short, h.1)))
  replays-says block name text (Refused RdlSize file) h = absurd h
  replays-says block name text (Refused VlogSize file) h = absurd h
  replays-says block name text (Refused PortSize file) h = absurd h
  replays-says block name text (Refused NoFile file) h = absurd h
  replays-says block name text (Refused NotYet file) h = absurd h
  replays-says block name text Usage h = absurd h
  replays-says block name text (Refuted edge what trace to) h = absurd h
  replays-says block name text Simulated h = absurd h
  replays-says block name text (WrongDescription code place file) h = absurd h
  replays-says block name text (Described map_text) h = absurd h
  replays-says block name text (Fault store file) h = absurd h

  replay-says : (task : BlockTask) (trace text : List ℕ) (block : Result Block Kind) (report : Report) → ReplayAnswer task trace text block report → Says report None (with_block text block) None
  replay-says task trace text (Ok block) report h = replays-says block trace text report h
  replay-says task trace text (Err kind) report h = says-as report (Refused NotYet (name_of task kind)) None None None h (quiet (Refused NotYet (name_of task kind)) (inl refl))

  work-says : (task : BlockTask) (texts : List (List ℕ)) (does : Work) (report : Report) → WorkAnswer task texts does report → Says report (sample_block does texts) (replay_block does texts) None
  work-says task texts (work.Sample seed) report h = says-as report _ _ _ _ h (sample-says task seed (block_of (text_at texts 0) (text_at texts 1) (text_at texts 2)))
  work-says task texts (work.Replay trace) report h = replay-says task trace (text_at texts 0) (block_of (text_at texts 1) (text_at texts 2) (text_at texts 3)) report h

  short-status : (short : Shortfall) → status_of (short_report short) ≡ status.Refused
  short-status (Missing name) = refl
  short-status (Long kind name) = refl

  files-says : (task : BlockTask) (files : Result (List (List ℕ)) Shortfall) (report : Report) → FilesAnswer task files report → Says report (of_texts sample_block task files) (of_texts replay_block task files) None
  files-says task (Err short) report h = says-as report (short_report short) None None None h (quiet (short_report short) (inl (short-status short)))
  files-says task (Ok texts) report h = work-says task texts task.work report h

  description-says : (name bytes : List ℕ) (report : Report) → DescriptionAnswer name bytes report → Says report None None (Some bytes)
  description-says name bytes (Described text) h = record {
    unknown = neither-of (λ e. cc) (λ e. e);
    agrees = (λ e. inr (text, h), λ e. refl);
    differs = neither-of (λ e. cc) (either-none (λ e. e) (λ e. e));
  }
  description-says name bytes (WrongDescription code place file) h = record {
    unknown = neither-of (λ e. cc) (λ e. e);
    agrees = neither-of (λ e. cc) (either-none (λ e. e) (λ e. map_or_refused reads bytes e.0 code place e.1 h.1));
    differs = neither-of (λ e. cc) (either-none (λ e. e) (λ e. e));
  }
  description-says name bytes Usage h = absurd h
  description-says name bytes (Refused why file) h = absurd h
  description-says name bytes (WrongTrace why line file) h = absurd h
  description-says name bytes (Refuted edge what trace to) h = absurd h
  description-says name bytes Simulated h = absurd h
  description-says name bytes (Agrees edges) h = absurd h
  description-says name bytes (Differs edge what) h = absurd h
  description-says name bytes (Fault store file) h = absurd h

  gathered-says : (name : List ℕ) (got : Result (List (List ℕ)) Shortfall) (report : Report) → GatheredAnswer name got report → Says report None None (first_text got)
  gathered-says name (Err short) report h = says-as report (short_report short) None None None h (quiet (short_report short) (inl (short-status short)))
  gathered-says name (Ok texts) report h = description-says name (text_at texts 0) report h

  asked-says : (files : Files) (task : Option Task) (report : Report) → AskedAnswer files task report → Says report (of_task sample_block files task) (of_task replay_block files task) (description_in files task)
  asked-says files None report h = says-as report (Refused NotYet (codes "words")) None None None h (quiet (Refused NotYet (codes "words")) (inl refl))
  asked-says files (Some (tasks.Block task)) report h = files-says task (gathered files (wanted_of task)) report h
  asked-says files (Some (tasks.Describe rdl)) report h = gathered-says rdl (gathered files (description_wanted rdl)) report h

  command-says : (files : Files) (command : Option Command) (report : Report) → CommandAnswer files command report
      → Says report (of_task sample_block files (option_and_then task_of command)) (of_task replay_block files (option_and_then task_of command)) (description_in files (option_and_then task_of command))
  command-says files None report h = says-as report Usage None None None h (quiet Usage (inr refl))
  command-says files (Some command) report h = asked-says files (task_of command) report h

  pub unknown-status : (words : List (List ℕ)) (files : Files) (report : Report) → Answers files words report → (status_of report ≡ status.Unknown) ↔ SampledAgrees files words
  unknown-status words files report answer = (command-says files (command_of words) report answer).unknown

  pub agrees-status : (words : List (List ℕ)) (files : Files) (report : Report) → Answers files words report → (status_of report ≡ status.Yes) ↔ (ReplayAgrees files words ⊎ DescriptionHasMap files words)
  agrees-status words files report answer = (command-says files (command_of words) report answer).agrees

  pub differs-status : (words : List (List ℕ)) (files : Files) (report : Report) → Answers files words report
      → (status_of report ≡ status.No) ↔ (SampledDiffers files words ⊎ ReplayDiffers files words)
  differs-status words files report answer = (command-says files (command_of words) report answer).differs

pub status-iff : (told : Option Files) (ended due : Status) (words : List (List ℕ)) (old new : Option (List ℕ)) (after : Option Files) (F : Files → Type 0)
    → ((files : Files) (report : Report) → Answers files words report → (status_of report ≡ due) ↔ F files)
    → IfSome told (λ files. UnlessFailed ended (PutsAnswer files words old new after ended))
    → IfSome told (λ files. UnlessFailed ended ((ended ≡ due) ↔ F files))
status-iff None ended due words old new after F f h = h
status-iff (Some files) ended due words old new after F f h =
    unless-map ended (PutsAnswer files words old new after ended) ((ended ≡ due) ↔ F files)
    (λ puts. let both = f files puts.report puts.answer in (λ e. both.0 (sym puts.said ∙ e), λ x. puts.said ∙ both.1 x)) h

-- the usage line, and no call
no-calls : (calls : List DepotCall) → AreCalls [] None calls → calls ≡ []
no-calls [] are = refl
no-calls (call ∷ calls) are = let no_way : ◌≡◌ {A = Option (List ℕ)} None (Some call.name) = are.0 in cc

after-none : (told : Option (List DepotCall)) → after_calls told [] ≡ told
after-none None = refl
after-none (Some calls) = ap Some (append-nil calls)

usage-is : (report : Report) → status_of report ≡ status.Usage → report ≡ Usage
usage-is Usage said = refl
usage-is (Refused why file) said = cc
usage-is (WrongTrace why line file) said = cc
usage-is (Refuted edge what trace to) said = cc
usage-is Simulated said = cc
usage-is (WrongDescription code place file) said = cc
usage-is (Described map_text) said = cc
usage-is (Agrees edges) said = cc
usage-is (Differs edge what) said = cc
usage-is (Fault store file) said = cc

usage-ends : (report : Report) (old new : Option (List ℕ)) (before now : ℕ) (ended : Status) → ended ≡ status.Usage → Ends report old new before now ended → new ≡ after_put old (text_of Usage)
usage-ends report old new before now ended said (inl done) = done.written ∙ ap (λ r. after_put old (text_of r)) (usage-is report (sym done.said ∙ said))
usage-ends report old new before now ended said (inr (inl fails)) = let no_way : status.Fault ≡ status.Usage = sym fails.said ∙ said in cc
usage-ends report old new before now ended said (inr (inr wants)) = let no_way : status.NoMemory ≡ status.Usage = sym wants.said ∙ said in cc

usage-ran : (told : Option Files) (words : List (List ℕ)) (old new : Option (List ℕ)) (before now : ℕ) (ended : Status) (calls : List DepotCall) → ended ≡ status.Usage
    → Ran told words old new before now ended calls → new ≡ after_put old (text_of Usage)
usage-ran told words old new before now ended calls said (inl ran) = usage-ends ran.report old new before now ended said ran.ends
usage-ran told words old new before now ended calls said (inr wants) = let no_way : status.NoMemory ≡ status.Usage = sym wants.said ∙ said in cc

at-usage : (ended : Status) (P : Type 0) → ended ≡ status.Usage → UnlessFailed ended P → P
at-usage ended P is h = let Q : Status → Type 0 = λ s. UnlessFailed s P in subst Q is h

pub usage-report : (told after : Option Files) (words : List (List ℕ)) (calls_before calls_after : Option (List DepotCall)) (old new : Option (List ℕ)) (before now : ℕ) (ended : Status)
    → UnlessFailed ended ((ended ≡ status.Usage) ↔ (command_of words ≡ None))
    → Called (names_asked words) (trace_file words) calls_before calls_after (Runs told after words old new before now ended)
    → ended ≡ status.Usage → (new ≡ after_put old (text_of Usage)) × (calls_after ≡ calls_before)
usage-report told after words calls_before calls_after old new before now ended usage all said =
    let none : command_of words ≡ None = (at-usage ended ((ended ≡ status.Usage) ↔ (command_of words ≡ None)) said usage).0 said in
    let P : Option Task → Type 0 = λ t. AreCalls (task_names t) (option_and_then trace_file_of t) all.added in
    let are : AreCalls [] None all.added = subst P (ap (option_and_then task_of) none) all.calls in
    (usage-ran told words old new before now ended all.added said all.ends.ran, all.told ∙ ap (after_calls calls_before) (no-calls all.added are) ∙ after-none calls_before)
