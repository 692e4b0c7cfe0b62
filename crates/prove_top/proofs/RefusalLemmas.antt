-- The refusals that words and told files give: each comes where it is due, and only there.
use Rattle.std.proofs.Common.{◌≡◌, ◌≢◌, ◌↔◌, ◌⊎◌, inl, inr, ℕ, ◌^◌, ◌<◌, ◌≤◌, Bool, true, false, List, ◌∷◌, ◌++◌, length, is_some, Option, Some, None, Result, Ok, Err, IfSome, IsSome, IsSomeAnd, refl, sym, ◌∙◌, ap, subst, codes, arith}
use Rattle.std.specs.Prelude.{nat_le, if◌then◌else◌}
use Rattle.std.proofs.lemmas.Bool.{cases_lt, leb-true}
use Rattle.std.proofs.lemmas.List.{append_cancel_left}
use Rattle.std.specs.Option.{option_and_then}
use Rattle.bit_base.specs.declared.place.Place.{Place}
use Rattle.rdl_tree.specs.declared.fault.RdlCode.{RdlCode}
use Rattle.map_report.specs.Laws.{BeginWithAddresses}
use Rattle.rdl_report.specs.Described as descriptions
use Rattle.rdl_report.specs.Described.{IsMapText}
use Rattle.rdl_report.specs.OneAnswer.{HasOneAnswer}
use Rattle.tool_edge.specs.Files.{Files}
use Rattle.tool_edge.specs.Written.{after_put}
use Rattle.trace_replay.specs.Lines.{lines_of}
use Rattle.trace_replay.specs.Laws.{OneReading}
use Rattle.trace_replay.specs.Reading.{IsFirstOther, IsRefusedAt, IsWrongLine}
use Rattle.trace_replay.specs.declared.block.Block.{Block}
use Rattle.trace_replay.specs.declared.fault.TraceCode.{TraceCode}
use Rattle.trace_replay.specs.declared.fault.TraceCode.TheVariants as code
use Rattle.trace_replay.specs.declared.joint.Difference.{Difference}
use Rattle.trace_replay.specs.declared.read.TheConstants.{TRACE_LIMIT}
use Rattle.prove_top.specs.declared.gather.Kind.{Kind}
use Rattle.prove_top.specs.declared.gather.Kind.TheVariants as kinds
use Rattle.prove_top.specs.declared.gather.Shortfall.{Shortfall}
use Rattle.prove_top.specs.declared.gather.Shortfall.TheVariants.{Missing, Long}
use Rattle.prove_top.specs.declared.plan.TheConstants.{TRACE_FILE_LIMIT}
use Rattle.prove_top.specs.declared.report.Refusal.{Refusal}
use Rattle.prove_top.specs.declared.report.Refusal.TheVariants.{RdlSize, VlogSize, PortSize, TraceSize, NoFile, NotYet}
use Rattle.prove_top.specs.declared.report.Report.{Report}
use Rattle.prove_top.specs.declared.report.Report.TheVariants.{Usage, Refused, WrongTrace, WrongDescription, Described, Refuted, Simulated, Agrees, Differs, Fault}
use Rattle.prove_top.specs.declared.report.Status.{Status}
use Rattle.prove_top.specs.declared.report.Status.TheVariants as status
use Rattle.prove_top.specs.declared.words.Command.{Command}
use Rattle.prove_top.specs.declared.words.BlockTask.{BlockTask}
use Rattle.prove_top.specs.declared.words.Task.{Task}
use Rattle.prove_top.specs.declared.words.Task.TheVariants as tasks
use Rattle.prove_top.specs.declared.words.Work.{Work}
use Rattle.prove_top.specs.declared.words.Work.TheVariants as work
use Rattle.prove_top.specs.Answer.{DescriptionAnswer, GatheredAnswer, description_wanted, Answers, CommandAnswer, AskedAnswer, TaskAnswer, FilesAnswer, WorkAnswer, ReplayAnswer, Replays, ReplaysTo, block_of, block_wanted, difference_report, name_of, run_report, sample_report, short_report, size_refusal, text_at, wanted_for, wanted_of}
use Rattle.prove_top.specs.Asked.{asked_block, asked_description, asked_replay, description_in, first_text, made_of, of_task, of_texts, replay_block, sample_block, with_block}
use Rattle.prove_top.specs.Ends.{PutsAnswer, UnlessFailed}
use Rattle.prove_top.specs.Gather.{fetched_one, gather_more, gathered}
use Rattle.prove_top.specs.Refusals.{trace_of_task, IsNotYet, IsOtherForm, IsRefusal, IsTraceRefused, PutsIff, PutsRefusal, lack_in, lacking, replayed, shortfall_of, trace_of_work}
use Rattle.prove_top.specs.Report.{status_of, text_of}
use Rattle.prove_top.specs.Sampled.{sampled}
use Rattle.prove_top.specs.Words.{command_of, description_asked, description_of, task_of, task_asked}
use Rattle.prove_top.specs.Clauses.{DescriptionHasMap, ReplayAgrees, ReplayDiffers, SampledDiffers}
use Rattle.prove_top.proofs.ClauseLemmas.{agrees-status, differs-status, status-iff}
use Rattle.prove_top.proofs.DescriptionLemmas.{map-plain, map_or_refused, one_code, one_place}
use Rattle.prove_top.proofs.EndLemmas.{unless-map}
use Rattle.prove_top.proofs.TextLemmas.{IsNoDescription, IsPlain, code-text, line-is, refused-text}

-- a trace that was gathered isn't too long
one-short : (name : List ℕ) (limit : ℕ) (kind : Kind) (bytes : List ℕ) (rest : Result (List (List ℕ)) Shortfall) (texts : List (List ℕ)) (short : Bool) → nat_le (length bytes) limit ≡ short
    → gather_more (if short then Ok bytes else Err (Long kind name)) rest ≡ Ok texts → length (text_at texts 0) ≤ limit
one-short name limit kind bytes rest texts false is h = cc
one-short name limit kind bytes (Err lacks) texts true is h = cc
one-short name limit kind bytes (Ok files) texts true is h =
    let same : bytes ∷ files ≡ texts = cc in
    let P : List (List ℕ) → Type 0 = λ ts. length (text_at ts 0) ≤ limit in
    subst P same (leb-true (length bytes) limit is)

first-short : (name : List ℕ) (limit : ℕ) (kind : Kind) (held : Option (List ℕ)) (rest : Result (List (List ℕ)) Shortfall) (texts : List (List ℕ))
    → gather_more (fetched_one (record { name = name; limit = limit; kind = kind }) held) rest ≡ Ok texts → length (text_at texts 0) ≤ limit
first-short name limit kind None rest texts h = cc
first-short name limit kind (Some bytes) rest texts h = one-short name limit kind bytes rest texts (nat_le (length bytes) limit) refl h

trace-short : (files : Files) (task : BlockTask) (texts : List (List ℕ)) (trace : List ℕ) (does : Work) → does ≡ work.Replay trace → gathered files (wanted_for does (block_wanted task)) ≡ Ok texts
    → length (text_at texts 0) ≤ TRACE_LIMIT
trace-short files task texts trace (work.Sample seed) is h = cc
trace-short files task texts trace (work.Replay name) is h = first-short name TRACE_FILE_LIMIT kinds.Trace (files name) (gathered files (block_wanted task)) texts h

-- a refused trace has a line
refused-plain : (block : Block) (text : List ℕ) (why : TraceCode) (line : ℕ) (file : List ℕ) → IsRefusedAt block text why line → IsPlain (WrongTrace why line file)
refused-plain block text code.TraceLine line file h = tt
refused-plain block text code.TraceName line file h = tt
refused-plain block text code.TraceIllegal line file h = tt
refused-plain block text code.TraceSize line file h = absurd h

-- no trace has a wrong line far down
few-places : (lines : List (List ℕ)) (place : ℕ) → IsFirstOther lines place → place < 67
few-places lines place first =
    elim (cases_lt 66 place) [
      | inl far ↦ let edge = (first.before 66 far).right.0 in absurd (omega (arith, edge))
      | inr near ↦ omega (arith, near)
    ]

few-lines : (lines : List (List ℕ)) (line : ℕ) → IsWrongLine lines line → line < 2 ^ 64
few-lines lines line wrong =
    let few = few-places lines wrong.place wrong.first in
    elim wrong.why [
      | inl other ↦ let number = other.2 in omega (arith, few, number)
      | inr last ↦ let number = last.2 in omega (arith, few, number)
    ]

refused-small : (block : Block) (text : List ℕ) (why : TraceCode) (line : ℕ) → IsRefusedAt block text why line → line < 2 ^ 64
refused-small block text code.TraceLine line h = few-lines (lines_of text) line h
refused-small block text code.TraceName line h = let few = few-places (lines_of text) h.place h.first in let number = h.number in omega (arith, few, number)
refused-small block text code.TraceIllegal line h = let inside = h.first.inside in let few = h.sizes.few in let number = h.number in omega (arith, inside, few, number)
refused-small block text code.TraceSize line h = absurd h

-- what a report that words and told files give says of refusals
record Facts (files : Files) (words : List (List ℕ)) (report : Report) : Type 0 where
  refused : status_of report ≡ status.Refused → IsRefusal files words report
  plain : IsPlain report
  other : description_asked words ≡ None → IsNoDescription report

module _ (begins : BeginWithAddresses) (files : Files) (words : List (List ℕ)) where
  facts-as : (report due : Report) → report ≡ due → Facts files words due → Facts files words report
  facts-as report due is h = let P : Report → Type 0 = λ r. Facts files words r in subst P (sym is) h

  sample-facts : (block : Block) (seed : ℕ) (to : Option (List ℕ)) (found : Option (ℕ × Difference)) → Facts files words (difference_report block seed to found)
  sample-facts block seed to None = record { refused = λ h. cc; plain = tt; other = λ none. tt }
  sample-facts block seed to (Some first) = record { refused = λ h. cc; plain = tt; other = λ none. tt }

  run-facts : (block : Block) (seed : ℕ) (to : Option (List ℕ)) → Facts files words (run_report block seed to)
  unfolding run_report
  run-facts block seed to = sample-facts block seed to (sampled block seed)

  short-refusal : (short : Shortfall) → lacking files words ≡ Some short → IsRefusal files words (short_report short)
  short-refusal (Missing name) is = is
  short-refusal (Long kinds.Description name) is = is
  short-refusal (Long kinds.Ports name) is = is
  short-refusal (Long kinds.Verilog name) is = is
  short-refusal (Long kinds.Trace name) is = is

  short-plain : (short : Shortfall) → IsPlain (short_report short)
  short-plain (Missing name) = tt
  short-plain (Long kind name) = tt

  short-other : (short : Shortfall) → IsNoDescription (short_report short)
  short-other (Missing name) = tt
  short-other (Long kind name) = tt

  -- a file that isn't of the first form
  form-facts : (task : BlockTask) (texts : List (List ℕ)) (kind : Kind) (report : Report) → task_asked words ≡ Some (tasks.Block task) → gathered files (wanted_of task) ≡ Ok texts → made_of task.work texts ≡ Err kind
      → report ≡ Refused NotYet (name_of task kind) → Facts files words report
  form-facts task texts kind report asked whole form is = facts-as report (Refused NotYet (name_of task kind)) is (record {
    refused = λ h. inr (record { task = task; texts = texts; kind = kind; asked = asked; whole = whole; form = form; name = refl });
    plain = tt;
    other = λ none. tt;
  })

  -- a trace
  replay-facts : (task : BlockTask) (texts : List (List ℕ)) (trace : List ℕ) (block : Block) (report : Report) → replayed words ≡ Some trace
      → asked_replay files words ≡ Some (block, text_at texts 0) → length (text_at texts 0) ≤ TRACE_LIMIT → Replays block trace (text_at texts 0) report → Facts files words report
  replay-facts task texts trace block (Agrees edges) named asked short h = record { refused = λ e. cc; plain = tt; other = λ none. tt }
  replay-facts task texts trace block (Differs edge what) named asked short h = record { refused = λ e. cc; plain = tt; other = λ none. tt }
  replay-facts task texts trace block (WrongTrace why line file) named asked short h = record {
    refused = λ e. (
      named ∙ ap Some (sym h.0),
      (let P : Option (Block × List ℕ) → Type 0 = λ o. IsSomeAnd o (λ a. (length a.1 ≤ TRACE_LIMIT) × IsRefusedAt a.0 a.1 why line) in subst P (sym asked) (h.1, h.2)),
    );
    plain = refused-plain block (text_at texts 0) why line file h.2;
    other = λ none. tt;
  }
  replay-facts task texts trace block (Refused TraceSize file) named asked short h = absurd (omega (arith, short, h.1))
  replay-facts task texts trace block (Refused RdlSize file) named asked short h = absurd h
  replay-facts task texts trace block (Refused VlogSize file) named asked short h = absurd h
  replay-facts task texts trace block (Refused PortSize file) named asked short h = absurd h
  replay-facts task texts trace block (Refused NoFile file) named asked short h = absurd h
  replay-facts task texts trace block (Refused NotYet file) named asked short h = absurd h
  replay-facts task texts trace block Usage named asked short h = absurd h
  replay-facts task texts trace block (Refuted edge what text to) named asked short h = absurd h
  replay-facts task texts trace block Simulated named asked short h = absurd h
  replay-facts task texts trace block (WrongDescription code place file) named asked short h = absurd h
  replay-facts task texts trace block (Described map_text) named asked short h = absurd h
  replay-facts task texts trace block (Fault store file) named asked short h = absurd h

  block-facts : (task : BlockTask) (texts : List (List ℕ)) (seed : ℕ) (made : Result Block Kind) (report : Report) → task_asked words ≡ Some (tasks.Block task) → gathered files (wanted_of task) ≡ Ok texts
      → made_of task.work texts ≡ made → report ≡ sample_report task seed made → Facts files words report
  block-facts task texts seed (Ok block) report asked whole form h = facts-as report (run_report block seed task.trace_file) h (run-facts block seed task.trace_file)
  block-facts task texts seed (Err kind) report asked whole form h = form-facts task texts kind report asked whole form h

  trace-facts : (task : BlockTask) (texts : List (List ℕ)) (trace : List ℕ) (made : Result Block Kind) (report : Report) → task_asked words ≡ Some (tasks.Block task) → gathered files (wanted_of task) ≡ Ok texts
      → task.work ≡ work.Replay trace → made_of task.work texts ≡ made → ReplayAnswer task trace (text_at texts 0) made report → Facts files words report
  trace-facts task texts trace (Ok block) report asked whole is form h =
      let made : made_of (work.Replay trace) texts ≡ Ok block = sym (ap (λ w. made_of w texts) is) ∙ form in
      replay-facts task texts trace block report (ap (option_and_then trace_of_task) asked ∙ ap trace_of_work is)
      (ap (of_task replay_block files) asked ∙ ap (of_texts replay_block task) whole ∙ ap (λ w. replay_block w texts) is ∙ ap (with_block (text_at texts 0)) made)
      (trace-short files task texts trace task.work is whole) h
  trace-facts task texts trace (Err kind) report asked whole is form h = form-facts task texts kind report asked whole form h

  work-facts : (task : BlockTask) (texts : List (List ℕ)) (does : Work) (report : Report) → task_asked words ≡ Some (tasks.Block task) → gathered files (wanted_of task) ≡ Ok texts → task.work ≡ does
      → WorkAnswer task texts does report → Facts files words report
  work-facts task texts (work.Sample seed) report asked whole is h =
      block-facts task texts seed (block_of (text_at texts 0) (text_at texts 1) (text_at texts 2)) report asked whole (ap (λ w. made_of w texts) is) h
  work-facts task texts (work.Replay trace) report asked whole is h =
      trace-facts task texts trace (block_of (text_at texts 1) (text_at texts 2) (text_at texts 3)) report asked whole is (ap (λ w. made_of w texts) is) h

  files-facts : (task : BlockTask) (got : Result (List (List ℕ)) Shortfall) (report : Report) → task_asked words ≡ Some (tasks.Block task) → gathered files (wanted_of task) ≡ got → FilesAnswer task got report → Facts files words report
  files-facts task (Err short) report asked whole h = facts-as report (short_report short) h (record {
    refused = λ e. short-refusal short (ap (lack_in files) asked ∙ ap shortfall_of whole);
    plain = short-plain short;
    other = λ none. short-other short;
  })
  files-facts task (Ok texts) report asked whole h = work-facts task texts task.work report asked whole refl h

  -- a description
  description-facts : (rdl : List ℕ) (texts : List (List ℕ)) (report : Report) → task_asked words ≡ Some (tasks.Describe rdl) → gathered files (description_wanted rdl) ≡ Ok texts
      → DescriptionAnswer rdl (text_at texts 0) report → Facts files words report
  description-facts rdl texts (Described text) asked whole h = record { refused = λ e. cc; plain = map-plain begins h.map.words.items h.map.fields.items text h.report; other = λ none. tt }
  description-facts rdl texts (WrongDescription why place file) asked whole h = record {
    refused = λ e. (
      ap (option_and_then description_of) asked ∙ ap Some (sym h.0),
      (let P : Option (List ℕ) → Type 0 = λ o. IsSomeAnd o (λ bytes. descriptions.IsRefusedAt bytes why place) in subst P (sym (ap (description_in files) asked ∙ ap first_text whole)) h.1),
    );
    plain = tt;
    other = λ none. let no_way : ◌≡◌ {A = Option (List ℕ)} (Some rdl) None = sym (ap (option_and_then description_of) asked) ∙ none in cc;
  }
  description-facts rdl texts Usage asked whole h = absurd h
  description-facts rdl texts (Refused why file) asked whole h = absurd h
  description-facts rdl texts (WrongTrace why line file) asked whole h = absurd h
  description-facts rdl texts (Refuted edge what trace to) asked whole h = absurd h
  description-facts rdl texts Simulated asked whole h = absurd h
  description-facts rdl texts (Agrees edges) asked whole h = absurd h
  description-facts rdl texts (Differs edge what) asked whole h = absurd h
  description-facts rdl texts (Fault store file) asked whole h = absurd h

  gathered-facts : (rdl : List ℕ) (got : Result (List (List ℕ)) Shortfall) (report : Report) → task_asked words ≡ Some (tasks.Describe rdl) → gathered files (description_wanted rdl) ≡ got
      → GatheredAnswer rdl got report → Facts files words report
  gathered-facts rdl (Err short) report asked whole h = facts-as report (short_report short) h (record {
    refused = λ e. short-refusal short (ap (lack_in files) asked ∙ ap shortfall_of whole);
    plain = short-plain short;
    other = λ none. short-other short;
  })
  gathered-facts rdl (Ok texts) report asked whole h = description-facts rdl texts report asked whole h

  asked-facts : (task : Option Task) (report : Report) → IsSome (command_of words) → task_asked words ≡ task → AskedAnswer files task report → Facts files words report
  asked-facts None report some asked h = facts-as report (Refused NotYet (codes "words")) h (record { refused = λ e. inl ((some, asked), refl); plain = tt; other = λ none. tt })
  asked-facts (Some (tasks.Block task)) report some asked h = files-facts task (gathered files (wanted_of task)) report asked refl h
  asked-facts (Some (tasks.Describe rdl)) report some asked h = gathered-facts rdl (gathered files (description_wanted rdl)) report asked refl h

  command-facts : (command : Option Command) (report : Report) → command_of words ≡ command → CommandAnswer files command report → Facts files words report
  command-facts None report is h = facts-as report Usage h (record { refused = λ e. cc; plain = tt; other = λ none. tt })
  command-facts (Some command) report is h = asked-facts (task_of command) report (ap is_some is) (ap (option_and_then task_of) is) h

  facts : (report : Report) → Answers files words report → Facts files words report
  facts report answer = command-facts (command_of words) report refl answer

-- the other way round: what is due is what comes
module _ (files : Files) (words : List (List ℕ)) where
  lacking-files : (task : BlockTask) (got : Result (List (List ℕ)) Shortfall) (report : Report) (short : Shortfall) → FilesAnswer task got report → shortfall_of got ≡ Some short → report ≡ short_report short
  lacking-files task (Ok texts) report short h is = cc
  lacking-files task (Err lacks) report short h is = let same : lacks ≡ short = cc in h ∙ ap short_report same

  lacking-gathered : (rdl : List ℕ) (got : Result (List (List ℕ)) Shortfall) (report : Report) (short : Shortfall) → GatheredAnswer rdl got report → shortfall_of got ≡ Some short → report ≡ short_report short
  lacking-gathered rdl (Ok texts) report short h is = cc
  lacking-gathered rdl (Err lacks) report short h is = let same : lacks ≡ short = cc in h ∙ ap short_report same

  lacking-asked : (task : Option Task) (report : Report) (short : Shortfall) → AskedAnswer files task report → lack_in files task ≡ Some short → report ≡ short_report short
  lacking-asked None report short h is = cc
  lacking-asked (Some (tasks.Block task)) report short h is = lacking-files task (gathered files (wanted_of task)) report short h is
  lacking-asked (Some (tasks.Describe rdl)) report short h is = lacking-gathered rdl (gathered files (description_wanted rdl)) report short h is

  lacking-command : (command : Option Command) (report : Report) (short : Shortfall) → CommandAnswer files command report → lack_in files (option_and_then task_of command) ≡ Some short → report ≡ short_report short
  lacking-command None report short h is = cc
  lacking-command (Some command) report short h is = lacking-asked (task_of command) report short h is

  later-command : (command : Option Command) (report : Report) → CommandAnswer files command report → IsSome command → option_and_then task_of command ≡ None → report ≡ Refused NotYet (codes "words")
  later-command None report h some is = cc
  later-command (Some command) report h some is = let P : Option Task → Type 0 = λ t. AskedAnswer files t report in subst P is h

  task-command : (command : Option Command) (report : Report) (task : Task) → CommandAnswer files command report → option_and_then task_of command ≡ Some task → TaskAnswer files task report
  task-command None report task h is = cc
  task-command (Some command) report task h is = let P : Option Task → Type 0 = λ t. AskedAnswer files t report in subst P is h

  form-work : (task : BlockTask) (texts : List (List ℕ)) (does : Work) (report : Report) (kind : Kind) → WorkAnswer task texts does report → made_of does texts ≡ Err kind
      → report ≡ Refused NotYet (name_of task kind)
  form-work task texts (work.Sample seed) report kind h is = h ∙ ap (sample_report task seed) is
  form-work task texts (work.Replay trace) report kind h is =
      let P : Result Block Kind → Type 0 = λ b. ReplayAnswer task trace (text_at texts 0) b report in subst P is h

  form-due : (report : Report) (file : List ℕ) → Answers files words report → IsOtherForm files words file → report ≡ Refused NotYet file
  form-due report file answer other =
      let P : Result (List (List ℕ)) Shortfall → Type 0 = λ got. FilesAnswer other.task got report in
      form-work other.task other.texts other.task.work report other.kind (subst P other.whole (task-command (command_of words) report (tasks.Block other.task) answer other.asked)) other.form
      ∙ ap (Refused NotYet) (sym other.name)

  not-yet-due : (report : Report) (file : List ℕ) → Answers files words report → IsNotYet files words file → report ≡ Refused NotYet file
  not-yet-due report file answer (inl later) = later-command (command_of words) report answer later.0.0 later.0.1 ∙ ap (Refused NotYet) (sym later.1)
  not-yet-due report file answer (inr other) = form-due report file answer other

  -- the trace that is replayed, and its answer
  replayed-block : (task : BlockTask) (trace text : List ℕ) (made : Result Block Kind) (report : Report) (block : Block) (bytes : List ℕ) → ReplayAnswer task trace text made report
      → with_block text made ≡ Some (block, bytes) → Replays block trace bytes report
  replayed-block task trace text (Err kind) report block bytes h is = cc
  replayed-block task trace text (Ok made) report block bytes h is =
      let pair : ◌≡◌ {A = Block × List ℕ} (made, text) (block, bytes) = cc in
      let P : Block × List ℕ → Type 0 = λ p. Replays p.0 trace p.1 report in subst P pair h

  replayed-work : (task : BlockTask) (texts : List (List ℕ)) (does : Work) (report : Report) (block : Block) (bytes name : List ℕ) → WorkAnswer task texts does report
      → replay_block does texts ≡ Some (block, bytes) → trace_of_work does ≡ Some name → Replays block name bytes report
  replayed-work task texts (work.Sample seed) report block bytes name h is named = cc
  replayed-work task texts (work.Replay trace) report block bytes name h is named =
      let same : trace ≡ name = cc in
      let P : List ℕ → Type 0 = λ n. Replays block n bytes report in
      subst P same (replayed-block task trace (text_at texts 0) (block_of (text_at texts 1) (text_at texts 2) (text_at texts 3)) report block bytes h is)

  replayed-files : (task : BlockTask) (got : Result (List (List ℕ)) Shortfall) (report : Report) (block : Block) (bytes name : List ℕ) → FilesAnswer task got report
      → of_texts replay_block task got ≡ Some (block, bytes) → trace_of_work task.work ≡ Some name → Replays block name bytes report
  replayed-files task (Err lacks) report block bytes name h is named = cc
  replayed-files task (Ok texts) report block bytes name h is named = replayed-work task texts task.work report block bytes name h is named

  replayed-asked : (task : Option Task) (report : Report) (block : Block) (bytes name : List ℕ) → AskedAnswer files task report
      → of_task replay_block files task ≡ Some (block, bytes) → option_and_then trace_of_task task ≡ Some name → Replays block name bytes report
  replayed-asked None report block bytes name h is named = cc
  replayed-asked (Some (tasks.Block task)) report block bytes name h is named = replayed-files task (gathered files (wanted_of task)) report block bytes name h is named
  replayed-asked (Some (tasks.Describe rdl)) report block bytes name h is named = cc

  pub replayed-command : (command : Option Command) (report : Report) (block : Block) (bytes name : List ℕ) → CommandAnswer files command report
      → of_task replay_block files (option_and_then task_of command) ≡ Some (block, bytes)
      → option_and_then trace_of_task (option_and_then task_of command) ≡ Some name → Replays block name bytes report
  replayed-command None report block bytes name h is named = cc
  replayed-command (Some command) report block bytes name h is named = replayed-asked (task_of command) report block bytes name h is named

-- a text that is refused has no other answer
module _ (law : OneReading) (block : Block) (name text : List ℕ) (why : TraceCode) (line : ℕ) (short : length text ≤ TRACE_LIMIT) (wrong : IsRefusedAt block text why line) where
  wrong-due : (report : Report) → Replays block name text report → report ≡ WrongTrace why line name
  wrong-due (Agrees edges) h = absurd (law.legal_or_refused block text h.start h.edges why line h.legal h.is wrong)
  wrong-due (Differs edge what) h = absurd (law.legal_or_refused block text h.1.start h.1.edges why line h.1.legal h.1.is wrong)
  wrong-due (WrongTrace other at file) h =
      let same = law.one_refusal block text other why at line h.2 wrong in
      ap (λ w. WrongTrace w at file) same.0 ∙ ap (λ n. WrongTrace why n file) same.1 ∙ ap (WrongTrace why line) h.0
  wrong-due (Refused TraceSize file) h = absurd (omega (arith, short, h.1))
  wrong-due (Refused RdlSize file) h = absurd h
  wrong-due (Refused VlogSize file) h = absurd h
  wrong-due (Refused PortSize file) h = absurd h
  wrong-due (Refused NoFile file) h = absurd h
  wrong-due (Refused NotYet file) h = absurd h
  wrong-due Usage h = absurd h
  wrong-due (Refuted edge what trace to) h = absurd h
  wrong-due Simulated h = absurd h
  wrong-due (WrongDescription code place file) h = absurd h
  wrong-due (Described map_text) h = absurd h
  wrong-due (Fault store file) h = absurd h

trace-due : (law : OneReading) (files : Files) (words : List (List ℕ)) (report : Report) (file : List ℕ) (why : TraceCode) (line : ℕ) (asked : Option (Block × List ℕ))
    → asked_replay files words ≡ asked → replayed words ≡ Some file → IsSomeAnd asked (λ a. (length a.1 ≤ TRACE_LIMIT) × IsRefusedAt a.0 a.1 why line)
    → Answers files words report → report ≡ WrongTrace why line file
trace-due law files words report file why line None is named h answer = absurd h
trace-due law files words report file why line (Some asked) is named h answer =
    wrong-due law asked.0 file asked.1 why line h.0 h.1 report (replayed-command files words (command_of words) report asked.0 asked.1 file answer is named)

-- a description that is refused has no other answer
module _ (reads : HasOneAnswer) (files : Files) (why : RdlCode) (place : Place) (file : List ℕ) where
  description-due : (bytes : List ℕ) (report : Report) → descriptions.IsRefusedAt bytes why place → DescriptionAnswer file bytes report → report ≡ WrongDescription why place file
  description-due bytes (Described text) wrong h = absurd (map_or_refused reads bytes text why place h wrong)
  description-due bytes (WrongDescription other at name) wrong h =
      ap (λ w. WrongDescription w at name) (one_code reads bytes other why at place h.1 wrong) ∙ ap (λ p. WrongDescription why p name) (one_place reads bytes other why at place h.1 wrong)
      ∙ ap (WrongDescription why place) h.0
  description-due bytes Usage wrong h = absurd h
  description-due bytes (Refused other name) wrong h = absurd h
  description-due bytes (WrongTrace other line name) wrong h = absurd h
  description-due bytes (Refuted edge what trace to) wrong h = absurd h
  description-due bytes Simulated wrong h = absurd h
  description-due bytes (Agrees edges) wrong h = absurd h
  description-due bytes (Differs edge what) wrong h = absurd h
  description-due bytes (Fault store name) wrong h = absurd h

  due-gathered : (rdl : List ℕ) (got : Result (List (List ℕ)) Shortfall) (report : Report) → rdl ≡ file → IsSomeAnd (first_text got) (λ bytes. descriptions.IsRefusedAt bytes why place)
      → GatheredAnswer rdl got report → report ≡ WrongDescription why place file
  due-gathered rdl (Err short) report same wrong h = absurd wrong
  due-gathered rdl (Ok texts) report same wrong h = description-due (text_at texts 0) report wrong (subst (λ (n : List ℕ). DescriptionAnswer n (text_at texts 0) report) same h)

  due-asked : (task : Option Task) (report : Report) → option_and_then description_of task ≡ Some file → IsSomeAnd (description_in files task) (λ bytes. descriptions.IsRefusedAt bytes why place)
      → AskedAnswer files task report → report ≡ WrongDescription why place file
  due-asked None report named wrong h = cc
  due-asked (Some (tasks.Block task)) report named wrong h = cc
  due-asked (Some (tasks.Describe rdl)) report named wrong h = let same : rdl ≡ file = cc in due-gathered rdl (gathered files (description_wanted rdl)) report same wrong h

  due-command : (command : Option Command) (report : Report) → option_and_then description_of (option_and_then task_of command) ≡ Some file
      → IsSomeAnd (description_in files (option_and_then task_of command)) (λ bytes. descriptions.IsRefusedAt bytes why place) → CommandAnswer files command report → report ≡ WrongDescription why place file
  due-command None report named wrong h = cc
  due-command (Some command) report named wrong h = due-asked (task_of command) report named wrong h

-- a refusal that is due is the report
refusal-due : (law : OneReading) (reads : HasOneAnswer) (files : Files) (words : List (List ℕ)) (due report : Report) → IsRefusal files words due → Answers files words report → report ≡ due
refusal-due law reads files words (Refused NoFile file) report is answer = lacking-command files words (command_of words) report (Missing file) answer is
refusal-due law reads files words (Refused RdlSize file) report is answer = lacking-command files words (command_of words) report (Long kinds.Description file) answer is
refusal-due law reads files words (Refused PortSize file) report is answer = lacking-command files words (command_of words) report (Long kinds.Ports file) answer is
refusal-due law reads files words (Refused VlogSize file) report is answer = lacking-command files words (command_of words) report (Long kinds.Verilog file) answer is
refusal-due law reads files words (Refused TraceSize file) report is answer = lacking-command files words (command_of words) report (Long kinds.Trace file) answer is
refusal-due law reads files words (Refused NotYet file) report is answer = not-yet-due files words report file answer is
refusal-due law reads files words (WrongTrace why line file) report is answer = trace-due law files words report file why line (asked_replay files words) refl is.0 is.1 answer
refusal-due law reads files words Usage report is answer = absurd is
refusal-due law reads files words (Refuted edge what trace to) report is answer = absurd is
refusal-due law reads files words Simulated report is answer = absurd is
refusal-due law reads files words (WrongDescription why place file) report is answer = due-command reads files why place file (command_of words) report is.0 is.1 answer
refusal-due law reads files words (Described map_text) report is answer = absurd is
refusal-due law reads files words (Agrees edges) report is answer = absurd is
refusal-due law reads files words (Differs edge what) report is answer = absurd is
refusal-due law reads files words (Fault store file) report is answer = absurd is

refused-status : (files : Files) (words : List (List ℕ)) (due : Report) → IsRefusal files words due → status_of due ≡ status.Refused
refused-status files words (Refused why file) is = refl
refused-status files words (WrongTrace why line file) is = refl
refused-status files words Usage is = absurd is
refused-status files words (Refuted edge what trace to) is = absurd is
refused-status files words Simulated is = absurd is
refused-status files words (WrongDescription code place file) is = refl
refused-status files words (Described map_text) is = absurd is
refused-status files words (Agrees edges) is = absurd is
refused-status files words (Differs edge what) is = absurd is
refused-status files words (Fault store file) is = absurd is

told-map : (told : Option Files) (F G : Files → Type 0) → ((files : Files) → G files → F files) → IfSome told G → IfSome told F
told-map None F G f h = tt
told-map (Some files) F G f h = f files h

some-same : (a b : List ℕ) → ◌≡◌ {A = Option (List ℕ)} (Some a) (Some b) → a ≡ b
some-same a b is = cc

trace-small : (files : Files) (why : TraceCode) (line : ℕ) (asked : Option (Block × List ℕ)) → IsSomeAnd asked (λ a. (length a.1 ≤ TRACE_LIMIT) × IsRefusedAt a.0 a.1 why line) → line < 2 ^ 64
trace-small files why line None h = absurd h
trace-small files why line (Some asked) h = refused-small asked.0 asked.1 why line h.1

-- exactly where a refusal is due its text is put
module _ (law : OneReading) (reads : HasOneAnswer) (begins : BeginWithAddresses) (told : Option Files) (words : List (List ℕ)) (old new : Option (List ℕ)) (after : Option Files) (ended : Status)
    (answer : IfSome told (λ files. UnlessFailed ended (PutsAnswer files words old new after ended))) where
  at-told : (F : Files → Type 0) → ((files : Files) → UnlessFailed ended (PutsAnswer files words old new after ended) → F files) → IfSome told F
  at-told F f = told-map told F (λ files. UnlessFailed ended (PutsAnswer files words old new after ended)) f answer

  some-put : (put : List ℕ) (files : Files) → old ≡ Some put → (puts : PutsAnswer files words old new after ended) → new ≡ Some (put ++ text_of puts.report)
  some-put put files is puts = puts.put ∙ ap (λ o. after_put o (text_of puts.report)) is

  same-text : (put a b : List ℕ) → ◌≡◌ {A = Option (List ℕ)} (Some (put ++ a)) (Some (put ++ b)) → a ≡ b
  same-text put a b is = let whole : put ++ a ≡ put ++ b = cc in append_cancel_left put a b whole

  -- a refusal whose text tells it
  text-iff : (files : Files) (put : List ℕ) (due : Report) (P : Type 0) → old ≡ Some put → (P → IsRefusal files words due) → (IsRefusal files words due → P)
      → ((report : Report) → Answers files words report → text_of report ≡ text_of due → report ≡ due) → status_of due ≡ status.Refused
      → PutsAnswer files words old new after ended → (new ≡ Some (put ++ text_of due)) ↔ P
  text-iff files put due P is to from only refused puts = (
    λ h.
        let same = only puts.report puts.answer (same-text put (text_of puts.report) (text_of due) (sym (some-put put files is puts) ∙ h)) in
        let Q : Report → Type 0 = λ r. IsRefusal files words r in
        from (subst Q same ((facts begins files words puts.report puts.answer).refused (ap status_of same ∙ refused))),
    λ p. some-put put files is puts ∙ ap (λ r. Some (put ++ text_of r)) (refusal-due law reads files words due puts.report (to p) puts.answer),
  )

  puts-iff : (files : Files) (put : Option (List ℕ)) (due : Report) (P : Type 0) → old ≡ put → (P → IsRefusal files words due) → (IsRefusal files words due → P)
      → ((report : Report) → Answers files words report → text_of report ≡ text_of due → report ≡ due) → status_of due ≡ status.Refused
      → UnlessFailed ended (PutsAnswer files words old new after ended) → PutsIff put new ended due P
  puts-iff files None due P is to from only refused h = tt
  puts-iff files (Some put) due P is to from only refused h =
      unless-map ended (PutsAnswer files words old new after ended) ((new ≡ Some (put ++ text_of due)) ↔ P) (text-iff files put due P is to from only refused) h

  sized : (files : Files) (why : Refusal) (file : List ℕ) → (why ≡ RdlSize → description_asked words ≡ None) → UnlessFailed ended (PutsAnswer files words old new after ended) → PutsIff old new ended (Refused why file) (IsRefusal files words (Refused why file))
  sized files why file apart h = puts-iff files old (Refused why file) (IsRefusal files words (Refused why file)) refl (λ p. p) (λ p. p)
      (λ report a same. let found = facts begins files words report a in refused-text report why file found.plain (λ is. found.other (apart is)) same) refl h

  pub refusal-iff : (why : Refusal) → (why ≡ RdlSize → ⊥) → IfSome told (λ files. (file : List ℕ) → PutsIff old new ended (Refused why file) (IsRefusal files words (Refused why file)))
  refusal-iff why other = at-told (λ files. (file : List ℕ) → PutsIff old new ended (Refused why file) (IsRefusal files words (Refused why file)))
      (λ files h file. sized files why file (λ is. absurd (other is)) h)

  size-iff : (files : Files) (kind : Kind) (file : List ℕ) → (kind ≡ kinds.Description → description_asked words ≡ None) → UnlessFailed ended (PutsAnswer files words old new after ended)
      → PutsIff old new ended (Refused (size_refusal kind) file) (lacking files words ≡ Some (Long kind file))
  size-iff files kinds.Description file none h = sized files RdlSize file (λ is. none refl) h
  size-iff files kinds.Ports file none h = sized files PortSize file (λ is. cc) h
  size-iff files kinds.Verilog file none h = sized files VlogSize file (λ is. cc) h
  size-iff files kinds.Trace file none h = sized files TraceSize file (λ is. cc) h

  pub long-iff : IfSome told (λ files. (kind : Kind) (file : List ℕ) → (kind ≡ kinds.Description → description_asked words ≡ None) → PutsIff old new ended (Refused (size_refusal kind) file) (lacking files words ≡ Some (Long kind file)))
  long-iff = at-told (λ files. (kind : Kind) (file : List ℕ) → (kind ≡ kinds.Description → description_asked words ≡ None) → PutsIff old new ended (Refused (size_refusal kind) file) (lacking files words ≡ Some (Long kind file)))
      (λ files h kind file none. size-iff files kind file none h)

  own-plain : (why : TraceCode) (line : ℕ) (file : List ℕ) → why ≢ code.TraceSize → IsPlain (WrongTrace why line file)
  own-plain code.TraceLine line file other = tt
  own-plain code.TraceName line file other = tt
  own-plain code.TraceIllegal line file other = tt
  own-plain code.TraceSize line file other = absurd (other refl)

  -- a refused trace of this name
  wrong-text : (files : Files) (why : TraceCode) (line : ℕ) (file : List ℕ) → why ≢ code.TraceSize → line < 2 ^ 64 → replayed words ≡ Some file
      → (report : Report) → Answers files words report → text_of report ≡ text_of (WrongTrace why line file) → report ≡ WrongTrace why line file
  wrong-text files why line file other small named report answer same =
      let found = code-text report why file line (facts begins files words report answer).plain (own-plain why line file other) other same in
      let Q : Report → Type 0 = λ r. IsRefusal files words r in
      let refusal : IsRefusal files words (WrongTrace why found.0 found.1) = subst Q found.2 ((facts begins files words report answer).refused (ap status_of found.2)) in
      let one : found.1 ≡ file = some-same found.1 file (sym refusal.0 ∙ named) in
      let text : text_of (WrongTrace why found.0 file) ≡ text_of (WrongTrace why line file) =
      ap (λ n. text_of (WrongTrace why found.0 n)) (sym one) ∙ ap text_of (sym found.2) ∙ same in
      found.2 ∙ ap (WrongTrace why found.0) one
      ∙ ap (λ n. WrongTrace why n file) (line-is why file found.0 line (trace-small files why found.0 (asked_replay files words) refusal.1) small text)

  pub wrong-iff : IfSome told (λ files. (why : TraceCode) (line : ℕ) (file : List ℕ) → why ≢ code.TraceSize → line < 2 ^ 64 → replayed words ≡ Some file
      → PutsIff old new ended (WrongTrace why line file) (IsTraceRefused files words why line))
  wrong-iff = at-told (λ files. (why : TraceCode) (line : ℕ) (file : List ℕ) → why ≢ code.TraceSize → line < 2 ^ 64 → replayed words ≡ Some file
      → PutsIff old new ended (WrongTrace why line file) (IsTraceRefused files words why line))
      (λ files h why line file other small named. puts-iff files old (WrongTrace why line file) (IsTraceRefused files words why line) refl (λ p. (named, p)) (λ p. p.1)
      (wrong-text files why line file other small named) refl h)

  -- the status of a refusal
  report-put : (files : Files) → PutsAnswer files words old new after ended → (ended ≡ status.Refused) ↔ PutsRefusal files words old new
  report-put files puts = (
    λ said. record { report = puts.report; refusal = (facts begins files words puts.report puts.answer).refused (sym puts.said ∙ said); put = puts.put },
    λ h. puts.said ∙ ap status_of (refusal-due law reads files words h.report puts.report h.refusal puts.answer) ∙ refused-status files words h.report h.refusal,
  )

  -- a refusal that is due is put
  due-put : (files : Files) (due : Report) → IsRefusal files words due → PutsAnswer files words old new after ended → (ended ≡ status.Refused) × (new ≡ after_put old (text_of due))
  due-put files due is puts =
      let same = refusal-due law reads files words due puts.report is puts.answer in
      (puts.said ∙ ap status_of same ∙ refused-status files words due is, puts.put ∙ ap (λ r. after_put old (text_of r)) same)

  pub refusal-put : IfSome told (λ files. (due : Report) → IsRefusal files words due → UnlessFailed ended ((ended ≡ status.Refused) × (new ≡ after_put old (text_of due))))
  refusal-put = at-told (λ files. (due : Report) → IsRefusal files words due → UnlessFailed ended ((ended ≡ status.Refused) × (new ≡ after_put old (text_of due))))
      (λ files h due is. unless-map ended (PutsAnswer files words old new after ended) ((ended ≡ status.Refused) × (new ≡ after_put old (text_of due))) (due-put files due is) h)

  pub refused-report : IfSome told (λ files. UnlessFailed ended ((ended ≡ status.Refused) ↔ PutsRefusal files words old new))
  refused-report = at-told (λ files. UnlessFailed ended ((ended ≡ status.Refused) ↔ PutsRefusal files words old new))
      (λ files h. unless-map ended (PutsAnswer files words old new after ended) ((ended ≡ status.Refused) ↔ PutsRefusal files words old new) (report-put files) h)

-- status 1 of `prove` and of `replay`
no-replay-work : (does : Work) (texts : List (List ℕ)) → trace_of_work does ≡ None → replay_block does texts ≡ None
no-replay-work (work.Sample seed) texts none = refl
no-replay-work (work.Replay trace) texts none = cc

no-replay-files : (task : BlockTask) (got : Result (List (List ℕ)) Shortfall) → trace_of_work task.work ≡ None → of_texts replay_block task got ≡ None
no-replay-files task (Err short) none = refl
no-replay-files task (Ok texts) none = no-replay-work task.work texts none

pub no-replay : (files : Files) (task : Option Task) → option_and_then trace_of_task task ≡ None → of_task replay_block files task ≡ None
no-replay files None none = refl
no-replay files (Some (tasks.Block task)) none = no-replay-files task (gathered files (wanted_of task)) none
no-replay files (Some (tasks.Describe rdl)) none = refl

no-sample-work : (does : Work) (texts : List (List ℕ)) → IsSome (trace_of_work does) → sample_block does texts ≡ None
no-sample-work (work.Sample seed) texts some = cc
no-sample-work (work.Replay trace) texts some = refl

no-sample-files : (task : BlockTask) (got : Result (List (List ℕ)) Shortfall) → IsSome (trace_of_work task.work) → of_texts sample_block task got ≡ None
no-sample-files task (Err short) some = refl
no-sample-files task (Ok texts) some = no-sample-work task.work texts some

no-sample : (files : Files) (task : Option Task) → IsSome (option_and_then trace_of_task task) → of_task sample_block files task ≡ None
no-sample files None some = refl
no-sample files (Some (tasks.Block task)) some = no-sample-files task (gathered files (wanted_of task)) some
no-sample files (Some (tasks.Describe rdl)) some = refl

none-and : {A : Type 0} (o : Option A) (P : A → Type 0) → o ≡ None → IsSomeAnd o P → ⊥
none-and None P none h = h
none-and (Some a) P none h = cc

left-of : {A B C : Type 0} → (C → ⊥) → A ↔ (B ⊎ C) → A ↔ B
left-of other both = (λ a. elim (both.0 a) [ inl b ↦ b | inr c ↦ absurd (other c) ], λ b. both.1 (inl b))

right-of : {A B C : Type 0} → (B → ⊥) → A ↔ (B ⊎ C) → A ↔ C
right-of other both = (λ a. elim (both.0 a) [ inl b ↦ absurd (other b) | inr c ↦ c ], λ c. both.1 (inr c))

no-replay-differs : (files : Files) (words : List (List ℕ)) → replayed words ≡ None → ReplayDiffers files words → ⊥
no-replay-differs files words none h =
    none-and (asked_replay files words) (λ asked. (first : ℕ × Difference) × ((count : ℕ) × ReplaysTo asked.0 asked.1 (Some first) count)) (no-replay files (task_asked words) none) h

pub no-sample-differs : (files : Files) (words : List (List ℕ)) → IsSome (replayed words) → SampledDiffers files words → ⊥
no-sample-differs files words some h = none-and (asked_block files words) (λ asked. IsSome (sampled asked.0 asked.1)) (no-sample files (task_asked words) some) h

no-map-task : (files : Files) (task : Option Task) → option_and_then description_of task ≡ None → description_in files task ≡ None
no-map-task files None none = refl
no-map-task files (Some (tasks.Block task)) none = refl
no-map-task files (Some (tasks.Describe rdl)) none = cc

no-block-task : (files : Files) (task : Option Task) → IsSome (option_and_then description_of task) → of_task replay_block files task ≡ None
no-block-task files None some = refl
no-block-task files (Some (tasks.Block task)) some = cc
no-block-task files (Some (tasks.Describe rdl)) some = refl

pub no-map : (files : Files) (words : List (List ℕ)) → description_asked words ≡ None → DescriptionHasMap files words → ⊥
no-map files words none h = none-and (asked_description files words) (λ bytes. (text : List ℕ) × IsMapText bytes text) (no-map-task files (task_asked words) none) h

no-block-agrees : (files : Files) (words : List (List ℕ)) → IsSome (description_asked words) → ReplayAgrees files words → ⊥
no-block-agrees files words some h = none-and (asked_replay files words) (λ asked. (count : ℕ) × ReplaysTo asked.0 asked.1 None count) (no-block-task files (task_asked words) some) h

module _ (law : OneReading) (reads : HasOneAnswer) (told after : Option Files) (ended : Status) (words : List (List ℕ)) (old new : Option (List ℕ))
    (answer : IfSome told (λ files. UnlessFailed ended (PutsAnswer files words old new after ended))) where
  both-iff : IfSome told (λ files. UnlessFailed ended ((ended ≡ status.No) ↔ (SampledDiffers files words ⊎ ReplayDiffers files words)))
  both-iff = status-iff told ended status.No words old new after (λ files. SampledDiffers files words ⊎ ReplayDiffers files words) (differs-status law reads words) answer

  pub sampled-iff : IfSome told (λ files. replayed words ≡ None → UnlessFailed ended ((ended ≡ status.No) ↔ SampledDiffers files words))
  sampled-iff = told-map told (λ files. replayed words ≡ None → UnlessFailed ended ((ended ≡ status.No) ↔ SampledDiffers files words))
      (λ files. UnlessFailed ended ((ended ≡ status.No) ↔ (SampledDiffers files words ⊎ ReplayDiffers files words)))
      (λ files h none. unless-map ended ((ended ≡ status.No) ↔ (SampledDiffers files words ⊎ ReplayDiffers files words)) ((ended ≡ status.No) ↔ SampledDiffers files words)
      (left-of (no-replay-differs files words none)) h) both-iff

  pub replay-iff : IfSome told (λ files. IsSome (replayed words) → UnlessFailed ended ((ended ≡ status.No) ↔ ReplayDiffers files words))
  replay-iff = told-map told (λ files. IsSome (replayed words) → UnlessFailed ended ((ended ≡ status.No) ↔ ReplayDiffers files words))
      (λ files. UnlessFailed ended ((ended ≡ status.No) ↔ (SampledDiffers files words ⊎ ReplayDiffers files words)))
      (λ files h some. unless-map ended ((ended ≡ status.No) ↔ (SampledDiffers files words ⊎ ReplayDiffers files words)) ((ended ≡ status.No) ↔ ReplayDiffers files words)
      (right-of (no-sample-differs files words some)) h) both-iff

  yes-iff : IfSome told (λ files. UnlessFailed ended ((ended ≡ status.Yes) ↔ (ReplayAgrees files words ⊎ DescriptionHasMap files words)))
  yes-iff = status-iff told ended status.Yes words old new after (λ files. ReplayAgrees files words ⊎ DescriptionHasMap files words) (agrees-status law reads words) answer

  pub agrees-iff : IfSome told (λ files. description_asked words ≡ None → UnlessFailed ended ((ended ≡ status.Yes) ↔ ReplayAgrees files words))
  agrees-iff = told-map told (λ files. description_asked words ≡ None → UnlessFailed ended ((ended ≡ status.Yes) ↔ ReplayAgrees files words))
      (λ files. UnlessFailed ended ((ended ≡ status.Yes) ↔ (ReplayAgrees files words ⊎ DescriptionHasMap files words)))
      (λ files h none. unless-map ended ((ended ≡ status.Yes) ↔ (ReplayAgrees files words ⊎ DescriptionHasMap files words)) ((ended ≡ status.Yes) ↔ ReplayAgrees files words)
      (left-of (no-map files words none)) h) yes-iff

  pub map-iff : IfSome told (λ files. IsSome (description_asked words) → UnlessFailed ended ((ended ≡ status.Yes) ↔ DescriptionHasMap files words))
  map-iff = told-map told (λ files. IsSome (description_asked words) → UnlessFailed ended ((ended ≡ status.Yes) ↔ DescriptionHasMap files words))
      (λ files. UnlessFailed ended ((ended ≡ status.Yes) ↔ (ReplayAgrees files words ⊎ DescriptionHasMap files words)))
      (λ files h some. unless-map ended ((ended ≡ status.Yes) ↔ (ReplayAgrees files words ⊎ DescriptionHasMap files words)) ((ended ≡ status.Yes) ↔ DescriptionHasMap files words)
      (right-of (no-block-agrees files words some)) h) yes-iff
