-- The line of a trace that is run.
use Rattle.std.proofs.Common.{◌≡◌, ◌⊎◌, inl, inr, ℕ, List, [], ◌++◌, Option, Some, None, Result, Ok, Err, IfSome, IsSome, refl, sym, ◌∙◌, ap, subst, append-nil}
use Rattle.rdl_report.specs.OneAnswer.{HasOneAnswer}
use Rattle.tool_edge.specs.Files.{Files}
use Rattle.tool_edge.specs.Written.{after_put}
use Rattle.trace_replay.specs.Laws.{OneReading}
use Rattle.trace_replay.specs.declared.block.Block.{Block}
use Rattle.trace_replay.specs.declared.joint.Difference.{Difference}
use Rattle.prove_top.specs.declared.report.Report.{Report}
use Rattle.prove_top.specs.declared.report.Report.TheVariants.{Usage, Refused, WrongTrace, WrongDescription, Described, Refuted, Simulated, Agrees, Differs, Fault}
use Rattle.prove_top.specs.declared.report.Status.{Status}
use Rattle.prove_top.specs.declared.report.Status.TheVariants as status
use Rattle.prove_top.specs.declared.gather.Shortfall.{Shortfall}
use Rattle.prove_top.specs.declared.gather.Shortfall.TheVariants.{Missing, Long}
use Rattle.prove_top.specs.declared.words.Command.{Command}
use Rattle.prove_top.specs.declared.words.Task.{Task}
use Rattle.prove_top.specs.declared.words.Task.TheVariants as tasks
use Rattle.prove_top.specs.Gather.{gathered}
use Rattle.std.specs.Option.{option_and_then}
use Rattle.prove_top.specs.Answer.{AskedAnswer, CommandAnswer, DescriptionAnswer, GatheredAnswer, Replays, ReplaysTo, description_wanted, short_report, text_at}
use Rattle.prove_top.specs.Asked.{asked_description, asked_replay, description_in, first_text}
use Rattle.prove_top.specs.Clauses.{PutsAgrees, PutsDiffers, PutsMap}
use Rattle.prove_top.specs.Ends.{PutsAnswer, UnlessFailed}
use Rattle.prove_top.specs.Refusals.{replayed}
use Rattle.prove_top.specs.Report.{status_of, text_of}
use Rattle.prove_top.specs.Words.{command_of, description_asked, description_of, task_of, task_asked}
use Rattle.prove_top.proofs.ClauseLemmas.{agrees-status, differs-status}
use Rattle.prove_top.proofs.RefusalLemmas.{no-map, no-replay, no-sample-differs, replayed-command}
use Rattle.prove_top.proofs.StoreLemmas.{some-and}

at-status : (ended : Status) (P : Type 0) → (ended ≡ status.Yes) ⊎ (ended ≡ status.No) → UnlessFailed ended P → P
at-status ended P (inl is) h = let Q : Status → Type 0 = λ s. UnlessFailed s P in subst Q is h
at-status ended P (inr is) h = let Q : Status → Type 0 = λ s. UnlessFailed s P in subst Q is h

-- the trace that was asked for has a name
name-of : (files : Files) (words : List (List ℕ)) (asked : Block × List ℕ) (named : Option (List ℕ)) → replayed words ≡ named → asked_replay files words ≡ Some asked
    → (name : List ℕ) × (replayed words ≡ Some name)
name-of files words asked None is found = let no_way : ◌≡◌ {A = Option (Block × List ℕ)} None (Some asked) = sym (no-replay files (task_asked words) is) ∙ found in cc
name-of files words asked (Some name) is found = (name, is)

module _ (files : Files) (words : List (List ℕ)) (old new : Option (List ℕ)) (block : Block) (text name : List ℕ) (asked : asked_replay files words ≡ Some (block, text)) where
  agrees-line : (report : Report) → Replays block name text report → status_of report ≡ status.Yes → new ≡ after_put old (text_of report) → PutsAgrees files words old new
  agrees-line (Agrees edges) h said put = record { block = block; text = text; asked = asked; edges = edges; run = h; put = put }
  agrees-line (Differs edge what) h said put = cc
  agrees-line (WrongTrace why line file) h said put = cc
  agrees-line (Refused why file) h said put = cc
  agrees-line Usage h said put = cc
  agrees-line (Refuted edge what trace to) h said put = cc
  agrees-line Simulated h said put = cc
  agrees-line (WrongDescription code place file) h said put = cc
  agrees-line (Described map_text) h said put = absurd h
  agrees-line (Fault store file) h said put = cc

  differs-line : (report : Report) → Replays block name text report → status_of report ≡ status.No → new ≡ after_put old (text_of report) → PutsDiffers files words old new
  differs-line (Differs edge what) h said put = record { block = block; text = text; asked = asked; edge = edge; difference = what; count = h.0; run = h.1; put = put }
  differs-line (Agrees edges) h said put = cc
  differs-line (WrongTrace why line file) h said put = cc
  differs-line (Refused why file) h said put = cc
  differs-line Usage h said put = cc
  differs-line (Refuted edge what trace to) h said put = absurd h
  differs-line Simulated h said put = cc
  differs-line (WrongDescription code place file) h said put = cc
  differs-line (Described map_text) h said put = cc
  differs-line (Fault store file) h said put = cc

module _ (law : OneReading) (reads : HasOneAnswer) (words : List (List ℕ)) (old new : Option (List ℕ)) (after : Option Files) (ended : Status) where
  agrees-puts : (files : Files) → PutsAnswer files words old new after ended → description_asked words ≡ None → ended ≡ status.Yes → PutsAgrees files words old new
  agrees-puts files puts none said =
      let yes : status_of puts.report ≡ status.Yes = sym puts.said ∙ said in
      let found = some-and (asked_replay files words) (λ a. (count : ℕ) × ReplaysTo a.0 a.1 None count) (elim ((agrees-status law reads words files puts.report puts.answer).0 yes) [ inl agrees ↦ agrees | inr map ↦ absurd (no-map files words none map) ]) in
      let named = name-of files words found.0 (replayed words) refl found.1 in
      agrees-line files words old new found.0.0 found.0.1 named.0 found.1 puts.report
      (replayed-command files words (command_of words) puts.report found.0.0 found.0.1 named.0 puts.answer found.1 named.1) yes puts.put

  differs-puts : (files : Files) → PutsAnswer files words old new after ended → IsSome (replayed words) → ended ≡ status.No → PutsDiffers files words old new
  differs-puts files puts some said =
      let other : status_of puts.report ≡ status.No = sym puts.said ∙ said in
      let found = some-and (asked_replay files words) (λ a. (first : ℕ × Difference) × ((count : ℕ) × ReplaysTo a.0 a.1 (Some first) count))
      (elim ((differs-status law reads words files puts.report puts.answer).0 other) [ inl sampled ↦ absurd (no-sample-differs files words some sampled) | inr differs ↦ differs ]) in
      let named = name-of files words found.0 (replayed words) refl found.1 in
      differs-line files words old new found.0.0 found.0.1 named.0 found.1 puts.report
      (replayed-command files words (command_of words) puts.report found.0.0 found.0.1 named.0 puts.answer found.1 named.1) other puts.put

  pub agrees-report : (told : Option Files) → IfSome told (λ files. UnlessFailed ended (PutsAnswer files words old new after ended))
      → IfSome told (λ files. ended ≡ status.Yes → description_asked words ≡ None → PutsAgrees files words old new)
  agrees-report None h = tt
  agrees-report (Some files) h = λ said none. agrees-puts files (at-status ended (PutsAnswer files words old new after ended) (inl said) h) none said

  pub differs-report : (told : Option Files) → IfSome told (λ files. UnlessFailed ended (PutsAnswer files words old new after ended))
      → IfSome told (λ files. ended ≡ status.No → IsSome (replayed words) → PutsDiffers files words old new)
  differs-report None h = tt
  differs-report (Some files) h = λ said some. differs-puts files (at-status ended (PutsAnswer files words old new after ended) (inr said) h) some said

abbrev no_name : Option (List ℕ)
no_name = None

nothing : (Q : Type 0) → IsSome no_name → Q
nothing Q some = cc

refused-yes : (Q : Type 0) → status.Refused ≡ status.Yes → Q
refused-yes Q said = cc

-- the lines of a register map are its text
described-text : (text : List ℕ) → text_of (Described text) ≡ text
unfolding text_of
described-text text = append-nil (text ++ []) ∙ append-nil text

-- the lines of the register map of the description that was asked for
module _ (files : Files) (words : List (List ℕ)) (old new : Option (List ℕ)) where
  map-line : (rdl bytes : List ℕ) (report : Report) → asked_description files words ≡ Some bytes → DescriptionAnswer rdl bytes report → status_of report ≡ status.Yes
      → new ≡ after_put old (text_of report) → PutsMap files words old new
  map-line rdl bytes (Described text) asked h said put =
      record { bytes = bytes; text = text; asked = asked; map = h; put = put ∙ ap (after_put old) (described-text text) }
  map-line rdl bytes (WrongDescription why place file) asked h said put = refused-yes (PutsMap files words old new) said
  map-line rdl bytes Usage asked h said put = absurd h
  map-line rdl bytes (Refused why file) asked h said put = absurd h
  map-line rdl bytes (WrongTrace why line file) asked h said put = absurd h
  map-line rdl bytes (Refuted edge what trace to) asked h said put = absurd h
  map-line rdl bytes Simulated asked h said put = absurd h
  map-line rdl bytes (Agrees edges) asked h said put = absurd h
  map-line rdl bytes (Differs edge what) asked h said put = absurd h
  map-line rdl bytes (Fault store file) asked h said put = absurd h

  short-yes : (short : Shortfall) (Q : Type 0) → status_of (short_report short) ≡ status.Yes → Q
  short-yes (Missing name) Q said = refused-yes Q said
  short-yes (Long kind name) Q said = refused-yes Q said

  map-gathered : (rdl : List ℕ) (got : Result (List (List ℕ)) Shortfall) (report : Report) → asked_description files words ≡ first_text got → GatheredAnswer rdl got report
      → status_of report ≡ status.Yes → new ≡ after_put old (text_of report) → PutsMap files words old new
  map-gathered rdl (Err short) report asked h said put = short-yes short (PutsMap files words old new) (sym (ap status_of h) ∙ said)
  map-gathered rdl (Ok texts) report asked h said put = map-line rdl (text_at texts 0) report asked h said put

  map-asked : (task : Option Task) (report : Report) → IsSome (option_and_then description_of task) → asked_description files words ≡ description_in files task → AskedAnswer files task report
      → status_of report ≡ status.Yes → new ≡ after_put old (text_of report) → PutsMap files words old new
  map-asked None report some asked h said put = nothing (PutsMap files words old new) some
  map-asked (Some (tasks.Block task)) report some asked h said put = nothing (PutsMap files words old new) some
  map-asked (Some (tasks.Describe rdl)) report some asked h said put = map-gathered rdl (gathered files (description_wanted rdl)) report asked h said put

  map-command : (command : Option Command) (report : Report) → IsSome (option_and_then description_of (option_and_then task_of command))
      → asked_description files words ≡ description_in files (option_and_then task_of command) → CommandAnswer files command report
      → status_of report ≡ status.Yes → new ≡ after_put old (text_of report) → PutsMap files words old new
  map-command None report some asked h said put = nothing (PutsMap files words old new) some
  map-command (Some command) report some asked h said put = map-asked (task_of command) report some asked h said put

  map-puts : (after : Option Files) (ended : Status) → PutsAnswer files words old new after ended → IsSome (description_asked words) → ended ≡ status.Yes → PutsMap files words old new
  map-puts after ended puts some said = map-command (command_of words) puts.report some refl puts.answer (sym puts.said ∙ said) puts.put

pub map-report : (words : List (List ℕ)) (old new : Option (List ℕ)) (after : Option Files) (ended : Status) (told : Option Files)
    → IfSome told (λ files. UnlessFailed ended (PutsAnswer files words old new after ended))
    → IfSome told (λ files. ended ≡ status.Yes → IsSome (description_asked words) → PutsMap files words old new)
map-report words old new after ended None h = tt
map-report words old new after ended (Some files) h = λ said some. map-puts files words old new after ended (at-status ended (PutsAnswer files words old new after ended) (inl said) h) some said
