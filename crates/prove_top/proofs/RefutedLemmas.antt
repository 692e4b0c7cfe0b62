-- The trace after the line of a difference: its run ends with that difference.
use Rattle.std.proofs.Common.{◌≡◌, ℕ, zero, suc, ◌+◌, ◌*◌, ◌^◌, ◌<◌, Bool, List, [], ◌∷◌, ◌++◌, length, take, drop, Option, Some, None, Result, Ok, Err, IfSome, IsSome, IsSomeAnd, refl, sym, ◌∙◌, ap, subst, arith, length-append, append-nil}
use Rattle.std.specs.List.{All}
use Rattle.std.specs.Option.{option_and_then}
use Rattle.std.proofs.lemmas.Nat.{pow_pos}
use Rattle.std.proofs.Math.Nat.{mod-lt}
use Rattle.std.proofs.lemmas.List.Elements.{All-nil, All-push}
use Rattle.bit_base.specs.Numbers.{number_of, sliced, low_bits}
use Rattle.bit_base.proofs.Numbers.{number_of-take}
use Rattle.tool_edge.specs.Files.{Files}
use Rattle.tool_edge.specs.Written.{after_put}
use Rattle.trace_replay.specs.declared.block.Block.{Block}
use Rattle.trace_replay.specs.declared.joint.Difference.{Difference}
use Rattle.apb_rules.specs.declared.wires.BusWires.{BusWires}
use Rattle.trace_replay.specs.Joint.{first_difference, start_of}
use Rattle.trace_replay.specs.Laws.{EndsThere, RunEndsThere}
use Rattle.trace_replay.specs.LegalTrace.{FitsPins, IsLegalTrace}
use Rattle.trace_replay.specs.Trace.{edges_from}
use Rattle.prove_top.specs.declared.gather.Kind.{Kind}
use Rattle.prove_top.specs.declared.gather.Shortfall.{Shortfall}
use Rattle.prove_top.specs.declared.report.Report.{Report}
use Rattle.prove_top.specs.declared.report.Report.TheVariants.{Refuted}
use Rattle.prove_top.specs.declared.report.Status.{Status}
use Rattle.prove_top.specs.declared.report.Status.TheVariants as status
use Rattle.prove_top.specs.declared.sampled.TheConstants.{EDGES, REGISTER_BITS, CHOICE_BITS}
use Rattle.prove_top.specs.declared.words.Command.{Command}
use Rattle.prove_top.specs.declared.words.BlockTask.{BlockTask}
use Rattle.prove_top.specs.declared.words.Task.{Task}
use Rattle.prove_top.specs.declared.words.Task.TheVariants as tasks
use Rattle.prove_top.specs.declared.words.Work.{Work}
use Rattle.prove_top.specs.declared.words.Work.TheVariants as work
use Rattle.prove_top.specs.Answer.{CommandAnswer, AskedAnswer, FilesAnswer, WorkAnswer, sample_report, block_of, run_report, difference_report, text_at, wanted_of}
use Rattle.prove_top.specs.Asked.{with_block, sample_block, of_texts, of_task, asked_block}
use Rattle.prove_top.specs.Clauses.{SampledDiffers, RefutedReplays, RefutedWritten, WritesTrace}
use Rattle.prove_top.specs.Store.{files_after}
use Rattle.prove_top.specs.Ends.{PutsAnswer, UnlessFailed}
use Rattle.prove_top.specs.Gather.{gathered}
use Rattle.prove_top.specs.Report.{file_of, refuted_line, run_trace, text_of}
use Rattle.prove_top.specs.Sampled.{choice_at, choices_to, sample_bits, sampled_register, sampled_wires, sampled, sampled_trace}
use Rattle.prove_top.specs.Words.{command_of, task_of, trace_file, trace_file_of}

-- the drawn choices fit the pins, and the drawn register its bits
taken-below : (width : ℕ) (bits : List Bool) → number_of (take width bits) < 2 ^ width
taken-below width bits = rw (number_of-take width bits) (mod-lt (number_of bits) (pow_pos width))

choice-fits : (bits : List Bool) (edge : ℕ) → FitsPins (choice_at bits edge)
unfolding choice_at
choice-fits bits edge =
    let draw : List Bool = sliced (REGISTER_BITS + CHOICE_BITS * edge) CHOICE_BITS bits in
    record { address_fits = taken-below 2 (drop 3 draw); payload_fits = taken-below 8 (drop 5 draw) }

choices-fit : (bits : List Bool) (count : ℕ) → All FitsPins (choices_to bits count)
unfolding choices_to
choices-fit bits zero = All-nil FitsPins
choices-fit bits (suc edge) = All-push FitsPins (choices_to bits edge) (choice_at bits edge) (choices-fit bits edge) (choice-fits bits edge)

choices-length : (bits : List Bool) (count : ℕ) → length (choices_to bits count) ≡ count
unfolding choices_to
choices-length bits zero = refl
choices-length bits (suc edge) = omega (arith, length-append (choices_to bits edge) (choice_at bits edge ∷ []), choices-length bits edge)

register-small : (seed : ℕ) → sampled_register seed < 256
unfolding sampled_register
register-small seed = taken-below 8 (sample_bits seed)

-- the trace of the sampled run, cut after its first difference
sampled-ends : (law : RunEndsThere) (block : Block) (seed edge : ℕ) (difference : Difference) → sampled block seed ≡ Some (edge, difference)
    → EndsThere block (low_bits 8 (sampled_register seed)) (edges_from block (start_of block (sampled_register seed)) (take (edge + 1) (sampled_wires block seed))) edge difference
unfolding sampled_wires
sampled-ends law block seed edge difference found =
    law block (sampled_register seed) (choices_to (sample_bits seed) EDGES) edge difference (register-small seed)
    (let long = choices-length (sample_bits seed) EDGES in omega (arith, long)) (choices-fit (sample_bits seed) EDGES) found

pub cut-legal : (law : RunEndsThere) (block : Block) (seed register : ℕ) (run : List BusWires) (edge : ℕ) (difference : Difference) → register ≡ sampled_register seed → run ≡ sampled_wires block seed
    → first_difference block register run ≡ Some (edge, difference)
    → IsLegalTrace block (low_bits 8 register) (edges_from block (start_of block register) (take (edge + 1) run))
cut-legal law block seed register run edge difference begins wires found =
    let P : ℕ → Type 0 = λ r. IsLegalTrace block (low_bits 8 r) (edges_from block (start_of block r) (take (edge + 1) run)) in
    let Q : List BusWires → Type 0 = λ ws. IsLegalTrace block (low_bits 8 (sampled_register seed)) (edges_from block (start_of block (sampled_register seed)) (take (edge + 1) ws)) in
    let first : sampled block seed ≡ Some (edge, difference) =
    ap (λ r. first_difference block r (sampled_wires block seed)) (sym begins) ∙ ap (first_difference block register) (sym wires) ∙ found in
    subst P (sym begins) (subst Q (sym wires) (sampled-ends law block seed edge difference first).legal)

-- the report of a sampled run
sampled-of-block : (task : BlockTask) (seed : ℕ) (made : Result Block Kind) (report : Report) (block : Block) (other : ℕ) → report ≡ sample_report task seed made
    → with_block seed made ≡ Some (block, other) → report ≡ run_report block other task.trace_file
sampled-of-block task seed (Err kind) report block other h is = cc
sampled-of-block task seed (Ok made) report block other h is =
    let pair : ◌≡◌ {A = Block × ℕ} (made, seed) (block, other) = cc in
    h ∙ ap (λ p. run_report p.0 p.1 task.trace_file) pair

sampled-of-work : (task : BlockTask) (texts : List (List ℕ)) (does : Work) (report : Report) (block : Block) (seed : ℕ) → WorkAnswer task texts does report
    → sample_block does texts ≡ Some (block, seed) → report ≡ run_report block seed task.trace_file
sampled-of-work task texts (work.Sample drawn) report block seed h is = sampled-of-block task drawn (block_of (text_at texts 0) (text_at texts 1) (text_at texts 2)) report block seed h is
sampled-of-work task texts (work.Replay trace) report block seed h is = cc

sampled-of-files : (task : BlockTask) (files : Result (List (List ℕ)) Shortfall) (report : Report) (block : Block) (seed : ℕ) → FilesAnswer task files report
    → of_texts sample_block task files ≡ Some (block, seed) → report ≡ run_report block seed task.trace_file
sampled-of-files task (Err lacks) report block seed h is = cc
sampled-of-files task (Ok texts) report block seed h is = sampled-of-work task texts task.work report block seed h is

sampled-of-asked : (files : Files) (task : Option Task) (report : Report) (block : Block) (seed : ℕ) → AskedAnswer files task report
    → of_task sample_block files task ≡ Some (block, seed) → report ≡ run_report block seed (option_and_then trace_file_of task)
sampled-of-asked files None report block seed h is = cc
sampled-of-asked files (Some (tasks.Block task)) report block seed h is = sampled-of-files task (gathered files (wanted_of task)) report block seed h is
sampled-of-asked files (Some (tasks.Describe rdl)) report block seed h is = cc

sampled-of-command : (files : Files) (command : Option Command) (report : Report) (block : Block) (seed : ℕ) → CommandAnswer files command report
    → of_task sample_block files (option_and_then task_of command) ≡ Some (block, seed)
    → report ≡ run_report block seed (option_and_then trace_file_of (option_and_then task_of command))
sampled-of-command files None report block seed h is = cc
sampled-of-command files (Some command) report block seed h is = sampled-of-asked files (task_of command) report block seed h is

-- the report of a run that has a difference
refuted-run : (block : Block) (seed edge : ℕ) (difference : Difference) (to : Option (List ℕ)) → sampled block seed ≡ Some (edge, difference)
    → run_report block seed to ≡ Refuted edge difference (sampled_trace block seed edge) to
unfolding run_report
refuted-run block seed edge difference to found = ap (difference_report block seed to) found

-- what is put then, and what is stored
at-no : (ended : Status) (P : Type 0) → ended ≡ status.No → UnlessFailed ended P → P
at-no ended P is h = let Q : Status → Type 0 = λ s. UnlessFailed s P in subst Q is h

writes : (to : Option (List ℕ)) (edge : ℕ) (difference : Difference) (trace : List ℕ) (files : Files) (after : Option Files) (old new : Option (List ℕ))
    → new ≡ after_put old (text_of (Refuted edge difference trace to)) → after ≡ files_after to trace (Some files)
    → WritesTrace to (refuted_line edge difference) trace files after old new
unfolding text_of
writes None edge difference trace files after old new put kept = (put, kept)
writes (Some name) edge difference trace files after old new put kept = (put ∙ ap (after_put old) (append-nil (refuted_line edge difference ++ 10 ∷ [])), kept)

written-as : (files : Files) (words : List (List ℕ)) (after : Option Files) (old new : Option (List ℕ)) (ended : Status) (block : Block) (seed edge : ℕ) (difference : Difference)
    → asked_block files words ≡ Some (block, seed) → sampled block seed ≡ Some (edge, difference) → PutsAnswer files words old new after ended → RefutedWritten files words after old new
written-as files words after old new ended block seed edge difference asked found puts =
    let report : puts.report ≡ Refuted edge difference (sampled_trace block seed edge) (trace_file words) =
    sampled-of-command files (command_of words) puts.report block seed puts.answer asked ∙ refuted-run block seed edge difference (trace_file words) found in
    record {
      block = block;
      seed = seed;
      asked = asked;
      edge = edge;
      difference = difference;
      first = found;
      written = writes (trace_file words) edge difference (sampled_trace block seed edge) files after old new
          (puts.put ∙ ap (λ r. after_put old (text_of r)) report) (puts.kept ∙ ap (λ r. files_after (file_of r) (run_trace r) (Some files)) report);
    }

written-found : (files : Files) (words : List (List ℕ)) (after : Option Files) (old new : Option (List ℕ)) (ended : Status) (block : Block) (seed : ℕ) (found : Option (ℕ × Difference))
    → asked_block files words ≡ Some (block, seed) → sampled block seed ≡ found → IsSome found → PutsAnswer files words old new after ended → RefutedWritten files words after old new
written-found files words after old new ended block seed None asked is some puts = cc
written-found files words after old new ended block seed (Some first) asked is some puts = written-as files words after old new ended block seed first.0 first.1 asked is puts

-- a block that was asked for, and the difference of its run
written-some : (files : Files) (words : List (List ℕ)) (after : Option Files) (old new : Option (List ℕ)) (ended : Status) (asked : Option (Block × ℕ)) → asked_block files words ≡ asked
    → IsSomeAnd asked (λ a. IsSome (sampled a.0 a.1)) → PutsAnswer files words old new after ended → RefutedWritten files words after old new
written-some files words after old new ended None is h puts = absurd h
written-some files words after old new ended (Some asked) is h puts = written-found files words after old new ended asked.0 asked.1 (sampled asked.0 asked.1) is refl h puts

pub written-put : (told after : Option Files) (ended : Status) (words : List (List ℕ)) (old new : Option (List ℕ))
    → IfSome told (λ files. UnlessFailed ended (PutsAnswer files words old new after ended))
    → IfSome told (λ files. ended ≡ status.No → SampledDiffers files words → RefutedWritten files words after old new)
written-put None after ended words old new puts = tt
written-put (Some files) after ended words old new puts = λ said differs.
    written-some files words after old new ended (asked_block files words) refl differs (at-no ended _ said puts)

-- the trace that is written replays to that difference
replays-written : (law : RunEndsThere) (files : Files) (words : List (List ℕ)) (after : Option Files) (old new : Option (List ℕ)) → RefutedWritten files words after old new → RefutedReplays files words after old new
unfolding sampled_trace
replays-written law files words after old new h = record {
  block = h.block;
  seed = h.seed;
  asked = h.asked;
  start = low_bits 8 (sampled_register h.seed);
  edges = edges_from h.block (start_of h.block (sampled_register h.seed)) (take (h.edge + 1) (sampled_wires h.block h.seed));
  edge = h.edge;
  difference = h.difference;
  ends = sampled-ends law h.block h.seed h.edge h.difference h.first;
  written = h.written;
}

pub refuted-put : (law : RunEndsThere) (told after : Option Files) (ended : Status) (words : List (List ℕ)) (old new : Option (List ℕ))
    → IfSome told (λ files. UnlessFailed ended (PutsAnswer files words old new after ended))
    → IfSome told (λ files. ended ≡ status.No → SampledDiffers files words → RefutedReplays files words after old new)
refuted-put law None after ended words old new puts = tt
refuted-put law (Some files) after ended words old new puts = λ said differs.
    replays-written law files words after old new (written-some files words after old new ended (asked_block files words) refl differs (at-no ended _ said puts))
