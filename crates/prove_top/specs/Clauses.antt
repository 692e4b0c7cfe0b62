-- The words of the top call's clauses.
use Rattle.std.specs.Prelude.{◌≡◌, ◌≢◌, ℕ, Bool, true, IfSome, Option, Some, None, List, [], ◌∷◌, ◌++◌, ◌⊎◌, ⊤, IsSome, IsSomeAnd}
use Rattle.tool_edge.specs.Causes.{Rose}
use Rattle.tool_edge.specs.Files.{Files, PartlyStored, with_told_file}
use Rattle.tool_edge.specs.Calls.{after_calls}
use Rattle.tool_edge.specs.Written.{after_put, AppendsPart}
use Rattle.tool_edge.specs.declared.depot.DepotCall.{DepotCall}
use Rattle.tool_edge.specs.declared.depot.DepotAnswer.TheVariants as answered
use Rattle.rdl_report.specs.Described.{IsMapText}
use Rattle.trace_replay.specs.declared.block.Block.{Block}
use Rattle.prove_top.specs.declared.report.Report.{Report}
use Rattle.prove_top.specs.declared.report.Report.TheVariants.{Agrees, Differs, Fault}
use Rattle.prove_top.specs.declared.report.Status.{Status}
use Rattle.prove_top.specs.declared.report.Status.TheVariants as status
use Rattle.prove_top.specs.declared.report.TheConstants.{MEMORY_LINE}
use Rattle.prove_top.specs.Answer.{ReplaysTo}
use Rattle.prove_top.specs.Ends.{MayReport}
use Rattle.prove_top.specs.Reads.{whole_reads}
use Rattle.trace_replay.specs.declared.joint.Difference.{Difference}
use Rattle.trace_replay.specs.Laws.{EndsThere}
use Rattle.trace_replay.specs.TraceText.{trace_text}
use Rattle.prove_top.specs.Report.{text_of, refuted_line}
use Rattle.prove_top.specs.Sampled.{sampled, sampled_trace}
use Rattle.prove_top.specs.Words.{trace_file}
use Rattle.prove_top.specs.Asked.{asked_block, asked_description, asked_replay}
use Rattle.prove_top.specs.Store.{TraceDue}

-- what was added to a told list of calls, of which P holds
pub record Added (before after : Option (List DepotCall)) (P : List DepotCall → Type 0) : Type 0 where
  pub added : List DepotCall
  pub told : after ≡ after_calls before added
  pub holds : P added

-- each call but the last was whole
abbrev pub WholeButTheLast : List DepotCall → Type 0
WholeButTheLast [] = ⊤
WholeButTheLast (call ∷ []) = ⊤
WholeButTheLast (call ∷ next ∷ calls) = (call.answer ≡ answered.Whole) × WholeButTheLast (next ∷ calls)

-- after a store nothing is called, and before it come whole reads of these names alone
abbrev pub StoreAfterReads : List (List ℕ) → List DepotCall → Type 0
StoreAfterReads names added = (front back : List DepotCall) (call : DepotCall) → added ≡ front ++ call ∷ back → call.store ≡ true
    → (front ≡ whole_reads names) × (back ≡ [])

-- each name but this one has what it had
abbrev pub OthersKept : Option (List ℕ) → Option Files → Option Files → Type 0
OthersKept name old new = IfSome old (λ files. IfSome new (λ after. (other : List ℕ) → name ≢ Some other → after other ≡ files other))

-- the files are as before, or the one that is due is whole; or its store failed, and it has a part of the trace
pub record FileDue (files : Files) (words : List (List ℕ)) (failed : Option (Bool × List ℕ)) (after : Option Files) : Type 0 where
  pub name : List ℕ
  pub text : List ℕ
  pub due : TraceDue files words name text
  pub kept : (after ≡ with_told_file (Some files) name text) ⊎ ((failed ≡ Some (true, name)) × PartlyStored (Some files) name text after)

abbrev pub FilesEnd : Files → List (List ℕ) → Option (Bool × List ℕ) → Option Files → Type 0
FilesEnd files words failed after = (after ≡ Some files) ⊎ FileDue files words failed after

-- a line, and where the trace text goes: into the file of this name, where there is one, else after the line
abbrev pub WritesTrace : Option (List ℕ) → List ℕ → List ℕ → Files → Option Files → Option (List ℕ) → Option (List ℕ) → Type 0
WritesTrace None line trace files after old new = (new ≡ after_put old (line ++ 10 ∷ [] ++ trace)) × (after ≡ Some files)
WritesTrace (Some name) line trace files after old new = (new ≡ after_put old (line ++ 10 ∷ [])) × (after ≡ with_told_file (Some files) name trace)

abbrev pub IsFaultOrMemory : Status → Type 0
IsFaultOrMemory ended = (ended ≡ status.Fault) ⊎ (ended ≡ status.NoMemory)

-- a part of a report that the command may give is put
pub record PutsPart (told : Option Files) (words : List (List ℕ)) (failed : Option (Bool × List ℕ)) (old new : Option (List ℕ)) : Type 0 where
  pub report : Report
  pub may : MayReport told words failed report
  pub part : AppendsPart old (text_of report) new

-- the line of a failed read or store is put, or a part of it after a put that failed
abbrev pub PutsFault : Bool → List ℕ → Option (List ℕ) → Option (List ℕ) → ℕ → ℕ → Type 0
PutsFault store name old new before now =
    (new ≡ after_put old (text_of (Fault store name))) ⊎ (Rose before now × AppendsPart old (text_of (Fault store name)) new)

-- a part of a report that the command may give is put, if any, and then a part of the line of want of memory
pub record PutsPartThenMemory (told : Option Files) (words : List (List ℕ)) (failed : Option (Bool × List ℕ)) (old new : Option (List ℕ)) : Type 0 where
  pub middle : Option (List ℕ)
  pub first : PutsPart told words failed old middle ⊎ (middle ≡ old)
  pub last : AppendsPart middle MEMORY_LINE.now new

-- their sampled run has a difference, or has none
abbrev pub SampledDiffers : Files → List (List ℕ) → Type 0
SampledDiffers files words = IsSomeAnd (asked_block files words) (λ asked. IsSome (sampled asked.0 asked.1))

abbrev pub SampledAgrees : Files → List (List ℕ) → Type 0
SampledAgrees files words = IsSomeAnd (asked_block files words) (λ asked. sampled asked.0 asked.1 ≡ None)

-- the text is that of a legal trace of the block, whose run has a difference, or has none
abbrev pub ReplayDiffers : Files → List (List ℕ) → Type 0
ReplayDiffers files words = IsSomeAnd (asked_replay files words) (λ asked. (first : ℕ × Difference) × ((count : ℕ) × ReplaysTo asked.0 asked.1 (Some first) count))

abbrev pub ReplayAgrees : Files → List (List ℕ) → Type 0
ReplayAgrees files words = IsSomeAnd (asked_replay files words) (λ asked. (count : ℕ) × ReplaysTo asked.0 asked.1 None count)

-- the description has a register map
abbrev pub DescriptionHasMap : Files → List (List ℕ) → Type 0
DescriptionHasMap files words = IsSomeAnd (asked_description files words) (λ bytes. (text : List ℕ) × IsMapText bytes text)

-- the line of the sampled run's difference is put, and its trace, cut after that edge, is written
pub record RefutedWritten (files : Files) (words : List (List ℕ)) (after : Option Files) (old new : Option (List ℕ)) : Type 0 where
  pub block : Block
  pub seed : ℕ
  pub asked : asked_block files words ≡ Some (block, seed)
  pub edge : ℕ
  pub difference : Difference
  pub first : sampled block seed ≡ Some (edge, difference)
  pub written : WritesTrace (trace_file words) (refuted_line edge difference) (sampled_trace block seed edge) files after old new

-- what is written is the text of a legal trace of the block that words and told files give, whose run has
-- its first difference, that of the line, at its last edge
pub record RefutedReplays (files : Files) (words : List (List ℕ)) (after : Option Files) (old new : Option (List ℕ)) : Type 0 where
  pub block : Block
  pub seed : ℕ
  pub asked : asked_block files words ≡ Some (block, seed)
  pub start : List Bool
  pub edges : List (List Bool)
  pub edge : ℕ
  pub difference : Difference
  pub ends : EndsThere block start edges edge difference
  pub written : WritesTrace (trace_file words) (refuted_line edge difference) (trace_text start edges) files after old new

-- the line of a trace's run is put: that of its first difference, or how many edges it has where it has none
pub record PutsDiffers (files : Files) (words : List (List ℕ)) (old new : Option (List ℕ)) : Type 0 where
  pub block : Block
  pub text : List ℕ
  pub asked : asked_replay files words ≡ Some (block, text)
  pub edge : ℕ
  pub difference : Difference
  pub count : ℕ
  pub run : ReplaysTo block text (Some (edge, difference)) count
  pub put : new ≡ after_put old (text_of (Differs edge difference))

pub record PutsAgrees (files : Files) (words : List (List ℕ)) (old new : Option (List ℕ)) : Type 0 where
  pub block : Block
  pub text : List ℕ
  pub asked : asked_replay files words ≡ Some (block, text)
  pub edges : ℕ
  pub run : ReplaysTo block text None edges
  pub put : new ≡ after_put old (text_of (Agrees edges))

-- the lines of the register map of the description are put
pub record PutsMap (files : Files) (words : List (List ℕ)) (old new : Option (List ℕ)) : Type 0 where
  pub bytes : List ℕ
  pub text : List ℕ
  pub asked : asked_description files words ≡ Some bytes
  pub map : IsMapText bytes text
  pub put : new ≡ after_put old text
