-- The store of the trace of a difference.
use Rattle.std.specs.Prelude.{◌≡◌, ◌⊎◌, ℕ, true, Option, Some, None, Result, Ok, Err, List, ◌++◌}
use Rattle.tool_edge.specs.Calls.{one_call, after_calls}
use Rattle.tool_edge.specs.Files.{Files, PartlyStored, with_told_file}
use Rattle.tool_edge.specs.declared.depot.DepotCall.{DepotCall}
use Rattle.tool_edge.specs.declared.depot.DepotAnswer.{DepotAnswer}
use Rattle.tool_edge.specs.declared.depot.DepotAnswer.TheVariants as answered
use Rattle.trace_replay.specs.declared.block.Block.{Block}
use Rattle.trace_replay.specs.declared.joint.Difference.{Difference}
use Rattle.prove_top.specs.declared.report.Report.{Report}
use Rattle.prove_top.specs.declared.report.Report.TheVariants.{Fault}
use Rattle.prove_top.specs.Answer.{Answers, names_asked}
use Rattle.prove_top.specs.Asked.{asked_block}
use Rattle.prove_top.specs.Reads.{NoStores, whole_reads}
use Rattle.prove_top.specs.Report.{file_of, run_trace}
use Rattle.prove_top.specs.Sampled.{sampled, sampled_trace}
use Rattle.prove_top.specs.Words.{trace_file}

-- the sampled run has a difference, and the text of its trace is to be stored under the name of `--trace`
pub record TraceDue (files : Files) (words : List (List ℕ)) (name text : List ℕ) : Type 0 where
  pub asked : trace_file words ≡ Some name
  pub block : Block
  pub seed : ℕ
  pub of : asked_block files words ≡ Some (block, seed)
  pub edge : ℕ
  pub difference : Difference
  pub first : sampled block seed ≡ Some (edge, difference)
  pub trace : text ≡ sampled_trace block seed edge

-- how a store ended: the file has the bytes; or it failed, and the file may have a part of them
abbrev pub StoreKept : DepotAnswer → Option Files → List ℕ → List ℕ → Option Files → Type 0
StoreKept answered.Stored told name text after = after ≡ with_told_file told name text
StoreKept answered.Failed told name text after = PartlyStored told name text after
StoreKept answered.Whole told name text after = ⊥
StoreKept answered.Long told name text after = ⊥
StoreKept answered.Missing told name text after = ⊥

-- after a whole read of each name the trace that is due is stored, or its store failed
pub record StoresTrace (told : Option Files) (words : List (List ℕ)) (added : List DepotCall) (after : Option Files) : Type 0 where
  pub name : List ℕ
  pub text : List ℕ
  pub answer : DepotAnswer
  pub asked : trace_file words ≡ Some name
  pub due : (files : Files) → told ≡ Some files → TraceDue files words name text
  pub last : added ≡ whole_reads (names_asked words) ++ one_call name true answer
  pub kept : StoreKept answer told name text after

-- nothing is stored, or the trace
abbrev pub Kept : Option Files → List (List ℕ) → List DepotCall → Option Files → Type 0
Kept told words added after = (NoStores added × (after ≡ told)) ⊎ StoresTrace told words added after

-- the files after a report: its trace is in the file that it has for it
abbrev pub files_after : Option (List ℕ) → List ℕ → Option Files → Option Files
files_after None text told = told
files_after (Some name) text told = with_told_file told name text

-- the report that words and told files give, and the files after it
pub record Settles (files : Files) (words : List (List ℕ)) (report : Report) (after : Option Files) : Type 0 where
  pub answer : Answers files words report
  pub kept : after ≡ files_after (file_of report) (run_trace report) (Some files)

-- one store of a file: it was whole, and the report stands; or it failed, and the report is about that
pub record WholeStore (name text : List ℕ) (report said : Report) (before after : Option Files) (calls_before calls_after : Option (List DepotCall)) : Type 0 where
  pub stands : said ≡ report
  pub files : after ≡ with_told_file before name text
  pub calls : calls_after ≡ after_calls calls_before (one_call name true answered.Stored)

pub record FailedStore (name text : List ℕ) (said : Report) (before after : Option Files) (calls_before calls_after : Option (List DepotCall)) : Type 0 where
  pub failure : said ≡ Fault true name
  pub files : PartlyStored before name text after
  pub calls : calls_after ≡ after_calls calls_before (one_call name true answered.Failed)

abbrev pub StoreStep : {E : Type 0} → Option (List ℕ) → List ℕ → Report → Result Report E → Option Files → Option Files → Option (List DepotCall) → Option (List DepotCall) → Type 0
StoreStep None text report result before after calls_before calls_after = (result ≡ Ok report) × (after ≡ before) × (calls_after ≡ calls_before)
StoreStep (Some name) text report (Ok said) before after calls_before calls_after =
    WholeStore name text report said before after calls_before calls_after ⊎ FailedStore name text said before after calls_before calls_after
StoreStep (Some name) text report (Err e) before after calls_before calls_after = (after ≡ before) × (calls_after ≡ calls_before)
