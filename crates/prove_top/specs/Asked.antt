-- What words and told files ask for, where nothing refuses them.
use Rattle.std.specs.Prelude.{ℕ, Option, Some, None, Result, Ok, Err, List}
use Rattle.tool_edge.specs.Files.{Files}
use Rattle.trace_replay.specs.declared.block.Block.{Block}
use Rattle.prove_top.specs.declared.gather.Kind.{Kind}
use Rattle.prove_top.specs.declared.gather.Shortfall.{Shortfall}
use Rattle.prove_top.specs.declared.words.BlockTask.{BlockTask}
use Rattle.prove_top.specs.declared.words.Task.{Task}
use Rattle.prove_top.specs.declared.words.Task.TheVariants as tasks
use Rattle.prove_top.specs.declared.words.Work.{Work}
use Rattle.prove_top.specs.declared.words.Work.TheVariants as work
use Rattle.prove_top.specs.Answer.{block_of, description_wanted, text_at, wanted_of}
use Rattle.prove_top.specs.Gather.{gathered}
use Rattle.prove_top.specs.Words.{task_asked}

-- the block and the seed, or the block and the trace text, that words and told files give, where nothing
-- refuses them
abbrev pub with_block : {A : Type 0} → A → Result Block Kind → Option (Block × A)
with_block more (Ok block) = Some (block, more)
with_block more (Err kind) = None

abbrev pub made_of : Work → List (List ℕ) → Result Block Kind
made_of (work.Sample seed) texts = block_of (text_at texts 0) (text_at texts 1) (text_at texts 2)
made_of (work.Replay trace) texts = block_of (text_at texts 1) (text_at texts 2) (text_at texts 3)

abbrev pub sample_block : Work → List (List ℕ) → Option (Block × ℕ)
sample_block (work.Sample seed) texts = with_block seed (block_of (text_at texts 0) (text_at texts 1) (text_at texts 2))
sample_block (work.Replay trace) texts = None

abbrev pub replay_block : Work → List (List ℕ) → Option (Block × List ℕ)
replay_block (work.Sample seed) texts = None
replay_block (work.Replay trace) texts = with_block (text_at texts 0) (block_of (text_at texts 1) (text_at texts 2) (text_at texts 3))

abbrev pub of_texts : {A : Type 0} → (Work → List (List ℕ) → Option A) → BlockTask → Result (List (List ℕ)) Shortfall → Option A
of_texts f task (Ok texts) = f task.work texts
of_texts f task (Err short) = None

abbrev pub of_task : {A : Type 0} → (Work → List (List ℕ) → Option A) → Files → Option Task → Option A
of_task f files None = None
of_task f files (Some (tasks.Block task)) = of_texts f task (gathered files (wanted_of task))
of_task f files (Some (tasks.Describe rdl)) = None

abbrev pub asked_block : Files → List (List ℕ) → Option (Block × ℕ)
asked_block files words = of_task sample_block files (task_asked words)

abbrev pub asked_replay : Files → List (List ℕ) → Option (Block × List ℕ)
asked_replay files words = of_task replay_block files (task_asked words)

-- the bytes of the description that `map` is asked for
abbrev pub first_text : Result (List (List ℕ)) Shortfall → Option (List ℕ)
first_text (Ok texts) = Some (text_at texts 0)
first_text (Err short) = None

abbrev pub description_in : Files → Option Task → Option (List ℕ)
description_in files None = None
description_in files (Some (tasks.Block task)) = None
description_in files (Some (tasks.Describe rdl)) = first_text (gathered files (description_wanted rdl))

abbrev pub asked_description : Files → List (List ℕ) → Option (List ℕ)
asked_description files words = description_in files (task_asked words)
