-- The calls of a depot: reads of the names in their order, none skipped, up to one that isn't whole, and
-- then a store.
use Rattle.std.specs.Prelude.{◌≡◌, ℕ, Bool, true, false, Option, Some, None, Result, Ok, Err, List, [], ◌∷◌, ⊤}
use Rattle.tool_edge.specs.Calls.{one_call, after_calls}
use Rattle.tool_edge.specs.declared.depot.DepotCall.{DepotCall}
use Rattle.tool_edge.specs.declared.depot.DepotAnswer.{DepotAnswer}
use Rattle.tool_edge.specs.declared.depot.DepotAnswer.TheVariants as answered
use Rattle.prove_top.specs.declared.gather.Shortfall.{Shortfall}
use Rattle.prove_top.specs.declared.gather.Shortfall.TheVariants as short
use Rattle.prove_top.specs.declared.gather.Halt.{Halt}
use Rattle.prove_top.specs.declared.gather.Halt.TheVariants as halt

-- after an answer: more calls where it was whole, else none
abbrev pub GoesOn : DepotAnswer → Type 0 → Type 0 → Type 0
GoesOn answered.Whole more none = more
GoesOn answered.Long more none = none
GoesOn answered.Missing more none = none
GoesOn answered.Stored more none = none
GoesOn answered.Failed more none = none

abbrev pub AreReads : List (List ℕ) → List DepotCall → Type 0
AreReads names [] = ⊤
AreReads [] (call ∷ calls) = ⊥
AreReads (name ∷ names) (call ∷ calls) =
    (call.name ≡ name) × (call.store ≡ false) × GoesOn call.answer (AreReads names calls) (calls ≡ [])

-- the reads of these names, each whole
abbrev pub whole_reads : List (List ℕ) → List DepotCall
whole_reads [] = []
whole_reads (name ∷ names) = record { name = name; store = false; answer = answered.Whole } ∷ whole_reads names

-- the same reads, and after a whole read of each name at most one store, of this name
abbrev pub AreCalls : List (List ℕ) → Option (List ℕ) → List DepotCall → Type 0
AreCalls names to [] = ⊤
AreCalls [] to (call ∷ calls) = (to ≡ Some call.name) × (call.store ≡ true) × (calls ≡ [])
AreCalls (name ∷ names) to (call ∷ calls) =
    (call.name ≡ name) × (call.store ≡ false) × GoesOn call.answer (AreCalls names to calls) (calls ≡ [])

-- no call is a store
abbrev pub NoStores : List DepotCall → Type 0
NoStores [] = ⊤
NoStores (call ∷ calls) = (call.store ≡ false) × NoStores calls

-- the call that failed: whether it was a store, and its name
abbrev pub failed_call : DepotAnswer → Bool × List ℕ → Option (Bool × List ℕ) → Option (Bool × List ℕ)
failed_call answered.Failed call more = Some call
failed_call answered.Whole call more = more
failed_call answered.Long call more = more
failed_call answered.Missing call more = more
failed_call answered.Stored call more = more

abbrev pub failed_of : List DepotCall → Option (Bool × List ℕ)
failed_of [] = None
failed_of (call ∷ calls) = failed_call call.answer (call.store, call.name) (failed_of calls)

-- what was added to a told list, told or not: such reads, of which P holds
pub record ReadsOnly (names : List (List ℕ)) (before after : Option (List DepotCall)) (P : List DepotCall → Type 0) : Type 0 where
  pub added : List DepotCall
  pub told : after ≡ after_calls before added
  pub reads : AreReads names added
  pub ends : P added

-- what was added to a told list, told or not: such calls, of which P holds
pub record Called (names : List (List ℕ)) (to : Option (List ℕ)) (before after : Option (List DepotCall)) (P : List DepotCall → Type 0) : Type 0 where
  pub added : List DepotCall
  pub told : after ≡ after_calls before added
  pub calls : AreCalls names to added
  pub ends : P added

-- how the reads of these names ended: each whole, or which failed, if one did
abbrev pub FailedBy : Halt → Option (Bool × List ℕ) → Type 0
FailedBy (halt.Failed name) failed = failed ≡ Some (false, name)
FailedBy (halt.Short shortfall) failed = failed ≡ None
FailedBy halt.NoMemory failed = ⊤

abbrev pub HaltedBy : {A : Type 0} → List (List ℕ) → Result A Halt → List DepotCall → Type 0
HaltedBy names (Ok files) added = added ≡ whole_reads names
HaltedBy names (Err why) added = FailedBy why (failed_of added)

-- the one entry of a read of this name
abbrev pub ShortEntry : List ℕ → Shortfall → List DepotCall → Type 0
ShortEntry name (short.Missing which) added = added ≡ one_call name false answered.Missing
ShortEntry name (short.Long kind which) added = added ≡ one_call name false answered.Long

abbrev pub HasEntry : {A : Type 0} → List ℕ → Result A Halt → List DepotCall → Type 0
HasEntry name (Ok bytes) added = added ≡ one_call name false answered.Whole
HasEntry name (Err (halt.Failed which)) added = (which ≡ name) × (added ≡ one_call name false answered.Failed)
HasEntry name (Err (halt.Short shortfall)) added = ShortEntry name shortfall added
HasEntry name (Err halt.NoMemory) added = AreReads (name ∷ []) added
