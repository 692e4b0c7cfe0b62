-- One more file, and the end: what the files gathered so far and the calls so far come to.
use Rattle.std.proofs.Common.{◌≡◌, ℕ, ◌+◌, ◌<◌, ◌≤◌, Bool, false, List, [], ◌∷◌, ◌++◌, length, take, drop, get_or, Option, Some, None, Result, Ok, Err, IfSome, refl, sym, ◌∙◌, ap, subst, add-one, append_assoc, take-append-drop, Vec, Global}
use Rattle.std.proofs.Math.Seq.{drop-cons, take-suc}
use Rattle.std.proofs.lemmas.List.{map-append, take_all}
use Rattle.tool_edge.specs.Files.{Files}
use Rattle.tool_edge.specs.Calls.{one_call, after_calls}
use Rattle.tool_edge.specs.declared.depot.DepotCall.{DepotCall}
use Rattle.tool_edge.specs.declared.depot.DepotAnswer.{DepotAnswer}
use Rattle.tool_edge.specs.declared.depot.DepotAnswer.TheVariants as answered
use Rattle.prove_top.specs.declared.gather.Wanted.{Wanted}
use Rattle.prove_top.specs.declared.gather.Shortfall.{Shortfall}
use Rattle.prove_top.specs.declared.gather.Shortfall.TheVariants as short
use Rattle.prove_top.specs.declared.gather.Halt.{Halt}
use Rattle.prove_top.specs.declared.gather.Halt.TheVariants as halt
use Rattle.prove_top.specs.Gather.{names_of, fetched_one, gather_more, gathered, contents, IfShort}
use Rattle.prove_top.specs.Reads.{AreReads, GoesOn, failed_of, FailedBy, HaltedBy, HasEntry, ReadsOnly, whole_reads}

-- files in front of those gathered
abbrev pub prepended : List (List ℕ) → Result (List (List ℕ)) Shortfall → Result (List (List ℕ)) Shortfall
prepended front (Ok files) = Ok (front ++ files)
prepended front (Err shortfall) = Err shortfall

prepended-more : (front : List (List ℕ)) (bytes : List ℕ) (rest : Result (List (List ℕ)) Shortfall)
    → prepended front (gather_more (Ok bytes) rest) ≡ prepended (front ++ bytes ∷ []) rest
prepended-more front bytes (Ok files) = ap Ok (sym (append_assoc front (bytes ∷ []) files))
prepended-more front bytes (Err shortfall) = refl

gathered-drop : (files : Files) (wanted : List Wanted) (i : ℕ) (want : Wanted) → i < length wanted → want ≡ get_or wanted i want
    → gathered files (drop i wanted) ≡ gather_more (fetched_one want (files want.name)) (gathered files (drop (i + 1) wanted))
gathered-drop files wanted i want below is = rw (add-one i, drop-cons wanted i want below, ← is) refl

pub answer-step : (told : Option Files) (wanted : List Wanted) (i : ℕ) (want : Wanted) (front : List (Vec ℕ Global)) (bytes : Vec ℕ Global)
    → i < length wanted → want ≡ get_or wanted i want
    → IfSome told (λ files. gathered files wanted ≡ prepended (contents front) (gathered files (drop i wanted)))
    → IfSome told (λ files. fetched_one want (files want.name) ≡ Ok bytes.items)
    → IfSome told (λ files. gathered files wanted ≡ prepended (contents (front ++ bytes ∷ [])) (gathered files (drop (i + 1) wanted)))
answer-step None wanted i want front bytes below is so_far one = so_far
answer-step (Some files) wanted i want front bytes below is so_far one =
    so_far ∙ ap (prepended (contents front)) (gathered-drop files wanted i want below is ∙ ap (λ r. gather_more r (gathered files (drop (i + 1) wanted))) one)
    ∙ prepended-more (contents front) bytes.items (gathered files (drop (i + 1) wanted))
    ∙ ap (λ before. prepended before (gathered files (drop (i + 1) wanted))) (sym (map-append (λ v. v.items) front (bytes ∷ [])))

pub answer-short : (told : Option Files) (wanted : List Wanted) (i : ℕ) (want : Wanted) (front : List (Vec ℕ Global)) (why : Halt)
    → i < length wanted → want ≡ get_or wanted i want
    → IfSome told (λ files. gathered files wanted ≡ prepended (contents front) (gathered files (drop i wanted)))
    → IfSome told (λ files. IfShort why (λ shortfall. fetched_one want (files want.name) ≡ Err shortfall))
    → IfSome told (λ files. IfShort why (λ shortfall. gathered files wanted ≡ Err shortfall))
answer-short None wanted i want front why below is so_far one = so_far
answer-short (Some files) wanted i want front (halt.Failed name) below is so_far one = one
answer-short (Some files) wanted i want front halt.NoMemory below is so_far one = one
answer-short (Some files) wanted i want front (halt.Short shortfall) below is so_far one =
    so_far ∙ ap (prepended (contents front)) (gathered-drop files wanted i want below is ∙ ap (λ r. gather_more r (gathered files (drop (i + 1) wanted))) one)

-- the names before, at and after a place
names_of-parts : (wanted : List Wanted) (i : ℕ) (want : Wanted) → i < length wanted → want ≡ get_or wanted i want
    → names_of wanted ≡ names_of (take i wanted) ++ (want.name ∷ names_of (drop (i + 1) wanted))
names_of-parts wanted i want below is =
    ap names_of (sym (take-append-drop i wanted)) ∙ map-append (λ w. w.name) (take i wanted) (drop i wanted)
    ∙ ap (λ rest. names_of (take i wanted) ++ names_of rest)
    (rw (add-one i) (drop-cons wanted i want below) ∙ ap (λ w. w ∷ drop (i + 1) wanted) (sym is))

last_read : (name : List ℕ) (back : List (List ℕ)) (answer : DepotAnswer) (rest : List DepotCall)
    → GoesOn answer (AreReads [] rest) (rest ≡ []) → GoesOn answer (AreReads back rest) (rest ≡ [])
last_read name back answered.Whole [] goes = tt
last_read name back answered.Whole (call ∷ rest) goes = absurd goes
last_read name back answered.Long rest goes = goes
last_read name back answered.Missing rest goes = goes
last_read name back answered.Stored rest goes = goes
last_read name back answered.Failed rest goes = goes

reads_on : (front : List (List ℕ)) (name : List ℕ) (back : List (List ℕ)) (calls : List DepotCall)
    → AreReads (name ∷ []) calls → AreReads (front ++ (name ∷ back)) (whole_reads front ++ calls)
reads_on [] name back [] reads = tt
reads_on [] name back (call ∷ calls) reads = (reads.0, reads.1, last_read name back call.answer calls reads.2)
reads_on (first ∷ front) name back calls reads = (refl, refl, reads_on front name back calls reads)

pub reads_after : (wanted : List Wanted) (i : ℕ) (want : Wanted) (calls : List DepotCall) → i < length wanted → want ≡ get_or wanted i want
    → AreReads (want.name ∷ []) calls → AreReads (names_of wanted) (whole_reads (names_of (take i wanted)) ++ calls)
reads_after wanted i want calls below is reads =
    let P : List (List ℕ) → Type 0 = λ names. AreReads names (whole_reads (names_of (take i wanted)) ++ calls) in
    subst P (sym (names_of-parts wanted i want below is)) (reads_on (names_of (take i wanted)) want.name (names_of (drop (i + 1) wanted)) calls reads)

-- reads that were all whole are the reads of their names
pub reads_whole : (front back : List (List ℕ)) → AreReads (front ++ back) (whole_reads front)
reads_whole [] back = tt
reads_whole (name ∷ front) back = (refl, refl, reads_whole front back)

pub failed-whole : (names : List (List ℕ)) (calls : List DepotCall) → failed_of (whole_reads names ++ calls) ≡ failed_of calls
failed-whole [] calls = refl
failed-whole (name ∷ names) calls = failed-whole names calls

whole_reads-append : (a b : List (List ℕ)) → whole_reads (a ++ b) ≡ whole_reads a ++ whole_reads b
whole_reads-append [] b = refl
whole_reads-append (name ∷ a) b = ap (λ calls. record { name = name; store = false; answer = answered.Whole } ∷ calls) (whole_reads-append a b)

pub after_calls-twice : (told : Option (List DepotCall)) (a b : List DepotCall) → after_calls (after_calls told a) b ≡ after_calls told (a ++ b)
after_calls-twice None a b = refl
after_calls-twice (Some calls) a b = ap Some (append_assoc calls a b)

-- the calls after one more whole read
pub whole_reads-step : (wanted : List Wanted) (i : ℕ) (want : Wanted) → i < length wanted → want ≡ get_or wanted i want
    → whole_reads (names_of (take (i + 1) wanted)) ≡ whole_reads (names_of (take i wanted)) ++ one_call want.name false answered.Whole
whole_reads-step wanted i want below is =
    ap (λ front. whole_reads (names_of front)) (rw (add-one i) (take-suc wanted i want below) ∙ ap (λ w. take i wanted ++ w ∷ []) (sym is))
    ∙ ap whole_reads (map-append (λ w. w.name) (take i wanted) (want ∷ []))
    ∙ whole_reads-append (names_of (take i wanted)) (want.name ∷ [])

-- what the entry of one read that halted tells
pub entry-reads : (name : List ℕ) (why : Halt) (calls : List DepotCall) → HasEntry {A = Vec ℕ Global} name (Err why) calls → AreReads (name ∷ []) calls
entry-reads name (halt.Failed which) calls entry = let P : List DepotCall → Type 0 = λ cs. AreReads (name ∷ []) cs in subst P (sym entry.1) (refl, refl, refl)
entry-reads name (halt.Short (short.Missing which)) calls entry = let P : List DepotCall → Type 0 = λ cs. AreReads (name ∷ []) cs in subst P (sym entry) (refl, refl, refl)
entry-reads name (halt.Short (short.Long kind which)) calls entry = let P : List DepotCall → Type 0 = λ cs. AreReads (name ∷ []) cs in subst P (sym entry) (refl, refl, refl)
entry-reads name halt.NoMemory calls entry = entry

pub entry-halted : (name : List ℕ) (why : Halt) (calls : List DepotCall) → HasEntry {A = Vec ℕ Global} name (Err why) calls → FailedBy why (failed_of calls)
entry-halted name (halt.Failed which) calls entry = ap failed_of entry.1 ∙ ap (λ n. Some (false, n)) (sym entry.0)
entry-halted name (halt.Short (short.Missing which)) calls entry = ap failed_of entry
entry-halted name (halt.Short (short.Long kind which)) calls entry = ap failed_of entry
entry-halted name halt.NoMemory calls entry = tt

-- all that was called where one read halts after others that were whole
pub reads-halted : (A : Type 0) (before middle after : Option (List DepotCall)) (wanted : List Wanted) (i : ℕ) (want : Wanted) (why : Halt)
    → i < length wanted → want ≡ get_or wanted i want
    → middle ≡ after_calls before (whole_reads (names_of (take i wanted)))
    → ReadsOnly (want.name ∷ []) middle after (HasEntry {A = Vec ℕ Global} want.name (Err why))
    → ReadsOnly (names_of wanted) before after (HaltedBy {A = A} (names_of wanted) (Err why))
reads-halted A before middle after wanted i want why below is so_far one =
    let front = whole_reads (names_of (take i wanted)) in
    let P : Option (Bool × List ℕ) → Type 0 = λ failed. FailedBy why failed in
    record {
      added = front ++ one.added;
      told = one.told ∙ ap (λ told. after_calls told one.added) so_far ∙ after_calls-twice before front one.added;
      reads = reads_after wanted i want one.added below is (entry-reads want.name why one.added one.ends);
      ends = subst P (sym (failed-whole (names_of (take i wanted)) one.added)) (entry-halted want.name why one.added one.ends);
    }

-- the calls after one more file
pub calls-step : (before middle after : Option (List DepotCall)) (wanted : List Wanted) (i : ℕ) (want : Wanted) (bytes : Vec ℕ Global)
    → i < length wanted → want ≡ get_or wanted i want
    → middle ≡ after_calls before (whole_reads (names_of (take i wanted)))
    → ReadsOnly (want.name ∷ []) middle after (HasEntry {A = Vec ℕ Global} want.name (Ok bytes))
    → after ≡ after_calls before (whole_reads (names_of (take (i + 1) wanted)))
calls-step before middle after wanted i want bytes below is so_far one =
    one.told ∙ ap (after_calls middle) one.ends
    ∙ ap (λ told. after_calls told (one_call want.name false answered.Whole)) so_far
    ∙ after_calls-twice before (whole_reads (names_of (take i wanted))) (one_call want.name false answered.Whole)
    ∙ ap (after_calls before) (sym (whole_reads-step wanted i want below is))

-- the calls where all files are whole
reads-so-far : (before after : Option (List DepotCall)) (wanted : List Wanted) (i : ℕ)
    → after ≡ after_calls before (whole_reads (names_of (take i wanted)))
    → ReadsOnly (names_of wanted) before after (λ added. added ≡ whole_reads (names_of (take i wanted)))
reads-so-far before after wanted i so_far =
    let P : List (List ℕ) → Type 0 = λ names. AreReads names (whole_reads (names_of (take i wanted))) in
    let parts : names_of (take i wanted) ++ names_of (drop i wanted) ≡ names_of wanted =
    sym (map-append (λ w. w.name) (take i wanted) (drop i wanted)) ∙ ap names_of (take-append-drop i wanted) in
    record {
      added = whole_reads (names_of (take i wanted));
      told = so_far;
      reads = subst P parts (reads_whole (names_of (take i wanted)) (names_of (drop i wanted)));
      ends = refl;
    }

pub reads-all : (before after : Option (List DepotCall)) (wanted : List Wanted) (i : ℕ) → length wanted ≤ i
    → after ≡ after_calls before (whole_reads (names_of (take i wanted)))
    → ReadsOnly (names_of wanted) before after (λ added. added ≡ whole_reads (names_of wanted))
reads-all before after wanted i over so_far =
    let all = reads-so-far before after wanted i so_far in
    record { added = all.added; told = all.told; reads = all.reads; ends = all.ends ∙ ap (λ w. whole_reads (names_of w)) (take_all i wanted over) }

-- the calls where memory is wanted after a whole file
pub reads-wanting-memory : (before after : Option (List DepotCall)) (wanted : List Wanted) (i : ℕ)
    → after ≡ after_calls before (whole_reads (names_of (take (i + 1) wanted)))
    → ReadsOnly (names_of wanted) before after (λ added. Unit {0})
reads-wanting-memory before after wanted i so_far =
    let all = reads-so-far before after wanted (i + 1) so_far in
    record { added = all.added; told = all.told; reads = all.reads; ends = tt }
