-- What is put, and what it says of the end of a command.
use Rattle.std.proofs.Common.{◌≡◌, ℕ, zero, suc, List, [], ◌∷◌, ◌++◌, length, take, Option, Some, None, Result, Ok, Err, OnOk, OnErr, IfSome, inl, inr, refl, sym, ap, subst, ◌∙◌, ◌+◌, ◌≤◌, ◌<◌, append-nil, append_assoc, arith}
use Rattle.std.proofs.lemmas.Bool.{cases_lt}
use Rattle.std.proofs.lemmas.List.{take-append-le}
use Rattle.std.proofs.Math.Seq.{take-append_seam, take-append-add}
use Rattle.tool_edge.proofs.Causes.{Rose-before}
use Rattle.tool_edge.specs.Causes.{Rose}
use Rattle.std.proofs.Math.Seq.{take-length}
use Rattle.tool_edge.specs.Files.{Files}
use Rattle.tool_edge.specs.Written.{after_put, AppendsPart}
use Rattle.tool_edge.specs.declared.depot.DepotCall.{DepotCall}
use Rattle.prove_top.specs.declared.report.Report.{Report}
use Rattle.prove_top.specs.declared.report.Report.TheVariants.{Usage, Refused, WrongTrace, WrongDescription, Described, Refuted, Simulated, Agrees, Differs, Fault}
use Rattle.prove_top.specs.declared.report.Status.{Status}
use Rattle.prove_top.specs.declared.report.Status.TheVariants as status
use Rattle.prove_top.specs.declared.report.TheConstants.{MEMORY_LINE}
use Rattle.prove_top.specs.Allowed.{MayCome}
use Rattle.prove_top.specs.Answer.{Answers, UnlessFault, TellsFailed, names_asked}
use Rattle.prove_top.specs.Ends.{Ends, EndsPut, PutsAnswer, Runs, UnlessFailed}
use Rattle.prove_top.specs.Reads.{Called, failed_of}
use Rattle.prove_top.specs.Store.{Kept, Settles}
use Rattle.prove_top.specs.Words.{trace_file}
use Rattle.prove_top.specs.Report.{status_of}

-- whatever a put answers, a part of the bytes is put
pub put-part : {A E : Type 0} (r : Result A E) (old : Option (List ℕ)) (bytes : List ℕ) (new : Option (List ℕ))
    → OnOk r (new ≡ after_put old bytes) → OnErr r (AppendsPart old bytes new) → AppendsPart old bytes new
put-part (Ok done) old bytes new whole part = (length bytes, whole ∙ ap (after_put old) (sym (take-length bytes)))
put-part (Err fault) old bytes new whole part = part

-- nothing put is a part of anything
put-none : (old : Option (List ℕ)) (bytes : List ℕ) → AppendsPart old bytes old
put-none None bytes = (0, refl)
put-none (Some before) bytes = (0, ap Some (sym (append-nil before)))

pub unless-any : (ended : Status) (P : Type 0) → P → UnlessFailed ended P
unless-any status.Yes P p = p
unless-any status.No P p = p
unless-any status.Unknown P p = p
unless-any status.Refused P p = p
unless-any status.Usage P p = p
unless-any status.Fault P p = tt
unless-any status.NoMemory P p = tt

pub unless-fault : (ended : Status) (P : Type 0) → ended ≡ status.Fault → UnlessFailed ended P
unless-fault ended P is = let Q : Status → Type 0 = λ s. UnlessFailed s P in subst Q (sym is) tt

pub unless-memory : (ended : Status) (P : Type 0) → ended ≡ status.NoMemory → UnlessFailed ended P
unless-memory ended P is = let Q : Status → Type 0 = λ s. UnlessFailed s P in subst Q (sym is) tt

-- a fact about the report that is put, unless the outside failed
completes-fact : (report : Report) (ended : Status) (A Q : Type 0) → UnlessFault report A → ended ≡ status_of report → (A → Q) → UnlessFailed ended Q
completes-fact Usage ended A Q a said f = unless-any ended Q (f a)
completes-fact (Refused why file) ended A Q a said f = unless-any ended Q (f a)
completes-fact (WrongTrace why line file) ended A Q a said f = unless-any ended Q (f a)
completes-fact (Refuted edge what trace to) ended A Q a said f = unless-any ended Q (f a)
completes-fact Simulated ended A Q a said f = unless-any ended Q (f a)
completes-fact (WrongDescription code place file) ended A Q a said f = unless-any ended Q (f a)
completes-fact (Described map_text) ended A Q a said f = unless-any ended Q (f a)
completes-fact (Agrees edges) ended A Q a said f = unless-any ended Q (f a)
completes-fact (Differs edge what) ended A Q a said f = unless-any ended Q (f a)
completes-fact (Fault store file) ended A Q a said f = unless-fault ended Q said

ends-answer-of : (files : Files) (report : Report) (words : List (List ℕ)) (old new : Option (List ℕ)) (after : Option Files) (before now : ℕ) (ended : Status)
    → UnlessFault report (Settles files words report after) → Ends report old new before now ended → UnlessFailed ended (PutsAnswer files words old new after ended)
ends-answer-of files report words old new after before now ended answer (inl done) =
    completes-fact report ended (Settles files words report after) (PutsAnswer files words old new after ended) answer done.said
    (λ a. record { report = report; answer = a.answer; kept = a.kept; said = done.said; put = done.written })
ends-answer-of files report words old new after before now ended answer (inr (inl fails)) = unless-fault ended (PutsAnswer files words old new after ended) fails.said
ends-answer-of files report words old new after before now ended answer (inr (inr wants)) = unless-memory ended (PutsAnswer files words old new after ended) wants.said

pub ends-answer : (told : Option Files) (report : Report) (words : List (List ℕ)) (old new : Option (List ℕ)) (after : Option Files) (before now : ℕ) (ended : Status)
    → IfSome told (λ files. UnlessFault report (Settles files words report after)) → Ends report old new before now ended
    → IfSome told (λ files. UnlessFailed ended (PutsAnswer files words old new after ended))
ends-answer None report words old new after before now ended answer ends = tt
ends-answer (Some files) report words old new after before now ended answer ends = ends-answer-of files report words old new after before now ended answer ends

at-told : (told : Option Files) (P : Files → Type 0) → IfSome told P → (files : Files) → told ≡ Some files → P files
at-told None P h files is = cc
at-told (Some others) P h files is = let same : others ≡ files = cc in subst P same h

-- a fact that follows of a report
pub report-map : (report : Report) (A B : Type 0) → (A → B) → UnlessFault report A → UnlessFault report B
report-map Usage A B f a = f a
report-map (Refused why file) A B f a = f a
report-map (WrongTrace why line file) A B f a = f a
report-map (Refuted edge what trace to) A B f a = f a
report-map Simulated A B f a = f a
report-map (WrongDescription code place file) A B f a = f a
report-map (Described map_text) A B f a = f a
report-map (Agrees edges) A B f a = f a
report-map (Differs edge what) A B f a = f a
report-map (Fault store file) A B f a = tt

settled-answer : (files : Files) (words : List (List ℕ)) (report : Report) (after : Option Files) → UnlessFault report (Settles files words report after) → UnlessFault report (Answers files words report)
settled-answer files words report after h = report-map report (Settles files words report after) (Answers files words report) (λ s. s.answer) h

-- a command that ends with a report, and one that wants memory before
pub calls-run : (told after : Option Files) (words : List (List ℕ)) (calls_before calls_after : Option (List DepotCall)) (report : Report)
    (old new : Option (List ℕ)) (before now : ℕ) (ended : Status)
    → Called (names_asked words) (trace_file words) calls_before calls_after (λ added. TellsFailed report (failed_of added) × Kept told words added after)
    → IfSome told (λ files. UnlessFault report (Settles files words report after)) → MayCome words report → Ends report old new before now ended
    → Called (names_asked words) (trace_file words) calls_before calls_after (Runs told after words old new before now ended)
calls-run told after words calls_before calls_after report old new before now ended all answer allowed ends = record {
  added = all.added;
  told = all.told;
  calls = all.calls;
  ends = record {
    ran = inl (record {
      report = report;
      may = record {
        command = allowed;
        failure = all.ends.0;
        answer = λ files is. settled-answer files words report after (at-told told (λ given. UnlessFault report (Settles given words report after)) answer files is);
      };
      ends = ends;
    });
    kept = all.ends.1;
  };
}

pub calls-wanting : (told after : Option Files) (words : List (List ℕ)) (calls_before calls_after : Option (List DepotCall)) (A : List DepotCall → Type 0)
    (old new : Option (List ℕ)) (before now : ℕ) (ended : Status)
    → Called (names_asked words) (trace_file words) calls_before calls_after (λ added. A added × Kept told words added after) → ended ≡ status.NoMemory
    → AppendsPart old MEMORY_LINE.now new
    → Called (names_asked words) (trace_file words) calls_before calls_after (Runs told after words old new before now ended)
calls-wanting told after words calls_before calls_after A old new before now ended all said part = record {
  added = all.added;
  told = all.told;
  calls = all.calls;
  ends = record { ran = inr (record { said = said; written = part }); kept = all.ends.1 };
}

-- a text of two parts, put one after the other
take-over : (n : ℕ) (xs : List ℕ) → length xs < n → take n xs ≡ xs
take-over zero xs over = absurd (omega arith)
take-over (suc n) [] over = refl
take-over (suc n) (x ∷ xs) over = ap (λ rest. x ∷ rest) (take-over n xs (omega arith))

part-of-first : (old : Option (List ℕ)) (first second : List ℕ) (new : Option (List ℕ)) → AppendsPart old first new → AppendsPart old (first ++ second) new
part-of-first old first second new part =
    elim (cases_lt (length first) part.0) [
      | inl over ↦ (length first, part.1 ∙ ap (after_put old) (take-over part.0 first over ∙ sym (take-append_seam first second)))
      | inr under ↦ (part.0, part.1 ∙ ap (after_put old) (sym (take-append-le part.0 first second under)))
    ]

after_put-twice : (old : Option (List ℕ)) (first second : List ℕ) → after_put (after_put old first) second ≡ after_put old (first ++ second)
after_put-twice None first second = refl
after_put-twice (Some before) first second = ap Some (append_assoc before first second)

part-of-second : (old middle : Option (List ℕ)) (first second : List ℕ) (new : Option (List ℕ)) → middle ≡ after_put old first → AppendsPart middle second new
    → AppendsPart old (first ++ second) new
part-of-second old middle first second new whole part = (
  length first + part.0,
  part.1 ∙ ap (λ m. after_put m (take part.0 second)) whole ∙ after_put-twice old first (take part.0 second)
      ∙ ap (after_put old) (sym (take-append-add first second part.0)),
)

pub ends-second : (due : Status) (first second : List ℕ) (old middle new : Option (List ℕ)) (before between now : ℕ) (ended : Status)
    → middle ≡ after_put old first → before ≤ between → between ≤ now → EndsPut due second middle new between now ended
    → EndsPut due (first ++ second) old new before now ended
ends-second due first second old middle new before between now ended whole early late (inl done) =
    inl (record { said = done.said; written = done.written ∙ ap (λ m. after_put m second) whole ∙ after_put-twice old first second })
ends-second due first second old middle new before between now ended whole early late (inr (inl fails)) =
    inr (inl (record { said = fails.said; rose = Rose-before before between now early fails.rose; written = part-of-second old middle first second new whole fails.written }))
ends-second due first second old middle new before between now ended whole early late (inr (inr wants)) =
    inr (inr (record { said = wants.said; written = (wants.written.0, part-of-second old middle first second wants.written.0 whole wants.written.1, wants.written.2) }))

pub ends-failed : (due : Status) (first second : List ℕ) (old new : Option (List ℕ)) (before now : ℕ) (ended : Status)
    → ended ≡ status.Fault → Rose before now → AppendsPart old first new → EndsPut due (first ++ second) old new before now ended
ends-failed due first second old new before now ended said rose part =
    inr (inl (record { said = said; rose = rose; written = part-of-first old first second new part }))

pub ends-wanting : (due : Status) (first second : List ℕ) (old middle new : Option (List ℕ)) (before now : ℕ) (ended : Status)
    → ended ≡ status.NoMemory → AppendsPart old first middle → AppendsPart middle MEMORY_LINE.now new → EndsPut due (first ++ second) old new before now ended
ends-wanting due first second old middle new before now ended said part last =
    inr (inr (record { said = said; written = (middle, part-of-first old first second middle part, last) }))

-- a whole text that is put is a part of it
pub part-whole : (old : Option (List ℕ)) (text : List ℕ) (new : Option (List ℕ)) → new ≡ after_put old text → AppendsPart old text new
part-whole old text new whole = (length text, whole ∙ ap (after_put old) (sym (take-length text)))

-- a fact that follows, under the same guard
pub unless-map : (ended : Status) (P Q : Type 0) → (P → Q) → UnlessFailed ended P → UnlessFailed ended Q
unless-map status.Yes P Q f p = f p
unless-map status.No P Q f p = f p
unless-map status.Unknown P Q f p = f p
unless-map status.Refused P Q f p = f p
unless-map status.Usage P Q f p = f p
unless-map status.Fault P Q f p = tt
unless-map status.NoMemory P Q f p = tt
