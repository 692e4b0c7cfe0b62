-- The parser as a function answers with the one reading, or refuses at the first token that no reading can have.
use Rattle.std.proofs.Common.{◌≡◌, ℕ, suc, ◌+◌, ◌<◌, ◌≤◌, true, List, [], ◌∷◌, ◌++◌, length, take, Ok, Err, refl, sym, ◌∙◌, inl, inr, ap, subst, append_assoc, append-nil, length-append, arith}
use Rattle.std.specs.List.{list_all}
use Rattle.std.proofs.Math.Seq.{take-append_seam}
use Rattle.parsing.specs.Parser.{Refused, Sunk, Outcome, and_then, finish}
use Rattle.parsing.specs.Rule.{SameHead, Begins, Taken, Stuck, Follows}
use Rattle.parsing.proofs.Steps.{ok_same, ok_not_err}
use Rattle.vlog_tree.specs.declared.token.VToken.{VToken}
use Rattle.vlog_tree.specs.declared.token.VTokens.{VTokens}
use Rattle.vlog_tree.specs.declared.tree_modules.VModule.{VModule}
use Rattle.vlog_tree.specs.Terminals.{Tokens}
use Rattle.vlog_tree.specs.Parts.{flat_list}
use Rattle.vlog_tree.specs.Modules.{flat, flat_module, fits_module, IsReading}
use Rattle.vlog_tree.specs.ReadModules.{modules, source}
use Rattle.vlog_tree.proofs.Build.{Holds}
use Rattle.vlog_tree.proofs.RuleModules.{modules_rule}
use Rattle.vlog_tree.proofs.Theorem.{reads_all}
use Rattle.vlog_parse.specs.Refusal.{Continues, HasNoReading, IsFirstFault, place_of}

continues : (front : Tokens) → Begins (flat_list flat_module) (Holds (list_all fits_module)) front → Continues front
unfolding Begins
continues front (xs, (fit, begun)) = (record { modules = xs }, (fit, begun))

pub continues_front : (front more : Tokens) → Continues (front ++ more) → Continues front
continues_front front more (f, (fits, (ys, e))) = (f, (fits, (more ++ ys, e ∙ append_assoc front more ys)))

-- ---- what comes after the tokens that were taken

NoMore : Tokens → Tokens → Type 0
NoMore front [] = (xs : List VModule) → list_all fits_module xs ≡ true → flat_list flat_module xs ≡ front → ⊥
NoMore front (t ∷ more) = Continues (front ++ t ∷ []) → ⊥

pub IsStuck : Tokens → Tokens → Type 0
IsStuck ts rest = (front : Tokens) × ((ts ≡ front ++ rest) × (Continues front × NoMore front rest))

pub Answers : Tokens → Outcome VToken (List VModule) → Type 0
Answers ts (Ok p) = (flat_list flat_module p.0 ≡ ts) × (list_all fits_module p.0 ≡ true)
Answers ts (Err (Refused rest)) = IsStuck ts rest
Answers ts (Err Sunk) = ⊥

Always : ℕ → Tokens → Outcome VToken (List VModule) → Type 0
Always room ts o = (m : ℕ) → room ≤ m → Follows room (modules m) (flat_list flat_module) (Holds (list_all fits_module)) ts o

-- a tree that the tokens would be those of is read, whatever was answered
read_on : (room : ℕ) (front : Tokens) (t : VToken) (ys : Tokens) (xs : List VModule) → list_all fits_module xs ≡ true → flat_list flat_module xs ≡ front ++ (t ∷ ys)
    → modules (room + suc (length (flat_list flat_module xs))) (front ++ (t ∷ ys)) ≡ Ok (xs, [])
read_on room front t ys xs fit e = ap (modules (room + suc (length (flat_list flat_module xs)))) (sym e) ∙ reads_all (room + suc (length (flat_list flat_module xs))) xs fit (omega arith)

end_or_more : (ys : Tokens) (t : VToken) (xs zs : List VModule) → ◌≡◌ {A = Outcome VToken (List VModule)} (Ok (xs, [])) (Ok (zs, t ∷ ys)) → ⊥
end_or_more ys t xs zs e = let h : [] ≡ t ∷ ys = ap (λ p. p.1) (ok_same e) in cc

no_more_taken : (room : ℕ) (ts : Tokens) (xs : List VModule) (t : VToken) (more : Tokens) → Always room ts (Ok (xs, t ∷ more)) → Continues (flat_list flat_module xs ++ t ∷ []) → ⊥
unfolding Always Taken SameHead
no_more_taken room ts xs t more h (f, (fit, (ys, e))) =
    let e' : flat f ≡ flat_list flat_module xs ++ (t ∷ ys) = rw append_assoc at e in
    let m : ℕ = room + suc (length (flat_list flat_module f.modules)) in
    end_or_more ys t f.modules xs (sym (read_on room (flat_list flat_module xs) t ys f.modules fit e') ∙ (h m (omega arith)).1.1 (t ∷ ys) refl)

after_taken : (room : ℕ) (ts : Tokens) (xs : List VModule) (t : VToken) (more : Tokens) → Always room ts (Ok (xs, t ∷ more)) → IsStuck ts (t ∷ more)
unfolding Always Taken IsStuck NoMore
after_taken room ts xs t more h =
    let now = h room (omega arith) in
    (flat_list flat_module xs, (now.0, ((record { modules = xs }, (now.1.0, ([], sym (append-nil (flat_list flat_module xs))))), no_more_taken room ts xs t more h)))

one_front : (xs ys rest ts : Tokens) → ts ≡ xs ++ rest → ts ≡ ys ++ rest → xs ≡ ys
one_front xs ys rest ts e h =
    let long : length ts ≡ length xs + length rest = rw e (length-append xs rest) in
    let long' : length ts ≡ length ys + length rest = rw h (length-append ys rest) in
    let same : length xs ≡ length ys = omega arith in
    sym (take-append_seam xs rest) ∙ ap (λ us. take (length xs) us) (sym e ∙ h) ∙ ap (λ n. take n (ys ++ rest)) same ∙ take-append_seam ys rest

-- refused there whatever comes after the next token
refused_on : (room : ℕ) (ts rest front : Tokens) → Always room ts (Err (Refused rest)) → ts ≡ front ++ rest → (zs : Tokens) → SameHead rest zs → (m : ℕ) → room ≤ m → modules m (front ++ zs) ≡ Err (Refused zs)
unfolding Always Stuck
refused_on room ts rest front h e zs same m le =
    let there = h m le in
    rw (one_front front there.0 rest ts e there.1.0) (there.1.1.0 zs same)

no_more_at_end : (room : ℕ) (ts front : Tokens) → Always room ts (Err (Refused [])) → ts ≡ front ++ [] → (xs : List VModule) → list_all fits_module xs ≡ true → flat_list flat_module xs ≡ front → ⊥
unfolding SameHead
no_more_at_end room ts front h e xs fit flat_is =
    let m : ℕ = room + suc (length (flat_list flat_module xs)) in
    let r : modules m (flat_list flat_module xs) ≡ Ok (xs, []) = reads_all m xs fit (omega arith) in
    let s : modules m (front ++ []) ≡ Err (Refused []) = refused_on room ts [] front h e [] refl m (omega arith) in
    let s' : modules m (flat_list flat_module xs) ≡ Err (Refused []) = ap (modules m) (flat_is ∙ sym (append-nil front)) ∙ s in
    ok_not_err (sym r ∙ s')

no_more_at : (room : ℕ) (ts front : Tokens) (t : VToken) (more : Tokens) → Always room ts (Err (Refused (t ∷ more))) → ts ≡ front ++ (t ∷ more) → Continues (front ++ t ∷ []) → ⊥
unfolding SameHead
no_more_at room ts front t more h e (f, (fit, (ys, begun))) =
    let e' : flat f ≡ front ++ (t ∷ ys) = rw append_assoc at begun in
    let m : ℕ = room + suc (length (flat_list flat_module f.modules)) in
    ok_not_err (sym (read_on room front t ys f.modules fit e') ∙ refused_on room ts (t ∷ more) front h e (t ∷ ys) refl m (omega arith))

no_more_refused : (room : ℕ) (ts front rest : Tokens) → Always room ts (Err (Refused rest)) → ts ≡ front ++ rest → NoMore front rest
unfolding NoMore
no_more_refused room ts front [] h e = no_more_at_end room ts front h e
no_more_refused room ts front (t ∷ more) h e = no_more_at room ts front t more h e

after_refused : (room : ℕ) (ts rest : Tokens) → Always room ts (Err (Refused rest)) → IsStuck ts rest
unfolding IsStuck Always Stuck
after_refused room ts rest h =
    let now = h room (omega arith) in (now.0, (now.1.0, (continues now.0 now.1.1.1, no_more_refused room ts now.0 rest h now.1.0)))

abbrev source_of : Outcome VToken (List VModule) → Outcome VToken (List VModule)
source_of o = and_then {A = List VModule × Unit {0}} (and_then o (λ a rest. and_then (finish rest) (λ b more. Ok ((a, b), more)))) (λ p rest. Ok (p.0, rest))

outcome_answers : (room : ℕ) (ts : Tokens) → length ts < room → (o : Outcome VToken (List VModule)) → Always room ts o → Answers ts (source_of o)
unfolding Always Answers finish Taken
outcome_answers room ts long (Ok (xs, [])) h = let now = h room (omega arith) in (sym (append-nil (flat_list flat_module xs)) ∙ sym now.0, now.1.0)
outcome_answers room ts long (Ok (xs, t ∷ more)) h = after_taken room ts xs t more h
outcome_answers room ts long (Err (Refused rest)) h = after_refused room ts rest h
outcome_answers room ts long (Err Sunk) h = let le : room ≤ length ts = h room (omega arith) in omega arith

pub source_answers : (room : ℕ) (ts : Tokens) → length ts < room → Answers ts (source room ts)
unfolding source Always
source_answers room ts long = outcome_answers room ts long (modules room ts) (λ m le. (modules_rule room m le).rule.follows ts)

-- ---- what the code's answer says

pub reading_of : (tokens : VTokens) (xs : List VModule) (rest : Tokens) → source (length tokens.list + 1) tokens.list ≡ Ok (xs, rest) → IsReading tokens.list (record { modules = xs })
unfolding Answers
reading_of tokens xs rest e =
    let a : Answers tokens.list (Ok (xs, rest)) = subst (Answers tokens.list) e (source_answers (length tokens.list + 1) tokens.list (omega arith)) in
    record { fitting = a.1; same_tokens = a.0 }

pub never_sunk : (tokens : VTokens) → source (length tokens.list + 1) tokens.list ≡ Err Sunk → ⊥
unfolding Answers
never_sunk tokens e = let a : Answers tokens.list (Err Sunk) = subst (Answers tokens.list) e (source_answers (length tokens.list + 1) tokens.list (omega arith)) in a

stuck_of : (tokens : VTokens) (rest : Tokens) → source (length tokens.list + 1) tokens.list ≡ Err (Refused rest) → IsStuck tokens.list rest
unfolding Answers
stuck_of tokens rest e = subst (Answers tokens.list) e (source_answers (length tokens.list + 1) tokens.list (omega arith))

no_reading_at : (tokens : VTokens) (front rest : Tokens) → tokens.list ≡ front ++ rest → NoMore front rest → HasNoReading tokens.list
unfolding NoMore
no_reading_at tokens front [] e none f reading = none f.modules reading.fitting (reading.same_tokens ∙ e ∙ append-nil front)
no_reading_at tokens front (t ∷ more) e none f reading = none (f, (reading.fitting, (more, reading.same_tokens ∙ e ∙ sym (append_assoc front (t ∷ []) more))))

pub no_reading : (tokens : VTokens) (rest : Tokens) → source (length tokens.list + 1) tokens.list ≡ Err (Refused rest) → HasNoReading tokens.list
unfolding IsStuck
no_reading tokens rest e = let s = stuck_of tokens rest e in no_reading_at tokens s.0 rest s.1.0 s.1.1.1

fault_at : (tokens : VTokens) (front rest : Tokens) → tokens.list ≡ front ++ rest → Continues front → NoMore front rest → IsFirstFault tokens (place_of rest tokens.end)
unfolding NoMore
fault_at tokens front [] e before none = inr (record { here = refl; before = subst Continues (sym (append-nil front) ∙ sym e) before })
fault_at tokens front (t ∷ more) e before none = inl (record { front = front; token = t; more = more; split = e; here = refl; before = before; none = none })

pub first_fault : (tokens : VTokens) (rest : Tokens) → source (length tokens.list + 1) tokens.list ≡ Err (Refused rest) → IsFirstFault tokens (place_of rest tokens.end)
unfolding IsStuck
first_fault tokens rest e = let s = stuck_of tokens rest e in fault_at tokens s.0 rest s.1.0 s.1.1.0 s.1.1.1

-- ---- of a front of the tokens

abbrev ended : Tokens → VTokens
ended ts = record { list = ts; end = record { file = 0; line = 0; column = 0 } }

pub cut_read : (cut : Tokens) (xs : List VModule) (rest : Tokens) → source (length cut + 1) cut ≡ Ok (xs, rest) → Continues cut
cut_read cut xs rest e = let r = reading_of (ended cut) xs rest e in (record { modules = xs }, (r.fitting, ([], r.same_tokens ∙ sym (append-nil cut))))

pub cut_never : (cut : Tokens) → source (length cut + 1) cut ≡ Err Sunk → ⊥
cut_never cut e = never_sunk (ended cut) e

pub cut_ends : (cut rest : Tokens) → length rest ≡ 0 → source (length cut + 1) cut ≡ Err (Refused rest) → Continues cut
unfolding IsStuck
cut_ends cut [] none e = let s = stuck_of (ended cut) [] e in subst Continues (sym (append-nil s.0) ∙ sym s.1.0) s.1.1.0
cut_ends cut (t ∷ more) none e = absurd (omega arith)

IsStuckAt : Tokens → VToken → Tokens → Type 0
IsStuckAt cut t more = (front : Tokens) × ((cut ≡ front ++ t ∷ more) × (Continues front × (Continues (front ++ t ∷ []) → ⊥)))

cut_stuck : (cut : Tokens) (t : VToken) (more : Tokens) → source (length cut + 1) cut ≡ Err (Refused (t ∷ more)) → IsStuckAt cut t more
unfolding IsStuck NoMore IsStuckAt
cut_stuck cut t more e = stuck_of (ended cut) (t ∷ more) e

-- the first impossible token of a front is that of all the tokens
pub cut_fault : (tokens : VTokens) (cut after rest : Tokens) → tokens.list ≡ cut ++ after → source (length cut + 1) cut ≡ Err (Refused rest) → 0 < length rest
    → (Continues cut → ⊥) × (HasNoReading tokens.list × IsFirstFault tokens (place_of rest tokens.end))
unfolding IsStuckAt
cut_fault tokens cut after [] whole e some = absurd (omega arith)
cut_fault tokens cut after (t ∷ more) whole e some =
    let s = cut_stuck cut t more e in
    let split : tokens.list ≡ s.0 ++ t ∷ (more ++ after) = whole ∙ ap (λ ts. ts ++ after) s.1.0 ∙ append_assoc s.0 (t ∷ more) after in
    let none : Continues (s.0 ++ t ∷ []) → ⊥ = s.1.1.1 in (
      (λ c. none (continues_front (s.0 ++ t ∷ []) more (subst Continues (s.1.0 ∙ sym (append_assoc s.0 (t ∷ []) more)) c))),
      (
        (λ f reading. none (f, (reading.fitting, (more ++ after, reading.same_tokens ∙ split ∙ sym (append_assoc s.0 (t ∷ []) (more ++ after)))))),
        inl (record { front = s.0; token = t; more = more ++ after; split = split; here = refl; before = s.1.1.0; none = none }),
      ),
    )

-- what the code reads is the list of the tokens, with room for each and one more
pub at_list : (tokens : VTokens) (list cursor : Tokens) (o : Outcome VToken (List VModule)) → list ≡ tokens.list → cursor ≡ list → source (length list + 1) cursor ≡ o → source (length tokens.list + 1) tokens.list ≡ o
at_list tokens list cursor o e h i = rw (← e) (rw h at i)
