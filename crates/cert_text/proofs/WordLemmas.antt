-- Loops over the words of a line, and over the digits of a word.
use Rattle.std.proofs.Common.{◌≡◌, ℕ, zero, suc, ◌+◌, ◌-◌, ◌*◌, ◌^◌, ◌<◌, ◌≤◌, ◌==◌, min, nat_lt, nat_le, eq-eqb, Bool, true, false, not, ◌&&◌, ◌||◌, if◌then◌else◌, Option, Some, None, option_map, codes, List, [], ◌∷◌, ◌++◌, length, drop, slice_get, refl, sym, ◌∙◌, ap, subst, arith, append_assoc}
use Rattle.std.specs.Option.{option_and_then}
use Rattle.std.specs.List.{list_any}
use Rattle.std.proofs.lemmas.List.{append-nil}
use Rattle.cert_text.specs.Numbers.{value_from, number_of}
use Rattle.cert_text.specs.Lines.{each_of, before_slash, is_slash, words_of, latch_of, literal_of, code_of, are_apart, if_apart, clause_words, clause_of}
use Rattle.unroll_cnf.specs.declared.latch_literal.LatchLiteral.{LatchLiteral}
use Rattle.unroll_cnf.specs.Latches.{AreApart, IsOfLatches}
use Rattle.std.specs.Str.{bytes_eq}
use Rattle.std.proofs.lemmas.List.Splits.{length-slice_split}
use Rattle.std.proofs.lemmas.List.Sums.{count_by-le-length}
use Rattle.std.proofs.lemmas.Bool.{ltb-true, leb-true, and_parts}

-- one digit more
pub value_more : (n : ℕ) (ds : List ℕ) (d : ℕ) → value_from n (ds ++ d ∷ []) ≡ 10 * value_from n ds + (d - 48)
value_more n [] d = refl
value_more n (x ∷ xs) d = value_more (10 * n + (x - 48)) xs d

-- behind those that are read
abbrev pub behind : {A : Type 0} → List A → Option (List A) → Option (List A)
behind done rest = option_map (λ xs. done ++ xs) rest

value_step : (v d n : ℕ) → v ≡ min n (2 ^ 32 - 1) → min (min (v * 10) (2 ^ 32 - 1) + d) (2 ^ 32 - 1) ≡ min (10 * n + d) (2 ^ 32 - 1)
value_step v d n h = omega arith

pub behind_nothing : {A : Type 0} (o : Option (List A)) → behind [] o ≡ o
behind_nothing None = refl
behind_nothing (Some xs) = refl

behind_step : {A : Type 0} (done : List A) (x : A) (o : Option (List A)) → behind done (option_map (λ xs. x ∷ xs) o) ≡ behind (done ++ x ∷ []) o
behind_step done x None = refl
behind_step done x (Some xs) = ap Some (sym (append_assoc done (x ∷ []) xs))

-- one word more says something, or nothing
pub each_more : {A : Type 0} (f : List ℕ → Option A) (done : List A) (w : List ℕ) (ws old : List (List ℕ)) (x : A) (all : Option (List A)) → behind done (each_of f old) ≡ all → old ≡ w ∷ ws → f w ≡ Some x → behind (done ++ x ∷ []) (each_of f ws) ≡ all
each_more f done w ws old x all before first says =
    sym (behind_step done x (each_of f ws))
    ∙ (sym (ap (λ (o : Option _). behind done (option_and_then (λ y. option_map (λ ys. y ∷ ys) (each_of f ws)) o)) says)
    ∙ (sym (ap (λ (z : List (List ℕ)). behind done (each_of f z)) first) ∙ before))

pub each_fails : {A : Type 0} (f : List ℕ → Option A) (done : List A) (w : List ℕ) (ws old : List (List ℕ)) (all : Option (List A)) → behind done (each_of f old) ≡ all → old ≡ w ∷ ws → f w ≡ None → None ≡ all
each_fails f done w ws old all before first says =
    sym (ap (λ (o : Option _). behind done (option_and_then (λ y. option_map (λ ys. y ∷ ys) (each_of f ws)) o)) says)
    ∙ (sym (ap (λ (z : List (List ℕ)). behind done (each_of f z)) first) ∙ before)

pub each_ends : {A : Type 0} (f : List ℕ → Option A) (done : List A) (old : List (List ℕ)) (all : Option (List A)) → behind done (each_of f old) ≡ all → old ≡ [] → Some done ≡ all
each_ends f done old all before none = ap Some (sym (append-nil done)) ∙ (sym (ap (λ (z : List (List ℕ)). behind done (each_of f z)) none) ∙ before)

-- numbers up to the slash
abbrev pub behind_both : List ℕ → Option (List ℕ × List (List ℕ)) → Option (List ℕ × List (List ℕ))
behind_both done rest = option_map (λ r. (done ++ r.0, r.1)) rest

pub both_nothing : (o : Option (List ℕ × List (List ℕ))) → behind_both [] o ≡ o
both_nothing None = refl
both_nothing (Some r) = refl

both_step : (done : List ℕ) (n : ℕ) (o : Option (List ℕ × List (List ℕ))) → behind_both done (option_map (λ r. (n ∷ r.0, r.1)) o) ≡ behind_both (done ++ n ∷ []) o
both_step done n None = refl
both_step done n (Some r) = ap (λ (xs : List ℕ). Some (xs, r.1)) (sym (append_assoc done (n ∷ []) r.0))

slash_test : (w : List ℕ) (ws : List (List ℕ)) (b : Bool) → is_slash w ≡ b → before_slash (w ∷ ws) ≡ (if b then Some ([], ws) else option_and_then (λ n. option_map (λ r. (n ∷ r.0, r.1)) (before_slash ws)) (number_of w))
slash_test w ws b e = ap (λ c. if c then Some ([], ws) else option_and_then (λ n. option_map (λ r. (n ∷ r.0, r.1)) (before_slash ws)) (number_of w)) e

pub slash_more : (done : List ℕ) (w : List ℕ) (ws old : List (List ℕ)) (n : ℕ) (all : Option (List ℕ × List (List ℕ))) → behind_both done (before_slash old) ≡ all → old ≡ w ∷ ws → is_slash w ≡ false → number_of w ≡ Some n → behind_both (done ++ n ∷ []) (before_slash ws) ≡ all
slash_more done w ws old n all before first other says =
    sym (both_step done n (before_slash ws))
    ∙ (sym (ap (λ (o : Option ℕ). behind_both done (option_and_then (λ m. option_map (λ r. (m ∷ r.0, r.1)) (before_slash ws)) o)) says)
    ∙ (sym (ap (behind_both done) (ap before_slash first ∙ slash_test w ws false other)) ∙ before))

pub slash_found : (done : List ℕ) (w : List ℕ) (ws old : List (List ℕ)) (all : Option (List ℕ × List (List ℕ))) → behind_both done (before_slash old) ≡ all → old ≡ w ∷ ws → is_slash w ≡ true → Some (done, ws) ≡ all
slash_found done w ws old all before first here =
    ap (λ (xs : List ℕ). Some (xs, ws)) (sym (append-nil done))
    ∙ (sym (ap (behind_both done) (ap before_slash first ∙ slash_test w ws true here)) ∙ before)

pub slash_fails : (done : List ℕ) (w : List ℕ) (ws old : List (List ℕ)) (all : Option (List ℕ × List (List ℕ))) → behind_both done (before_slash old) ≡ all → old ≡ w ∷ ws → is_slash w ≡ false → number_of w ≡ None → None ≡ all
slash_fails done w ws old all before first other says =
    sym (ap (λ (o : Option ℕ). behind_both done (option_and_then (λ m. option_map (λ r. (m ∷ r.0, r.1)) (before_slash ws)) o)) says)
    ∙ (sym (ap (behind_both done) (ap before_slash first ∙ slash_test w ws false other)) ∙ before)

pub slash_ends : (done : List ℕ) (old : List (List ℕ)) (all : Option (List ℕ × List (List ℕ))) → behind_both done (before_slash old) ≡ all → old ≡ [] → None ≡ all
slash_ends done old all before none = sym (ap (λ (z : List (List ℕ)). behind_both done (before_slash z)) none) ∙ before

-- literals that stand apart
apart_drop : (k : ℕ) (ls : List LatchLiteral) → are_apart (drop k ls) ≡ false → are_apart ls ≡ false
apart_drop zero ls h = h
apart_drop (suc k) [] h = h
apart_drop (suc k) (l ∷ ls) h = rw (apart_drop k ls h) (and_false (not (list_any (λ m. code_of m == code_of l) ls)))
  where
    and_false : (b : Bool) → (b && false) ≡ false
    and_false true = refl
    and_false false = refl

pub apart_fails : (ls : List LatchLiteral) (k left : ℕ) (l : LatchLiteral) → drop k ls ≡ l ∷ drop left ls → list_any (λ m. code_of m == code_of l) (drop left ls) ≡ true → false ≡ are_apart ls
apart_fails ls k left l first among = sym (apart_drop k ls (ap are_apart first ∙ rw among refl))

-- the line of a clause
pub clause_without_words : (n : ℕ) (line : List ℕ) → words_of line ≡ [] → None ≡ clause_of n line
unfolding clause_of
clause_without_words n line e = sym (ap (clause_words n) e)

by_word : ℕ → List (List ℕ) → Bool → Option (List LatchLiteral)
by_word n ws b = if b then option_and_then if_apart (each_of (literal_of n) ws) else None

word_is : (n : ℕ) (line w : List ℕ) (ws : List (List ℕ)) (b : Bool) → words_of line ≡ w ∷ ws → bytes_eq w (codes "c") ≡ b → clause_of n line ≡ by_word n ws b
unfolding clause_of by_word
word_is n line w ws b e t = ap (clause_words n) e ∙ ap (λ c. if c then option_and_then if_apart (each_of (literal_of n) ws) else None) t

pub clause_of_other : (n : ℕ) (line w : List ℕ) (ws : List (List ℕ)) → words_of line ≡ w ∷ ws → bytes_eq w (codes "c") ≡ false → None ≡ clause_of n line
unfolding by_word
clause_of_other n line w ws e t = sym (word_is n line w ws false e t)

pub clause_without_literals : (n : ℕ) (line w : List ℕ) (ws : List (List ℕ)) → words_of line ≡ w ∷ ws → bytes_eq w (codes "c") ≡ true → each_of (literal_of n) ws ≡ None → None ≡ clause_of n line
unfolding by_word
clause_without_literals n line w ws e t none = sym (word_is n line w ws true e t ∙ ap (option_and_then if_apart) none)

pub clause_if_apart : (n : ℕ) (line w : List ℕ) (ws : List (List ℕ)) (d : List LatchLiteral) (b : Bool) → words_of line ≡ w ∷ ws → bytes_eq w (codes "c") ≡ true → each_of (literal_of n) ws ≡ Some d → are_apart d ≡ b → (if b then Some d else None) ≡ clause_of n line
unfolding by_word
clause_if_apart n line w ws d b e t some apart = sym (word_is n line w ws true e t ∙ (ap (option_and_then if_apart) some ∙ ap (λ c. if c then Some d else None) apart))

-- literals of a clause
any_at : (test : LatchLiteral → Bool) (ls : List LatchLiteral) (j : ℕ) (l : LatchLiteral) → slice_get ls j ≡ Some l → test l ≡ true → list_any test ls ≡ true
any_at test [] j l is holds = absurd (let no : ⊥ = cc in no)
any_at test (x ∷ xs) zero l is holds = let e : x ≡ l = cc in rw (e, holds) refl
any_at test (x ∷ xs) (suc j) l is holds = rw (any_at test xs j l is holds) (or_true (test x))
  where
    or_true : (b : Bool) → (b || true) ≡ true
    or_true true = refl
    or_true false = refl

both_true : (a b : Bool) → (not a && b) ≡ true → (a ≡ false) × (b ≡ true)
both_true true b h = absurd (let no : ⊥ = cc in no)
both_true false b h = (refl, h)

apart_at : (ls : List LatchLiteral) (i j : ℕ) (l : LatchLiteral) → are_apart ls ≡ true → i < j → slice_get ls i ≡ Some l → slice_get ls j ≡ Some l → ⊥
apart_at [] i j l h lt at_i at_j = let no : ⊥ = cc in no
apart_at (x ∷ xs) i zero l h lt at_i at_j = omega arith
apart_at (x ∷ xs) zero (suc j) l h lt at_i at_j =
    let e : x ≡ l = cc in
    let same : (code_of l == code_of x) ≡ true = eq-eqb (code_of l) (code_of x) (ap code_of (sym e)) in
    let among : list_any (λ m. code_of m == code_of x) xs ≡ true = any_at (λ m. code_of m == code_of x) xs j l at_j same in
    let none : list_any (λ m. code_of m == code_of x) xs ≡ false = (both_true (list_any (λ m. code_of m == code_of x) xs) (are_apart xs) h).0 in
    cc
apart_at (x ∷ xs) (suc i) (suc j) l h lt at_i at_j = apart_at xs i j l (both_true (list_any (λ m. code_of m == code_of x) xs) (are_apart xs) h).1 (omega arith) at_i at_j

pub apart_of : (ls : List LatchLiteral) → are_apart ls ≡ true → AreApart ls
apart_of ls h = record { once = λ i j l lt at_i at_j. apart_at ls i j l h lt at_i at_j }

latch_below : (n : ℕ) (negated : Bool) (v : Option ℕ) (l : LatchLiteral) → latch_of n negated v ≡ Some l → l.latch < n
latch_below n negated None l h = absurd (let no : ⊥ = cc in no)
latch_below n negated (Some v) l h =
    elim (nat_lt 0 v && nat_le v n) as (λ t. nat_lt 0 v && nat_le v n ≡ t → (if t then Some (record { latch = v - 1; negated = negated }) else None) ≡ Some l → l.latch < n) [
      | true ↦ λ t e. let same : record { latch = v - 1; negated = negated } ≡ l = cc in let at : v - 1 ≡ l.latch = ap (λ (m : LatchLiteral). m.latch) same in let low : 0 < v = ltb-true 0 v (and_parts (nat_lt 0 v) (nat_le v n) t).0 in let high : v ≤ n = leb-true v n (and_parts (nat_lt 0 v) (nat_le v n) t).1 in omega arith
      | false ↦ λ t e. absurd (let no : ⊥ = cc in no)
    ] refl h

literal_below : (n : ℕ) (w : List ℕ) (l : LatchLiteral) → literal_of n w ≡ Some l → l.latch < n
unfolding literal_of
literal_below n [] l h = absurd (let no : ⊥ = cc in no)
literal_below n (c ∷ cs) l h =
    elim (c == 45) as (λ t. (if t then latch_of n true (number_of cs) else latch_of n false (number_of (c ∷ cs))) ≡ Some l → l.latch < n) [
      | true ↦ λ e. latch_below n true (number_of cs) l e
      | false ↦ λ e. latch_below n false (number_of (c ∷ cs)) l e
    ] h

-- what each word says
each_parts : {A : Type 0} (f : List ℕ → Option A) (w : List ℕ) (ws : List (List ℕ)) (x : Option A) (rest : Option (List A)) (all : List A)
    → option_and_then (λ y. option_map (λ ys. y ∷ ys) rest) x ≡ Some all → (y : A) × (ys : List A) × (x ≡ Some y) × (rest ≡ Some ys) × (all ≡ y ∷ ys)
each_parts f w ws None rest all h = absurd (let no : ⊥ = cc in no)
each_parts f w ws (Some y) None all h = absurd (let no : ⊥ = cc in no)
each_parts f w ws (Some y) (Some ys) all h = (y, ys, refl, refl, let e : y ∷ ys ≡ all = cc in sym e)

pub each_long : {A : Type 0} (f : List ℕ → Option A) (ws : List (List ℕ)) (all : List A) → each_of f ws ≡ Some all → length all ≡ length ws
each_long f [] all h = let e : [] ≡ all = cc in ap length (sym e)
each_long f (w ∷ ws) all h =
    let parts = each_parts f w ws (f w) (each_of f ws) all h in
    ap length parts.4 ∙ ap suc (each_long f ws parts.1 parts.3)

each_below : (n : ℕ) (ws : List (List ℕ)) (d : List LatchLiteral) (j : ℕ) (l : LatchLiteral) → each_of (literal_of n) ws ≡ Some d → slice_get d j ≡ Some l → l.latch < n
each_below n [] d j l h is = let e : [] ≡ d = cc in absurd (let at : slice_get {X = LatchLiteral} [] j ≡ Some l = subst (λ (z : List LatchLiteral). slice_get z j ≡ Some l) (sym e) is in let no : ⊥ = cc in no)
each_below n (w ∷ ws) d zero l h is =
    let parts = each_parts (literal_of n) w ws (literal_of n w) (each_of (literal_of n) ws) d h in
    let at : slice_get (parts.0 ∷ parts.1) 0 ≡ Some l = subst (λ (z : List LatchLiteral). slice_get z 0 ≡ Some l) parts.4 is in
    let e : parts.0 ≡ l = cc in
    literal_below n w l (parts.2 ∙ ap Some e)
each_below n (w ∷ ws) d (suc j) l h is =
    let parts = each_parts (literal_of n) w ws (literal_of n w) (each_of (literal_of n) ws) d h in
    each_below n ws parts.1 j l parts.3 (subst (λ (z : List LatchLiteral). slice_get z (suc j) ≡ Some l) parts.4 is)

pub clause_below : (n : ℕ) (ws : List (List ℕ)) (d : List LatchLiteral) → each_of (literal_of n) ws ≡ Some d → IsOfLatches n d
clause_below n ws d h = record { each = λ j l is. each_below n ws d j l h is }

pub clause_few : (n : ℕ) (line w : List ℕ) (ws : List (List ℕ)) (d : List LatchLiteral) → words_of line ≡ w ∷ ws → each_of (literal_of n) ws ≡ Some d → length d ≤ length line
clause_few n line w ws d e h =
    omega (arith, each_long (literal_of n) ws d h, ap length e, length-slice_split (λ byte. byte == 32) line, count_by-le-length (λ byte. byte == 32) line)

pub not_was : (b : Bool) → not b ≡ false → b ≡ true
not_was true h = refl
not_was false h = cc

pub not_is : (b : Bool) → not b ≡ true → b ≡ false
not_is false h = refl
not_is true h = cc
