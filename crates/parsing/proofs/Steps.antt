-- Small facts on outcomes, heads and lists.
use Rattle.std.proofs.Common.{◌≡◌, ℕ, zero, suc, ◌+◌, ◌<◌, ◌≤◌, Bool, true, false, cond, ◌||◌, List, [], ◌∷◌, ◌++◌, length, Option, Some, None, Result, Ok, Err, refl, sym, ◌∙◌, ap, subst, append_assoc, length-append, arith}
use Rattle.parsing.specs.declared.stop.Stop.{Stop}
use Rattle.parsing.specs.declared.stop.Stop.TheVariants as stop
use Rattle.parsing.specs.Reads.{Reads}
use Rattle.parsing.specs.Parser.{Fail, Refused, Sunk, Outcome, Parser, and_then, pure, seq, form, head_of, on_head, sees, expect, any_one}
use Rattle.parsing.specs.Rule.{SameHead, Begins, Stuck, Taken}

pub some_same : {A : Type 0} {x y : A} → Some x ≡ Some y → x ≡ y
some_same e = cc

pub ok_same : {A E : Type 0} {x y : A} → ◌≡◌ {A = Result A E} (Ok x) (Ok y) → x ≡ y
ok_same e = cc

pub ok_not_err : {A E : Type 0} {x : A} {y : E} → ◌≡◌ {A = Result A E} (Ok x) (Err y) → ⊥
ok_not_err e = cc

pub true_not_false : {b : Bool} → b ≡ true → b ≡ false → ⊥
true_not_false e h = cc

pub either_left : (a b : Bool) → a ≡ true → (a || b) ≡ true
either_left a b e = rw e refl

pub either_right : (a b : Bool) → b ≡ true → (a || b) ≡ true
either_right true b e = refl
either_right false b e = e

pub cond_true : {A : Type 0} (b : Bool) (x y : A) → b ≡ true → cond {A = A} b x y ≡ x
cond_true b x y e = rw e refl

pub cond_false : {A : Type 0} (b : Bool) (x y : A) → b ≡ false → cond {A = A} b x y ≡ y
cond_false b x y e = rw e refl

pub same_front : {Tok : Type 0} (xs ys zs : List Tok) → SameHead ys zs → SameHead (xs ++ ys) (xs ++ zs)
unfolding SameHead
same_front [] ys zs e = e
same_front (x ∷ xs) ys zs e = refl

pub same_sees : {Tok : Type 0} (test : Tok → Bool) (xs ys : List Tok) → SameHead xs ys → sees test xs ≡ sees test ys
unfolding SameHead
same_sees test xs ys e = ap (on_head test) e

pub same_after : {Tok : Type 0} (xs rest ys zs : List Tok) → ys ≡ xs ++ rest → SameHead rest zs → SameHead ys (xs ++ zs)
same_after xs rest ys zs e same = rw e (same_front xs rest zs same)

pub none_same : {Tok : Type 0} (zs : List Tok) → SameHead [] zs → zs ≡ []
unfolding SameHead
none_same [] e = refl
none_same (z ∷ zs) e = absurd (cc)

pub at_head : {Tok : Type 0} (t : Tok) (ts zs : List Tok) → SameHead (t ∷ ts) zs → (more : List Tok) × (zs ≡ t ∷ more)
unfolding SameHead
at_head t ts [] e = absurd (cc)
at_head t ts (z ∷ zs) e = (zs, ap (λ x. x ∷ zs) (sym (some_same e)))

pub seq_ok : {Tok A B : Type 0} (p : Parser Tok A) (k : A → Parser Tok B) (ts rest more : List Tok) (a : A) (b : B) → p ts ≡ Ok (a, rest) → k a rest ≡ Ok (b, more) → seq p k ts ≡ Ok ((a, b), more)
seq_ok p k ts rest more a b e h = rw (e, h) refl

pub seq_refused : {Tok A B : Type 0} (p : Parser Tok A) (k : A → Parser Tok B) (ts rest more : List Tok) (a : A) → p ts ≡ Ok (a, rest) → k a rest ≡ Err (Refused more) → seq p k ts ≡ Err (Refused more)
seq_refused p k ts rest more a e h = rw (e, h) refl

pub seq_first_refused : {Tok A B : Type 0} (p : Parser Tok A) (k : A → Parser Tok B) (ts more : List Tok) → p ts ≡ Err (Refused more) → seq p k ts ≡ Err (Refused more)
seq_first_refused p k ts more e = rw e refl

pub form_ok : {Tok A B : Type 0} (into : A → B) (p : Parser Tok A) (ts rest : List Tok) (a : A) → p ts ≡ Ok (a, rest) → form into p ts ≡ Ok (into a, rest)
form_ok into p ts rest a e = rw e refl

pub form_refused : {Tok A B : Type 0} (into : A → B) (p : Parser Tok A) (ts rest : List Tok) → p ts ≡ Err (Refused rest) → form into p ts ≡ Err (Refused rest)
form_refused into p ts rest e = rw e refl

pub front_more : {Tok : Type 0} (front rest : List Tok) → length rest ≤ length (front ++ rest)
front_more front rest = simp length-append (omega arith)

pub expect_unseen : {Tok : Type 0} (test : Tok → Bool) (ts : List Tok) → sees test ts ≡ false → expect test ts ≡ Err (Refused ts)
unfolding expect
expect_unseen test [] e = refl
expect_unseen test (t ∷ ts) e = rw e refl

pub expect_seen : {Tok : Type 0} (test : Tok → Bool) (ts : List Tok) → sees test ts ≡ true → expect test ts ≡ expect any_one ts
unfolding expect
expect_seen test [] e = absurd (cc)
expect_seen test (t ∷ ts) e = rw e refl

pub same_refl : {Tok : Type 0} (xs : List Tok) → SameHead xs xs
unfolding SameHead
same_refl xs = refl

pub reads_ok : {Tok A : Type 0} (o : Outcome Tok A) (r : Result A Stop) (after : List Tok) (a : A) → Reads o r after → r ≡ Ok a → o ≡ Ok (a, after)
reads_ok o r after a h e = rw e at h

pub reads_refused : {Tok A : Type 0} (o : Outcome Tok A) (r : Result A Stop) (after : List Tok) (s : Stop) → Reads o r after → r ≡ Err s → s ≡ stop.Refused → o ≡ Err (Refused after)
reads_refused {A = A} o r after s h e i = let wrap : Stop → Result A Stop = λ x. Err x in let j : r ≡ Err stop.Refused = e ∙ ap wrap i in rw j at h

pub reads_sunk : {Tok A : Type 0} (o : Outcome Tok A) (r : Result A Stop) (after : List Tok) (s : Stop) → Reads o r after → r ≡ Err s → s ≡ stop.Sunk → o ≡ Err Sunk
reads_sunk {A = A} o r after s h e i = let wrap : Stop → Result A Stop = λ x. Err x in let j : r ≡ Err stop.Sunk = e ∙ ap wrap i in rw j at h
