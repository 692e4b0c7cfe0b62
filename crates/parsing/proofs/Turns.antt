-- A repetition beside a loop that counts its turns up.
use Rattle.std.proofs.Common.{◌≡◌, ℕ, zero, suc, ◌+◌, ◌-◌, ◌<◌, ◌≤◌, Bool, true, false, List, [], ◌∷◌, ◌++◌, length, Result, Ok, Err, refl, ap, ◌∙◌, arith}
use Rattle.parsing.specs.Parser.{Fail, Outcome, Parser, and_then, sees, on, many_from, many}

module _ {Tok A : Type 0} (test : Tok → Bool) (p : Parser Tok A) where
  left_over : (x : Outcome Tok (List A)) (k : ℕ) (found : List A) (ts : List Tok) → sees test ts ≡ false → x ≡ many_from test p k found ts → x ≡ Ok (found, ts)
  unfolding many_from
  left_over x zero found ts e inv = inv
  left_over x (suc k) found ts e inv = rw e at inv

pub turn_here : (n turn : ℕ) → turn < n → n - turn ≡ suc (n - (turn + 1))
turn_here n turn below = omega arith

pub deeper : {X : Type 0} (f : ℕ → X) (n : ℕ) → 0 < n → f n ≡ f (suc (n - 1))
deeper f n some = let e : n ≡ suc (n - 1) = omega arith in ap f e

pub many_start : {Tok A : Type 0} (test : Tok → Bool) (p : Parser Tok A) (ts : List Tok) → many test p ts ≡ many_from test p (length ts - 0) [] ts
unfolding many
many_start test p ts = let e : length ts ≡ length ts - 0 = omega arith in ap (λ n. many_from test p n [] ts) e

pub many_ends : {Tok A : Type 0} (test : Tok → Bool) (p : Parser Tok A) (x : Outcome Tok (List A)) (n turn : ℕ) (found : List A) (ts : List Tok)
    → x ≡ many_from test p (n - turn) found ts → sees test ts ≡ false → x ≡ Ok (found, ts)
many_ends test p x n turn found ts inv e = left_over test p x (n - turn) found ts e inv

pub many_over : {Tok A : Type 0} (test : Tok → Bool) (p : Parser Tok A) (x : Outcome Tok (List A)) (n turn : ℕ) (found : List A) (ts : List Tok)
    → x ≡ many_from test p (n - turn) found ts → n ≤ turn → x ≡ Ok (found, ts)
unfolding many_from
many_over test p x n turn found ts inv done = let none : n - turn ≡ 0 = omega arith in rw none at inv

at_turn : {Tok A : Type 0} (test : Tok → Bool) (p : Parser Tok A) (x : Outcome Tok (List A)) (n turn : ℕ) (found : List A) (ts : List Tok)
    → x ≡ many_from test p (n - turn) found ts → turn < n → x ≡ many_from test p (suc (n - (turn + 1))) found ts
at_turn test p x n turn found ts inv below = inv ∙ ap (λ k. many_from test p k found ts) (turn_here n turn below)

pub many_turns : {Tok A : Type 0} (test : Tok → Bool) (p : Parser Tok A) (x : Outcome Tok (List A)) (n turn : ℕ) (found : List A) (ts rest : List Tok) (a : A)
    → x ≡ many_from test p (n - turn) found ts → turn < n → sees test ts ≡ true → p ts ≡ Ok (a, rest) → x ≡ many_from test p (n - (turn + 1)) (found ++ a ∷ []) rest
unfolding many_from
many_turns test p x n turn found ts rest a inv below e h = at_turn test p x n turn found ts inv below ∙ rw (e, h) refl

pub many_fails : {Tok A : Type 0} (test : Tok → Bool) (p : Parser Tok A) (x : Outcome Tok (List A)) (n turn : ℕ) (found : List A) (ts : List Tok) (fail : Fail Tok)
    → x ≡ many_from test p (n - turn) found ts → turn < n → sees test ts ≡ true → p ts ≡ Err fail → x ≡ Err fail
unfolding many_from
many_fails test p x n turn found ts fail inv below e h = at_turn test p x n turn found ts inv below ∙ rw (e, h) refl
