-- Parsers as functions on lists of tokens, over any type of tokens.
use Rattle.std.specs.Prelude.{◌≡◌, ℕ, zero, suc, Bool, true, false, cond, List, [], ◌∷◌, ◌++◌, length, Option, Some, None, Result, Ok, Err}

-- Why a parser gives nothing: it refuses, and these are the tokens from the refused one on, or it has no room left.
pub data Fail (Tok : Type 0) : Type 0 where
  Refused : List Tok → Fail Tok
  Sunk : Fail Tok

-- What was read with the tokens after it, or the failure.
abbrev pub Outcome : Type 0 → Type 0 → Type 0
Outcome Tok A = Result (A × List Tok) (Fail Tok)

abbrev pub Parser : Type 0 → Type 0 → Type 0
Parser Tok A = List Tok → Outcome Tok A

abbrev pub and_then : {Tok A B : Type 0} → Outcome Tok A → (A → Parser Tok B) → Outcome Tok B
and_then (Ok p) f = f p.0 p.1
and_then (Err e) f = Err e

abbrev pub pure : {Tok A : Type 0} → A → Parser Tok A
pure a = λ ts. Ok (a, ts)

abbrev pub sunk : {Tok A : Type 0} → Parser Tok A
sunk = λ ts. Err Sunk

-- One after the other. The second may depend on what the first read.
abbrev pub seq : {Tok A B : Type 0} → Parser Tok A → (A → Parser Tok B) → Parser Tok (A × B)
seq p k = λ ts. and_then (p ts) (λ a rest. and_then (k a rest) (λ b more. Ok ((a, b), more)))

-- What was read, in another form.
abbrev pub form : {Tok A B : Type 0} → (A → B) → Parser Tok A → Parser Tok B
form into p = λ ts. and_then (p ts) (λ a rest. Ok (into a, rest))

abbrev pub head_of : {A : Type 0} → List A → Option A
head_of [] = None
head_of (x ∷ xs) = Some x

abbrev pub on_head : {Tok : Type 0} → (Tok → Bool) → Option Tok → Bool
on_head test None = false
on_head test (Some t) = test t

-- the next token passes the test
abbrev pub sees : {Tok : Type 0} → (Tok → Bool) → List Tok → Bool
sees test ts = on_head test (head_of ts)

-- takes a token that passes the test
unfoldable pub expect : {Tok : Type 0} → (Tok → Bool) → Parser Tok Tok
expect test [] = Err (Refused [])
expect test (t ∷ ts) = cond (test t) (Ok (t, ts)) (Err (Refused (t ∷ ts)))

-- whichever token it is
abbrev pub any_one : {Tok : Type 0} → Tok → Bool
any_one t = true

-- the one or the other, as the next token passes the test
abbrev pub on : {Tok A : Type 0} → (Tok → Bool) → Parser Tok A → Parser Tok A → Parser Tok A
on test p q = λ ts. cond (sees test ts) (p ts) (q ts)

abbrev pub optional : {Tok A : Type 0} → (Tok → Bool) → Parser Tok A → Parser Tok (Option A)
optional test p = on test (form Some p) (pure None)

-- Again and again while the next token passes the test. The number bounds the turns, and each turn takes a token, so the count of tokens is enough.
unfoldable pub many_from : {Tok A : Type 0} → (Tok → Bool) → Parser Tok A → ℕ → List A → Parser Tok (List A)
many_from test p zero found = pure found
many_from test p (suc n) found = on test (λ ts. and_then (p ts) (λ x. many_from test p n (found ++ x ∷ []))) (pure found)

unfoldable pub many : {Tok A : Type 0} → (Tok → Bool) → Parser Tok A → Parser Tok (List A)
many test p = λ ts. many_from test p (length ts) [] ts

-- no token is left
unfoldable pub finish : {Tok : Type 0} → Parser Tok (Unit {0})
finish [] = Ok (tt, [])
finish (t ∷ ts) = Err (Refused (t ∷ ts))
