-- Operands with operators between them beside a loop that puts each to the right of what it has read.
use Rattle.std.proofs.Common.{◌≡◌, ℕ, zero, suc, ◌+◌, ◌-◌, ◌<◌, ◌≤◌, Bool, true, false, cond, List, [], ◌∷◌, ◌++◌, length, Ok, Err, refl, ap, ◌∙◌, arith}
use Rattle.parsing.specs.Parser.{Fail, Outcome, Parser, and_then, form, sees, many_from, many}
use Rattle.parsing.proofs.Turns.{many_start, turn_here}
use Rattle.vlog_tree.specs.declared.token.VToken.{VToken}
use Rattle.vlog_tree.specs.declared.tree_expressions.VExpr.{VExpr}
use Rattle.vlog_tree.specs.declared.tree_expressions.VExpr.TheVariants as VExpr
use Rattle.vlog_tree.specs.Terminals.{is_level}
use Rattle.vlog_tree.specs.ReadExpressions.{Reader, chain, step, chained}

-- what is read after this left operand in so many turns
abbrev pub chain_from : ℕ → Reader VExpr → ℕ → VExpr → Reader VExpr
chain_from level operand n left = form (chain left) (many_from (is_level level) (step level operand) n [])

module _ {Tok A B : Type 0} (test : Tok → Bool) (p : Parser Tok A) (n : ℕ) (into : List A → B) (a : A) (found : List A) (ts : List Tok) where
  -- one turn more, where it holds of the turns after it
  turn_more : (b : Bool) (r : Outcome Tok A) → ((x : A) (rest : List Tok) → form into (many_from test p n (a ∷ (found ++ x ∷ []))) rest ≡ form (λ xs. into (a ∷ xs)) (many_from test p n (found ++ x ∷ [])) rest)
      → and_then (cond b (and_then r (λ x. many_from test p n (a ∷ (found ++ x ∷ [])))) (Ok (a ∷ found, ts))) (λ xs rest. Ok (into xs, rest))
      ≡ and_then (cond b (and_then r (λ x. many_from test p n (found ++ x ∷ []))) (Ok (found, ts))) (λ xs rest. Ok (into (a ∷ xs), rest))
  turn_more false r after = refl
  turn_more true (Err e) after = refl
  turn_more true (Ok (x, rest)) after = after x rest

-- what was found before stands in front
found_first : {Tok A B : Type 0} (test : Tok → Bool) (p : Parser Tok A) (n : ℕ) (into : List A → B) (a : A) (found : List A) (ts : List Tok)
    → form into (many_from test p n (a ∷ found)) ts ≡ form (λ xs. into (a ∷ xs)) (many_from test p n found) ts
unfolding many_from
found_first test p zero into a found ts = refl
found_first test p (suc n) into a found ts = turn_more test p n into a found ts (sees test ts) (p ts) (λ x rest. found_first test p n into a (found ++ x ∷ []) rest)

at_once : (left : VExpr) (r : Outcome VToken (List (VToken × VExpr)))
    → and_then {A = VExpr × List (VToken × VExpr)} (and_then r (λ steps rest. Ok ((left, steps), rest))) (λ p rest. Ok (chain p.0 p.1, rest)) ≡ and_then r (λ steps rest. Ok (chain left steps, rest))
at_once left (Ok p) = refl
at_once left (Err fail) = refl

pub chain_start : (level : ℕ) (operand : Reader VExpr) (ts rest : List VToken) (left : VExpr) → operand ts ≡ Ok (left, rest)
    → chained level operand ts ≡ chain_from level operand (length rest - 0) left rest
unfolding chained
chain_start level operand ts rest left e =
    rw e (at_once left (many (is_level level) (step level operand) rest) ∙ ap (λ r. and_then r (λ steps more. Ok (chain left steps, more))) (many_start (is_level level) (step level operand) rest))

pub chain_first_fails : (level : ℕ) (operand : Reader VExpr) (ts : List VToken) (fail : Fail VToken) → operand ts ≡ Err fail → chained level operand ts ≡ Err fail
unfolding chained
chain_first_fails level operand ts fail e = rw e refl

module _ (level : ℕ) (operand : Reader VExpr) (x : Outcome VToken VExpr) (n turn : ℕ) (left : VExpr) (ts : List VToken) (inv : x ≡ chain_from level operand (n - turn) left ts) where
  at_end : (k : ℕ) → sees (is_level level) ts ≡ false → x ≡ chain_from level operand k left ts → x ≡ Ok (left, ts)
  unfolding many_from
  at_end zero e inv = inv
  at_end (suc k) e inv = rw e at inv

  pub chain_ends : sees (is_level level) ts ≡ false → x ≡ Ok (left, ts)
  chain_ends e = at_end (n - turn) e inv

  pub chain_over : n ≤ turn → x ≡ Ok (left, ts)
  unfolding many_from
  chain_over done = let none : n - turn ≡ 0 = omega arith in rw none at inv

  at_turn : turn < n → x ≡ chain_from level operand (suc (n - (turn + 1))) left ts
  at_turn below = inv ∙ ap (λ k. chain_from level operand k left ts) (turn_here n turn below)

  pub chain_turns : (rest : List VToken) (operator : VToken) (right : VExpr) → turn < n → sees (is_level level) ts ≡ true → step level operand ts ≡ Ok ((operator, right), rest)
      → x ≡ chain_from level operand (n - (turn + 1)) (VExpr.Binary left operator right) rest
  unfolding many_from
  chain_turns rest operator right below e h =
      at_turn below ∙ rw (e, h) (found_first (is_level level) (step level operand) (n - (turn + 1)) (chain left) (operator, right) [] rest)

  pub chain_fails : (fail : Fail VToken) → turn < n → sees (is_level level) ts ≡ true → step level operand ts ≡ Err fail → x ≡ Err fail
  unfolding many_from
  chain_fails fail below e h = at_turn below ∙ rw (e, h) refl
