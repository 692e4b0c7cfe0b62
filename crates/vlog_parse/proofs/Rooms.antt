-- The rules that step down a level.
use Rattle.std.proofs.Common.{◌≡◌, ℕ, suc, ◌-◌, ◌<◌, ◌≤◌, Bool, true, false, cond, nat_lt, if◌then◌else◌, List, Result, Ok, Err, refl, sym, ap, ◌∙◌, arith}
use Rattle.parsing.specs.declared.stop.Stop.{Stop}
use Rattle.parsing.specs.declared.stop.Stop.TheVariants as stop
use Rattle.parsing.specs.Parser.{Refused, Sunk, on}
use Rattle.parsing.proofs.Turns.{deeper}
use Rattle.vlog_tree.specs.declared.token.VToken.{VToken}
use Rattle.vlog_tree.specs.declared.tree_expressions.VExpr.{VExpr}
use Rattle.vlog_tree.specs.Terminals.{is_name}
use Rattle.vlog_tree.specs.ReadStatements.{stmt_of}
use Rattle.vlog_parse.specs.Nesting.{stmt_in, mitem_in, mitem_with}
use Rattle.std.proofs.lemmas.Bool.{lt-ltb, le-ltb, ltb-true, ltb-false}
use Rattle.vlog_tree.specs.ReadExpressions.{Reader, operand, operand_of, expr, choice, upto, chained, lval, lval_name, lval_join}

one_below : (n : ℕ) → 0 < n → n ≡ suc (n - 1)
one_below n some = omega arith

pub expr_none : (room : ℕ) (ts : List VToken) → room ≡ 0 → expr room ts ≡ Err Sunk
unfolding expr
expr_none room ts e = rw e refl

pub expr_down : (room : ℕ) (ts : List VToken) → 0 < room → expr room ts ≡ choice (upto (operand_of (operand (room - 1)) (expr (room - 1))) 11) (expr (room - 1)) ts
unfolding expr
expr_down room ts some = deeper (λ n. expr n ts) room some

pub operand_none : (room : ℕ) (ts : List VToken) → room ≡ 0 → operand room ts ≡ Err Sunk
unfolding operand
operand_none room ts e = rw e refl

pub operand_down : (room : ℕ) (ts : List VToken) → 0 < room → operand room ts ≡ operand_of (operand (room - 1)) (expr (room - 1)) ts
unfolding operand
operand_down room ts some = deeper (λ n. operand n ts) room some

pub upto_none : (inner : Reader VExpr) (level : ℕ) (ts : List VToken) → level ≡ 0 → upto inner level ts ≡ inner ts
unfolding upto
upto_none inner level ts e = rw e refl

pub upto_down : (inner : Reader VExpr) (level : ℕ) (ts : List VToken) → 0 < level → upto inner level ts ≡ chained level (upto inner (level - 1)) ts
unfolding upto
upto_down inner level ts some = let e = one_below level some in ap (λ n. upto inner n ts) e ∙ ap (λ n. chained n (upto inner (level - 1)) ts) (sym e)

pub lval_none : (room : ℕ) (ts : List VToken) → room ≡ 0 → lval room ts ≡ Err Sunk
unfolding lval
lval_none room ts e = rw e refl

pub lval_down : (room : ℕ) (ts : List VToken) → 0 < room → lval room ts ≡ on is_name (lval_name (expr (room - 1))) (lval_join (lval (room - 1))) ts
unfolding lval
lval_down room ts some = deeper (λ n. lval n ts) room some

pub stmt_none : (room levels : ℕ) (ts : List VToken) → room ≡ 0 → stmt_in room levels ts ≡ Err Sunk
unfolding stmt_in
stmt_none room levels ts e = rw e refl

pub stmt_over : (room levels : ℕ) (ts : List VToken) → 0 < room → levels ≡ 0 → stmt_in room levels ts ≡ Err (Refused ts)
unfolding stmt_in
stmt_over room levels ts some e = ap (λ n. stmt_in room n ts) e ∙ deeper (λ n. stmt_in n 0 ts) room some

pub stmt_down : (room levels : ℕ) (ts : List VToken) → 0 < room → 0 < levels → stmt_in room levels ts ≡ stmt_of room (stmt_in (room - 1) (levels - 1)) ts
unfolding stmt_in
stmt_down room levels ts some more =
    deeper (λ n. stmt_in n levels ts) room some ∙ deeper (λ n. stmt_in (suc (room - 1)) n ts) levels more ∙ ap (λ n. stmt_of n (stmt_in (room - 1) (levels - 1)) ts) (sym (one_below room some))

pub mitem_none : (room levels : ℕ) (ts : List VToken) → room ≡ 0 → mitem_in room levels ts ≡ Err Sunk
unfolding mitem_in
mitem_none room levels ts e = rw e refl

pub mitem_over : (room levels : ℕ) (ts : List VToken) → 0 < room → levels ≤ 1056 → mitem_in room levels ts ≡ Err (Refused ts)
unfolding mitem_in
mitem_over room levels ts some few = deeper (λ n. mitem_in n levels ts) room some ∙ rw (le-ltb 1056 levels few) refl

pub mitem_down : (room levels : ℕ) (ts : List VToken) → 0 < room → 1056 < levels → mitem_in room levels ts ≡ mitem_with room (stmt_in room (levels - 1)) (mitem_in (room - 1) (levels - 1)) ts
unfolding mitem_in
mitem_down room levels ts some more =
    deeper (λ n. mitem_in n levels ts) room some ∙ rw (lt-ltb 1056 levels more) refl
    ∙ ap (λ n. mitem_with n (stmt_in n (levels - 1)) (mitem_in (room - 1) (levels - 1)) ts) (sym (one_below room some))

-- ---- what is left below a level

below_ok : {A : Type 0} (b : Bool) (x n : ℕ) (e : A) → cond b (Ok x) (Err e) ≡ Ok n → (b ≡ true) × (n ≡ x)
below_ok true x n e h = (refl, let g : x ≡ n = cc in sym g)
below_ok false x n e h = absurd (cc)

below_err : {A : Type 0} (b : Bool) (x : ℕ) (e f : A) → cond b (Ok x) (Err e) ≡ Err f → (b ≡ false) × (f ≡ e)
below_err true x e f h = absurd (cc)
below_err false x e f h = (refl, let g : e ≡ f = cc in sym g)

module _ (levels others : ℕ) (r : Result ℕ Stop) (is : r ≡ (if nat_lt others levels then Ok (levels - 1) else Err stop.Refused)) where
  pub level_ok : (n : ℕ) → r ≡ Ok n → (others < levels) × (n ≡ levels - 1)
  level_ok n e = let h = below_ok (nat_lt others levels) (levels - 1) n stop.Refused (sym is ∙ e) in (ltb-true others levels h.0, h.1)

  pub level_err : (s : Stop) → r ≡ Err s → (levels ≤ others) × (s ≡ stop.Refused)
  level_err s e = let h = below_err (nat_lt others levels) (levels - 1) stop.Refused s (sym is ∙ e) in (ltb-false others levels h.0, h.1)
