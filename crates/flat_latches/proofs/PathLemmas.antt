-- Paths that go on, one part after the other and by branches.
use Rattle.std.proofs.Common.{◌≡◌, ℕ, zero, suc, ◌<◌, Bool, true, false, ◌||◌, ◌&&◌, List, [], ◌∷◌, ◌++◌, map, length, get_or, refl, sym, ◌∙◌, ap, subst, append_assoc, arith}
use Rattle.std.specs.Prelude.{Option, Some, None, MatchOption, IsSomeAnd, Result, Ok, Err, IfOk, if◌then◌else◌}
use Rattle.flat_design.specs.declared.net.Net.{Net}
use Rattle.flat_design.specs.declared.expr.FlatExpr.{FlatExpr}
use Rattle.flat_design.specs.declared.stmt.FlatArm.{FlatArm}
use Rattle.flat_design.specs.declared.stmt.FlatStmt.{FlatStmt}
use Rattle.flat_design.specs.Flows.{no_path, idle}
use Rattle.flat_paths.specs.Paths.{Walk, walk_all, walk_if, walk_rest, walk_branch, walk_choice, stop, go_on}
use Rattle.flat_flows.specs.Arms.{other_flow, is_closed, default_flow}
use Rattle.flat_latches.specs.Latches.{LeadsOn, other_walk, default_walk}

-- ---- answers

pub match_some : {A : Type 0} (o : Option A) (x : A) (P : Type 0) (Q : A → Type 0) → o ≡ Some x → MatchOption o P Q → Q x
match_some None x P Q is h = absurd (cc is)
match_some (Some y) x P Q is h = let e : y ≡ x = cc in subst Q e h

pub match_none : {A : Type 0} (o : Option A) (P : Type 0) (Q : A → Type 0) → ((x : A) → o ≡ Some x → ⊥) → MatchOption o P Q → P
match_none None P Q out h = h
match_none (Some y) P Q out h = absurd (out y refl)

pub branch_map : {A E : Type 0} (r : Result (Option A) E) (P : Type 0) (Q R : A → Type 0) → ((x : A) → Q x → R x) → IfOk r (λ o. IsSomeAnd o Q) → IfOk r (λ o. MatchOption o P R)
branch_map (Ok None) P Q R f h = absurd h
branch_map (Ok (Some x)) P Q R f h = f x h
branch_map (Err e) P Q R f h = h

-- ---- paths

pub leads_all : (w : Walk) (ws : List Walk) (a b : List ℕ) → LeadsOn w a → LeadsOn (walk_all ws) b → LeadsOn (walk_all (w ∷ ws)) (a ++ b)
leads_all w ws a b h k rest = ap (λ path. walk_rest (walk_all ws) (w path)) (append_assoc a b rest) ∙ ap (walk_rest (walk_all ws)) (h (b ++ rest)) ∙ k rest

pub leads_choice : (ws : List Walk) (last : Walk) (n : ℕ) (p path : List ℕ) → path ≡ n ∷ p → ((rest : List ℕ) → walk_branch ws last n (p ++ rest) ≡ Some rest) → LeadsOn (walk_choice ws last) path
leads_choice ws last n p path is h rest = ap (λ l. walk_choice ws last (l ++ rest)) is ∙ h rest

pub branch_at : {A : Type 0} (f : A → Walk) (xs : List A) (i : ℕ) (x : A) (last : Walk) (path : List ℕ) → i < length xs → x ≡ get_or xs i x → walk_branch (map f xs) last i path ≡ f x path
branch_at f [] i x last path h is = absurd (omega arith)
branch_at f (y ∷ xs) zero x last path h is = ap (λ y. f y path) (sym is)
branch_at f (y ∷ xs) (suc i) x last path h is = branch_at f xs i x last path (omega arith) is

pub branch_last : {A : Type 0} (f : A → Walk) (xs : List A) (last : Walk) (path : List ℕ) → walk_branch (map f xs) last (length xs) path ≡ last path
branch_last f [] last path = refl
branch_last f (x ∷ xs) last path = branch_last f xs last path

pub walk_on : (b : Bool) (rest : List ℕ) → b ≡ true → walk_if b rest ≡ Some rest
walk_on b rest on = rw on refl

pub or_true : (a b : Bool) → b ≡ true → a || b ≡ true
or_true true b h = refl
or_true false b h = h

pub or_false : (a b : Bool) → a ≡ false → b ≡ false → a || b ≡ false
or_false a b h k = rw (h, k) refl

pub and_false : (a b : Bool) → b ≡ false → a && b ≡ false
and_false true b h = h
and_false false b h = refl

-- ---- the default of a case

pub closed_leaves : (nets : List Net) (selector : FlatExpr) (arms : List FlatArm) (other : Option FlatStmt) (i : ℕ) → is_closed nets selector arms other ≡ true → (default_flow nets (is_closed nets selector arms other) other).leaves i ≡ false
closed_leaves nets selector arms None i h = ap (λ b. (if b then no_path else idle).leaves i) h
closed_leaves nets selector arms (Some s) i h = absurd (cc h)

pub open_flow : (nets : List Net) (closed : Bool) (other : Option FlatStmt) → closed ≡ false → default_flow nets closed other ≡ other_flow nets other
open_flow nets closed None h = ap (λ b. if b then no_path else idle) h
open_flow nets closed (Some s) h = refl

pub open_walk : (nets : List Net) (i : ℕ) (closed : Bool) (other : Option FlatStmt) → closed ≡ false → default_walk nets i closed other ≡ other_walk nets i other
open_walk nets i closed None h = ap (λ b. if b then stop else go_on) h
open_walk nets i closed (Some s) h = refl
