-- A walk finds the paths that a flow leaves a bit by.
use Rattle.std.proofs.Common.{◌≡◌, ℕ, zero, suc, Bool, true, false, not, ◌||◌, ◌&&◌, List, [], ◌∷◌, ◌++◌, map, Option, Some, None, refl, sym, ◌∙◌, ap, subst}
use Rattle.std.specs.Prelude.{if◌then◌else◌}
use Rattle.std.proofs.lemmas.List.{append_assoc}
use Rattle.flat_design.specs.declared.net.Net.{Net}
use Rattle.flat_design.specs.declared.stmt.FlatArm.{FlatArm, roll-FlatArm}
use Rattle.flat_design.specs.declared.stmt.FlatStmt.{FlatStmt, ind-FlatStmt, roll-FlatStmt}
use Rattle.flat_design.specs.declared.stmt.FlatStmt.TheOpen.{FlatStmt-F, FlatArm-F}
use Rattle.flat_design.specs.declared.stmt.FlatStmt.TheFolds.{fold-FlatArm, fold-roll-FlatStmt, fold-roll-FlatArm, map-FlatStmt, map-FlatArm}
use Rattle.flat_design.specs.Flows as f
use Rattle.flat_design.specs.Flows.{Flow, ArmFlow, LabelTest, Spread, spread, is_full, flow, flow_layer, flow_arms, flow_case, flow_other, all_before, idle, no_path, left_fixes}
use Rattle.flat_paths.specs.Paths as w
use Rattle.flat_paths.specs.Paths.{Walk, ArmWalk, stop, go_on, walk_if, walk_rest, walk_all, walk_branch, walk_choice, walk_other, walk_default, walk_layer, walk, IsLeaving}

pub record IsWalk (w : Walk) (leaves : Bool) : Type 0 where
  pub sound : (path rest : List ℕ) → w path ≡ Some rest → leaves ≡ true
  pub found : leaves ≡ true → (path : List ℕ) × ((rest : List ℕ) → w (path ++ rest) ≡ Some rest)

-- ---- walks of parts

if_walk : (b : Bool) → IsWalk (walk_if b) b
if_walk true = record { sound = λ path rest h. refl; found = λ h. ([], λ rest. refl) }
if_walk false = record { sound = λ path rest h. absurd (cc h); found = λ h. absurd (cc h) }

go_on_walk : IsWalk go_on true
go_on_walk = record { sound = λ path rest h. refl; found = λ h. ([], λ rest. refl) }

stop_walk : IsWalk stop false
stop_walk = record { sound = λ path rest h. absurd (cc h); found = λ h. absurd (cc h) }

then_walk : (w v : Walk) (a b : Bool) → IsWalk w a → IsWalk v b → IsWalk (λ path. walk_rest v (w path)) (a && b)
then_walk w v a b h k = record { sound = sound; found = λ on. joined a b on h k } where
  both : (a b : Bool) → a ≡ true → b ≡ true → a && b ≡ true
  both true b h k = k
  both false b h k = absurd (cc h)

  through : (path rest : List ℕ) (o : Option (List ℕ)) → w path ≡ o → walk_rest v o ≡ Some rest → a && b ≡ true
  through path rest None e h' = absurd (cc h')
  through path rest (Some mid) e h' = both a b (h.sound path mid e) (k.sound mid rest h')

  sound : (path rest : List ℕ) → walk_rest v (w path) ≡ Some rest → a && b ≡ true
  sound path rest e = through path rest (w path) refl e

  joined : (a b : Bool) → a && b ≡ true → IsWalk w a → IsWalk v b → (path : List ℕ) × ((rest : List ℕ) → walk_rest v (w (path ++ rest)) ≡ Some rest)
  joined false b on h k = absurd (cc on)
  joined true b on h k =
      let first = h.found refl in
      let second = k.found on in
      (first.0 ++ second.0, λ rest. ap (λ path. walk_rest v (w path)) (append_assoc first.0 second.0 rest) ∙ ap (walk_rest v) (first.1 (second.0 ++ rest)) ∙ second.1 rest)

AreWalks : List Walk → List Bool → Type 0
AreWalks [] [] = Unit {0}
AreWalks [] (b ∷ bs) = ⊥
AreWalks (w ∷ ws) [] = ⊥
AreWalks (w ∷ ws) (b ∷ bs) = IsWalk w b × AreWalks ws bs

all_true : List Bool → Bool
all_true [] = true
all_true (b ∷ bs) = b && all_true bs

some_true : List Bool → Bool → Bool
some_true [] last = last
some_true (b ∷ bs) last = b || some_true bs last

all_walk : (ws : List Walk) (bs : List Bool) → AreWalks ws bs → IsWalk (walk_all ws) (all_true bs)
unfolding AreWalks all_true
all_walk [] [] are = go_on_walk
all_walk [] (b ∷ bs) are = absurd are
all_walk (w ∷ ws) [] are = absurd are
all_walk (w ∷ ws) (b ∷ bs) are = then_walk w (walk_all ws) b (all_true bs) are.0 (all_walk ws bs are.1)

branch_sound : (ws : List Walk) (bs : List Bool) (other : Walk) (c : Bool) → AreWalks ws bs → IsWalk other c → (n : ℕ) (path rest : List ℕ) → walk_branch ws other n path ≡ Some rest → some_true bs c ≡ true
unfolding AreWalks some_true
branch_sound [] [] other c are h zero path rest e = h.sound path rest e
branch_sound [] [] other c are h (suc n) path rest e = absurd (cc e)
branch_sound [] (b ∷ bs) other c are h n path rest e = absurd are
branch_sound (w ∷ ws) [] other c are h n path rest e = absurd are
branch_sound (w ∷ ws) (b ∷ bs) other c are h zero path rest e = left b (some_true bs c) (are.0.sound path rest e) where
  left : (x y : Bool) → x ≡ true → x || y ≡ true
  left true y h = refl
  left false y h = absurd (cc h)
branch_sound (w ∷ ws) (b ∷ bs) other c are h (suc n) path rest e = right b (some_true bs c) (branch_sound ws bs other c are.1 h n path rest e) where
  right : (x y : Bool) → y ≡ true → x || y ≡ true
  right true y h = refl
  right false y h = h

pub record IsBranch (ws : List Walk) (other : Walk) : Type 0 where
  pub number : ℕ
  pub path : List ℕ
  pub leads : (rest : List ℕ) → walk_branch ws other number (path ++ rest) ≡ Some rest

branch_found : (ws : List Walk) (bs : List Bool) (other : Walk) (c : Bool) → AreWalks ws bs → IsWalk other c → some_true bs c ≡ true → IsBranch ws other
unfolding AreWalks some_true
branch_found [] [] other c are h on = let p = h.found on in record { number = 0; path = p.0; leads = p.1 }
branch_found [] (b ∷ bs) other c are h on = absurd are
branch_found (w ∷ ws) [] other c are h on = absurd are
branch_found (w ∷ ws) (b ∷ bs) other c are h on = by b on are.0 (λ on. branch_found ws bs other c are.1 h on) where
  by : (b : Bool) → b || some_true bs c ≡ true → IsWalk w b → (some_true bs c ≡ true → IsBranch ws other) → IsBranch (w ∷ ws) other
  by true on k rest = let p = k.found refl in record { number = 0; path = p.0; leads = p.1 }
  by false on k rest = let r : IsBranch ws other = rest on in record { number = suc r.number; path = r.path; leads = r.leads }

choice_walk : (ws : List Walk) (bs : List Bool) (other : Walk) (c : Bool) → AreWalks ws bs → IsWalk other c → IsWalk (walk_choice ws other) (some_true bs c)
choice_walk ws bs other c are h = record { sound = sound; found = found } where
  sound : (path rest : List ℕ) → walk_choice ws other path ≡ Some rest → some_true bs c ≡ true
  sound [] rest e = absurd (cc e)
  sound (n ∷ path) rest e = branch_sound ws bs other c are h n path rest e

  found : some_true bs c ≡ true → (path : List ℕ) × ((rest : List ℕ) → walk_choice ws other (path ++ rest) ≡ Some rest)
  found on = let r = branch_found ws bs other c are h on in (r.number ∷ r.path, r.leads)

-- ---- what the flows say

walk_as : (w v : Walk) (a b : Bool) → w ≡ v → a ≡ b → IsWalk v b → IsWalk w a
walk_as w v a b e d h = subst (λ w. IsWalk w a) (sym e) (subst (λ a. IsWalk v a) (sym d) h)

leaves_all : (fs : List Flow) (i : ℕ) → (all_before fs).leaves i ≡ all_true (map (λ f. f.leaves i) fs)
unfolding all_true
leaves_all [] i = refl
leaves_all (f ∷ fs) i = ap (λ b. f.leaves i && b) (leaves_all fs i)

leaves_arms : (fs : List ArmFlow) (other : Flow) (i : ℕ) → (flow_arms fs other).leaves i ≡ some_true (map (λ f. f.body.leaves i) fs) (other.leaves i)
unfolding some_true
leaves_arms [] other i = refl
leaves_arms (f ∷ fs) other i = ap (λ b. f.body.leaves i || b) (leaves_arms fs other i)

default_walk : (full : Bool) (i : ℕ) → IsWalk (walk_default full None) ((if full then no_path else idle).leaves i)
default_walk true i = stop_walk
default_walk false i = go_on_walk

-- ---- the tree

unfoldable pub arm_flow : List Net → FlatArm → ArmFlow
arm_flow nets = fold-FlatArm Flow ArmFlow (flow_layer nets) (f.arm_layer nets)

unfoldable pub arm_walk : List Net → ℕ → FlatArm → ArmWalk
arm_walk nets i = fold-FlatArm Walk ArmWalk (walk_layer nets i) (w.arm_layer nets)

abbrev StmtWalk : List Net → ℕ → FlatStmt → Type 0
StmtWalk nets i s = IsWalk (walk nets i s) ((flow nets s).leaves i)

abbrev ArmIsWalk : List Net → ℕ → FlatArm → Type 0
ArmIsWalk nets i a = ((arm_walk nets i a).0 ≡ (arm_flow nets a).test) × IsWalk (arm_walk nets i a).1 ((arm_flow nets a).body.leaves i)

abbrev Stmts : List Net → ℕ → Type 0
Stmts nets i = (s : FlatStmt) × StmtWalk nets i s

abbrev Arms : List Net → ℕ → Type 0
Arms nets i = (a : FlatArm) × ArmIsWalk nets i a

rolled : (nets : List Net) (i : ℕ) (l : FlatStmt-F FlatStmt FlatArm) → IsWalk (walk_layer nets i (map-FlatStmt FlatStmt FlatArm Walk ArmWalk (walk nets i) (arm_walk nets i) l)) ((flow_layer nets (map-FlatStmt FlatStmt FlatArm Flow ArmFlow (flow nets) (arm_flow nets) l)).leaves i) → StmtWalk nets i (roll-FlatStmt l)
unfolding walk flow arm_walk arm_flow
rolled nets i l h = walk_as _ _ _ _ (fold-roll-FlatStmt Walk ArmWalk (walk_layer nets i) (w.arm_layer nets) l) (ap (λ f. f.leaves i) (fold-roll-FlatStmt Flow ArmFlow (flow_layer nets) (f.arm_layer nets) l)) h

are_walks : (nets : List Net) (i : ℕ) (ps : List (Stmts nets i)) → AreWalks (map (walk nets i) (map (λ p. p.0) ps)) (map (λ f. f.leaves i) (map (flow nets) (map (λ p. p.0) ps)))
unfolding AreWalks
are_walks nets i [] = tt
are_walks nets i (p ∷ ps) = (p.1, are_walks nets i ps)

arms_walk : (nets : List Net) (i : ℕ) (ps : List (Arms nets i)) → AreWalks (map (λ a. a.1) (map (arm_walk nets i) (map (λ p. p.0) ps))) (map (λ f. f.body.leaves i) (map (arm_flow nets) (map (λ p. p.0) ps)))
unfolding AreWalks
arms_walk nets i [] = tt
arms_walk nets i (p ∷ ps) = (p.1.1, arms_walk nets i ps)

tests_same : (nets : List Net) (i : ℕ) (ps : List (Arms nets i)) → map (λ a. a.0) (map (arm_walk nets i) (map (λ p. p.0) ps)) ≡ map (λ f. f.test) (map (arm_flow nets) (map (λ p. p.0) ps))
tests_same nets i [] = refl
tests_same nets i (p ∷ ps) = λ j. p.1.0 j ∷ tests_same nets i ps j

one_walk : (w : Walk) (b : Bool) → IsWalk w b → AreWalks (w ∷ []) (b ∷ [])
unfolding AreWalks
one_walk w b h = (h, tt)

branch_of : (w : Walk) (b : Bool) (other : Walk) (c : Bool) → IsWalk w b → IsWalk other c → IsWalk (walk_choice (w ∷ []) other) (b || c)
unfolding some_true
branch_of w b other c h k = choice_walk (w ∷ []) (b ∷ []) other c (one_walk w b h) k

stmt_walk : (nets : List Net) (i : ℕ) (y : FlatStmt-F (Stmts nets i) (Arms nets i)) → StmtWalk nets i (roll-FlatStmt (map-FlatStmt (Stmts nets i) (Arms nets i) FlatStmt FlatArm (λ p. p.0) (λ p. p.0) y))
stmt_walk nets i (FlatStmt-F.Block body) = rolled nets i (FlatStmt-F.Block (map (λ p. p.0) body)) (walk_as _ _ _ _ refl (leaves_all (map (flow nets) (map (λ p. p.0) body)) i) (all_walk _ _ (are_walks nets i body)))
stmt_walk nets i (FlatStmt-F.Assign left val later) = rolled nets i (FlatStmt-F.Assign left val later) (if_walk (later || not (left_fixes nets left i)))
stmt_walk nets i (FlatStmt-F.If test a None) = rolled nets i (FlatStmt-F.If test a.0 None) (branch_of (walk nets i a.0) ((flow nets a.0).leaves i) go_on true a.1 go_on_walk)
stmt_walk nets i (FlatStmt-F.If test a (Some b)) = rolled nets i (FlatStmt-F.If test a.0 (Some b.0)) (branch_of (walk nets i a.0) ((flow nets a.0).leaves i) (walk nets i b.0) ((flow nets b.0).leaves i) a.1 b.1)
stmt_walk nets i (FlatStmt-F.Case selector arms None) = rolled nets i (FlatStmt-F.Case selector (map (λ p. p.0) arms) None)
    (let fs = map (arm_flow nets) (map (λ p. p.0) arms) in
    let full = ap (is_full (spread selector)) (tests_same nets i arms) in
    walk_as _ _ _ _ (ap (λ b. walk_choice (map (λ a. a.1) (map (arm_walk nets i) (map (λ p. p.0) arms))) (walk_default b None)) full) (leaves_arms fs (if is_full (spread selector) (map (λ f. f.test) fs) then no_path else idle) i)
    (choice_walk _ _ _ _ (arms_walk nets i arms) (default_walk (is_full (spread selector) (map (λ f. f.test) fs)) i)))
stmt_walk nets i (FlatStmt-F.Case selector arms (Some o)) = rolled nets i (FlatStmt-F.Case selector (map (λ p. p.0) arms) (Some o.0))
    (walk_as _ _ _ _ refl (leaves_arms (map (arm_flow nets) (map (λ p. p.0) arms)) (flow nets o.0) i) (choice_walk _ _ _ _ (arms_walk nets i arms) o.1))

arm_is_walk : (nets : List Net) (i : ℕ) (y : FlatArm-F (Stmts nets i) (Arms nets i)) → ArmIsWalk nets i (roll-FlatArm (map-FlatArm (Stmts nets i) (Arms nets i) FlatStmt FlatArm (λ p. p.0) (λ p. p.0) y))
unfolding walk flow arm_walk arm_flow
arm_is_walk nets i y =
    let l = map-FlatArm (Stmts nets i) (Arms nets i) FlatStmt FlatArm (λ p. p.0) (λ p. p.0) y in
    let walks = fold-roll-FlatArm Walk ArmWalk (walk_layer nets i) (w.arm_layer nets) l in
    let flows = fold-roll-FlatArm Flow ArmFlow (flow_layer nets) (f.arm_layer nets) l in
    (ap (λ a. a.0) walks ∙ sym (ap (λ f. f.test) flows), walk_as _ _ _ _ (ap (λ a. a.1) walks) (ap (λ f. f.body.leaves i) flows) y.body.1)

pub is_walk : (nets : List Net) (i : ℕ) (s : FlatStmt) → StmtWalk nets i s
is_walk nets i s = ind-FlatStmt (StmtWalk nets i) (ArmIsWalk nets i)
    (λ x y q. subst (λ x. StmtWalk nets i (roll-FlatStmt x)) q (stmt_walk nets i y))
    (λ x y q. subst (λ x. ArmIsWalk nets i (roll-FlatArm x)) q (arm_is_walk nets i y))
    s

pub path_leaves : (nets : List Net) (i : ℕ) (s : FlatStmt) (path : List ℕ) → IsLeaving nets i s path → (flow nets s).leaves i ≡ true
path_leaves nets i s path h = (is_walk nets i s).sound path [] h

whole : (path : List ℕ) → path ++ [] ≡ path
whole [] = refl
whole (n ∷ path) = ap (λ l. n ∷ l) (whole path)

pub leaves_by_path : (nets : List Net) (i : ℕ) (s : FlatStmt) → (flow nets s).leaves i ≡ true → (path : List ℕ) × IsLeaving nets i s path
leaves_by_path nets i s on = let p = (is_walk nets i s).found on in (p.0, ap (walk nets i s) (sym (whole p.0)) ∙ p.1 [])
