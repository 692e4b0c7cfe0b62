-- The flow of a statement.
use Rattle.std.proofs.Common.{◌≡◌, Bool, true, false, not, ◌||◌, List, [], ◌∷◌, map, Option, Some, None, refl, sym, ◌∙◌, ap, subst}
use Rattle.std.specs.Prelude.{if◌then◌else◌, is_some, nat_le}
use Rattle.std.specs.List.{list_any, list_all}
use Rattle.bit_base.specs.Operators.{is_any, each_place, differ, are_all}
use Rattle.flat_design.specs.declared.net.Net.{Net}
use Rattle.flat_design.specs.declared.expr.FlatExpr.{FlatExpr}
use Rattle.flat_design.specs.declared.stmt.FlatLabel.{FlatLabel}
use Rattle.flat_design.specs.declared.stmt.FlatArm.{FlatArm, roll-FlatArm}
use Rattle.flat_design.specs.declared.stmt.FlatStmt.{FlatStmt, ind-FlatStmt, roll-FlatStmt}
use Rattle.flat_design.specs.declared.stmt.FlatStmt.TheOpen.{FlatStmt-F, FlatArm-F}
use Rattle.flat_design.specs.declared.stmt.FlatStmt.TheFolds.{fold-FlatArm, fold-roll-FlatStmt, fold-roll-FlatArm, map-FlatStmt, map-FlatArm}
use Rattle.flat_design.specs.Bits.{Values, Agree}
use Rattle.flat_design.specs.Values.{Value, value}
use Rattle.flat_design.specs.Reads.{reads, constant_in}
use Rattle.flat_design.specs.Statements as r
use Rattle.flat_design.specs.Statements.{State, Run, ArmRun, run, run_all, run_other, run_arms, run_layer, matches_label, matches_any}
use Rattle.flat_design.specs.Flows as f
use Rattle.flat_design.specs.Flows.{Flow, ArmFlow, Spread, spread, flow, flow_layer, flow_case, flow_arms, no_path, flow_other, is_full, label_reads, no_values, before, reading, either, idle}
use Rattle.flat_design.specs.declared.item.FlatItem.{FlatItem}
use Rattle.flat_design.specs.declared.item.FlatItem.TheVariants as I
use Rattle.flat_design.specs.Systems.{item_run, item_flow}
use Rattle.flat_design.specs.Laws.{IsFlow}
use Rattle.flat_design.proofs.Frames.{expr_framed}
use Rattle.flat_design.proofs.FlowLemmas.{or_left, or_right, and_left, and_right, idle_flow, choice_flow, given_flow, AreFlows, block_flow, IsArm, AreArms, arms_flow, full_flow}
use Rattle.flat_design.proofs.Assigning.{assigned_flow}
use Rattle.flat_design.proofs.Sizes.{is_spread, each_word}

-- ---- labels

matches_by : List Bool → List Bool → Value → Bool
matches_by word care x = are_all (each_place (λ care same. not care || same) care (each_place (λ x y. not (differ x y)) x.1 word))

label_same : (nets : List Net) (word : List Bool) (l : FlatLabel) (v w : Values) → Agree (reads nets l.value) v w → matches_label nets v word l ≡ matches_label nets w word l
unfolding matches_by
label_same nets word l v w agree = ap (matches_by word l.care) ((expr_framed nets l.value).frame v w agree)

labels_same : (nets : List Net) (word : List Bool) (labels : List FlatLabel) (v w : Values) → Agree (label_reads nets labels) v w → matches_any nets v word labels ≡ matches_any nets w word labels
labels_same nets word [] v w agree = refl
labels_same nets word (l ∷ labels) v w agree =
    let first = label_same nets word l v w (λ i on. agree i (or_left (reads nets l.value i) (label_reads nets labels i) on)) in
    let rest = labels_same nets word labels v w (λ i on. agree i (or_right (reads nets l.value i) (label_reads nets labels i) on)) in
    λ i. first i || rest i

-- constant labels match alike under all valuations
label_fixed : (nets : List Net) (word : List Bool) (l : FlatLabel) (v w : Values) → is_some (constant_in nets l.value) ≡ true → matches_label nets v word l ≡ matches_label nets w word l
unfolding matches_by
label_fixed nets word l v w h = by (constant_in nets l.value) refl where
  by : (x : Option Value) → constant_in nets l.value ≡ x → matches_label nets v word l ≡ matches_label nets w word l
  by None e = absurd (cc (sym h ∙ ap is_some e))
  by (Some x) e = ap (matches_by word l.care) ((expr_framed nets l.value).fixed x e v ∙ sym ((expr_framed nets l.value).fixed x e w))

labels_fixed : (nets : List Net) (word : List Bool) (labels : List FlatLabel) (v w : Values) → list_all (λ l. is_some (constant_in nets l.value)) labels ≡ true → matches_any nets v word labels ≡ matches_any nets w word labels
labels_fixed nets word [] v w h = refl
labels_fixed nets word (l ∷ labels) v w h =
    let first = label_fixed nets word l v w (and_left (is_some (constant_in nets l.value)) _ h) in
    let rest = labels_fixed nets word labels v w (and_right (is_some (constant_in nets l.value)) _ h) in
    λ i. first i || rest i

-- ---- cases

other_flow : (r : Option Run) (g : Option Flow) → Type 0
other_flow None None = Unit {0}
other_flow None (Some g) = ⊥
other_flow (Some r) None = ⊥
other_flow (Some r) (Some g) = IsFlow r g

other_is : (r : Option Run) (g : Option Flow) → other_flow r g → IsFlow (run_other r) (flow_other g)
unfolding other_flow
other_is None None h = idle_flow (λ i. false)
other_is None (Some g) h = absurd h
other_is (Some r) None h = absurd h
other_is (Some r) (Some g) h = h

-- a full case takes one of its arms
full_case : (nets : List Net) (v : Values) (selector : FlatExpr) (ars : List ArmRun) (fs : List ArmFlow) (other : Run) → AreArms ars fs → is_full (spread selector) (map (λ f. f.test) fs) ≡ true → IsFlow (run_arms (value nets v selector).1 ars other) (flow_arms fs no_path)
full_case nets v selector ars fs other are full =
    let tests = and_right (nat_le (spread selector).own 8) _ full in
    let constant = and_left (list_all (λ t. t.constant) (map (λ f. f.test) fs)) _ tests in
    let all = and_right (list_all (λ t. t.constant) (map (λ f. f.test) fs)) _ tests in
    let some = each_word (spread selector).own (λ word. list_any (λ t. t.matches ((spread selector).widen word)) (map (λ f. f.test) fs)) all (is_spread nets v selector).word (is_spread nets v selector).own in
    full_flow (value nets v selector).1 ars fs other are constant (ap (λ bits. list_any (λ t. t.matches bits) (map (λ f. f.test) fs)) (is_spread nets v selector).is ∙ some)

case_flow : (nets : List Net) (v : Values) (selector : FlatExpr) (ars : List ArmRun) (fs : List ArmFlow) (o : Option Run) (g : Option Flow) → AreArms ars fs → other_flow o g → IsFlow (run_arms (value nets v selector).1 ars (run_other o)) (flow_case (spread selector) fs g)
unfolding other_flow
case_flow nets v selector ars fs None (Some g) are h = absurd h
case_flow nets v selector ars fs (Some o) None are h = absurd h
case_flow nets v selector ars fs (Some o) (Some g) are h = arms_flow (value nets v selector).1 ars fs o g are h
case_flow nets v selector ars fs None None are h = by (is_full (spread selector) (map (λ f. f.test) fs)) refl where
  by : (b : Bool) → is_full (spread selector) (map (λ f. f.test) fs) ≡ b → IsFlow (run_arms (value nets v selector).1 ars (run_other None)) (flow_arms fs (if is_full (spread selector) (map (λ f. f.test) fs) then no_path else idle))
  by true e = subst (λ b. IsFlow (run_arms (value nets v selector).1 ars (run_other None)) (flow_arms fs (if b then no_path else idle))) (sym e) (full_case nets v selector ars fs (run_other None) are e)
  by false e = subst (λ b. IsFlow (run_arms (value nets v selector).1 ars (run_other None)) (flow_arms fs (if b then no_path else idle))) (sym e) (arms_flow (value nets v selector).1 ars fs (run_other None) idle are (idle_flow (λ i. false)))

-- ---- the tree

unfoldable pub arm_run : List Net → FlatArm → ArmRun
arm_run nets = fold-FlatArm Run ArmRun (run_layer nets) (r.arm_layer nets)

unfoldable pub arm_flow : List Net → FlatArm → ArmFlow
arm_flow nets = fold-FlatArm Flow ArmFlow (flow_layer nets) (f.arm_layer nets)

abbrev StmtFlow : List Net → FlatStmt → Type 0
StmtFlow nets s = IsFlow (run nets s) (flow nets s)

abbrev ArmHasFlow : List Net → FlatArm → Type 0
ArmHasFlow nets a = IsArm (arm_run nets a) (arm_flow nets a)

abbrev Stmts : List Net → Type 0
Stmts nets = (s : FlatStmt) × StmtFlow nets s

abbrev Arms : List Net → Type 0
Arms nets = (a : FlatArm) × ArmHasFlow nets a

flow_as : (r q : Run) (f g : Flow) → r ≡ q → f ≡ g → IsFlow q g → IsFlow r f
flow_as r q f g e d h = subst (λ r. IsFlow r f) (sym e) (subst (λ f. IsFlow q f) (sym d) h)

rolled : (nets : List Net) (l : FlatStmt-F FlatStmt FlatArm) → IsFlow (run_layer nets (map-FlatStmt FlatStmt FlatArm Run ArmRun (run nets) (arm_run nets) l)) (flow_layer nets (map-FlatStmt FlatStmt FlatArm Flow ArmFlow (flow nets) (arm_flow nets) l)) → StmtFlow nets (roll-FlatStmt l)
unfolding run flow arm_run arm_flow
rolled nets l h = flow_as _ _ _ _ (fold-roll-FlatStmt Run ArmRun (run_layer nets) (r.arm_layer nets) l) (fold-roll-FlatStmt Flow ArmFlow (flow_layer nets) (f.arm_layer nets) l) h

are_flows : (nets : List Net) (ps : List (Stmts nets)) → AreFlows (map (run nets) (map (λ p. p.0) ps)) (map (flow nets) (map (λ p. p.0) ps))
unfolding AreFlows
are_flows nets [] = tt
are_flows nets (p ∷ ps) = (p.1, are_flows nets ps)

are_arms : (nets : List Net) (ps : List (Arms nets)) → AreArms (map (arm_run nets) (map (λ p. p.0) ps)) (map (arm_flow nets) (map (λ p. p.0) ps))
unfolding AreArms
are_arms nets [] = tt
are_arms nets (p ∷ ps) = (p.1, are_arms nets ps)

stmt_flow : (nets : List Net) (y : FlatStmt-F (Stmts nets) (Arms nets)) → StmtFlow nets (roll-FlatStmt (map-FlatStmt (Stmts nets) (Arms nets) FlatStmt FlatArm (λ p. p.0) (λ p. p.0) y))
unfolding other_flow
stmt_flow nets (FlatStmt-F.Block body) = rolled nets (FlatStmt-F.Block (map (λ p. p.0) body)) (block_flow _ _ (are_flows nets body))
stmt_flow nets (FlatStmt-F.Assign left val later) = rolled nets (FlatStmt-F.Assign left val later) (assigned_flow nets left val later)
stmt_flow nets (FlatStmt-F.If test a None) = rolled nets (FlatStmt-F.If test a.0 None)
    (given_flow (λ v. is_any (value nets v test).1) (reads nets test) (λ v w agree. ap (λ x. is_any x.1) ((expr_framed nets test).frame v w agree)) (λ b s. if b then run nets a.0 s else s) (either (flow nets a.0) idle)
    (λ u. choice_flow (run nets a.0) (λ s. s) (flow nets a.0) idle a.1 (idle_flow (λ i. false)) (is_any (value nets u test).1)))
stmt_flow nets (FlatStmt-F.If test a (Some b)) = rolled nets (FlatStmt-F.If test a.0 (Some b.0))
    (given_flow (λ v. is_any (value nets v test).1) (reads nets test) (λ v w agree. ap (λ x. is_any x.1) ((expr_framed nets test).frame v w agree)) (λ x s. if x then run nets a.0 s else run nets b.0 s) (either (flow nets a.0) (flow nets b.0))
    (λ u. choice_flow (run nets a.0) (run nets b.0) (flow nets a.0) (flow nets b.0) a.1 b.1 (is_any (value nets u test).1)))
stmt_flow nets (FlatStmt-F.Case selector arms None) = rolled nets (FlatStmt-F.Case selector (map (λ p. p.0) arms) None)
    (given_flow (λ v. (value nets v selector).1) (reads nets selector) (λ v w agree. ap (λ x. x.1) ((expr_framed nets selector).frame v w agree)) (λ word. run_arms word (map (arm_run nets) (map (λ p. p.0) arms)) (run_other None)) (flow_case (spread selector) (map (arm_flow nets) (map (λ p. p.0) arms)) None)
    (λ u. case_flow nets u selector (map (arm_run nets) (map (λ p. p.0) arms)) (map (arm_flow nets) (map (λ p. p.0) arms)) None None (are_arms nets arms) tt))
stmt_flow nets (FlatStmt-F.Case selector arms (Some o)) = rolled nets (FlatStmt-F.Case selector (map (λ p. p.0) arms) (Some o.0))
    (given_flow (λ v. (value nets v selector).1) (reads nets selector) (λ v w agree. ap (λ x. x.1) ((expr_framed nets selector).frame v w agree)) (λ word. run_arms word (map (arm_run nets) (map (λ p. p.0) arms)) (run_other (Some (run nets o.0)))) (flow_case (spread selector) (map (arm_flow nets) (map (λ p. p.0) arms)) (Some (flow nets o.0)))
    (λ u. case_flow nets u selector (map (arm_run nets) (map (λ p. p.0) arms)) (map (arm_flow nets) (map (λ p. p.0) arms)) (Some (run nets o.0)) (Some (flow nets o.0)) (are_arms nets arms) o.1))

arm_as : (a b : ArmRun) (f g : ArmFlow) → a ≡ b → f ≡ g → IsArm b g → IsArm a f
arm_as a b f g e d h = subst (λ a. IsArm a f) (sym e) (subst (λ f. IsArm b f) (sym d) h)

arm_has_flow : (nets : List Net) (y : FlatArm-F (Stmts nets) (Arms nets)) → ArmHasFlow nets (roll-FlatArm (map-FlatArm (Stmts nets) (Arms nets) FlatStmt FlatArm (λ p. p.0) (λ p. p.0) y))
unfolding run flow arm_run arm_flow
arm_has_flow nets y = arm_as _ _ _ _ (fold-roll-FlatArm Run ArmRun (run_layer nets) (r.arm_layer nets) (map-FlatArm (Stmts nets) (Arms nets) FlatStmt FlatArm (λ p. p.0) (λ p. p.0) y)) (fold-roll-FlatArm Flow ArmFlow (flow_layer nets) (f.arm_layer nets) (map-FlatArm (Stmts nets) (Arms nets) FlatStmt FlatArm (λ p. p.0) (λ p. p.0) y)) (record {
  asks = λ word v w agree. labels_same nets word y.labels v w agree;
  same = λ constant v word. labels_fixed nets word y.labels v no_values constant;
  body = y.body.1;
})

pub stmt_has_flow : (nets : List Net) (s : FlatStmt) → IsFlow (run nets s) (flow nets s)
stmt_has_flow nets s = ind-FlatStmt (StmtFlow nets) (ArmHasFlow nets)
    (λ x y q. subst (λ x. StmtFlow nets (roll-FlatStmt x)) q (stmt_flow nets y))
    (λ x y q. subst (λ x. ArmHasFlow nets (roll-FlatArm x)) q (arm_has_flow nets y))
    s

pub item_has_flow : (nets : List Net) (x : FlatItem) → IsFlow (item_run nets x) (item_flow nets x)
unfolding item_run item_flow
item_has_flow nets (I.Assign place targets left val connection) = assigned_flow nets left val false
item_has_flow nets (I.Comb place targets body) = stmt_has_flow nets body
item_has_flow nets (I.Clocked place targets events body) = stmt_has_flow nets body
