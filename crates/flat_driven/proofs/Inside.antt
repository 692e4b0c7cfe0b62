-- Each bit that an item drives is one of a net.
use Rattle.std.proofs.Common.{◌≡◌, ◌⊎◌, inl, inr, ℕ, Bool, true, false, ◌&&◌, ◌||◌, List, [], ◌∷◌, map, Option, Some, None, refl, sym, ◌∙◌, ap, subst}
use Rattle.std.specs.Prelude.{if◌then◌else◌}
use Rattle.flat_design.specs.declared.net.Net.{Net}
use Rattle.flat_design.specs.declared.expr.FlatExpr.{FlatExpr}
use Rattle.flat_design.specs.declared.stmt.FlatLeft.{FlatLeft}
use Rattle.flat_design.specs.declared.stmt.FlatArm.{FlatArm, roll-FlatArm}
use Rattle.flat_design.specs.declared.stmt.FlatStmt.{FlatStmt, ind-FlatStmt, roll-FlatStmt}
use Rattle.flat_design.specs.declared.stmt.FlatStmt.TheOpen.{FlatStmt-F, FlatArm-F}
use Rattle.flat_design.specs.declared.stmt.FlatStmt.TheFolds.{fold-FlatArm, fold-roll-FlatStmt, fold-roll-FlatArm, map-FlatStmt, map-FlatArm}
use Rattle.flat_design.specs.declared.item.FlatItem.{FlatItem}
use Rattle.flat_design.specs.declared.item.FlatItem.TheVariants as I
use Rattle.flat_design.specs.Bits.{net_at, of_net}
use Rattle.flat_design.specs.Reads.{constant_in}
use Rattle.flat_design.specs.Values.{Value}
use Rattle.flat_design.specs.Reads.{select_bits}
use Rattle.flat_design.specs.Flows as f
use Rattle.flat_design.specs.Flows.{Flow, ArmFlow, spread, is_full, flow, flow_layer, flow_arms, all_before, flow_case, idle, no_path, select_drives, part_drives, left_drives}
use Rattle.flat_design.specs.Systems.{item_flow}

or_by : (a b : Bool) → a || b ≡ true → (a ≡ true) ⊎ (b ≡ true)
or_by true b h = inl refl
or_by false b h = inr h

and_left : (a b : Bool) → a && b ≡ true → a ≡ true
and_left true b h = refl
and_left false b h = cc

-- some net has the bit
abbrev pub IsInside : List Net → ℕ → Type 0
IsInside nets i = (n : ℕ) × (of_net (net_at nets n) i ≡ true)

select_inside : (net : Net) (r : Option Value) (width i : ℕ) → select_bits net r width i ≡ true → of_net net i ≡ true
select_inside net None width i h = h
select_inside net (Some x) width i h = and_left (of_net net i) _ h

part_inside : (nets : List Net) (net : Net) (width : ℕ) (index : Option FlatExpr) (i : ℕ) → select_drives nets net width index i ≡ true → of_net net i ≡ true
part_inside nets net width None i h = and_left (of_net net i) _ h
part_inside nets net width (Some e) i h = select_inside net (constant_in nets e) width i h

left_inside : (nets : List Net) (left : List FlatLeft) (i : ℕ) → left_drives nets left i ≡ true → IsInside nets i
left_inside nets [] i h = absurd (cc h)
left_inside nets (l ∷ left) i h = elim (or_by (part_drives nets l i) (left_drives nets left i) h) [
  | inl here ↦ (l.net, part_inside nets (net_at nets l.net) l.width l.index i here)
  | inr rest ↦ left_inside nets left i rest
]

-- ---- statements

unfoldable pub arm_flow : List Net → FlatArm → ArmFlow
arm_flow nets = fold-FlatArm Flow ArmFlow (flow_layer nets) (f.arm_layer nets)

abbrev StmtIn : List Net → ℕ → FlatStmt → Type 0
StmtIn nets i s = (flow nets s).drives i ≡ true → IsInside nets i

abbrev ArmIn : List Net → ℕ → FlatArm → Type 0
ArmIn nets i a = (arm_flow nets a).body.drives i ≡ true → IsInside nets i

abbrev Stmts : List Net → ℕ → Type 0
Stmts nets i = (s : FlatStmt) × StmtIn nets i s

abbrev Arms : List Net → ℕ → Type 0
Arms nets i = (a : FlatArm) × ArmIn nets i a

rolled : (nets : List Net) (i : ℕ) (l : FlatStmt-F FlatStmt FlatArm) → ((flow_layer nets (map-FlatStmt FlatStmt FlatArm Flow ArmFlow (flow nets) (arm_flow nets) l)).drives i ≡ true → IsInside nets i) → StmtIn nets i (roll-FlatStmt l)
unfolding flow arm_flow
rolled nets i l h d = h (sym (ap (λ f. f.drives i) (fold-roll-FlatStmt Flow ArmFlow (flow_layer nets) (f.arm_layer nets) l)) ∙ d)

block_in : (nets : List Net) (i : ℕ) (ps : List (Stmts nets i)) → (all_before (map (flow nets) (map (λ p. p.0) ps))).drives i ≡ true → IsInside nets i
block_in nets i [] h = absurd (cc h)
block_in nets i (p ∷ ps) h = elim (or_by ((flow nets p.0).drives i) ((all_before (map (flow nets) (map (λ p. p.0) ps))).drives i) h) [ inl a ↦ p.1 a | inr b ↦ block_in nets i ps b ]

arms_in : (nets : List Net) (i : ℕ) (ps : List (Arms nets i)) (g : Flow) → (g.drives i ≡ true → IsInside nets i) → (flow_arms (map (arm_flow nets) (map (λ p. p.0) ps)) g).drives i ≡ true → IsInside nets i
arms_in nets i [] g rest h = rest h
arms_in nets i (p ∷ ps) g rest h = elim (or_by ((arm_flow nets p.0).body.drives i) ((flow_arms (map (arm_flow nets) (map (λ p. p.0) ps)) g).drives i) h) [ inl a ↦ p.1 a | inr b ↦ arms_in nets i ps g rest b ]

none_in : (nets : List Net) (i : ℕ) (full : Bool) → (if full then no_path else idle).drives i ≡ true → IsInside nets i
none_in nets i true h = absurd (cc h)
none_in nets i false h = absurd (cc h)

stmt_in : (nets : List Net) (i : ℕ) (y : FlatStmt-F (Stmts nets i) (Arms nets i)) → StmtIn nets i (roll-FlatStmt (map-FlatStmt (Stmts nets i) (Arms nets i) FlatStmt FlatArm (λ p. p.0) (λ p. p.0) y))
stmt_in nets i (FlatStmt-F.Block body) = rolled nets i (FlatStmt-F.Block (map (λ p. p.0) body)) (block_in nets i body)
stmt_in nets i (FlatStmt-F.Assign left val later) = rolled nets i (FlatStmt-F.Assign left val later) (left_inside nets left i)
stmt_in nets i (FlatStmt-F.If test a None) = rolled nets i (FlatStmt-F.If test a.0 None) (λ h. elim (or_by ((flow nets a.0).drives i) false h) [ inl d ↦ a.1 d | inr d ↦ absurd (cc d) ])
stmt_in nets i (FlatStmt-F.If test a (Some b)) = rolled nets i (FlatStmt-F.If test a.0 (Some b.0)) (λ h. elim (or_by ((flow nets a.0).drives i) ((flow nets b.0).drives i) h) [ inl d ↦ a.1 d | inr d ↦ b.1 d ])
stmt_in nets i (FlatStmt-F.Case selector arms None) =
    let full = is_full (spread selector) (map (λ f. f.test) (map (arm_flow nets) (map (λ p. p.0) arms))) in
    rolled nets i (FlatStmt-F.Case selector (map (λ p. p.0) arms) None) (arms_in nets i arms (if full then no_path else idle) (none_in nets i full))
stmt_in nets i (FlatStmt-F.Case selector arms (Some o)) = rolled nets i (FlatStmt-F.Case selector (map (λ p. p.0) arms) (Some o.0)) (arms_in nets i arms (flow nets o.0) o.1)

arm_in : (nets : List Net) (i : ℕ) (y : FlatArm-F (Stmts nets i) (Arms nets i)) → ArmIn nets i (roll-FlatArm (map-FlatArm (Stmts nets i) (Arms nets i) FlatStmt FlatArm (λ p. p.0) (λ p. p.0) y))
unfolding flow arm_flow
arm_in nets i y d =
    let l = map-FlatArm (Stmts nets i) (Arms nets i) FlatStmt FlatArm (λ p. p.0) (λ p. p.0) y in
    y.body.1 (sym (ap (λ f. f.body.drives i) (fold-roll-FlatArm Flow ArmFlow (flow_layer nets) (f.arm_layer nets) l)) ∙ d)

body_inside : (nets : List Net) (s : FlatStmt) (i : ℕ) → (flow nets s).drives i ≡ true → IsInside nets i
body_inside nets s i = ind-FlatStmt (StmtIn nets i) (ArmIn nets i)
    (λ x y q. subst (λ x. StmtIn nets i (roll-FlatStmt x)) q (stmt_in nets i y))
    (λ x y q. subst (λ x. ArmIn nets i (roll-FlatArm x)) q (arm_in nets i y))
    s

pub drives_inside : (nets : List Net) (x : FlatItem) (i : ℕ) → (item_flow nets x).drives i ≡ true → IsInside nets i
unfolding item_flow
drives_inside nets (I.Assign place targets left val connection) i h = left_inside nets left i h
drives_inside nets (I.Comb place targets body) i h = body_inside nets body i h
drives_inside nets (I.Clocked place targets events body) i h = body_inside nets body i h
