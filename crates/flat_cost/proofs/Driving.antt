-- The bits that a statement's cost counts are those that its flow drives.
use Rattle.std.proofs.Common.{◌≡◌, ℕ, Bool, true, false, ◌||◌, List, [], ◌∷◌, map, Some, None, refl, sym, ◌∙◌, ap, subst}
use Rattle.std.specs.Prelude.{if◌then◌else◌}
use Rattle.flat_design.specs.declared.net.Net.{Net}
use Rattle.flat_design.specs.declared.stmt.FlatArm.{FlatArm, roll-FlatArm}
use Rattle.flat_design.specs.declared.stmt.FlatStmt.{FlatStmt, ind-FlatStmt, roll-FlatStmt}
use Rattle.flat_design.specs.declared.stmt.FlatStmt.TheOpen.{FlatStmt-F, FlatArm-F}
use Rattle.flat_design.specs.declared.stmt.FlatStmt.TheFolds.{fold-FlatArm, fold-roll-FlatStmt, fold-roll-FlatArm, map-FlatStmt, map-FlatArm}
use Rattle.flat_design.specs.Flows as f
use Rattle.flat_design.specs.Flows.{Flow, ArmFlow, spread, is_full, flow, flow_layer, flow_arms, all_before, idle, no_path}
use Rattle.flat_design.specs.Prices as p
use Rattle.flat_design.specs.Prices.{Load, ArmLoad, load, load_layer, drives_of_all, arms_drive, drives_of_other}

unfoldable pub arm_flow : List Net → FlatArm → ArmFlow
arm_flow nets = fold-FlatArm Flow ArmFlow (flow_layer nets) (f.arm_layer nets)

unfoldable pub arm_load : List Net → FlatArm → ArmLoad
arm_load nets = fold-FlatArm Load ArmLoad (load_layer nets) (p.arm_layer nets)

abbrev StmtDrives : List Net → ℕ → FlatStmt → Type 0
StmtDrives nets i s = (load nets s).drives i ≡ (flow nets s).drives i

abbrev ArmDrives : List Net → ℕ → FlatArm → Type 0
ArmDrives nets i a = (arm_load nets a).body.drives i ≡ (arm_flow nets a).body.drives i

abbrev Stmts : List Net → ℕ → Type 0
Stmts nets i = (s : FlatStmt) × StmtDrives nets i s

abbrev Arms : List Net → ℕ → Type 0
Arms nets i = (a : FlatArm) × ArmDrives nets i a

rolled : (nets : List Net) (i : ℕ) (l : FlatStmt-F FlatStmt FlatArm)
    → (load_layer nets (map-FlatStmt FlatStmt FlatArm Load ArmLoad (load nets) (arm_load nets) l)).drives i ≡ (flow_layer nets (map-FlatStmt FlatStmt FlatArm Flow ArmFlow (flow nets) (arm_flow nets) l)).drives i → StmtDrives nets i (roll-FlatStmt l)
unfolding load flow arm_load arm_flow
rolled nets i l h = ap (λ l. l.drives i) (fold-roll-FlatStmt Load ArmLoad (load_layer nets) (p.arm_layer nets) l) ∙ h ∙ sym (ap (λ f. f.drives i) (fold-roll-FlatStmt Flow ArmFlow (flow_layer nets) (f.arm_layer nets) l))

block_drives : (nets : List Net) (i : ℕ) (ps : List (Stmts nets i)) → drives_of_all (map (load nets) (map (λ p. p.0) ps)) i ≡ (all_before (map (flow nets) (map (λ p. p.0) ps))).drives i
block_drives nets i [] = refl
block_drives nets i (p ∷ ps) = λ j. p.1 j || block_drives nets i ps j

either_of : (a b c : Bool) → (a || b) || c ≡ a || (b || c)
either_of true b c = refl
either_of false b c = refl

arms_drives : (nets : List Net) (i : ℕ) (ps : List (Arms nets i)) (last : Bool) (g : Flow) → last ≡ g.drives i → arms_drive (map (arm_load nets) (map (λ p. p.0) ps)) i || last ≡ (flow_arms (map (arm_flow nets) (map (λ p. p.0) ps)) g).drives i
arms_drives nets i [] last g h = h
arms_drives nets i (p ∷ ps) last g h = either_of ((arm_load nets p.0).body.drives i) (arms_drive (map (arm_load nets) (map (λ p. p.0) ps)) i) last ∙ (λ j. p.1 j || arms_drives nets i ps last g h j)

undriven : (full : Bool) (i : ℕ) → false ≡ (if full then no_path else idle).drives i
undriven true i = refl
undriven false i = refl

stmt_drives : (nets : List Net) (i : ℕ) (y : FlatStmt-F (Stmts nets i) (Arms nets i)) → StmtDrives nets i (roll-FlatStmt (map-FlatStmt (Stmts nets i) (Arms nets i) FlatStmt FlatArm (λ p. p.0) (λ p. p.0) y))
stmt_drives nets i (FlatStmt-F.Block body) = rolled nets i (FlatStmt-F.Block (map (λ p. p.0) body)) (block_drives nets i body)
stmt_drives nets i (FlatStmt-F.Assign left val later) = rolled nets i (FlatStmt-F.Assign left val later) refl
stmt_drives nets i (FlatStmt-F.If test a None) = rolled nets i (FlatStmt-F.If test a.0 None) (ap (λ b. b || false) a.1)
stmt_drives nets i (FlatStmt-F.If test a (Some b)) = rolled nets i (FlatStmt-F.If test a.0 (Some b.0)) (λ j. a.1 j || b.1 j)
stmt_drives nets i (FlatStmt-F.Case selector arms None) = rolled nets i (FlatStmt-F.Case selector (map (λ p. p.0) arms) None) (arms_drives nets i arms false _ (undriven (is_full (spread selector) (map (λ f. f.test) (map (arm_flow nets) (map (λ p. p.0) arms)))) i))
stmt_drives nets i (FlatStmt-F.Case selector arms (Some o)) = rolled nets i (FlatStmt-F.Case selector (map (λ p. p.0) arms) (Some o.0)) (arms_drives nets i arms _ (flow nets o.0) o.1)

arm_drives : (nets : List Net) (i : ℕ) (y : FlatArm-F (Stmts nets i) (Arms nets i)) → ArmDrives nets i (roll-FlatArm (map-FlatArm (Stmts nets i) (Arms nets i) FlatStmt FlatArm (λ p. p.0) (λ p. p.0) y))
unfolding load flow arm_load arm_flow
arm_drives nets i y =
    let l = map-FlatArm (Stmts nets i) (Arms nets i) FlatStmt FlatArm (λ p. p.0) (λ p. p.0) y in
    ap (λ a. a.body.drives i) (fold-roll-FlatArm Load ArmLoad (load_layer nets) (p.arm_layer nets) l) ∙ y.body.1 ∙ sym (ap (λ f. f.body.drives i) (fold-roll-FlatArm Flow ArmFlow (flow_layer nets) (f.arm_layer nets) l))

pub loads_drive : (nets : List Net) (s : FlatStmt) (i : ℕ) → (load nets s).drives i ≡ (flow nets s).drives i
loads_drive nets s i = ind-FlatStmt (StmtDrives nets i) (ArmDrives nets i)
    (λ x y q. subst (λ x. StmtDrives nets i (roll-FlatStmt x)) q (stmt_drives nets i y))
    (λ x y q. subst (λ x. ArmDrives nets i (roll-FlatArm x)) q (arm_drives nets i y))
    s
