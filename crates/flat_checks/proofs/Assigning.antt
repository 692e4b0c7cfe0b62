-- What drives a bit assigns a net.
use Rattle.std.proofs.Common.{◌≡◌, ◌⊎◌, inl, inr, ℕ, zero, suc, Bool, true, false, ◌||◌, ◌==◌, List, [], ◌∷◌, ◌++◌, map, Some, None, refl, sym, ◌∙◌, ap, subst, eq-eqb}
use Rattle.std.specs.Prelude.{if◌then◌else◌, slice_get}
use Rattle.std.proofs.lemmas.List.Folds.{list_any-append}
use Rattle.flat_design.specs.declared.net.Net.{Net}
use Rattle.flat_design.specs.declared.stmt.FlatLeft.{FlatLeft}
use Rattle.flat_design.specs.declared.stmt.FlatArm.{FlatArm, roll-FlatArm}
use Rattle.flat_design.specs.declared.stmt.FlatStmt.{FlatStmt, ind-FlatStmt, roll-FlatStmt}
use Rattle.flat_design.specs.declared.stmt.FlatStmt.TheOpen.{FlatStmt-F, FlatArm-F}
use Rattle.flat_design.specs.declared.stmt.FlatStmt.TheFolds.{fold-roll-FlatStmt, fold-roll-FlatArm, map-FlatStmt, map-FlatArm}
use Rattle.flat_design.specs.declared.item.FlatItem.{FlatItem}
use Rattle.flat_design.specs.declared.item.FlatItem.TheVariants as I
use Rattle.flat_design.specs.Flows as f
use Rattle.flat_design.specs.Flows.{Flow, ArmFlow, spread, is_full, flow, flow_layer, flow_arms, all_before, idle, no_path, part_drives, left_drives}
use Rattle.flat_design.specs.Systems.{item_flow}
use Rattle.flat_orders.specs.Orders.{among}
use Rattle.flat_orders.specs.Cycles.{Feeds, LeadsTo, IsCycle}
use Rattle.flat_raw.specs.Assigned.{left_nets, all_nets, stmt_layer, arm_layer, stmt_nets, arm_nets, item_nets}
use Rattle.flat_driven.proofs.Inside.{arm_flow}
use Rattle.flat_checks.specs.Cycles.{AreAssigning}

or_by : (a b : Bool) → a || b ≡ true → (a ≡ true) ⊎ (b ≡ true)
or_by true b h = inl refl
or_by false b h = inr h

or_left : (a b : Bool) → a ≡ true → a || b ≡ true
or_left true b h = refl
or_left false b h = absurd (cc h)

or_right : (a b : Bool) → b ≡ true → a || b ≡ true
or_right true b h = refl
or_right false b h = h

-- the list has a number
abbrev pub HasOne : List ℕ → Type 0
HasOne ns = (n : ℕ) × (among n ns ≡ true)

in_left : (ms ns : List ℕ) → HasOne ms → HasOne (ms ++ ns)
in_left ms ns h = (h.0, list_any-append (λ j. j == h.0) ms ns ∙ or_left (among h.0 ms) (among h.0 ns) h.1)

in_right : (ms ns : List ℕ) → HasOne ns → HasOne (ms ++ ns)
in_right ms ns h = (h.0, list_any-append (λ j. j == h.0) ms ns ∙ or_right (among h.0 ms) (among h.0 ns) h.1)

left_in : (nets : List Net) (left : List FlatLeft) (i : ℕ) → left_drives nets left i ≡ true → HasOne (left_nets left)
left_in nets [] i h = absurd (cc h)
left_in nets (l ∷ left) i h = (l.net, or_left (l.net == l.net) (among l.net (left_nets left)) (eq-eqb l.net l.net refl))

-- ---- statements

abbrev StmtIn : List Net → ℕ → FlatStmt → Type 0
StmtIn nets i s = (flow nets s).drives i ≡ true → HasOne (stmt_nets s)

abbrev ArmIn : List Net → ℕ → FlatArm → Type 0
ArmIn nets i a = (arm_flow nets a).body.drives i ≡ true → HasOne (arm_nets a)

abbrev Stmts : List Net → ℕ → Type 0
Stmts nets i = (s : FlatStmt) × StmtIn nets i s

abbrev Arms : List Net → ℕ → Type 0
Arms nets i = (a : FlatArm) × ArmIn nets i a

rolled : (nets : List Net) (i : ℕ) (l : FlatStmt-F FlatStmt FlatArm)
    → ((flow_layer nets (map-FlatStmt FlatStmt FlatArm Flow ArmFlow (flow nets) (arm_flow nets) l)).drives i ≡ true → HasOne (stmt_layer (map-FlatStmt FlatStmt FlatArm (List ℕ) (List ℕ) stmt_nets arm_nets l)))
    → StmtIn nets i (roll-FlatStmt l)
unfolding flow arm_flow stmt_nets arm_nets
rolled nets i l h d =
    subst HasOne (sym (fold-roll-FlatStmt (List ℕ) (List ℕ) stmt_layer arm_layer l))
    (h (sym (ap (λ f. f.drives i) (fold-roll-FlatStmt Flow ArmFlow (flow_layer nets) (f.arm_layer nets) l)) ∙ d))

block_in : (nets : List Net) (i : ℕ) (ps : List (Stmts nets i)) → (all_before (map (flow nets) (map (λ p. p.0) ps))).drives i ≡ true → HasOne (all_nets (map stmt_nets (map (λ p. p.0) ps)))
block_in nets i [] h = absurd (cc h)
block_in nets i (p ∷ ps) h = elim (or_by ((flow nets p.0).drives i) ((all_before (map (flow nets) (map (λ p. p.0) ps))).drives i) h) [
  | inl a ↦ in_left (stmt_nets p.0) (all_nets (map stmt_nets (map (λ p. p.0) ps))) (p.1 a)
  | inr b ↦ in_right (stmt_nets p.0) (all_nets (map stmt_nets (map (λ p. p.0) ps))) (block_in nets i ps b)
]

-- the arms of a case, or what is done where none matches
arms_in : (nets : List Net) (i : ℕ) (ps : List (Arms nets i)) (g : Flow) → (flow_arms (map (arm_flow nets) (map (λ p. p.0) ps)) g).drives i ≡ true → HasOne (all_nets (map arm_nets (map (λ p. p.0) ps))) ⊎ (g.drives i ≡ true)
arms_in nets i [] g h = inr h
arms_in nets i (p ∷ ps) g h = elim (or_by ((arm_flow nets p.0).body.drives i) ((flow_arms (map (arm_flow nets) (map (λ p. p.0) ps)) g).drives i) h) [
  | inl a ↦ inl (in_left (arm_nets p.0) (all_nets (map arm_nets (map (λ p. p.0) ps))) (p.1 a))
  | inr b ↦ elim (arms_in nets i ps g b) [
    | inl rest ↦ inl (in_right (arm_nets p.0) (all_nets (map arm_nets (map (λ p. p.0) ps))) rest)
    | inr d ↦ inr d
  ]
]

none_in : (i : ℕ) (full : Bool) → (if full then no_path else idle).drives i ≡ true → ⊥
none_in i true h = cc h
none_in i false h = cc h

stmt_in : (nets : List Net) (i : ℕ) (y : FlatStmt-F (Stmts nets i) (Arms nets i)) → StmtIn nets i (roll-FlatStmt (map-FlatStmt (Stmts nets i) (Arms nets i) FlatStmt FlatArm (λ p. p.0) (λ p. p.0) y))
stmt_in nets i (FlatStmt-F.Block body) = rolled nets i (FlatStmt-F.Block (map (λ p. p.0) body)) (block_in nets i body)
stmt_in nets i (FlatStmt-F.Assign left val later) = rolled nets i (FlatStmt-F.Assign left val later) (left_in nets left i)
stmt_in nets i (FlatStmt-F.If test a None) = rolled nets i (FlatStmt-F.If test a.0 None) (λ h. elim (or_by ((flow nets a.0).drives i) false h) [ inl d ↦ in_left (stmt_nets a.0) [] (a.1 d) | inr d ↦ absurd (cc d) ])
stmt_in nets i (FlatStmt-F.If test a (Some b)) = rolled nets i (FlatStmt-F.If test a.0 (Some b.0)) (λ h. elim (or_by ((flow nets a.0).drives i) ((flow nets b.0).drives i) h) [
  | inl d ↦ in_left (stmt_nets a.0) (stmt_nets b.0) (a.1 d)
  | inr d ↦ in_right (stmt_nets a.0) (stmt_nets b.0) (b.1 d)
])
stmt_in nets i (FlatStmt-F.Case selector arms None) =
    let full = is_full (spread selector) (map (λ f. f.test) (map (arm_flow nets) (map (λ p. p.0) arms))) in
    rolled nets i (FlatStmt-F.Case selector (map (λ p. p.0) arms) None) (λ h. elim (arms_in nets i arms (if full then no_path else idle) h) [
      | inl some ↦ in_left (all_nets (map arm_nets (map (λ p. p.0) arms))) [] some
      | inr d ↦ absurd (none_in i full d)
    ])
stmt_in nets i (FlatStmt-F.Case selector arms (Some o)) = rolled nets i (FlatStmt-F.Case selector (map (λ p. p.0) arms) (Some o.0)) (λ h. elim (arms_in nets i arms (flow nets o.0) h) [
  | inl some ↦ in_left (all_nets (map arm_nets (map (λ p. p.0) arms))) (stmt_nets o.0) some
  | inr d ↦ in_right (all_nets (map arm_nets (map (λ p. p.0) arms))) (stmt_nets o.0) (o.1 d)
])

arm_in : (nets : List Net) (i : ℕ) (y : FlatArm-F (Stmts nets i) (Arms nets i)) → ArmIn nets i (roll-FlatArm (map-FlatArm (Stmts nets i) (Arms nets i) FlatStmt FlatArm (λ p. p.0) (λ p. p.0) y))
unfolding flow arm_flow stmt_nets arm_nets
arm_in nets i y d =
    let l = map-FlatArm (Stmts nets i) (Arms nets i) FlatStmt FlatArm (λ p. p.0) (λ p. p.0) y in
    subst HasOne (sym (fold-roll-FlatArm (List ℕ) (List ℕ) stmt_layer arm_layer l)) (y.body.1 (sym (ap (λ f. f.body.drives i) (fold-roll-FlatArm Flow ArmFlow (flow_layer nets) (f.arm_layer nets) l)) ∙ d))

body_in : (nets : List Net) (s : FlatStmt) (i : ℕ) → StmtIn nets i s
body_in nets s i = ind-FlatStmt (StmtIn nets i) (ArmIn nets i)
    (λ x y q. subst (λ x. StmtIn nets i (roll-FlatStmt x)) q (stmt_in nets i y))
    (λ x y q. subst (λ x. ArmIn nets i (roll-FlatArm x)) q (arm_in nets i y))
    s

pub drives_assigned : (nets : List Net) (x : FlatItem) (i : ℕ) → (item_flow nets x).drives i ≡ true → HasOne (item_nets x)
unfolding item_flow
drives_assigned nets (I.Assign place targets left val connection) i h = left_in nets left i h
drives_assigned nets (I.Comb place targets body) i h = body_in nets body i h
drives_assigned nets (I.Clocked place targets events body) i h = body_in nets body i h

-- ---- cycles

abbrev Assigns : List FlatItem → ℕ → Type 0
Assigns items k = (x : FlatItem) × ((slice_get items k ≡ Some x) × HasOne (item_nets x))

driver_assigns : (nets : List Net) (items : List FlatItem) (k j : ℕ) → Feeds nets items k j → Assigns items j
driver_assigns nets items k j h = (h.driver, (h.is_driver.0, drives_assigned nets h.driver h.bit h.drives))

all_after : (nets : List Net) (items : List FlatItem) (k last : ℕ) (ks : List ℕ) → LeadsTo nets items k ks last → (p j : ℕ) → slice_get ks p ≡ Some j → Assigns items j
all_after nets items k last [] h p j at = absurd (cc at)
all_after nets items k last (m ∷ ks) h zero j at = subst (Assigns items) (same at) (driver_assigns nets items k m h.0) where
  same : {a b : ℕ} → Some a ≡ Some b → a ≡ b
  same {a} {b} e = cc
all_after nets items k last (m ∷ ks) h (suc p) j at = all_after nets items m last ks h.1 p j at

last_assigns : (nets : List Net) (items : List FlatItem) (k last : ℕ) (ks : List ℕ) → LeadsTo nets items k ks last → Assigns items last
last_assigns nets items k last [] h = driver_assigns nets items k last h
last_assigns nets items k last (m ∷ ks) h = last_assigns nets items m last ks h.1

-- each item of a cycle assigns a net
pub cycle_assigns : (nets : List Net) (items : List FlatItem) (ks : List ℕ) → IsCycle nets items ks → AreAssigning items ks
cycle_assigns nets items [] h = absurd h
cycle_assigns nets items (k ∷ ks) h = record { assigns = at } where
  same : {a b : ℕ} → Some a ≡ Some b → a ≡ b
  same {a} {b} e = cc

  at : (p j : ℕ) → slice_get (k ∷ ks) p ≡ Some j → Assigns items j
  at zero j e = subst (Assigns items) (same e) (last_assigns nets items k k ks h)
  at (suc p) j e = all_after nets items k k ks h p j e
