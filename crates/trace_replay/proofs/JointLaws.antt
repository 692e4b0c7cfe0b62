-- Each register and list of wires has one joint run, and the wires of a master's choices are legal in it.
use Rattle.std.proofs.Common.{◌≡◌, ℕ, zero, suc, ◌+◌, ◌≤◌, min, Bool, true, false, not, ◌&&◌, cond, List, [], ◌∷◌, length, take, map, Option, Some, None, slice_get, nat_lt, refl, arith, ap, subst, ◌∙◌, sym, add-one}
use Rattle.std.specs.List.{All, enumerate_from}
use Rattle.std.specs.Option.{option_map_or}
use Rattle.std.proofs.lemmas.Bool.{cond-true, cond-false}
use Rattle.std.proofs.lemmas.Option.{same_Some}
use Rattle.std.proofs.lemmas.List.Elements.{All-nil, All-cons}
use Rattle.apb_rules.specs.declared.wires.BusWires.{BusWires}
use Rattle.apb_rules.specs.declared.wires.Choice.{Choice}
use Rattle.apb_rules.specs.declared.phase.Phase.{Phase}
use Rattle.apb_rules.specs.declared.phase.Phase.TheVariants.{Free, Access}
use Rattle.apb_rules.specs.Drive.{driven}
use Rattle.apb_rules.specs.Phases.{phase_after}
use Rattle.apb_rules.specs.Master.{BusEdge, IsLegalMaster}
use Rattle.apb_rules.specs.Moves.{Move, FitsBus, choice_of, move_of, calm, edges_of}
use Rattle.apb_rules.proofs.Driven.{driven_is_master, master_is_driven}
use Rattle.reg_machine.specs.States.{next_state}
use Rattle.trace_replay.specs.Blocks.{FlatBlock}
use Rattle.trace_replay.specs.States.{JointParts}
use Rattle.trace_replay.specs.Joint.{start_of, in_reset, wires_of, event_at, taken_at, edge_at, state_after, wires_from}
use Rattle.trace_replay.specs.Runs.{JointRun, IsJointRun, HasJointRun, SameRun, IsDriven, IsLegalRun, pins_in, plain, shown_in}
use Rattle.trace_replay.proofs.JointRuns.{Stands, past_reset_edge, stands_first, stands_next}

module _ (block : FlatBlock) where
  -- the state after these edges
  after_all : JointParts → List BusWires → JointParts
  after_all s [] = s
  after_all s (w ∷ more) = after_all (state_after block s w) more

  after_next : (s : JointParts) (wires : List BusWires) (e : ℕ) (w : BusWires) → slice_get wires e ≡ Some w → after_all s (take (suc e) wires) ≡ state_after block (after_all s (take e wires)) w
  unfolding after_all
  after_next s [] e w at = cc
  after_next s (v ∷ more) zero w at = ap (λ x. state_after block s x) (same_Some _ _ at)
  after_next s (v ∷ more) (suc e) w at = after_next (state_after block s v) more e w at

  edge_after : (s : JointParts) (wires : List BusWires) (e : ℕ) (w : BusWires) → s.edge ≤ 1 → slice_get wires e ≡ Some w → (after_all s (take e wires)).edge ≡ min (s.edge + e) 1
  unfolding after_all
  edge_after s [] e w few at = cc
  edge_after s (v ∷ more) zero w few at = omega (arith, few)
  edge_after s (v ∷ more) (suc e) w few at = let less : min (s.edge + 1) 1 ≤ 1 = omega arith in omega (arith, edge_after (state_after block s v) more e w less at)

  -- the run whose edges these states are before
  run_from : ℕ → List BusWires → JointRun
  run_from register wires = record {
    register = λ e. (after_all (start_of block register) (take e wires)).register;
    machine = λ e. (after_all (start_of block register) (take e wires)).machine;
  }

  edge_is : (register : ℕ) (wires : List BusWires) (e : ℕ) (w : BusWires) → slice_get wires e ≡ Some w → (after_all (start_of block register) (take e wires)).edge ≡ min e 1
  edge_is register wires e w at = omega (arith, edge_after (start_of block register) wires e w (omega arith) at)

  run_is : (register : ℕ) (wires : List BusWires) → IsJointRun block wires (run_from register wires)
  unfolding run_from after_all
  run_is register wires = record { taken = taken; reset = reset; steps = steps }
    where
      taken : (e : ℕ) (w : BusWires) → slice_get wires e ≡ Some w → (run_from register wires).register (e + 1) ≡ taken_at block (pins_in block wires (run_from register wires) e w) ((run_from register wires).register e)
      taken e w at =
          ap (λ n. (after_all (start_of block register) (take n wires)).register) (add-one e)
          ∙ ap (λ s. s.register) (after_next (start_of block register) wires e w at)
          ∙ ap (λ r. taken_at block (record { reset_n = r; bus = w }) (after_all (start_of block register) (take e wires)).register) (past_reset_edge _ e (edge_is register wires e w at))

      first : (ws : List BusWires) → (after_all (start_of block register) (take 1 ws)).machine ≡ (start_of block register).machine
      first [] = refl
      first (w ∷ more) = refl

      reset : (e : ℕ) → e ≤ 1 → (run_from register wires).machine e ≡ (start_of block register).machine
      reset zero few = refl
      reset (suc zero) few = first wires
      reset (suc (suc e)) few = absurd (omega (arith, few))

      steps : (e : ℕ) (w : BusWires) → 1 ≤ e → slice_get wires e ≡ Some w
          → (run_from register wires).machine (e + 1) ≡ next_state (edge_at block ((run_from register wires).machine e) (event_at block (after_all (start_of block register) (take e wires)) w)) ((run_from register wires).machine e)
      steps e w past at =
          let one : (after_all (start_of block register) (take e wires)).edge ≡ 1 = omega (arith, edge_is register wires e w at, past) in
          ap (λ n. (after_all (start_of block register) (take n wires)).machine) (add-one e)
          ∙ ap (λ s. s.machine) (after_next (start_of block register) wires e w at)
          ∙ cond-false (in_reset (after_all (start_of block register) (take e wires))) _ _ (ap (λ n. nat_lt n 1) one)

  pub run_there : (register : ℕ) (wires : List BusWires) → HasJointRun block wires register
  unfolding run_from after_all
  run_there register wires = record { run = run_from register wires; is = run_is register wires; begins = refl }

  -- a run goes through these states
  walk : (wires : List BusWires) (run : JointRun) (e : ℕ) (s : JointParts) (more : List BusWires) → IsJointRun block wires run → Stands run e s
      → ((i : ℕ) → slice_get wires (e + i) ≡ slice_get more i) → (j : ℕ) → j ≤ length more → Stands run (e + j) (after_all s (take j more))
  unfolding after_all
  walk wires run e s more is st at zero few = let same : e ≡ e + 0 = omega arith in subst (λ n. Stands run n s) same st
  walk wires run e s [] is st at (suc j) few = absurd (omega (arith, few))
  walk wires run e s (w ∷ more) is st at (suc j) few =
      subst (λ n. Stands run n (after_all (state_after block s w) (take j more))) place
      (walk wires run (e + 1) (state_after block s w) more is (stands_next block wires run e s w is st here) (λ i. ap (λ n. slice_get wires n) (later i) ∙ at (suc i)) j (omega (arith, few)))
    where
      here : slice_get wires e ≡ Some w
      here = let same : e ≡ e + 0 = omega arith in ap (λ n. slice_get wires n) same ∙ at 0

      later : (i : ℕ) → e + 1 + i ≡ e + suc i
      later i = omega arith

      place : e + 1 + j ≡ e + suc j
      place = omega arith

  goes : (register : ℕ) (wires : List BusWires) (run : JointRun) → IsJointRun block wires run → run.register 0 ≡ register → (e : ℕ) → e ≤ length wires → Stands run (0 + e) (after_all (start_of block register) (take e wires))
  goes register wires run is begins e few = walk wires run 0 (start_of block register) wires is (stands_first block wires run register is begins) (λ i. let same : 0 + i ≡ i = omega arith in ap (λ n. slice_get wires n) same) e few

  goes_to : (register : ℕ) (wires : List BusWires) (run : JointRun) → IsJointRun block wires run → run.register 0 ≡ register → (e : ℕ) → e ≤ length wires → Stands run e (after_all (start_of block register) (take e wires))
  goes_to register wires run is begins e few = let same : 0 + e ≡ e = omega arith in subst (λ n. Stands run n (after_all (start_of block register) (take e wires))) same (goes register wires run is begins e few)

  pub run_once : (wires : List BusWires) (first second : JointRun) → IsJointRun block wires first → IsJointRun block wires second → first.register 0 ≡ second.register 0 → SameRun wires first second
  run_once wires first second a b same = record {
    registers = λ e few. sym (goes_to _ wires first a same e few).register ∙ (goes_to _ wires second b refl e few).register;
    machines = λ e few. sym (goes_to _ wires first a same e few).machine ∙ (goes_to _ wires second b refl e few).machine;
  }

-- ---- what choices drive

abbrev ready_edge : BusWires → BusEdge
ready_edge w = record { wires = w; ready = true }

abbrev with_ready : Choice → Bool → Move
with_ready choice ready = record { choice = record choice { strobe = 0; prot = 0 }; ready = ready }

abbrev plain_move : Choice → Move
plain_move choice = with_ready choice true

same_edges : (n : ℕ) (wires : List BusWires) → map (λ (p : ℕ × BusWires). ready_edge p.1) (enumerate_from n wires) ≡ map ready_edge wires
same_edges n [] = refl
same_edges n (w ∷ wires) = ap (λ rest. ready_edge w ∷ rest) (same_edges (n + 1) wires)

and_true : {A : Type 0} (b c : Bool) (x y : A) → c ≡ true → cond (b && c) x y ≡ cond b x y
and_true true c x y is = cond-true c x y is
and_true false c x y is = refl

and_false : {A : Type 0} (b c : Bool) (x y : A) → c ≡ false → cond (b && c) x y ≡ y
and_false true c x y is = cond-false c x y is
and_false false c x y is = refl

drives : (phase : Phase) (choice : Choice) (b : Bool) → b ≡ true → driven plain 1 phase (record choice { start = choice.start && b }) ≡ driven plain 1 phase (record choice { strobe = 0; prot = 0 })
drives Free choice b is = and_true choice.start b _ _ is
drives (Access held) choice b is = refl

module _ (block : FlatBlock) where
  later_edges : (s : JointParts) (choices : List Choice) → s.edge ≡ 1 → map ready_edge (wires_from block s choices) ≡ edges_of plain 1 s.phase (map plain_move choices)
  later_edges s [] one = refl
  later_edges s (choice ∷ choices) one =
      let late : in_reset s ≡ false = ap (λ n. nat_lt n 1) one in
      let still : min (s.edge + 1) 1 ≡ 1 = omega (arith, one) in
      ap (λ rest. ready_edge (wires_of s choice) ∷ rest) (later_edges (state_after block s (wires_of s choice)) choices still)
      ∙ ap (λ p. ready_edge (wires_of s choice) ∷ edges_of plain 1 p (map plain_move choices)) (cond-false (in_reset s) Free _ late)
      ∙ ap (λ w. ready_edge w ∷ edges_of plain 1 (phase_after s.phase w true) (map plain_move choices)) (drives s.phase choice (not (in_reset s)) (ap not late))

  all_edges : (register : ℕ) (choices : List Choice) → map ready_edge (wires_from block (start_of block register) choices) ≡ edges_of plain 1 Free (calm 1 (map plain_move choices))
  all_edges register [] = refl
  all_edges register (choice ∷ choices) =
      let first : wires_of (start_of block register) choice ≡ driven plain 1 Free (record choice { start = false; strobe = 0; prot = 0 }) = and_false choice.start false _ _ refl in
      ap (λ rest. ready_edge (wires_of (start_of block register) choice) ∷ rest) (later_edges (state_after block (start_of block register) (wires_of (start_of block register) choice)) choices refl)
      ∙ ap (λ w. ready_edge w ∷ edges_of plain 1 Free (map plain_move choices)) first

  fits : (choices : List Choice) → All (λ move. FitsBus 1 move.choice) (map plain_move choices)
  fits [] = All-nil (λ move. FitsBus 1 move.choice)
  fits (choice ∷ choices) = All-cons (λ move. FitsBus 1 move.choice) _ _ (record { strobe_fits = omega arith; prot_fits = omega arith }) (fits choices)

  -- the block is ready at every edge
  all_ready : (wires : List BusWires) (run : JointRun) (o : Option BusWires) (e : ℕ) → option_map_or (λ w. (shown_in block wires run e w).ready) o true ≡ true
  all_ready wires run None e = refl
  all_ready wires run (Some w) e = refl

  ready_moves : (wires : List BusWires) (run : JointRun) (n : ℕ) (choices : List Choice)
      → map (λ (p : ℕ × Choice). with_ready p.1 (option_map_or (λ w. (shown_in block wires run p.0 w).ready) (slice_get wires p.0) true)) (enumerate_from n choices) ≡ map plain_move choices
  ready_moves wires run n [] = refl
  ready_moves wires run n (choice ∷ choices) =
      ap (λ r. with_ready choice r ∷ map (λ (p : ℕ × Choice). with_ready p.1 (option_map_or (λ w. (shown_in block wires run p.0 w).ready) (slice_get wires p.0) true)) (enumerate_from (n + 1) choices)) (all_ready wires run (slice_get wires n) n)
      ∙ ap (λ rest. plain_move choice ∷ rest) (ready_moves wires run (n + 1) choices)

  pub run_is_driven : (register : ℕ) (choices : List Choice) (run : JointRun) → IsDriven block (wires_from block (start_of block register) choices) run choices
  run_is_driven register choices run =
      same_edges 0 (wires_from block (start_of block register) choices) ∙ all_edges register choices
      ∙ ap (λ moves. edges_of plain 1 Free (calm 1 moves)) (sym (ready_moves (wires_from block (start_of block register) choices) run 0 choices))

  pub run_is_legal : (register : ℕ) (choices : List Choice) (run : JointRun) → IsLegalRun block (wires_from block (start_of block register) choices) run
  run_is_legal register choices run =
      subst (λ edges. IsLegalMaster plain 1 1 edges) (sym (same_edges 0 (wires_from block (start_of block register) choices) ∙ all_edges register choices))
      (driven_is_master plain 1 1 (map plain_move choices) (fits choices))

  -- each legal run's wires are driven by choices, those of these very wires
  abbrev own_move : BusWires → Move
  own_move w = record { choice = choice_of w; ready = true }

  own_moves : (wires : List BusWires) → map move_of (map ready_edge wires) ≡ map own_move wires
  own_moves [] = refl
  own_moves (w ∷ wires) = ap (λ rest. own_move w ∷ rest) (own_moves wires)

  same_drive : (phase : Phase) (w : BusWires) → driven plain 1 phase (record (choice_of w) { strobe = 0; prot = 0 }) ≡ driven plain 1 phase (choice_of w)
  same_drive Free w = refl
  same_drive (Access held) w = refl

  same_moves : (phase : Phase) (wires : List BusWires) → edges_of plain 1 phase (map plain_move (map choice_of wires)) ≡ edges_of plain 1 phase (map own_move wires)
  same_moves phase [] = refl
  same_moves phase (w ∷ wires) =
      ap (λ d. ready_edge d ∷ edges_of plain 1 (phase_after phase d true) (map plain_move (map choice_of wires))) (same_drive phase w)
      ∙ ap (λ rest. ready_edge (driven plain 1 phase (choice_of w)) ∷ rest) (same_moves (phase_after phase (driven plain 1 phase (choice_of w)) true) wires)

  same_calm : (wires : List BusWires) → edges_of plain 1 Free (calm 1 (map plain_move (map choice_of wires))) ≡ edges_of plain 1 Free (calm 1 (map own_move wires))
  same_calm [] = refl
  same_calm (w ∷ wires) = ap (λ rest. ready_edge (driven plain 1 Free (record (choice_of w) { start = false })) ∷ rest) (same_moves Free wires)

  just_wires : (wires : List BusWires) → map (λ edge. edge.wires) (map ready_edge wires) ≡ wires
  just_wires [] = refl
  just_wires (w ∷ wires) = ap (λ rest. w ∷ rest) (just_wires wires)

  pub legal_is_run : (register : ℕ) (wires : List BusWires) (run : JointRun) → IsLegalRun block wires run → wires_from block (start_of block register) (map choice_of wires) ≡ wires
  legal_is_run register wires run legal =
      let ready : IsLegalMaster plain 1 1 (map ready_edge wires) = subst (λ edges. IsLegalMaster plain 1 1 edges) (same_edges 0 wires) legal in
      let edges : map ready_edge (wires_from block (start_of block register) (map choice_of wires)) ≡ map ready_edge wires =
      all_edges register (map choice_of wires) ∙ same_calm wires ∙ ap (λ moves. edges_of plain 1 Free (calm 1 moves)) (sym (own_moves wires)) ∙ master_is_driven plain 1 1 (map ready_edge wires) ready in
      sym (just_wires (wires_from block (start_of block register) (map choice_of wires))) ∙ ap (map (λ edge. edge.wires)) edges ∙ just_wires wires
