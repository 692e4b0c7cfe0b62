-- A joint state that stands in a joint run, edge by edge.
use Rattle.std.proofs.Common.{◌≡◌, ℕ, zero, suc, ◌+◌, ◌-◌, ◌<◌, ◌≤◌, ◌⊎◌, inl, inr, min, Bool, true, false, not, ◌&&◌, cond, List, [], ◌∷◌, Option, Some, None, slice_get, nat_le, nat_lt, refl, arith, ap, ◌∙◌, sym, below_more}
use Rattle.std.proofs.lemmas.Bool.Decides.{nat_tests}
use Rattle.std.specs.Option.{option_and_then, option_map_or}
use Rattle.std.proofs.lemmas.Bool.{cond-true, cond-false, cases_lt, le-leb}
use Rattle.apb_rules.specs.declared.wires.BusWires.{BusWires}
use Rattle.reg_machine.specs.States.{next_state}
use Rattle.trace_replay.specs.declared.joint.Difference.{Difference}
use Rattle.trace_replay.specs.Blocks.{FlatBlock}
use Rattle.trace_replay.specs.States.{JointParts}
use Rattle.trace_replay.specs.Joint.{start_of, in_reset, shown_at, event_at, outputs_at, taken_at, edge_at, is_waiting, state_after, difference_of, difference_at, first_or, first_from, first_difference}
use Rattle.trace_replay.specs.Runs.{JointRun, IsJointRun, IsFirst, pins_in, shown_in, event_in, is_late, difference_in}

-- the state before edge e has the run's register and machine, and counts the reset edges
pub record Stands (run : JointRun) (e : ℕ) (s : JointParts) : Type 0 where
  pub edge : s.edge ≡ min e 1
  pub register : s.register ≡ run.register e
  pub machine : s.machine ≡ run.machine e

at_first : (n : ℕ) → n ≡ min 0 1 → not (nat_lt n 1) ≡ nat_le 1 0
at_first n e = ap (λ m. not (nat_lt m 1)) e

at_later : (n k : ℕ) → n ≡ min (suc k) 1 → not (nat_lt n 1) ≡ nat_le 1 (suc k)
at_later n k e = let one : n ≡ 1 = omega (arith, e) in ap (λ m. not (nat_lt m 1)) one ∙ sym (le-leb 1 (suc k) (omega arith))

pub past_reset_edge : (n e : ℕ) → n ≡ min e 1 → not (nat_lt n 1) ≡ nat_le 1 e
past_reset_edge n zero is = at_first n is
past_reset_edge n (suc k) is = at_later n k is

past_reset : (run : JointRun) (e : ℕ) (s : JointParts) → Stands run e s → not (in_reset s) ≡ nat_le 1 e
past_reset run e s st = past_reset_edge s.edge e st.edge

module _ (block : FlatBlock) (wires : List BusWires) (run : JointRun) where
  same_shown : (e : ℕ) (s : JointParts) (w : BusWires) → Stands run e s → shown_at block s w ≡ shown_in block wires run e w
  same_shown e s w st =
      ap (λ r. outputs_at block (record { reset_n = r; bus = w }) s.register) (past_reset run e s st)
      ∙ ap (λ v. outputs_at block (pins_in block wires run e w) v) st.register

  pub stands_first : (register : ℕ) → IsJointRun block wires run → run.register 0 ≡ register → Stands run 0 (start_of block register)
  stands_first register is begins = record { edge = refl; register = sym begins; machine = sym (is.reset 0 (omega arith)) }

  next_machine : (e : ℕ) (s : JointParts) (w : BusWires) → IsJointRun block wires run → Stands run e s → slice_get wires e ≡ Some w → (state_after block s w).machine ≡ run.machine (e + 1)
  next_machine zero s w is st at =
      let early : in_reset s ≡ true = ap (λ n. nat_lt n 1) st.edge in
      cond-true (in_reset s) s.machine _ early ∙ st.machine ∙ is.reset 0 (omega arith) ∙ sym (is.reset (0 + 1) (omega arith))
  next_machine (suc k) s w is st at =
      let one : s.edge ≡ 1 = omega (arith, st.edge) in
      let late : in_reset s ≡ false = ap (λ n. nat_lt n 1) one in
      cond-false (in_reset s) s.machine _ late
      ∙ ap (λ x. next_state (edge_at block s.machine (event_at block s w)) x) st.machine
      ∙ ap (λ x. next_state (edge_at block x (event_at block s w)) (run.machine (suc k))) st.machine
      ∙ sym (is.steps (suc k) w (omega arith) at)

  pub stands_next : (e : ℕ) (s : JointParts) (w : BusWires) → IsJointRun block wires run → Stands run e s → slice_get wires e ≡ Some w → Stands run (e + 1) (state_after block s w)
  stands_next e s w is st at = record {
    edge = omega (arith, st.edge);
    register = ap (λ r. taken_at block (record { reset_n = r; bus = w }) s.register) (past_reset run e s st)
        ∙ ap (λ v. taken_at block (pins_in block wires run e w) v) st.register ∙ sym (is.taken e w at);
    machine = next_machine e s w is st at;
  }

  -- a transfer may not wait at all, so an edge is late where it waits
  with_true : (b c : Bool) → c ≡ true → (b && true) ≡ (b && (c && true))
  with_true b c is = ap (λ x. b && (x && true)) (sym is)

  no_wait : (n : ℕ) → nat_le 0 n ≡ true
  no_wait n = le-leb 0 n (omega arith)

  late_here : (e n : ℕ) (w : BusWires) → 1 ≤ e → slice_get wires e ≡ Some w → (is_waiting w (shown_in block wires run e w) && nat_le 0 n) ≡ is_late block wires run e
  late_here e n w past at =
      ap (λ b. is_waiting w (shown_in block wires run e w) && b) (no_wait n)
      ∙ with_true (is_waiting w (shown_in block wires run e w)) (nat_le 1 e) (le-leb 1 e past)
      ∙ ap (λ o. option_map_or (λ v. is_waiting v (shown_in block wires run e v)) o false && (nat_le 1 e && true)) (sym at)

  -- the difference of an edge at which there are wires
  at_edge : (e : ℕ) (w : BusWires) → slice_get wires e ≡ Some w
      → difference_in block wires run e ≡ cond (nat_lt e 1) None (difference_of block (run.machine e) (is_late block wires run e) (event_in block wires run e w) (shown_in block wires run e w))
  at_edge e w at = ap (λ o. option_and_then (λ v. cond (nat_lt e 1) None (difference_of block (run.machine e) (is_late block wires run e) (event_in block wires run e v) (shown_in block wires run e v))) o) at

  past_end : (e : ℕ) → slice_get wires e ≡ None → difference_in block wires run e ≡ None
  past_end e at = ap (λ o. option_and_then (λ v. cond (nat_lt e 1) None (difference_of block (run.machine e) (is_late block wires run e) (event_in block wires run e v) (shown_in block wires run e v))) o) at

  same_difference : (e : ℕ) (s : JointParts) (w : BusWires) → Stands run e s → slice_get wires e ≡ Some w → difference_at block s w ≡ difference_in block wires run e
  same_difference zero s w st at =
      let early : in_reset s ≡ true = ap (λ n. nat_lt n 1) st.edge in
      cond-true (in_reset s) None _ early ∙ sym (at_edge 0 w at)
  same_difference (suc k) s w st at =
      let one : s.edge ≡ 1 = omega (arith, st.edge) in
      let late : in_reset s ≡ false = ap (λ n. nat_lt n 1) one in
      let past : nat_lt (suc k) 1 ≡ false = grind (arith, nat_tests) in
      cond-false (in_reset s) None _ late
      ∙ ap (λ shown. difference_of block s.machine (is_waiting w shown && nat_le 0 s.waited) (event_at block s w) shown) (same_shown (suc k) s w st)
      ∙ ap (λ b. difference_of block s.machine b (event_at block s w) (shown_in block wires run (suc k) w)) (late_here (suc k) s.waited w (omega arith) at)
      ∙ ap (λ m. difference_of block m (is_late block wires run (suc k)) (event_at block s w) (shown_in block wires run (suc k) w)) st.machine
      ∙ sym (at_edge (suc k) w at ∙ cond-false (nat_lt (suc k) 1) None _ past)

  -- the first of an edge's own difference and the later ones
  pick : (e : ℕ) (o : Option Difference) (later : Option (ℕ × Difference)) → o ≡ difference_in block wires run e
      → ((i : ℕ) → i < e → difference_in block wires run i ≡ None) → (difference_in block wires run e ≡ None → IsFirst block wires run later) → IsFirst block wires run (first_or o e later)
  pick e (Some d) later is none rest = (sym is, none)
  pick e None later is none rest = rest (sym is)

  pub earliest : (e : ℕ) (s : JointParts) (more : List BusWires) → IsJointRun block wires run → Stands run e s → ((i : ℕ) → slice_get wires (e + i) ≡ slice_get more i)
      → ((i : ℕ) → i < e → difference_in block wires run i ≡ None) → IsFirst block wires run (first_from block s e more)
  earliest e s [] is st at none = λ i. by_place i (cases_lt i e)
    where
      by_place : (i : ℕ) → (i < e) ⊎ (e ≤ i) → difference_in block wires run i ≡ None
      by_place i (inl before) = none i before
      by_place i (inr after) = let back : e + (i - e) ≡ i = omega (arith, after) in past_end i (ap (λ n. slice_get wires n) (sym back) ∙ at (i - e))
  earliest e s (w ∷ more) is st at none =
      pick e (difference_at block s w) _ (same_difference e s w st here) none
      (λ no. earliest (e + 1) (state_after block s w) more is (stands_next e s w is st here)
      (λ i. ap (λ n. slice_get wires n) (later i) ∙ at (suc i))
      (below_more (λ i. difference_in block wires run i ≡ None) e none no))
    where
      here : slice_get wires e ≡ Some w
      here = let same : e ≡ e + 0 = omega arith in ap (λ n. slice_get wires n) same ∙ at 0

      later : (i : ℕ) → e + 1 + i ≡ e + suc i
      later i = omega arith

-- the first difference of the run that starts so
pub first_is_earliest : (block : FlatBlock) (wires : List BusWires) (run : JointRun) (register : ℕ) → IsJointRun block wires run → run.register 0 ≡ register
    → IsFirst block wires run (first_difference block register wires)
first_is_earliest block wires run register is begins =
    earliest block wires run 0 (start_of block register) wires is (stands_first block wires run register is begins)
    (λ i. let same : 0 + i ≡ i = omega arith in ap (λ n. slice_get wires n) same) (λ i lt. absurd (omega (arith, lt)))
