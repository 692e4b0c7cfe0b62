-- The trace of a joint run: its edges, and that they are legal.
use Rattle.std.proofs.Common.{◌≡◌, ℕ, zero, suc, ◌+◌, ◌-◌, ◌<◌, ◌≤◌, ◌%◌, ◌^◌, Bool, true, false, not, ◌&&◌, List, [], ◌∷◌, ◌++◌, length, take, drop, map, get_or, if◌then◌else◌, Vec, Global, refl, sym, ◌∙◌, ap, subst, arith, append_assoc, append-nil, inl, inr}
use Rattle.std.specs.Prelude.{⊤}
use Rattle.std.specs.List.{All}
use Rattle.std.proofs.lemmas.Bool.{cases_Bool, cond-true, cond-false, both_ways}
use Rattle.std.proofs.lemmas.List.{drop_more, drop_all, map-append, length-map}
use Rattle.std.proofs.lemmas.List.Elements.{All-head, All-tail, All-map}
use Rattle.std.proofs.lemmas.Nat.{pow_pos}
use Rattle.std.proofs.Math.Nat.{mod-eq_of_lt}
use Rattle.bit_base.specs.Numbers.{number_of, low_bits}
use Rattle.bit_base.proofs.Numbers.{number_of-low_bits}
use Rattle.apb_rules.specs.declared.phase.Held.{Held}
use Rattle.apb_rules.specs.declared.phase.Phase.{Phase}
use Rattle.apb_rules.specs.declared.phase.Phase.TheVariants.{Free, Access}
use Rattle.apb_rules.specs.declared.wires.BusWires.{BusWires}
use Rattle.apb_rules.specs.declared.wires.Choice.{Choice}
use Rattle.apb_rules.specs.Drive.{driven}
use Rattle.apb_rules.specs.Legal.{IsLegalIn}
use Rattle.apb_rules.specs.Phases.{phase_after}
use Rattle.apb_rules.proofs.Edges.{drives_legal}
use Rattle.trace_replay.specs.Blocks.{FlatBlock}
use Rattle.trace_replay.specs.declared.input.JointInput.{JointInput}
use Rattle.trace_replay.specs.States.{JointParts}
use Rattle.trace_replay.specs.declared.joint.TheConstants.{RESET_EDGES}
use Rattle.trace_replay.specs.declared.trace.TheConstants.{START_BITS, EDGE_LIMIT}
use Rattle.trace_replay.specs.Allowed.{IsAllowedAt}
use Rattle.trace_replay.specs.Joint.{in_reset, pins_of, start_of, state_after, wires_of, wires_from}
use Rattle.trace_replay.specs.LegalTrace.{plain_style, FitsPins, HasSizes, IsLegalTrace}
use Rattle.trace_replay.specs.Trace.{edge_bits, edges_from, edge_wires, lists_of, choices_of, joint_edges, HasAllInputs}
use Rattle.trace_replay.proofs.AllowedLemmas.{AllowedFrom, HasResets, resets-on, resets-off, next-on, next-off, start-resets, allowed-whole}
use Rattle.trace_replay.proofs.TraceLemmas.{edges_from-whole}

-- wires that a trace can hold
record FitsWires (wires : BusWires) : Type 0 where
  address : wires.address < 4
  payload : wires.payload < 256
  strobe : wires.strobe ≡ 1
  prot : wires.prot ≡ 0

abbrev pub FitsPhase : Phase → Type 0
FitsPhase Free = ⊤
FitsPhase (Access held) = (held.address < 4) × (held.payload < 256)

pick-below : (test : Bool) (a b n : ℕ) → a < n → b < n → (if test then a else b) < n
pick-below true a b n one two = one
pick-below false a b n one two = two

wires-fit : (phase : Phase) (choice : Choice) → FitsPhase phase → FitsPins choice → FitsWires (driven plain_style 1 phase choice)
wires-fit Free choice fits pins = elim (cases_Bool choice.start) [
  | inl on ↦ rw on (record { address = omega (arith, pins.address_fits); payload = pins.payload_fits; strobe = refl; prot = refl })
  | inr off ↦ rw off (record { address = pins.address_fits; payload = pins.payload_fits; strobe = refl; prot = refl })
]
wires-fit (Access held) choice fits pins = record {
  address = fits.0;
  payload = pick-below held.write held.payload choice.payload 256 fits.1 pins.payload_fits;
  strobe = refl;
  prot = refl;
}

phase-fit : (phase : Phase) (wires : BusWires) (ready : Bool) → FitsPhase phase → FitsWires wires → FitsPhase (phase_after phase wires ready)
phase-fit Free wires ready fits wires_fit = elim (cases_Bool wires.select) [
  | inl on ↦ rw on (wires_fit.address, wires_fit.payload)
  | inr off ↦ rw off tt
]
phase-fit (Access held) wires true fits wires_fit = tt
phase-fit (Access held) wires false fits wires_fit = fits

-- driven wires are legal; on this bus a choice's strobe and protection count for nothing
driven-legal : (phase : Phase) (choice : Choice) → IsLegalIn plain_style 1 phase (driven plain_style 1 phase choice)
driven-legal Free choice = drives_legal plain_style 1 Free (record choice { strobe = 0; prot = 0 }) (record { strobe_fits = pow_pos 1; prot_fits = omega arith })
driven-legal (Access held) choice = drives_legal plain_style 1 (Access held) (record choice { strobe = 0; prot = 0 }) (record { strobe_fits = pow_pos 1; prot_fits = omega arith })

-- the wires of the bits of an edge
same-wires : (wires : BusWires) (a p s q : ℕ) → a ≡ wires.address → p ≡ wires.payload → s ≡ wires.strobe → q ≡ wires.prot
    → ◌≡◌ {A = BusWires} (record { select = wires.select; enable = wires.enable; write = wires.write; address = a; payload = p; strobe = s; prot = q }) wires
same-wires wires a p s q one two three four = rw (one, two, three, four) refl

pub low-number : (width n : ℕ) → n < 2 ^ width → number_of (low_bits width n) ≡ n
low-number width n small = number_of-low_bits width n ∙ mod-eq_of_lt small

bits-wires : (state : JointParts) (wires : BusWires) → FitsWires wires → edge_wires (edge_bits (pins_of state wires)) ≡ wires
bits-wires state wires fits =
    same-wires wires _ _ 1 0 (low-number 2 wires.address fits.address) (low-number 8 wires.payload fits.payload) (sym fits.strobe) (sym fits.prot)

and-false : (test : Bool) → (test && not true) ≡ false
and-false true = refl
and-false false = refl

module _ (block : FlatBlock) where
  calm-on : (n : ℕ) (state : JointParts) (choice : Choice) → HasResets (suc n) state → (wires_of state choice).select ≡ false
  calm-on n state choice has = rw (has.free (omega arith), resets-on block n state has, and-false choice.start) refl

  -- each edge of the run is allowed
  here-allowed : (state : JointParts) (choice : Choice) → FitsPhase state.phase → FitsPins choice → (in_reset state ≡ true → (wires_of state choice).select ≡ false)
      → IsAllowedAt state (edge_bits (pins_of state (wires_of state choice)))
  here-allowed state choice phase pins calm =
      let wires = wires_of state choice in
      let choice' : Choice = record choice { start = choice.start && not (in_reset state) } in
      let same = bits-wires state wires (wires-fit state.phase choice' phase (record { address_fits = pins.address_fits; payload_fits = pins.payload_fits })) in
      record {
        reset = refl;
        calm = calm;
        bus = let P : BusWires → Type 0 = λ w. IsLegalIn plain_style 1 state.phase w in subst P (sym same) (driven-legal state.phase choice');
      }

  next-phase : (state : JointParts) (choice : Choice) → FitsPhase state.phase → FitsPins choice → FitsPhase (state_after block state (wires_of state choice)).phase
  next-phase state choice phase pins = elim (cases_Bool (in_reset state)) [
    | inl on ↦ let P : Phase → Type 0 = λ p. FitsPhase p in subst P (sym (cond-true (in_reset state) Free _ on)) tt
    | inr off ↦ let P : Phase → Type 0 = λ p. FitsPhase p in
        subst P (sym (cond-false (in_reset state) Free _ off))
        (phase-fit state.phase (wires_of state choice) _ phase
        (wires-fit state.phase (record choice { start = choice.start && not (in_reset state) }) phase (record { address_fits = pins.address_fits; payload_fits = pins.payload_fits })))
  ]

  pub run-allowed : (choices : List Choice) (n : ℕ) (state : JointParts) → HasResets n state → FitsPhase state.phase → All FitsPins choices
      → AllowedFrom block state (edges_from block state (wires_from block state choices))
  run-allowed [] n state has phase pins = tt
  run-allowed (choice ∷ choices) zero state has phase pins =
      let wires = wires_of state choice in
      let fit = All-head FitsPins choice choices pins in
      let same = bits-wires state wires (wires-fit state.phase (record choice { start = choice.start && not (in_reset state) }) phase (record { address_fits = fit.address_fits; payload_fits = fit.payload_fits })) in
      let P : BusWires → Type 0 = λ w. AllowedFrom block (state_after block state w) (edges_from block (state_after block state wires) (wires_from block (state_after block state wires) choices)) in (
        here-allowed state choice phase fit (λ on. absurd (both_ways (in_reset state) (resets-off block state has) on)),
        subst P (sym same) (run-allowed choices zero (state_after block state wires) (next-off block state wires has) (next-phase state choice phase fit) (All-tail FitsPins choice choices pins)),
      )
  run-allowed (choice ∷ choices) (suc n) state has phase pins =
      let wires = wires_of state choice in
      let fit = All-head FitsPins choice choices pins in
      let same = bits-wires state wires (wires-fit state.phase (record choice { start = choice.start && not (in_reset state) }) phase (record { address_fits = fit.address_fits; payload_fits = fit.payload_fits })) in
      let P : BusWires → Type 0 = λ w. AllowedFrom block (state_after block state w) (edges_from block (state_after block state wires) (wires_from block (state_after block state wires) choices)) in (
        here-allowed state choice phase fit (λ on. calm-on n state choice has),
        subst P (sym same) (run-allowed choices n (state_after block state wires) (next-on block n state wires has) (next-phase state choice phase fit) (All-tail FitsPins choice choices pins)),
      )

  pub edges-length : (run : List BusWires) (state : JointParts) → length (edges_from block state run) ≡ length run
  edges-length [] state = refl
  edges-length (wires ∷ run) state = ap suc (edges-length run (state_after block state wires))

  pub wires-length : (choices : List Choice) (state : JointParts) → length (wires_from block state choices) ≡ length choices
  wires-length [] state = refl
  wires-length (choice ∷ choices) state = ap suc (wires-length choices (state_after block state (wires_of state choice)))

  -- the trace of a joint run is legal
  pub run-legal : (start : List Bool) (inputs : List JointInput) → length start ≡ START_BITS → length inputs ≤ EDGE_LIMIT → All (λ input. FitsPins input.choice) inputs
      → IsLegalTrace block start (joint_edges block start inputs)
  unfolding joint_edges
  run-legal start inputs long few fits =
      let first = start_of block (number_of start) in
      let choices = choices_of inputs in
      let run = wires_from block first choices in
      record {
        sizes = record {
          start_bits = long;
          input_bits = edges_from-whole block first run;
          few = omega (arith, edges-length run first, wires-length choices first, length-map inputs (λ (input : JointInput). input.choice));
        };
        allowed = allowed-whole block start (edges_from block first run)
            (run-allowed choices RESET_EDGES first (start-resets block (number_of start)) tt (All-map FitsPins (λ (input : JointInput). input.choice) inputs fits));
      }

  -- one edge more of the run
  pub run-push : (state : JointParts) (inputs : List JointInput) (k : ℕ) (input : JointInput) (edges : List (Vec Bool Global)) (bits : Vec Bool Global) (new : List (Vec Bool Global))
      (next : JointParts) → k < length inputs → input ≡ get_or inputs k input → bits.items ≡ edge_bits (pins_of state (wires_of state input.choice))
      → next ≡ state_after block state (wires_of state input.choice) → new ≡ edges ++ bits ∷ []
      → lists_of new ++ edges_from block next (wires_from block next (choices_of (drop (k + 1) inputs)))
      ≡ lists_of edges ++ edges_from block state (wires_from block state (choices_of (drop k inputs)))
  run-push state inputs k input edges bits new next below is same after push =
      let later : List (List Bool) = edges_from block (state_after block state (wires_of state input.choice)) (wires_from block (state_after block state (wires_of state input.choice)) (choices_of (drop (k + 1) inputs))) in
      ap (λ s. lists_of new ++ edges_from block s (wires_from block s (choices_of (drop (k + 1) inputs)))) after
      ∙ ap (λ es. es ++ later) (ap lists_of push ∙ map-append (λ v. v.items) edges (bits ∷ []))
      ∙ append_assoc (lists_of edges) (bits.items ∷ []) later
      ∙ ap (λ first. lists_of edges ++ (first ∷ later)) same
      ∙ ap (λ rest. lists_of edges ++ edges_from block state (wires_from block state (choices_of rest)))
      (ap (λ i. i ∷ drop (k + 1) inputs) is ∙ sym (drop_more inputs k input below))

  -- after the last input
  pub run-end : (state : JointParts) (inputs : List JointInput) (k : ℕ) (edges : List (Vec Bool Global)) (all : List (List Bool)) → length inputs ≤ k
      → lists_of edges ++ edges_from block state (wires_from block state (choices_of (drop k inputs))) ≡ all → lists_of edges ≡ all
  run-end state inputs k edges all past so_far =
      sym (append-nil (lists_of edges))
      ∙ ap (λ rest. lists_of edges ++ edges_from block state (wires_from block state (choices_of rest))) (sym (drop_all k inputs past)) ∙ so_far

  -- the bits of a run's edges give its wires back, and fewer choices give the first of them
  pub map-wires : (choices : List Choice) (state : JointParts) → FitsPhase state.phase → All FitsPins choices
      → map edge_wires (edges_from block state (wires_from block state choices)) ≡ wires_from block state choices
  map-wires [] state phase pins = refl
  map-wires (choice ∷ choices) state phase pins =
      let wires = wires_of state choice in
      let fit = All-head FitsPins choice choices pins in
      let same = bits-wires state wires (wires-fit state.phase (record choice { start = choice.start && not (in_reset state) }) phase (record { address_fits = fit.address_fits; payload_fits = fit.payload_fits })) in
      ap (λ first. first ∷ map edge_wires (edges_from block (state_after block state wires) (wires_from block (state_after block state wires) choices))) same
      ∙ ap (λ rest. wires ∷ rest) (map-wires choices (state_after block state wires) (next-phase state choice phase fit) (All-tail FitsPins choice choices pins))

  pub take-wires : (n : ℕ) (choices : List Choice) (state : JointParts) → take n (wires_from block state choices) ≡ wires_from block state (take n choices)
  take-wires zero choices state = refl
  take-wires (suc n) [] state = refl
  take-wires (suc n) (choice ∷ choices) state = ap (λ rest. wires_of state choice ∷ rest) (take-wires n choices (state_after block state (wires_of state choice)))
