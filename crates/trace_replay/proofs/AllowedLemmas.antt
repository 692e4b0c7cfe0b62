-- Which edges may come, edge by edge and over a whole trace.
use Rattle.std.proofs.Common.{◌≡◌, ℕ, zero, suc, ◌+◌, ◌<◌, ◌≤◌, nat_lt, min, Bool, true, false, not, List, [], ◌∷◌, ◌++◌, length, take, drop, map, get_or, IsTrue, Vec, Global, refl, sym, ◌∙◌, ap, subst, arith, inl, inr, ◌↔◌}
use Rattle.std.specs.Prelude.{⊤}
use Rattle.std.specs.List.{All}
use Rattle.std.proofs.lemmas.Bool.{lt-ltb, le-ltb, both_ways, cond-true, cond-false, cases_order}
use Rattle.std.proofs.lemmas.List.{take_more, take-take, take_all, get_or-map, length-map}
use Rattle.std.proofs.lemmas.List.Elements.{All-nil, All-cons, All-head, All-tail}
use Rattle.bit_base.specs.Numbers.{number_of}
use Rattle.apb_rules.specs.declared.wires.BusWires.{BusWires}
use Rattle.apb_rules.specs.declared.phase.Phase.{Phase}
use Rattle.apb_rules.specs.declared.phase.Phase.TheVariants.{Free, Access}
use Rattle.apb_rules.specs.Master.{BusEdge, IsLegalMaster, IsLegalFrom}
use Rattle.apb_rules.specs.Phases.{phase_after}
use Rattle.apb_rules.proofs.Driven.{master_unselected, master_is_legal, legal_is_master}
use Rattle.trace_replay.specs.Blocks.{FlatBlock}
use Rattle.trace_replay.specs.States.{JointParts}
use Rattle.trace_replay.specs.declared.joint.TheConstants.{RESET_EDGES}
use Rattle.trace_replay.specs.Allowed.{IsAllowedAt}
use Rattle.trace_replay.specs.Joint.{in_reset, shown_at, start_of, state_after}
use Rattle.trace_replay.specs.LegalTrace.{plain_style, bus_edges, IsAllowed, IsFirstForbidden}
use Rattle.trace_replay.specs.Trace.{edge_reset, edge_wires, lists_of}

-- the law of a legal master on a bus of one byte, edge by edge
abbrev MasterLaw : Type 0
MasterLaw = (edges : List BusEdge) → IsLegalMaster plain_style 1 RESET_EDGES edges
    ↔ (All (λ edge. edge.wires.select ≡ false) (take RESET_EDGES edges) × IsLegalFrom plain_style 1 Free edges)

-- a state with so many reset edges to come
pub record HasResets (n : ℕ) (state : JointParts) : Type 0 where
  pub resets : state.edge + n ≡ RESET_EDGES
  pub free : 0 < n → state.phase ≡ Free

master_law : MasterLaw
master_law edges = (
  λ legal. (master_unselected plain_style 1 RESET_EDGES edges legal, master_is_legal plain_style 1 RESET_EDGES edges legal),
  λ each. legal_is_master plain_style 1 RESET_EDGES edges each.0 each.1,
)

module _ (block : FlatBlock) where
  -- each edge may come in the state that those before it leave
  abbrev pub AllowedFrom : JointParts → List (List Bool) → Type 0
  AllowedFrom state [] = ⊤
  AllowedFrom state (edge ∷ edges) = IsAllowedAt state edge × AllowedFrom (state_after block state (edge_wires edge)) edges

  abbrev pub state_over : JointParts → List (List Bool) → JointParts
  state_over state [] = state
  state_over state (edge ∷ edges) = state_over (state_after block state (edge_wires edge)) edges

  -- what that says of all edges at once
  pub record Parts (n : ℕ) (state : JointParts) (edges : List (List Bool)) : Type 0 where
    pub in_reset : All (λ edge. edge_reset edge ≡ false) (take n edges)
    pub after_reset : All (λ edge. edge_reset edge ≡ true) (drop n edges)
    pub calm : All (λ (edge : BusEdge). edge.wires.select ≡ false) (take n (bus_edges block state edges))
    pub bus : IsLegalFrom plain_style 1 state.phase (bus_edges block state edges)

  pub resets-on : (n : ℕ) (state : JointParts) → HasResets (suc n) state → in_reset state ≡ true
  resets-on n state has = lt-ltb state.edge RESET_EDGES (omega (arith, has.resets))

  pub resets-off : (state : JointParts) → HasResets zero state → in_reset state ≡ false
  resets-off state has = le-ltb state.edge RESET_EDGES (omega (arith, has.resets))

  pub next-on : (n : ℕ) (state : JointParts) (wires : BusWires) → HasResets (suc n) state → HasResets n (state_after block state wires)
  next-on n state wires has = record {
    resets = omega (arith, has.resets);
    free = λ more. cond-true (in_reset state) Free _ (resets-on n state has);
  }

  pub next-off : (state : JointParts) (wires : BusWires) → HasResets zero state → HasResets zero (state_after block state wires)
  next-off state wires has = record {
    resets = omega (arith, has.resets);
    free = λ more. absurd (omega arith);
  }

  -- the phase after an edge is that of the bus
  phase-on : (n : ℕ) (state : JointParts) (wires : BusWires) (ready : Bool) → HasResets (suc n) state → wires.select ≡ false
      → (state_after block state wires).phase ≡ phase_after state.phase wires ready
  phase-on n state wires ready has calm =
      cond-true (in_reset state) Free _ (resets-on n state has)
      ∙ sym (rw (has.free (omega arith)) (cond-false wires.select (Access _) Free calm))

  phase-off : (state : JointParts) (wires : BusWires) → HasResets zero state
      → (state_after block state wires).phase ≡ phase_after state.phase wires (shown_at block state wires).ready
  phase-off state wires has = cond-false (in_reset state) Free _ (resets-off state has)

  legal-same : (p q : Phase) (edges : List BusEdge) → p ≡ q → IsLegalFrom plain_style 1 p edges → IsLegalFrom plain_style 1 q edges
  legal-same p q edges same legal = let P : Phase → Type 0 = λ x. IsLegalFrom plain_style 1 x edges in subst P same legal

  pub parts_of : (edges : List (List Bool)) (n : ℕ) (state : JointParts) → HasResets n state → AllowedFrom state edges → Parts n state edges
  parts_of [] zero state has allowed = record { in_reset = All-nil _; after_reset = All-nil _; calm = All-nil _; bus = tt }
  parts_of [] (suc n) state has allowed = record { in_reset = All-nil _; after_reset = All-nil _; calm = All-nil _; bus = tt }
  parts_of (edge ∷ edges) zero state has allowed =
      let wires = edge_wires edge in
      let rest = parts_of edges zero (state_after block state wires) (next-off state wires has) allowed.1 in
      record {
        in_reset = All-nil _;
        after_reset = All-cons (λ e. edge_reset e ≡ true) edge edges (allowed.0.reset ∙ ap not (resets-off state has)) rest.after_reset;
        calm = All-nil _;
        bus = (allowed.0.bus, legal-same _ _ _ (phase-off state wires has) rest.bus);
      }
  parts_of (edge ∷ edges) (suc n) state has allowed =
      let wires = edge_wires edge in
      let rest = parts_of edges n (state_after block state wires) (next-on n state wires has) allowed.1 in
      let calm = allowed.0.calm (resets-on n state has) in
      record {
        in_reset = All-cons (λ e. edge_reset e ≡ false) edge (take n edges) (allowed.0.reset ∙ ap not (resets-on n state has)) rest.in_reset;
        after_reset = rest.after_reset;
        calm = All-cons (λ (e : BusEdge). e.wires.select ≡ false) _ _ calm rest.calm;
        bus = (allowed.0.bus, legal-same _ _ _ (phase-on n state wires _ has calm) rest.bus);
      }

  pub of_parts : (edges : List (List Bool)) (n : ℕ) (state : JointParts) → HasResets n state → Parts n state edges → AllowedFrom state edges
  of_parts [] n state has parts = tt
  of_parts (edge ∷ edges) zero state has parts =
      let wires = edge_wires edge in (
        record {
          reset = All-head (λ e. edge_reset e ≡ true) edge edges parts.after_reset ∙ sym (ap not (resets-off state has));
          calm = λ on. absurd (both_ways (in_reset state) (resets-off state has) on);
          bus = parts.bus.0;
        },
        of_parts edges zero (state_after block state wires) (next-off state wires has) (record {
          in_reset = All-nil _;
          after_reset = All-tail (λ e. edge_reset e ≡ true) edge edges parts.after_reset;
          calm = All-nil _;
          bus = legal-same _ _ _ (sym (phase-off state wires has)) parts.bus.1;
        }),
      )
  of_parts (edge ∷ edges) (suc n) state has parts =
      let wires = edge_wires edge in
      let calm = All-head (λ (e : BusEdge). e.wires.select ≡ false) _ _ parts.calm in (
        record {
          reset = All-head (λ e. edge_reset e ≡ false) edge (take n edges) parts.in_reset ∙ sym (ap not (resets-on n state has));
          calm = λ on. calm;
          bus = parts.bus.0;
        },
        of_parts edges n (state_after block state wires) (next-on n state wires has) (record {
          in_reset = All-tail (λ e. edge_reset e ≡ false) edge (take n edges) parts.in_reset;
          after_reset = parts.after_reset;
          calm = All-tail (λ (e : BusEdge). e.wires.select ≡ false) _ _ parts.calm;
          bus = legal-same _ _ _ (sym (phase-on n state wires _ has calm)) parts.bus.1;
        }),
      )

  -- fewer edges
  pub allowed-take : (n : ℕ) (edges : List (List Bool)) (state : JointParts) → AllowedFrom state edges → AllowedFrom state (take n edges)
  allowed-take zero edges state allowed = tt
  allowed-take (suc n) [] state allowed = tt
  allowed-take (suc n) (edge ∷ edges) state allowed = (allowed.0, allowed-take n edges (state_after block state (edge_wires edge)) allowed.1)

  -- one edge more
  pub allowed-push : (edges : List (List Bool)) (edge : List Bool) (state : JointParts) → AllowedFrom state edges → IsAllowedAt (state_over state edges) edge
      → AllowedFrom state (edges ++ edge ∷ [])
  allowed-push [] edge state allowed here = (here, tt)
  allowed-push (first ∷ edges) edge state allowed here = (allowed.0, allowed-push edges edge (state_after block state (edge_wires first)) allowed.1 here)

  pub allowed-last : (edges : List (List Bool)) (edge : List Bool) (state : JointParts) → AllowedFrom state (edges ++ edge ∷ []) → IsAllowedAt (state_over state edges) edge
  allowed-last [] edge state allowed = allowed.0
  allowed-last (first ∷ edges) edge state allowed = allowed-last edges edge (state_after block state (edge_wires first)) allowed.1

  pub over-push : (edges : List (List Bool)) (edge : List Bool) (state : JointParts)
      → state_over state (edges ++ edge ∷ []) ≡ state_after block (state_over state edges) (edge_wires edge)
  over-push [] edge state = refl
  over-push (first ∷ edges) edge state = over-push edges edge (state_after block state (edge_wires first))

  pub start-resets : (register : ℕ) → HasResets RESET_EDGES (start_of block register)
  start-resets register = record { resets = refl; free = λ more. refl }

  -- over a whole trace
  module _ (start : List Bool) where
    abbrev first : JointParts
    first = start_of block (number_of start)

    pub allowed-whole : (edges : List (List Bool)) → AllowedFrom first edges → IsAllowed block start edges
    allowed-whole edges allowed =
        let parts = parts_of edges RESET_EDGES first (start-resets (number_of start)) allowed in
        record { in_reset = parts.in_reset; after_reset = parts.after_reset; master = (master_law (bus_edges block first edges)).1 (parts.calm, parts.bus) }

    pub whole-allowed : (edges : List (List Bool)) → IsAllowed block start edges → AllowedFrom first edges
    whole-allowed edges allowed =
        let bus = (master_law (bus_edges block first edges)).0 allowed.master in
        of_parts edges RESET_EDGES first (start-resets (number_of start))
        (record { in_reset = allowed.in_reset; after_reset = allowed.after_reset; calm = bus.0; bus = bus.1 })

    pub prefix-allowed : (n : ℕ) (edges : List (List Bool)) → IsAllowed block start edges → IsAllowed block start (take n edges)
    prefix-allowed n edges allowed = allowed-whole (take n edges) (allowed-take n edges first (whole-allowed edges allowed))

    -- the first forbidden edge is one, and there is none where all are allowed
    pub forbidden-here : (edges : List (List Bool)) (k : ℕ) (edge : List Bool) → k < length edges → edge ≡ get_or edges k []
        → AllowedFrom first (take k edges) → (IsAllowedAt (state_over first (take k edges)) edge → ⊥) → IsFirstForbidden block start edges k
    forbidden-here edges k edge below is so_far other = record {
      inside = below;
      before = allowed-whole (take k edges) so_far;
      here = λ allowed. other
          (let P : List (List Bool) → Type 0 = λ es. AllowedFrom first es in
          allowed-last (take k edges) edge first (subst P (take_more edges k [] below ∙ ap (λ e. take k edges ++ e ∷ []) (sym is)) (whole-allowed (take (k + 1) edges) allowed)));
    }

    pub none-forbidden : (edges : List (List Bool)) (k : ℕ) → IsAllowed block start edges → IsFirstForbidden block start edges k → ⊥
    none-forbidden edges k allowed forbidden = forbidden.here (prefix-allowed (k + 1) edges allowed)

    take-both : (edges : List (List Bool)) (m n : ℕ) → m < n → IsAllowed block start (take n edges) → IsAllowed block start (take (m + 1) edges)
    take-both edges m n below allowed =
        let P : List (List Bool) → Type 0 = λ es. IsAllowed block start es in
        subst P (take-take (m + 1) n edges (omega arith)) (prefix-allowed (m + 1) (take n edges) allowed)

    pub one-forbidden : (edges : List (List Bool)) (m n : ℕ) → IsFirstForbidden block start edges m → IsFirstForbidden block start edges n → m ≡ n
    one-forbidden edges m n one two = elim (cases_order m n) [
      | inl same ↦ same
      | inr other ↦ elim other [
        | inl below ↦ absurd (one.here (take-both edges m n below two.before))
        | inr above ↦ absurd (two.here (take-both edges n m above one.before))
      ]
    ]

    -- a step of the search for a forbidden edge, over a list of vectors
    item-is : (items : List (Vec Bool Global)) (k : ℕ) (bits : Vec Bool Global) → k < length items → bits ≡ get_or items k bits → bits.items ≡ get_or (lists_of items) k []
    item-is items k bits below is = ap (λ (v : Vec Bool Global). v.items) is ∙ sym (get_or-map (λ (v : Vec Bool Global). v.items) items k bits [] below)

    lists-length : (items : List (Vec Bool Global)) → length (lists_of items) ≡ length items
    lists-length items = length-map items (λ (v : Vec Bool Global). v.items)

    module _ (items : List (Vec Bool Global)) (k : ℕ) (bits : Vec Bool Global) (state : JointParts) (shown : List Bool) (answer : Bool)
        (below : k < length items) (is : bits ≡ get_or items k bits) (same : shown ≡ bits.items) (at : state ≡ state_over first (take k (lists_of items)))
        (so_far : AllowedFrom first (take k (lists_of items))) (tells : IsTrue answer ↔ IsAllowedAt state shown) where
      to-here : IsAllowedAt state shown → IsAllowedAt (state_over first (take k (lists_of items))) bits.items
      to-here allowed =
          let P : JointParts → Type 0 = λ s. IsAllowedAt s bits.items in
          let Q : List Bool → Type 0 = λ b. IsAllowedAt state b in
          subst P at (subst Q same allowed)

      from-here : IsAllowedAt (state_over first (take k (lists_of items))) bits.items → IsAllowedAt state shown
      from-here allowed =
          let P : JointParts → Type 0 = λ s. IsAllowedAt s bits.items in
          let Q : List Bool → Type 0 = λ b. IsAllowedAt state b in
          subst Q (sym same) (subst P (sym at) allowed)

      more : take (k + 1) (lists_of items) ≡ take k (lists_of items) ++ bits.items ∷ []
      more = take_more (lists_of items) k [] (omega (arith, lists-length items)) ∙ ap (λ e. take k (lists_of items) ++ e ∷ []) (sym (item-is items k bits below is))

      pub step-forbidden : answer ≡ false → IsFirstForbidden block start (lists_of items) k
      step-forbidden other =
          forbidden-here (lists_of items) k bits.items (omega (arith, lists-length items)) (item-is items k bits below is) so_far
          (λ allowed. both_ways answer other (tells.1 (from-here allowed)))

      pub step-allowed : answer ≡ true → AllowedFrom first (take (k + 1) (lists_of items))
      step-allowed holds =
          let P : List (List Bool) → Type 0 = λ es. AllowedFrom first es in
          subst P (sym more) (allowed-push (take k (lists_of items)) bits.items first so_far (to-here (tells.0 holds)))

      pub step-state : (next : JointParts) (wires : BusWires) → wires ≡ edge_wires shown → next ≡ state_after block state wires → next ≡ state_over first (take (k + 1) (lists_of items))
      step-state next wires shown_wires after =
          after ∙ ap (λ w. state_after block state w) (shown_wires ∙ ap edge_wires same) ∙ ap (λ s. state_after block s (edge_wires bits.items)) at
          ∙ sym (ap (state_over first) more ∙ over-push (take k (lists_of items)) bits.items first)

    pub all-allowed : (items : List (Vec Bool Global)) (k : ℕ) → length items ≤ k → AllowedFrom first (take k (lists_of items)) → IsAllowed block start (lists_of items)
    all-allowed items k past so_far =
        let P : List (List Bool) → Type 0 = λ es. AllowedFrom first es in
        allowed-whole (lists_of items) (subst P (take_all k (lists_of items) (omega (arith, lists-length items))) so_far)
