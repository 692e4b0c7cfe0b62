-- A run that is cut after its first difference.
use Rattle.std.proofs.Common.{◌≡◌, ℕ, zero, suc, ◌+◌, ◌<◌, ◌≤◌, Bool, Option, Some, None, List, [], ◌∷◌, length, take, map, refl, sym, ◌∙◌, ap, subst, arith, add-one, zero-add}
use Rattle.std.proofs.lemmas.List.{take-map, length-take-le, length-map}
use Rattle.std.specs.List.{All}
use Rattle.std.proofs.lemmas.List.Elements.{All-take}
use Rattle.bit_base.specs.Numbers.{number_of, low_bits}
use Rattle.apb_rules.specs.declared.wires.Choice.{Choice}
use Rattle.apb_rules.specs.declared.wires.BusWires.{BusWires}
use Rattle.trace_replay.specs.Blocks.{FlatBlock}
use Rattle.trace_replay.specs.declared.joint.Difference.{Difference}
use Rattle.trace_replay.specs.States.{JointParts}
use Rattle.trace_replay.specs.Joint.{difference_at, state_after, start_of, first_or, first_from, first_difference, wires_from}
use Rattle.trace_replay.specs.Laws.{EndsThere, CutAtFirst, RunEndsThere}
use Rattle.trace_replay.specs.LegalTrace.{FitsPins, HasSizes, IsLegalTrace}
use Rattle.trace_replay.specs.declared.joint.TheConstants.{RESET_EDGES}
use Rattle.trace_replay.specs.declared.trace.TheConstants.{START_BITS, EDGE_LIMIT}
use Rattle.trace_replay.specs.Trace.{HasAllInputs, edges_from, edge_wires, trace_difference}
use Rattle.trace_replay.proofs.AllowedLemmas.{AllowedFrom, prefix-allowed, allowed-whole, start-resets}
use Rattle.trace_replay.proofs.RunLemmas.{low-number, run-allowed, edges-length, wires-length, map-wires, take-wires}
use Rattle.trace_replay.proofs.TraceLemmas.{edges_from-whole}

found-same : (a e : ℕ) (b d : Difference) → ◌≡◌ {A = Option (ℕ × Difference)} (Some (a, b)) (Some (e, d)) → (a ≡ e) × (b ≡ d)
found-same a e b d same = let pair : ◌≡◌ {A = ℕ × Difference} (a, b) (e, d) = cc in (ap (λ p. p.0) pair, ap (λ p. p.1) pair)

none-found : (e : ℕ) (d : Difference) (Q : Type 0) → ◌≡◌ {A = Option (ℕ × Difference)} None (Some (e, d)) → Q
none-found e d Q h = cc

-- the first of two, by cases on the first
or-cases : (first : Option Difference) (edge : ℕ) (later : Option (ℕ × Difference)) (e : ℕ) (d : Difference) (Q : Type 0) → first_or first edge later ≡ Some (e, d)
    → (first ≡ Some d → edge ≡ e → Q) → (first ≡ None → later ≡ Some (e, d) → Q) → Q
or-cases (Some difference) edge later e d Q h here there =
    let same = found-same edge e difference d h in here (ap (λ x. Some x) same.1) same.0
or-cases None edge later e d Q h here there = there refl h

module _ (block : FlatBlock) where
  first-above : (run : List BusWires) (state : JointParts) (edge e : ℕ) (d : Difference) → first_from block state edge run ≡ Some (e, d) → edge ≤ e
  first-above [] state edge e d h = none-found e d _ h
  first-above (wires ∷ run) state edge e d h =
      or-cases (difference_at block state wires) edge (first_from block (state_after block state wires) (edge + 1) run) e d (edge ≤ e) h
      (λ here same. omega arith)
      (λ none later. let above = first-above run (state_after block state wires) (edge + 1) e d later in omega arith)

  first-inside : (run : List BusWires) (state : JointParts) (edge e : ℕ) (d : Difference) → first_from block state edge run ≡ Some (e, d) → e < edge + length run
  first-inside [] state edge e d h = none-found e d _ h
  first-inside (wires ∷ run) state edge e d h =
      or-cases (difference_at block state wires) edge (first_from block (state_after block state wires) (edge + 1) run) e d (e < edge + suc (length run)) h
      (λ here same. omega arith)
      (λ none later. let inside = first-inside run (state_after block state wires) (edge + 1) e d later in omega arith)

  first-cut : (run : List BusWires) (state : JointParts) (edge k e : ℕ) (d : Difference) → edge + k ≡ e → first_from block state edge run ≡ Some (e, d)
      → first_from block state edge (take (suc k) run) ≡ Some (e, d)
  first-cut [] state edge k e d at h = none-found e d _ h
  first-cut (wires ∷ run) state edge zero e d at h =
      or-cases (difference_at block state wires) edge (first_from block (state_after block state wires) (edge + 1) run) e d _ h
      (λ here same. ap (λ o. first_or o edge None) here ∙ ap (λ n. Some (n, d)) same)
      (λ none later. let above = first-above run (state_after block state wires) (edge + 1) e d later in absurd (omega arith))
  first-cut (wires ∷ run) state edge (suc k) e d at h =
      or-cases (difference_at block state wires) edge (first_from block (state_after block state wires) (edge + 1) run) e d _ h
      (λ here same. ap (λ o. first_or o edge (first_from block (state_after block state wires) (edge + 1) (take (suc k) run))) here ∙ ap (λ n. Some (n, d)) same)
      (λ none later. ap (λ o. first_or o edge (first_from block (state_after block state wires) (edge + 1) (take (suc k) run))) none
      ∙ first-cut run (state_after block state wires) (edge + 1) k e d (omega arith) later)

  inputs-take : (n : ℕ) (edges : List (List Bool)) → HasAllInputs edges → HasAllInputs (take n edges)
  inputs-take zero edges whole = tt
  inputs-take (suc n) [] whole = tt
  inputs-take (suc n) (edge ∷ edges) whole = (whole.0, inputs-take n edges whole.1)

  first-of : (start : List Bool) (edges : List (List Bool)) (e : ℕ) (d : Difference) → trace_difference block start edges ≡ Some (e, d)
      → first_from block (start_of block (number_of start)) 0 (map edge_wires edges) ≡ Some (e, d)
  unfolding trace_difference
  first-of start edges e d h = h

  of-first : (start : List Bool) (edges : List (List Bool)) (e : ℕ) (d : Difference) → first_from block (start_of block (number_of start)) 0 (map edge_wires edges) ≡ Some (e, d)
      → trace_difference block start edges ≡ Some (e, d)
  unfolding trace_difference
  of-first start edges e d h = h

  cut-there : (start : List Bool) (edges : List (List Bool)) (edge : ℕ) (difference : Difference) → IsLegalTrace block start edges
      → trace_difference block start edges ≡ Some (edge, difference) → EndsThere block start (take (edge + 1) edges) edge difference
  cut-there start edges edge difference legal found =
      let first = start_of block (number_of start) in
      let h = first-of start edges edge difference found in
      let inside : edge < 0 + length (map edge_wires edges) = first-inside (map edge_wires edges) first 0 edge difference h in
      let long : length (take (edge + 1) edges) ≡ edge + 1 = length-take-le (edge + 1) edges (omega (arith, length-map edges edge_wires)) in
      record {
        legal = record {
          sizes = record { start_bits = legal.sizes.start_bits; input_bits = inputs-take (edge + 1) edges legal.sizes.input_bits; few = omega (arith, legal.sizes.few, length-map edges edge_wires) };
          allowed = prefix-allowed block start (edge + 1) edges legal.allowed;
        };
        last = long;
        first = of-first start (take (edge + 1) edges) edge difference
            (ap (first_from block first 0) (sym (take-map edge_wires (edge + 1) edges) ∙ ap (λ n. take n (map edge_wires edges)) (add-one edge))
            ∙ first-cut (map edge_wires edges) first 0 edge edge difference (zero-add edge) h);
      }

pub cut-at-first : CutAtFirst
cut-at-first block start edges edge difference legal found = cut-there block start edges edge difference legal found

cut-run-there : (block : FlatBlock) (register : ℕ) (choices : List Choice) (edge : ℕ) (difference : Difference) → register < 256 → length choices ≤ EDGE_LIMIT → All FitsPins choices
    → first_difference block register (wires_from block (start_of block register) choices) ≡ Some (edge, difference)
    → EndsThere block (low_bits START_BITS register) (edges_from block (start_of block register) (take (edge + 1) (wires_from block (start_of block register) choices))) edge difference
unfolding trace_difference
cut-run-there block register choices edge difference small few pins found =
    let first = start_of block register in
    let run = wires_from block first choices in
    let start = low_bits START_BITS register in
    let number : number_of start ≡ register = low-number 8 register small in
    let inside : edge < 0 + length run = first-inside block run first 0 edge difference found in
    let cut : List BusWires = take (edge + 1) run in
    let fewer : cut ≡ wires_from block first (take (edge + 1) choices) = take-wires block (edge + 1) choices first in
    let long : length cut ≡ edge + 1 = length-take-le (edge + 1) run (omega arith) in
    let edges : List (List Bool) = edges_from block first cut in
    let P : List BusWires → Type 0 = λ ws. AllowedFrom block first (edges_from block first ws) in
    let Q : ℕ → Type 0 = λ n. AllowedFrom block (start_of block n) edges in
    let allowed : AllowedFrom block first edges =
    subst P (sym fewer) (run-allowed block (take (edge + 1) choices) RESET_EDGES first (start-resets block register) tt (All-take FitsPins (edge + 1) choices pins)) in
    let again : map edge_wires edges ≡ cut =
    ap (λ ws. map edge_wires (edges_from block first ws)) fewer ∙ map-wires block (take (edge + 1) choices) first tt (All-take FitsPins (edge + 1) choices pins) ∙ sym fewer in
    record {
      legal = record {
        sizes = record {
          start_bits = refl;
          input_bits = edges_from-whole block first cut;
          few = omega (arith, edges-length block cut first, long, wires-length block choices first);
        };
        allowed = allowed-whole block start edges (subst Q (sym number) allowed);
      };
      last = edges-length block cut first ∙ long;
      first =
          ap (λ n. first_difference block n (map edge_wires edges)) number
          ∙ ap (first_from block first 0) (again ∙ ap (λ n. take n run) (add-one edge))
          ∙ first-cut block run first 0 edge edge difference (zero-add edge) found;
    }

pub cut-run : RunEndsThere
cut-run block register choices edge difference small few pins found = cut-run-there block register choices edge difference small few pins found
