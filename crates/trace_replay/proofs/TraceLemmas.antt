-- One more edge of a trace, and one more line of its text.
use Rattle.std.proofs.Common.{◌≡◌, ℕ, zero, suc, ◌+◌, ◌<◌, Bool, List, [], ◌∷◌, ◌++◌, length, take, drop, get_or, Vec, Global, refl, sym, ◌∙◌, ap, subst, add-one, append_assoc, append-nil, arith}
use Rattle.std.proofs.Math.Seq.{drop-cons, take-suc}
use Rattle.std.proofs.lemmas.List.{map-append}
use Rattle.apb_rules.specs.declared.wires.BusWires.{BusWires}
use Rattle.trace_replay.specs.Blocks.{FlatBlock}
use Rattle.trace_replay.specs.declared.input.TheConstants.{INPUT_BITS}
use Rattle.trace_replay.specs.States.{JointParts}
use Rattle.trace_replay.specs.Joint.{pins_of, state_after}
use Rattle.trace_replay.specs.Trace.{edge_bits, edges_from, lists_of, HasAllInputs}

-- one more edge: its bits, and then those of the rest
pub edges_from-more : (block : FlatBlock) (state : JointParts) (run : List BusWires) (i : ℕ) (wires : BusWires) (edges : List (Vec Bool Global)) (bits : Vec Bool Global)
    → i < length run → wires ≡ get_or run i wires → bits.items ≡ edge_bits (pins_of state wires)
    → lists_of (edges ++ bits ∷ []) ++ edges_from block (state_after block state wires) (drop (i + 1) run) ≡ lists_of edges ++ edges_from block state (drop i run)
edges_from-more block state run i wires edges bits below is same =
    ap (λ front. front ++ edges_from block (state_after block state wires) (drop (i + 1) run)) (map-append (λ v. v.items) edges (bits ∷ []))
    ∙ append_assoc (lists_of edges) (bits.items ∷ []) (edges_from block (state_after block state wires) (drop (i + 1) run))
    ∙ ap (λ first. lists_of edges ++ (first ∷ edges_from block (state_after block state wires) (drop (i + 1) run))) same
    ∙ ap (λ rest. lists_of edges ++ edges_from block state rest)
    (ap (λ w. w ∷ drop (i + 1) run) is ∙ rw (add-one i) (sym (drop-cons run i wires below)))

-- the edges of a run have the bits of all inputs
pub edges_from-whole : (block : FlatBlock) (state : JointParts) (run : List BusWires) → HasAllInputs (edges_from block state run)
edges_from-whole block state [] = tt
edges_from-whole block state (wires ∷ run) = (refl, edges_from-whole block (state_after block state wires) run)

pub whole-from : (block : FlatBlock) (state : JointParts) (run : List BusWires) (edges : List (List Bool)) → edges ≡ edges_from block state run → HasAllInputs edges
whole-from block state run edges is = let P : List (List Bool) → Type 0 = λ e. HasAllInputs e in subst P (sym is) (edges_from-whole block state run)

-- so has each of them
pub whole-at : (edges : List (Vec Bool Global)) (i : ℕ) (edge : Vec Bool Global) → HasAllInputs (lists_of edges) → i < length edges → edge ≡ get_or edges i edge → length edge.items ≡ INPUT_BITS
whole-at [] i edge whole below is = absurd (omega arith)
whole-at (first ∷ edges) zero edge whole below is = ap (λ (v : Vec Bool Global). length v.items) is ∙ whole.0
whole-at (first ∷ edges) (suc i) edge whole below is = whole-at edges i edge whole.1 (omega arith) is

-- what is read within a list doesn't hang on the default
pub same_get : {A : Type 0} (xs : List A) (i : ℕ) (d e : A) → i < length xs → get_or xs i d ≡ get_or xs i e
same_get [] i d e below = absurd (omega arith)
same_get (x ∷ xs) zero d e below = refl
same_get (x ∷ xs) (suc i) d e below = same_get xs i d e (omega arith)
