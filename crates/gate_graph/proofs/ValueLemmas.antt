-- The value of a node looks at lower nodes alone.
use Rattle.std.proofs.Common.{◌≡◌, ◌≢◌, ℕ, zero, suc, ◌+◌, ◌*◌, ◌/◌, ◌<◌, ◌≤◌, Bool, false, List, [], ◌∷◌, ◌++◌, length, slice_get, Some, arith, refl, sym, ◌∙◌, inl, inr, length-append, get_or, set, get_or-set_other, get_or-set_same, subst}
use Rattle.std.proofs.lemmas.Option.{slice_get_within, slice_get-get_or}
use Rattle.std.proofs.lemmas.Bool.{cases_eq}
use Rattle.std.proofs.lemmas.List.{get_or_append_left}
use Rattle.std.proofs.Math.Seq.{get_or-append_seam}
use Rattle.gate_graph.specs.declared.wires.Wire.{Wire}
use Rattle.gate_graph.specs.declared.nodes.Node.{Node}
use Rattle.gate_graph.specs.declared.nodes.Node.TheVariants.{Zero, Latch, Input, And}
use Rattle.gate_graph.specs.Gates.{wire_value, Obeys, Respects, IsLow, IsGraph}
use Rattle.gate_graph.specs.Values.{at, node_value, IsValuation, value, values_from}
use Rattle.gate_graph.proofs.GraphLemmas.{node_low}

pub wire_value_below : (v u : ℕ → Bool) (w : Wire) (k : ℕ) → w.0 < 2 * k → ((j : ℕ) → j < k → v j ≡ u j) → wire_value v w ≡ wire_value u w
unfolding wire_value
wire_value_below v u w k lt same = let e : v (w.0 / 2) ≡ u (w.0 / 2) = same (w.0 / 2) (omega arith) in rw e refl

pub node_value_below : (s x : List Bool) (v u : ℕ → Bool) (k : ℕ) (n : Node) → IsLow k n → ((j : ℕ) → j < k → v j ≡ u j) → node_value s x v n ≡ node_value s x u n
node_value_below s x v u k Zero low same = refl
node_value_below s x v u k (Latch n) low same = refl
node_value_below s x v u k (Input n) low same = refl
node_value_below s x v u k (And a b) low same = rw (wire_value_below v u a k low.0 same, wire_value_below v u b k low.1 same) refl

-- the table has the values of the nodes below i
pub record AreDone (s x : List Bool) (v : ℕ → Bool) (nodes : List Node) (i : ℕ) : Type 0 where
  pub node : (k : ℕ) (n : Node) → k < i → slice_get nodes k ≡ Some n → v k ≡ node_value s x v n

-- one value more
pub done_more : (s x : List Bool) (v u : ℕ → Bool) (nodes : List Node) (i : ℕ) (n : Node) → IsGraph nodes → AreDone s x v nodes i → slice_get nodes i ≡ Some n
    → ((j : ℕ) → j < i → u j ≡ v j) → u i ≡ node_value s x v n → AreDone s x u nodes (i + 1)
done_more s x v u nodes i n g done here below last = record {
  node = λ k m lt h.
      let same : node_value s x u m ≡ node_value s x v m = node_value_below s x u v k m (node_low nodes k m g h) (λ j p. below j (omega arith)) in
      elim (cases_eq k i) [
        | inl p ↦
            let at_i : slice_get nodes i ≡ Some m = subst (λ j. slice_get nodes j ≡ Some m) p h in
            let e : n ≡ m = cc in
            let last' : u i ≡ node_value s x v m = subst (λ (y : Node). u i ≡ node_value s x v y) e last in
            subst (λ j. u j ≡ node_value s x u m) (sym p) (last' ∙ sym same)
        | inr p ↦ (below k (omega arith) ∙ done.node k m (omega arith) h) ∙ sym same
      ];
}

-- a value written into a table
pub done_set : (s x t : List Bool) (nodes : List Node) (i : ℕ) (b : Bool) → IsGraph nodes → length t ≡ length nodes → i < length nodes → AreDone s x (at t) nodes i
    → b ≡ node_value s x (at t) (get_or nodes i Zero) → AreDone s x (at (set t i b)) nodes (i + 1)
done_set s x t nodes i b g long lt done e =
    done_more s x (at t) (at (set t i b)) nodes i (get_or nodes i Zero) g done (slice_get-get_or nodes i Zero lt)
    (λ j p. let ne : j ≢ i = omega arith in get_or-set_other t i j b false ne)
    (let within : i < length t = omega arith in get_or-set_same t i b false within ∙ e)

pub done_all : (s x : List Bool) (v : ℕ → Bool) (nodes : List Node) (i : ℕ) → AreDone s x v nodes i → length nodes ≤ i → IsValuation s x v nodes
done_all s x v nodes i done le = record { node = λ k n h. done.node k n (omega (arith, slice_get_within nodes k n h)) h }

-- two valuations of one graph agree
pub agree_below : (s x : List Bool) (v u : ℕ → Bool) (nodes : List Node) (i : ℕ) → IsGraph nodes → IsValuation s x v nodes → IsValuation s x u nodes → i ≤ length nodes → (j : ℕ) → j < i → v j ≡ u j
agree_below s x v u nodes zero g p q le j lt = absurd (omega arith)
agree_below s x v u nodes (suc i) g p q le j lt =
    let n : Node = get_or nodes j Zero in
    let here : slice_get nodes j ≡ Some n = slice_get-get_or nodes j Zero (omega arith) in
    let below : (k : ℕ) → k < j → v k ≡ u k = λ k h. agree_below s x v u nodes i g p q (omega arith) k (omega arith) in
    (p.node j n here ∙ node_value_below s x v u j n (node_low nodes j n g here) below) ∙ sym (q.node j n here)

pub agree : (s x : List Bool) (v u : ℕ → Bool) (nodes : List Node) → IsGraph nodes → IsValuation s x v nodes → IsValuation s x u nodes → (j : ℕ) → j < length nodes → v j ≡ u j
agree s x v u nodes g p q j lt = agree_below s x v u nodes (length nodes) g p q (omega arith) j lt

-- the table of values, node by node
pub done_from : (s x done : List Bool) (ns nodes : List Node) → IsGraph nodes → length done + length ns ≡ length nodes
    → ((j : ℕ) (n : Node) → slice_get ns j ≡ Some n → slice_get nodes (length done + j) ≡ Some n)
    → AreDone s x (at done) nodes (length done) → AreDone s x (at (values_from s x done ns)) nodes (length nodes)
done_from s x done [] nodes g long tail h = let e : length done ≡ length nodes = omega arith in subst (λ i. AreDone s x (at done) nodes i) e h
done_from s x done (n ∷ ns) nodes g long tail h =
    let b : Bool = node_value s x (at done) n in
    let more : length (done ++ b ∷ []) ≡ length done + 1 = length-append done (b ∷ []) in
    let place : length done + 0 ≡ length done = omega arith in
    let here : slice_get nodes (length done) ≡ Some n = subst (λ i. slice_get nodes i ≡ Some n) place (tail 0 n refl) in
    let step : AreDone s x (at (done ++ b ∷ [])) nodes (length done + 1) =
    done_more s x (at done) (at (done ++ b ∷ [])) nodes (length done) n g h here
    (λ j p. get_or_append_left done (b ∷ []) false j p)
    (get_or-append_seam done b [] false) in
    done_from s x (done ++ b ∷ []) ns nodes g (omega arith)
    (λ j m p. let e : length done + suc j ≡ length (done ++ b ∷ []) + j = omega arith in subst (λ i. slice_get nodes i ≡ Some m) e (tail (suc j) m p))
    (subst (λ i. AreDone s x (at (done ++ b ∷ [])) nodes i) (sym more) step)

-- the values of a graph's nodes are a valuation
pub value_is : (s x : List Bool) (nodes : List Node) → IsGraph nodes → IsValuation s x (value s x nodes) nodes
unfolding value
value_is s x nodes g =
    done_all s x (at (values_from s x [] nodes)) nodes (length nodes)
    (done_from s x [] nodes nodes g (omega arith) (λ j n h. let e : j ≡ 0 + j = omega arith in subst (λ i. slice_get nodes i ≡ Some n) e h)
    (record { node = λ k n lt h. absurd (omega arith) }))
    (omega arith)

-- values under latches and inputs respect the gates
pub valuation_respects : (s x : List Bool) (v : ℕ → Bool) (nodes : List Node) → IsValuation s x v nodes → Respects v nodes
valuation_respects s x v nodes p = record { gate = λ i n h. obeys s x v i n (p.node i n h) }
  where
    obeys : (s x : List Bool) (v : ℕ → Bool) (i : ℕ) (n : Node) → v i ≡ node_value s x v n → Obeys v i n
    obeys s x v i Zero h = h
    obeys s x v i (Latch m) h = tt
    obeys s x v i (Input m) h = tt
    obeys s x v i (And a b) h = h
