-- Cones: how marks come to them, and that they are closed.
use Rattle.std.proofs.Common.{◌≡◌, ℕ, zero, suc, ◌+◌, ◌-◌, ◌/◌, ◌<◌, ◌≤◌, Bool, true, false, ◌&&◌, ◌||◌, eqb, cond, List, [], ◌∷◌, ◌++◌, length, map, Vec, Global, take, drop, slice_get, get_or, set, ◌⊎◌, Some, refl, ap, sym, ◌∙◌, subst, inl, inr, arith, length-append, true≢false}
use Rattle.std.specs.List.{list_any}
use Rattle.std.proofs.lemmas.Bool.{eq-eqb, ne_eqb, or_left, or_right, cases_eq}
use Rattle.std.proofs.lemmas.List.{drop_more, get_or-map, take_all, get_or_push, get_or_append_left, get_or-set_same, get_or-set_other}
use Rattle.std.proofs.Math.Seq.{take-append_seam}
use Rattle.std.proofs.lemmas.Option.{slice_get_within, get_or_from_slice_get}
use Rattle.lemma_checker.specs.declared.literal.Literal.{Literal}
use Rattle.gate_graph.specs.declared.wires.Wire.{Wire}
use Rattle.gate_graph.specs.declared.nodes.Node.{Node}
use Rattle.gate_graph.specs.declared.nodes.Node.TheVariants as node
use Rattle.gate_graph.specs.declared.parts.Latch.{Latch}
use Rattle.gate_graph.specs.declared.circuits.Circuit.{Circuit}
use Rattle.gate_graph.specs.Gates.{IsLow}
use Rattle.gate_graph.specs.Values.{at}
use Rattle.gate_graph.proofs.GraphLemmas.{node_low}
use Rattle.unroll_cnf.specs.declared.latch_literal.LatchLiteral.{LatchLiteral}
use Rattle.unroll_cnf.proofs.FrameLemmas.{graph_of, HasWires}
use Rattle.unroll_cnf.specs.Latches.{weakened}
use Rattle.unroll_cnf.specs.Cones.{with_wires, depends, cone, is_next, feeds, is_bad_node, bad_cone, is_clause_next, is_set_next, set_cone, AreCones, marks_at}
use Rattle.unroll_cnf.specs.Queries.{by_node, gate_clauses, latch_clauses, offset, base_cones, step_cones, keep_cones, edge_clauses, link_clauses, run_clauses}

-- a mark
or_true : (a : Bool) → (a || true) ≡ true
or_true true = refl
or_true false = refl

pub or_nothing : (a : Bool) → (a || false) ≡ a
or_nothing true = refl
or_nothing false = refl

pub marked : (marks : List Bool) (n : ℕ) → n < length marks → (j : ℕ) → at (set marks n true) j ≡ (at marks j || eqb j n)
marked marks n lt j = elim (cases_eq j n) [
  | inl e ↦ subst (λ k. at (set marks n true) k ≡ (at marks k || eqb k n)) (sym e) (get_or-set_same marks n true false lt ∙ sym (ap (λ b. at marks n || b) (eq-eqb n n refl) ∙ or_true (at marks n)))
  | inr ne ↦ get_or-set_other marks n j true false ne ∙ sym (ap (λ b. at marks j || b) (ne_eqb j n ne) ∙ or_nothing (at marks j))
]

-- the wires of one node more
wires_same : (i : ℕ) (n : Node) (s t : ℕ → Bool) → ((j : ℕ) → s j ≡ t j) → (j : ℕ) → with_wires i n s j ≡ with_wires i n t j
wires_same i node.Zero s t h j = h j
wires_same i (node.Latch n) s t h j = h j
wires_same i (node.Input n) s t h j = h j
wires_same i (node.And a b) s t h j = rw (h j, h i) refl

pub depends_more : (i : ℕ) (ns : List Node) (n : Node) (roots old new : ℕ → Bool) → slice_get ns i ≡ Some n → ((j : ℕ) → old j ≡ depends (i + 1) (drop (i + 1) ns) roots j) → ((j : ℕ) → new j ≡ with_wires i n old j) → (j : ℕ) → new j ≡ depends i (drop i ns) roots j
depends_more i ns n roots old new is before step j =
    let lt : i < length ns = slice_get_within ns i n is in
    let rest : drop i ns ≡ n ∷ drop (i + 1) ns = drop_more ns i n lt ∙ ap (λ (m : Node). m ∷ drop (i + 1) ns) (get_or_from_slice_get ns i n n is) in
    step j ∙ (wires_same i n old (depends (i + 1) (drop (i + 1) ns) roots) before j ∙ ap (λ (z : List Node). depends i z roots j) (sym rest))

-- one latch more
feeds_one : (latches : List Latch) (i : ℕ) (n : Node) (ns : List Node) (s : ℕ → Bool) (j : ℕ) → feeds latches i (n ∷ ns) s j ≡ (feeds latches i (n ∷ []) s j || feeds latches (i + 1) ns s j)
feeds_one latches i node.Zero ns s j = refl
feeds_one latches i (node.Latch n) ns s j = rw (or_nothing (s i && is_next (slice_get latches n) j)) refl
feeds_one latches i (node.Input n) ns s j = refl
feeds_one latches i (node.And a b) ns s j = refl

or_assoc : (a b c : Bool) → ((a || b) || c) ≡ (a || (b || c))
or_assoc true b c = refl
or_assoc false b c = refl

pub feeds_more : (latches : List Latch) (i : ℕ) (ns : List Node) (n : Node) (s : ℕ → Bool) (j : ℕ) (old new all : Bool) → slice_get ns i ≡ Some n → (old || feeds latches i (drop i ns) s j) ≡ all → new ≡ (old || feeds latches i (n ∷ []) s j) → (new || feeds latches (i + 1) (drop (i + 1) ns) s j) ≡ all
feeds_more latches i ns n s j old new all is so_far step =
    let lt : i < length ns = slice_get_within ns i n is in
    let rest : drop i ns ≡ n ∷ drop (i + 1) ns = drop_more ns i n lt ∙ ap (λ (m : Node). m ∷ drop (i + 1) ns) (get_or_from_slice_get ns i n n is) in
    ap (λ b. b || feeds latches (i + 1) (drop (i + 1) ns) s j) step
    ∙ (or_assoc old (feeds latches i (n ∷ []) s j) (feeds latches (i + 1) (drop (i + 1) ns) s j)
    ∙ (ap (λ b. old || b) (sym (feeds_one latches i n (drop (i + 1) ns) s j) ∙ ap (λ (z : List Node). feeds latches i z s j) (sym rest)) ∙ so_far))

-- sets that are equal node by node
pub depends_same : (i : ℕ) (ns : List Node) (s t : ℕ → Bool) → ((j : ℕ) → s j ≡ t j) → (j : ℕ) → depends i ns s j ≡ depends i ns t j
depends_same i [] s t h j = h j
depends_same i (n ∷ ns) s t h j = wires_same i n (depends (i + 1) ns s) (depends (i + 1) ns t) (depends_same (i + 1) ns s t h) j

pub cone_same : (c : Circuit) (s t : ℕ → Bool) → ((j : ℕ) → s j ≡ t j) → (j : ℕ) → cone c s j ≡ cone c t j
unfolding cone
cone_same c s t h j = depends_same 0 c.graph s t h j

pub feeds_same : (latches : List Latch) (i : ℕ) (ns : List Node) (s t : ℕ → Bool) → ((j : ℕ) → s j ≡ t j) → (j : ℕ) → feeds latches i ns s j ≡ feeds latches i ns t j
feeds_same latches i [] s t h j = refl
feeds_same latches i (node.Zero ∷ ns) s t h j = feeds_same latches (i + 1) ns s t h j
feeds_same latches i (node.Latch n ∷ ns) s t h j = rw (h i, feeds_same latches (i + 1) ns s t h j) refl
feeds_same latches i (node.Input n ∷ ns) s t h j = feeds_same latches (i + 1) ns s t h j
feeds_same latches i (node.And a b ∷ ns) s t h j = feeds_same latches (i + 1) ns s t h j

-- what is written through a slice of all items
pub written : {X : Type 0} (items new : List X) (n : ℕ) → n ≡ length items → length new ≡ length items → take n (new ++ drop (length new) items) ≡ new
written items new n p q = let e : n ≡ length new = omega (arith, p, q) in ap (λ k. take k (new ++ drop (length new) items)) e ∙ take-append_seam new (drop (length new) items)

-- the cones of a bad edge, one after the other
pub cones_one : (c : Circuit) (every : Bool) (marks : List (List Bool)) (m : List Bool) → marks ≡ m ∷ [] → ((j : ℕ) → at m j ≡ cone c (is_bad_node c) j) → AreCones c every 1 marks
unfolding bad_cone
cones_one c every marks m is h = subst (AreCones c every 1) (sym is) (record { long = refl; each = each_one c every m h })
  where
    each_one : (c : Circuit) (every : Bool) (m : List Bool) → ((j : ℕ) → at m j ≡ cone c (is_bad_node c) j) → (d j : ℕ) → d < 1 → at (get_or (m ∷ []) d []) j ≡ bad_cone c every d j
    each_one c every m h zero j lt = h j
    each_one c every m h (suc d) j lt = absurd (omega arith)

pub cones_more : (c : Circuit) (every : Bool) (n : ℕ) (old new : List (List Bool)) (m later : List Bool) → AreCones c every (n + 1) old → new ≡ old ++ m ∷ [] → get_or old n [] ≡ later → ((j : ℕ) → at m j ≡ cone c (λ i. (every && is_bad_node c i) || feeds c.latches.items 0 c.graph (at later) i) j) → AreCones c every (n + 1 + 1) new
unfolding bad_cone
cones_more c every n old new m later a is there h = subst (AreCones c every (n + 1 + 1)) (sym is) (record {
  long = omega (arith, length-append old (m ∷ []), a.long);
  each = λ d j lt. elim (cases_eq d (n + 1)) [
    | inl e ↦
        let last : get_or (old ++ m ∷ []) d [] ≡ m = get_or_push old m [] d (omega (arith, a.long)) in
        ap (λ (z : List Bool). at z j) last ∙ (h j ∙ (cone_same c _ _ (λ i. ap (λ b. (every && is_bad_node c i) || b) (feeds_same c.latches.items 0 c.graph (at later) (bad_cone c every n) (λ k. ap (λ (z : List Bool). at z k) (sym there) ∙ a.each n k (omega arith)) i)) j ∙ sym (more c every n d j (omega arith))))
    | inr ne ↦ ap (λ (z : List Bool). at z j) (get_or_append_left old (m ∷ []) [] d (omega (arith, a.long))) ∙ a.each d j (omega arith)
  ];
})
  where
    more : (c : Circuit) (every : Bool) (n d j : ℕ) → suc n ≡ d → bad_cone c every d j ≡ cone c (λ i. (every && is_bad_node c i) || feeds c.latches.items 0 c.graph (bad_cone c every n) i) j
    more c every n d j e = ap (λ k. bad_cone c every k j) (sym e)

-- the marks of a whole set
pub set_marked : (c : Circuit) (set : List (List LatchLiteral)) (i : ℕ) (marks : List Bool) (j : ℕ) → length set ≤ i → ((k : ℕ) → at marks k ≡ is_set_next c (take i set) k) → cone c (at marks) j ≡ set_cone c set j
unfolding set_cone
set_marked c set i marks j le h = cone_same c (at marks) (is_set_next c set) (λ k. h k ∙ ap (λ (z : List (List LatchLiteral)). is_set_next c z k) (take_all i set le)) j

-- a set is in its cone
wires_keep : (i : ℕ) (n : Node) (s : ℕ → Bool) (j : ℕ) → s j ≡ true → with_wires i n s j ≡ true
wires_keep i node.Zero s j h = h
wires_keep i (node.Latch n) s j h = h
wires_keep i (node.Input n) s j h = h
wires_keep i (node.And a b) s j h = or_left (s j) (s i && (eqb j (a.0 / 2) || eqb j (b.0 / 2))) h

depends_keep : (i : ℕ) (ns : List Node) (s : ℕ → Bool) (j : ℕ) → s j ≡ true → depends i ns s j ≡ true
depends_keep i [] s j h = h
depends_keep i (n ∷ ns) s j h = wires_keep i n (depends (i + 1) ns s) j (depends_keep (i + 1) ns s j h)

pub cone_keeps : (c : Circuit) (s : ℕ → Bool) (j : ℕ) → s j ≡ true → cone c s j ≡ true
unfolding cone
cone_keeps c s j h = depends_keep 0 c.graph s j h

-- a node that a lower gate's wires do not name was in the set before
not_a_wire : (s i : Bool) (j a b : ℕ) → a < j → b < j → (s || (i && (eqb j a || eqb j b))) ≡ true → s ≡ true
not_a_wire true i j a b p q h = refl
not_a_wire false true j a b p q h = absurd (true≢false (sym h ∙ rw (ne_eqb j a (λ e. omega (arith, e, p)), ne_eqb j b (λ e. omega (arith, e, q))) refl))
not_a_wire false false j a b p q h = h

wires_above : (i : ℕ) (n : Node) (s : ℕ → Bool) (j : ℕ) → IsLow i n → i < j → with_wires i n s j ≡ true → s j ≡ true
wires_above i node.Zero s j low lt h = h
wires_above i (node.Latch n) s j low lt h = h
wires_above i (node.Input n) s j low lt h = h
wires_above i (node.And a b) s j low lt h = not_a_wire (s j) (s i) j (a.0 / 2) (b.0 / 2) (omega (arith, low.0)) (omega (arith, low.1)) h

-- a gate's own mark comes from above, and marks its wires
own_mark : (s i : Bool) (b : Bool) → (s || (s && b)) ≡ true → s ≡ true
own_mark true i b h = refl
own_mark false i b h = h

wire_marked : (s i : Bool) (j a b : ℕ) → i ≡ true → (j ≡ a) ⊎ (j ≡ b) → (s || (i && (eqb j a || eqb j b))) ≡ true
wire_marked s i j a b h e = or_right s (i && (eqb j a || eqb j b)) (rw h (elim e [ inl p ↦ or_left (eqb j a) (eqb j b) (eq-eqb j a p) | inr q ↦ or_right (eqb j a) (eqb j b) (eq-eqb j b q) ]))

depends_wire : (i : ℕ) (ns : List Node) (s : ℕ → Bool) → ((j : ℕ) (n : Node) → slice_get ns j ≡ Some n → IsLow (i + j) n) → (j : ℕ) (a b : Wire) → slice_get ns j ≡ Some (node.And a b) → (k : ℕ) → (k ≡ a.0 / 2) ⊎ (k ≡ b.0 / 2) → depends i ns s (i + j) ≡ true → depends i ns s k ≡ true
depends_wire i [] s low j a b is k e h = absurd (let e : ⊥ = cc in e)
depends_wire i (n ∷ ns) s low zero a b is k e h =
    let same : n ≡ node.And a b = cc in
    let place : i + 0 ≡ i = omega arith in
    let here : with_wires i (node.And a b) (depends (i + 1) ns s) i ≡ true = subst (λ (m : Node). with_wires i m (depends (i + 1) ns s) i ≡ true) same (subst (λ p. with_wires i n (depends (i + 1) ns s) p ≡ true) place h) in
    let above : depends (i + 1) ns s i ≡ true = own_mark (depends (i + 1) ns s i) true _ here in
    subst (λ (m : Node). with_wires i m (depends (i + 1) ns s) k ≡ true) (sym same) (wire_marked (depends (i + 1) ns s k) (depends (i + 1) ns s i) k (a.0 / 2) (b.0 / 2) above e)
depends_wire i (n ∷ ns) s low (suc j) a b is k e h =
    let place : i + suc j ≡ (i + 1) + j = omega arith in
    let first : IsLow i n = let z : i + 0 ≡ i = omega arith in subst (λ p. IsLow p n) z (low 0 n refl) in
    let above : depends (i + 1) ns s (i + suc j) ≡ true = wires_above i n (depends (i + 1) ns s) (i + suc j) first (omega arith) h in
    wires_keep i n (depends (i + 1) ns s) k
    (depends_wire (i + 1) ns s (λ p m q. let up : i + suc p ≡ (i + 1) + p = omega arith in subst (λ r. IsLow r m) up (low (suc p) m q)) j a b is k e (subst (λ p. depends (i + 1) ns s p ≡ true) place above))

from_zero : (j : ℕ) → 0 + j ≡ j
from_zero j = omega arith

pub cone_wires : (c : Circuit) (s : ℕ → Bool) → HasWires (cone c s) c.graph
unfolding cone
cone_wires c s = record {
  left = λ i a b is h. depends_wire 0 c.graph s (all_low c) i a b is (a.0 / 2) (inl refl) (ap (depends 0 c.graph s) (from_zero i) ∙ h);
  right = λ i a b is h. depends_wire 0 c.graph s (all_low c) i a b is (b.0 / 2) (inr refl) (ap (depends 0 c.graph s) (from_zero i) ∙ h);
}
  where
    all_low : (c : Circuit) (j : ℕ) (n : Node) → slice_get c.graph j ≡ Some n → IsLow (0 + j) n
    all_low c j n q = subst (λ p. IsLow p n) (sym (from_zero j)) (node_low c.graph j n (graph_of c) q)

-- the next wire of a latch in a set
feeds_there : (latches : List Latch) (i : ℕ) (ns : List Node) (s : ℕ → Bool) (j n : ℕ) (l : Latch) → slice_get ns j ≡ Some (node.Latch n) → slice_get latches n ≡ Some l → s (i + j) ≡ true → feeds latches i ns s (l.next.0 / 2) ≡ true
feeds_there latches i [] s j n l is there h = absurd (let e : ⊥ = cc in e)
feeds_there latches i (m ∷ ns) s zero n l is there h =
    let same : m ≡ node.Latch n = cc in
    let place : i + 0 ≡ i = omega arith in
    let marked : s i ≡ true = subst (λ p. s p ≡ true) place h in
    subst (λ (z : Node). feeds latches i (z ∷ ns) s (l.next.0 / 2) ≡ true) (sym same)
    (or_left (s i && is_next (slice_get latches n) (l.next.0 / 2)) (feeds latches (i + 1) ns s (l.next.0 / 2)) (rw (marked, there) (eq-eqb (l.next.0 / 2) (l.next.0 / 2) refl)))
feeds_there latches i (m ∷ ns) s (suc j) n l is there h =
    let place : i + suc j ≡ (i + 1) + j = omega arith in
    feeds_one latches i m ns s (l.next.0 / 2)
    ∙ or_right (feeds latches i (m ∷ []) s (l.next.0 / 2)) (feeds latches (i + 1) ns s (l.next.0 / 2))
    (feeds_there latches (i + 1) ns s j n l is there (subst (λ p. s p ≡ true) place h))

-- the cones of a bad edge
pub bad_cone_wires : (c : Circuit) (every : Bool) (d : ℕ) → HasWires (bad_cone c every d) c.graph
unfolding bad_cone
bad_cone_wires c every zero = cone_wires c (is_bad_node c)
bad_cone_wires c every (suc d) = cone_wires c _

pub bad_cone_bad : (c : Circuit) (every : Bool) → bad_cone c every 0 (c.bad.0 / 2) ≡ true
unfolding bad_cone
bad_cone_bad c every = cone_keeps c (is_bad_node c) (c.bad.0 / 2) (eq-eqb (c.bad.0 / 2) (c.bad.0 / 2) refl)

pub every_cone_bad : (c : Circuit) (d : ℕ) → bad_cone c true d (c.bad.0 / 2) ≡ true
unfolding bad_cone
every_cone_bad c zero = cone_keeps c (is_bad_node c) (c.bad.0 / 2) (eq-eqb (c.bad.0 / 2) (c.bad.0 / 2) refl)
every_cone_bad c (suc d) = cone_keeps c _ (c.bad.0 / 2) (or_left (is_bad_node c (c.bad.0 / 2)) (feeds c.latches.items 0 c.graph (bad_cone c true d) (c.bad.0 / 2)) (eq-eqb (c.bad.0 / 2) (c.bad.0 / 2) refl))

pub bad_cone_next : (c : Circuit) (every : Bool) (d i n : ℕ) (l : Latch) → slice_get c.graph i ≡ Some (node.Latch n) → slice_get c.latches.items n ≡ Some l → bad_cone c every d i ≡ true → bad_cone c every (suc d) (l.next.0 / 2) ≡ true
unfolding bad_cone
bad_cone_next c every d i n l is there h = cone_keeps c _ (l.next.0 / 2) (or_right (every && is_bad_node c (l.next.0 / 2)) (feeds c.latches.items 0 c.graph (bad_cone c every d) (l.next.0 / 2)) (feeds_there c.latches.items 0 c.graph (bad_cone c every d) i n l is there (ap (bad_cone c every d) (from_zero i) ∙ h)))

-- the cones of the edges of a query: the wires of their gates, and the next wires of latches of the next edge's
pub record AreClosed (c : Circuit) (cones : ℕ → ℕ → Bool) (last : ℕ) : Type 0 where
  pub wires : (t : ℕ) → t ≤ last → HasWires (cones t) c.graph
  pub nexts : (t : ℕ) → t < last → (i n : ℕ) (l : Latch) → slice_get c.graph i ≡ Some (node.Latch n) → slice_get c.latches.items n ≡ Some l → cones (t + 1) i ≡ true → cones t (l.next.0 / 2) ≡ true

before_closed : (c : Circuit) (every : Bool) (last : ℕ) → AreClosed c (λ t. bad_cone c every (last - t)) last
before_closed c every last = record {
  wires = λ t le. bad_cone_wires c every (last - t);
  nexts = λ t lt i n l is there h.
      let place : suc (last - (t + 1)) ≡ last - t = omega arith in
      subst (λ d. bad_cone c every d (l.next.0 / 2) ≡ true) place (bad_cone_next c every (last - (t + 1)) i n l is there h);
}

pub base_closed : (c : Circuit) (k : ℕ) → AreClosed c (base_cones c k) (k - 1)
base_closed c k = before_closed c false (k - 1)

pub step_closed : (c : Circuit) (k : ℕ) → AreClosed c (step_cones c k) k
step_closed c k = before_closed c true k

pub keep_closed : (c : Circuit) (set : List (List LatchLiteral)) → AreClosed c (keep_cones c set) 0
unfolding set_cone
keep_closed c set = record { wires = λ t le. cone_wires c (is_set_next c set); nexts = λ t lt. absurd (omega arith) }

-- where the bad wire is in a cone
pub base_bad : (c : Circuit) (k : ℕ) → base_cones c k (k - 1) (c.bad.0 / 2) ≡ true
base_bad c k = let none : 0 ≡ k - 1 - (k - 1) = omega arith in subst (λ d. bad_cone c false d (c.bad.0 / 2) ≡ true) none (bad_cone_bad c false)

pub step_bad : (c : Circuit) (k t : ℕ) → step_cones c k t (c.bad.0 / 2) ≡ true
step_bad c k t = every_cone_bad c (k - t)

-- where the next wire of a clause's latch is
any_there : {X : Type 0} (p : X → Bool) (xs : List X) (i : ℕ) (x : X) → slice_get xs i ≡ Some x → p x ≡ true → list_any p xs ≡ true
any_there p [] i x is h = absurd (let e : ⊥ = cc in e)
any_there p (y ∷ ys) zero x is h = let e : x ≡ y = cc in or_left (p y) (list_any p ys) (ap p (sym e) ∙ h)
any_there p (y ∷ ys) (suc i) x is h = or_right (p y) (list_any p ys) (any_there p ys i x is h)

pub set_cone_next : (c : Circuit) (set : List (List LatchLiteral)) (j i : ℕ) (d : List LatchLiteral) (m : LatchLiteral) (l : Latch) → slice_get set j ≡ Some d → slice_get (weakened d) i ≡ Some m → slice_get c.latches.items m.latch ≡ Some l → set_cone c set (l.next.0 / 2) ≡ true
unfolding set_cone
set_cone_next c set j i d m l at_set in_clause there =
    let here : is_next (slice_get c.latches.items m.latch) (l.next.0 / 2) ≡ true = rw there (eq-eqb (l.next.0 / 2) (l.next.0 / 2) refl) in
    cone_keeps c (is_set_next c set) (l.next.0 / 2)
    (any_there (λ e. is_clause_next c e (l.next.0 / 2)) set j d at_set
    (any_there (λ n. is_next (slice_get c.latches.items n.latch) (l.next.0 / 2)) (weakened d) i m in_clause here))

-- clauses by equal sets
by_node_same : (f g : ℕ → Node → List (List Literal)) → ((i : ℕ) (n : Node) → f i n ≡ g i n) → (i : ℕ) (ns : List Node) → by_node f i ns ≡ by_node g i ns
by_node_same f g h i [] = refl
by_node_same f g h i (n ∷ ns) = rw (h i n, by_node_same f g h (i + 1) ns) refl

pub edge_same : (c : Circuit) (s r : ℕ → Bool) (t : ℕ) → ((j : ℕ) → s j ≡ r j) → edge_clauses c s t ≡ edge_clauses c r t
edge_same c s r t h = by_node_same _ _ (λ i n. ap (λ b. cond b (gate_clauses (offset c t) i n) []) (h i)) 0 c.graph

link_same : (c : Circuit) (s r : ℕ → Bool) (t : ℕ) → ((j : ℕ) → s j ≡ r j) → link_clauses c s t ≡ link_clauses c r t
link_same c s r t h = by_node_same _ _ (λ i n. ap (λ b. cond b (latch_clauses c.latches.items (offset c t) (offset c (t + 1)) i n) []) (h i)) 0 c.graph

run_same : (c : Circuit) (s r : ℕ → ℕ → Bool) (last : ℕ) → ((t j : ℕ) → t ≤ last → s t j ≡ r t j) → run_clauses c s last ≡ run_clauses c r last
run_same c s r zero h = edge_same c (s 0) (r 0) 0 (λ j. h 0 j (omega arith))
run_same c s r (suc t) h = rw (run_same c s r t (λ u j le. h u j (omega arith)), link_same c (s (t + 1)) (r (t + 1)) t (λ j. h (t + 1) j (omega arith)), edge_same c (s (t + 1)) (r (t + 1)) (t + 1) (λ j. h (t + 1) j (omega arith))) refl

pub run_marked : (c : Circuit) (every : Bool) (last : ℕ) (marks : List (List Bool)) → AreCones c every (last + 1) marks → run_clauses c (marks_at marks last) last ≡ run_clauses c (λ t. bad_cone c every (last - t)) last
run_marked c every last marks a = run_same c (marks_at marks last) (λ t. bad_cone c every (last - t)) last (λ t j le. a.each (last - t) j (omega arith))

-- the marks of one edge, as they are read
pub marks_read : (cones : List (Vec Bool Global)) (i : ℕ) (m : Vec Bool Global) (d : List Bool) → i < length cones → m ≡ get_or cones i m → d ≡ m.items → d ≡ get_or (map (λ (x : Vec Bool Global). x.items) cones) i []
marks_read cones i m d lt is value = value ∙ (ap (λ (x : Vec Bool Global). x.items) is ∙ sym (get_or-map (λ (x : Vec Bool Global). x.items) cones i m [] lt))
