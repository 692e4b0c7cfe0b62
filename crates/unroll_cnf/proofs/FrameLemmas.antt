-- One edge: the clauses of gates, of starts and of links, and the values of nodes.
use Rattle.std.proofs.Common.{◌≡◌, ℕ, zero, suc, ◌+◌, ◌/◌, ◌<◌, Bool, true, false, List, [], ◌∷◌, length, map, slice_get, get_or, cond, Option, Some, None, refl, ap, sym, ◌∙◌, subst, arith, true≢false}
use Rattle.std.specs.Option.{option_map}
use Rattle.std.proofs.lemmas.Option.{slice_get-map, slice_get-get_or, slice_get_within, get_or_from_slice_get}
use Rattle.lemma_checker.specs.declared.literal.Literal.{Literal}
use Rattle.lemma_checker.specs.Clauses.{literal_true}
use Rattle.gate_graph.specs.declared.wires.Wire.{Wire}
use Rattle.gate_graph.specs.declared.nodes.Node.{Node}
use Rattle.gate_graph.specs.declared.nodes.Node.TheVariants as node
use Rattle.gate_graph.specs.declared.parts.Start.{Start}
use Rattle.gate_graph.specs.declared.parts.Start.TheVariants as start
use Rattle.gate_graph.specs.declared.parts.Latch.{Latch}
use Rattle.gate_graph.specs.declared.circuits.Circuit.{Circuit}
use Rattle.gate_graph.specs.Gates.{wire_value, Obeys, IsOf, IsGraph, IsLow}
use Rattle.gate_graph.specs.Values.{at, value}
use Rattle.gate_graph.specs.Latches.{StartsAs}
use Rattle.gate_graph.specs.Runs.{next_state}
use Rattle.gate_graph.proofs.ValueLemmas.{value_is}
use Rattle.gate_graph.proofs.GraphLemmas.{node_low}
use Rattle.unroll_cnf.specs.Queries.{plain, negated, literal_at, offset, within, gate_clauses, same_clauses, next_clauses, latch_clauses, first_clauses, starting, start_clauses, edge_clauses, link_clauses, starts_clauses, latch_places, input_places}
use Rattle.unroll_cnf.specs.Meaning.{shifted, frame, first_state, inputs_at}
use Rattle.unroll_cnf.proofs.EachLemmas.{Each, IsTrueIn, each_nil, each_cons, each_one, node_part, node_all}
use Rattle.unroll_cnf.proofs.LiteralLemmas.{plain_value, negated_value, denied_value, literal_value, one_true, true_one, not_false, false_not, same_by_clauses, clauses_by_same, and_by_clauses, clauses_by_and}
use Rattle.unroll_cnf.proofs.PlaceLemmas.{latch_place, input_place}

-- a clause of one literal, and of two
unit_true : (v : ℕ → Bool) (l : Literal) → IsTrueIn v (l ∷ []) → literal_true v l.0 ≡ true
unit_true v l h = one_true (literal_true v l.0) h

true_unit : (v : ℕ → Bool) (l : Literal) → literal_true v l.0 ≡ true → IsTrueIn v (l ∷ [])
true_unit v l h = true_one (literal_true v l.0) h

-- gates
pub gate_to : (v : ℕ → Bool) (k i : ℕ) (n : Node) → Each (IsTrueIn v) (gate_clauses k i n) → Obeys (shifted v k) i n
gate_to v k i node.Zero e = not_false (v (i + k)) (rw (negated_value v (i + k)) at (unit_true v (negated (i + k)) (e.each 0 _ refl)))
gate_to v k i (node.Latch n) e = tt
gate_to v k i (node.Input n) e = tt
gate_to v k i (node.And a b) e = and_by_clauses (v (i + k)) (wire_value (shifted v k) a) (wire_value (shifted v k) b)
    (rw (negated_value v (i + k), literal_value v k a) at (e.each 0 _ refl))
    (rw (negated_value v (i + k), literal_value v k b) at (e.each 1 _ refl))
    (rw (plain_value v (i + k), denied_value v (literal_at k a), denied_value v (literal_at k b), literal_value v k a, literal_value v k b) at (e.each 2 _ refl))

pub gate_from : (v : ℕ → Bool) (k i : ℕ) (n : Node) → Obeys (shifted v k) i n → Each (IsTrueIn v) (gate_clauses k i n)
gate_from v k i node.Zero h = each_one (IsTrueIn v) (negated (i + k) ∷ []) (true_unit v (negated (i + k)) (negated_value v (i + k) ∙ false_not (v (i + k)) h))
gate_from v k i (node.Latch n) h = each_nil (IsTrueIn v)
gate_from v k i (node.Input n) h = each_nil (IsTrueIn v)
gate_from v k i (node.And a b) h =
    let parts = clauses_by_and (v (i + k)) (wire_value (shifted v k) a) (wire_value (shifted v k) b) h in
    each_cons (IsTrueIn v) _ _ (rw (negated_value v (i + k), literal_value v k a) parts.0)
    (each_cons (IsTrueIn v) _ _ (rw (negated_value v (i + k), literal_value v k b) parts.1)
    (each_one (IsTrueIn v) _ (rw (plain_value v (i + k), denied_value v (literal_at k a), denied_value v (literal_at k b), literal_value v k a, literal_value v k b) parts.2)))

-- the clauses of a node in a set alone
pub within_to : (P : List Literal → Type 0) (b : Bool) (cs : List (List Literal)) → Each P (cond b cs []) → b ≡ true → Each P cs
within_to P true cs e h = e
within_to P false cs e h = absurd (true≢false (sym h))

pub within_from : (P : List Literal → Type 0) (b : Bool) (cs : List (List Literal)) → (b ≡ true → Each P cs) → Each P (cond b cs [])
within_from P true cs h = h refl
within_from P false cs h = each_nil P

-- the values obey the gates of a set
pub record RespectsIn (set : ℕ → Bool) (v : ℕ → Bool) (nodes : List Node) : Type 0 where
  pub gate : (i : ℕ) (n : Node) → slice_get nodes i ≡ Some n → set i ≡ true → Obeys v i n

pub edge_to : (c : Circuit) (set v : ℕ → Bool) (t : ℕ) → Each (IsTrueIn v) (edge_clauses c set t) → RespectsIn set (frame c v t) c.graph
edge_to c set v t e = record { gate = λ j n h m. gate_to v (offset c t) j n (within_to (IsTrueIn v) (set j) (gate_clauses (offset c t) j n) (node_part (IsTrueIn v) (within set (gate_clauses (offset c t))) c.graph e j n h) m) }

pub edge_from : (c : Circuit) (set v : ℕ → Bool) (t : ℕ) → RespectsIn set (frame c v t) c.graph → Each (IsTrueIn v) (edge_clauses c set t)
edge_from c set v t r = node_all (IsTrueIn v) (within set (gate_clauses (offset c t))) c.graph (λ j n h. within_from (IsTrueIn v) (set j) (gate_clauses (offset c t) j n) (λ m. gate_from v (offset c t) j n (r.gate j n h m)))

-- a variable with the value of a literal
same_to : (v : ℕ → Bool) (n : ℕ) (l : Literal) → Each (IsTrueIn v) (same_clauses n l) → v n ≡ literal_true v l.0
same_to v n l e = same_by_clauses (v n) (literal_true v l.0) (rw (negated_value v n) at (e.each 0 _ refl)) (rw (plain_value v n, denied_value v l) at (e.each 1 _ refl))

same_from : (v : ℕ → Bool) (n : ℕ) (l : Literal) → v n ≡ literal_true v l.0 → Each (IsTrueIn v) (same_clauses n l)
same_from v n l h =
    let parts = clauses_by_same (v n) (literal_true v l.0) h in
    each_cons (IsTrueIn v) _ _ (rw (negated_value v n) parts.0)
    (each_one (IsTrueIn v) _ (rw (plain_value v n, denied_value v l) parts.1))

-- each latch of a set has at the later edge the value of its next wire at the earlier one
pub record LinksIn (c : Circuit) (set v w : ℕ → Bool) : Type 0 where
  pub link : (i n : ℕ) (l : Latch) → slice_get c.graph i ≡ Some (node.Latch n) → slice_get c.latches.items n ≡ Some l → set i ≡ true → w i ≡ wire_value v l.next

linked : (v : ℕ → Bool) (latches : List Latch) (k m i n : ℕ) (l : Latch) → slice_get latches n ≡ Some l → Each (IsTrueIn v) (next_clauses k (i + m) (slice_get latches n)) → v (i + m) ≡ wire_value (shifted v k) l.next
linked v latches k m i n l is e =
    let there : Each (IsTrueIn v) (next_clauses k (i + m) (Some l)) = subst (λ o. Each (IsTrueIn v) (next_clauses k (i + m) o)) is e in
    same_to v (i + m) (literal_at k l.next) there ∙ literal_value v k l.next

pub link_to : (c : Circuit) (set v : ℕ → Bool) (t : ℕ) → Each (IsTrueIn v) (link_clauses c set t) → LinksIn c set (frame c v t) (frame c v (t + 1))
link_to c set v t e = record {
  link = λ i n l h is m.
      linked v c.latches.items (offset c t) (offset c (t + 1)) i n l is
      (within_to (IsTrueIn v) (set i) (latch_clauses c.latches.items (offset c t) (offset c (t + 1)) i (node.Latch n))
      (node_part (IsTrueIn v) (within set (latch_clauses c.latches.items (offset c t) (offset c (t + 1)))) c.graph e i (node.Latch n) h) m);
}

link_of : (v : ℕ → Bool) (k n : ℕ) (o : Option Latch) → ((l : Latch) → o ≡ Some l → v n ≡ wire_value (shifted v k) l.next) → Each (IsTrueIn v) (next_clauses k n o)
link_of v k n None h = each_nil (IsTrueIn v)
link_of v k n (Some l) h = same_from v n (literal_at k l.next) (h l refl ∙ sym (literal_value v k l.next))

link_node : (c : Circuit) (set v : ℕ → Bool) (t : ℕ) → LinksIn c set (frame c v t) (frame c v (t + 1)) → (j : ℕ) (n : Node) → slice_get c.graph j ≡ Some n → set j ≡ true → Each (IsTrueIn v) (latch_clauses c.latches.items (offset c t) (offset c (t + 1)) j n)
link_node c set v t links j node.Zero h m = each_nil (IsTrueIn v)
link_node c set v t links j (node.Latch n) h m = link_of v (offset c t) (j + offset c (t + 1)) (slice_get c.latches.items n) (λ l is. links.link j n l h is m)
link_node c set v t links j (node.Input n) h m = each_nil (IsTrueIn v)
link_node c set v t links j (node.And a b) h m = each_nil (IsTrueIn v)

pub link_from : (c : Circuit) (set v : ℕ → Bool) (t : ℕ) → LinksIn c set (frame c v t) (frame c v (t + 1)) → Each (IsTrueIn v) (link_clauses c set t)
link_from c set v t links = node_all (IsTrueIn v) (within set (latch_clauses c.latches.items (offset c t) (offset c (t + 1)))) c.graph (λ j n h. within_from (IsTrueIn v) (set j) (latch_clauses c.latches.items (offset c t) (offset c (t + 1)) j n) (link_node c set v t links j n h))

-- each latch has a value that it may start with
pub record Starts (c : Circuit) (v : ℕ → Bool) : Type 0 where
  pub first : (i n : ℕ) (l : Latch) → slice_get c.graph i ≡ Some (node.Latch n) → slice_get c.latches.items n ≡ Some l → StartsAs l.start (v i)

first_to : (v : ℕ → Bool) (n : ℕ) (s : Start) → Each (IsTrueIn v) (first_clauses n s) → StartsAs s (v n)
first_to v n start.Zero e = not_false (v n) (rw (negated_value v n) at (unit_true v (negated n) (e.each 0 _ refl)))
first_to v n start.One e = rw (plain_value v n) at (unit_true v (plain n) (e.each 0 _ refl))
first_to v n start.Free e = tt

first_from : (v : ℕ → Bool) (n : ℕ) (s : Start) → StartsAs s (v n) → Each (IsTrueIn v) (first_clauses n s)
first_from v n start.Zero h = each_one (IsTrueIn v) (negated n ∷ []) (true_unit v (negated n) (negated_value v n ∙ false_not (v n) h))
first_from v n start.One h = each_one (IsTrueIn v) (plain n ∷ []) (true_unit v (plain n) (plain_value v n ∙ h))
first_from v n start.Free h = each_nil (IsTrueIn v)

pub starts_to : (c : Circuit) (v : ℕ → Bool) → Each (IsTrueIn v) (starts_clauses c) → Starts c (frame c v 0)
starts_to c v e = record {
  first = λ i n l h is.
      let there : Each (IsTrueIn v) (starting (i + offset c 0) (slice_get c.latches.items n)) = node_part (IsTrueIn v) (start_clauses c.latches.items (offset c 0)) c.graph e i (node.Latch n) h in
      first_to v (i + offset c 0) l.start (subst (λ o. Each (IsTrueIn v) (starting (i + offset c 0) o)) is there);
}

start_of : (v : ℕ → Bool) (n : ℕ) (o : Option Latch) → ((l : Latch) → o ≡ Some l → StartsAs l.start (v n)) → Each (IsTrueIn v) (starting n o)
start_of v n None h = each_nil (IsTrueIn v)
start_of v n (Some l) h = first_from v n l.start (h l refl)

start_node : (c : Circuit) (v : ℕ → Bool) → Starts c (frame c v 0) → (j : ℕ) (n : Node) → slice_get c.graph j ≡ Some n → Each (IsTrueIn v) (start_clauses c.latches.items (offset c 0) j n)
start_node c v s j node.Zero h = each_nil (IsTrueIn v)
start_node c v s j (node.Latch n) h = start_of v (j + offset c 0) (slice_get c.latches.items n) (λ l is. s.first j n l h is)
start_node c v s j (node.Input n) h = each_nil (IsTrueIn v)
start_node c v s j (node.And a b) h = each_nil (IsTrueIn v)

pub starts_from : (c : Circuit) (v : ℕ → Bool) → Starts c (frame c v 0) → Each (IsTrueIn v) (starts_clauses c)
starts_from c v s = node_all (IsTrueIn v) (start_clauses c.latches.items (offset c 0)) c.graph (start_node c v s)

-- the nodes of a circuit are a graph
pub graph_of : (c : Circuit) → IsGraph c.graph
graph_of c = record { low = c.low; counted = c.counted }

-- a list of values, entry by entry
pub at_map : {X : Type 0} (f : X → Bool) (xs : List X) (n : ℕ) (x : X) → slice_get xs n ≡ Some x → at (map f xs) n ≡ f x
at_map f xs n x h = get_or_from_slice_get (map f xs) n (f x) false (slice_get-map f xs n ∙ ap (option_map f) h)

pub first_entry : (c : Circuit) (v : ℕ → Bool) (i n : ℕ) → slice_get c.graph i ≡ Some (node.Latch n) → at (first_state c v) n ≡ frame c v 0 i
unfolding first_state
first_entry c v i n h = at_map (frame c v 0) (latch_places 0 c.graph) n i (latch_place c.graph i n c.counted h)

pub input_entry : (c : Circuit) (v : ℕ → Bool) (t i n : ℕ) → slice_get c.graph i ≡ Some (node.Input n) → at (inputs_at c v t) n ≡ frame c v t i
unfolding inputs_at
input_entry c v t i n h = at_map (frame c v t) (input_places 0 c.graph) n i (input_place c.graph i n c.counted h)

-- a wire has one value where its node has
pub wire_same : (u v : ℕ → Bool) (w : Wire) → u (w.0 / 2) ≡ v (w.0 / 2) → wire_value u w ≡ wire_value v w
unfolding wire_value
wire_same u v w h = rw h refl

-- the wires of each gate of a set are of nodes of the set
pub record HasWires (set : ℕ → Bool) (nodes : List Node) : Type 0 where
  pub left : (i : ℕ) (a b : Wire) → slice_get nodes i ≡ Some (node.And a b) → set i ≡ true → set (a.0 / 2) ≡ true
  pub right : (i : ℕ) (a b : Wire) → slice_get nodes i ≡ Some (node.And a b) → set i ≡ true → set (b.0 / 2) ≡ true

-- the latches and the inputs of a set have the values of a state and of inputs
pub record ReadsIn (set : ℕ → Bool) (s x : List Bool) (v : ℕ → Bool) (nodes : List Node) : Type 0 where
  pub latch : (i n : ℕ) → slice_get nodes i ≡ Some (node.Latch n) → set i ≡ true → v i ≡ at s n
  pub input : (i n : ℕ) → slice_get nodes i ≡ Some (node.Input n) → set i ≡ true → v i ≡ at x n

-- then each node of the set has its value
there_below : (nodes : List Node) (i : ℕ) → i < length nodes → slice_get nodes i ≡ Some (get_or nodes i node.Zero)
there_below nodes i lt = slice_get-get_or nodes i node.Zero lt

node_agrees : (set : ℕ → Bool) (s x : List Bool) (v : ℕ → Bool) (ns : List Node) → IsGraph ns → HasWires set ns → RespectsIn set v ns → ReadsIn set s x v ns → (m i : ℕ) (n : Node) → i < m → slice_get ns i ≡ Some n → set i ≡ true → v i ≡ value s x ns i
node_agrees set s x v ns g wires r reads zero i n lt is marked = absurd (omega arith)
node_agrees set s x v ns g wires r reads (suc m) i node.Zero lt is marked = r.gate i node.Zero is marked ∙ sym ((value_is s x ns g).node i node.Zero is)
node_agrees set s x v ns g wires r reads (suc m) i (node.Latch n) lt is marked = reads.latch i n is marked ∙ sym ((value_is s x ns g).node i (node.Latch n) is)
node_agrees set s x v ns g wires r reads (suc m) i (node.Input n) lt is marked = reads.input i n is marked ∙ sym ((value_is s x ns g).node i (node.Input n) is)
node_agrees set s x v ns g wires r reads (suc m) i (node.And a b) lt is marked =
    let low : IsLow i (node.And a b) = node_low ns i (node.And a b) g is in
    let within : i < length ns = slice_get_within ns i (node.And a b) is in
    let left : v (a.0 / 2) ≡ value s x ns (a.0 / 2) = node_agrees set s x v ns g wires r reads m (a.0 / 2) _ (omega (arith, low.0)) (there_below ns (a.0 / 2) (omega (arith, low.0))) (wires.left i a b is marked) in
    let right : v (b.0 / 2) ≡ value s x ns (b.0 / 2) = node_agrees set s x v ns g wires r reads m (b.0 / 2) _ (omega (arith, low.1)) (there_below ns (b.0 / 2) (omega (arith, low.1))) (wires.right i a b is marked) in
    r.gate i (node.And a b) is marked
    ∙ (rw (wire_same v (value s x ns) a left, wire_same v (value s x ns) b right) refl
    ∙ sym ((value_is s x ns g).node i (node.And a b) is))

pub agrees_in : (c : Circuit) (set : ℕ → Bool) (s x : List Bool) (v : ℕ → Bool) → HasWires set c.graph → RespectsIn set v c.graph → ReadsIn set s x v c.graph → (i : ℕ) (n : Node) → slice_get c.graph i ≡ Some n → set i ≡ true → v i ≡ value s x c.graph i
agrees_in c set s x v wires r reads i n is marked = node_agrees set s x v c.graph (graph_of c) wires r reads (suc i) i n (omega arith) is marked

-- and values that agree with all of the nodes of a set obey its gates
pub respects_in : (c : Circuit) (set : ℕ → Bool) (s x : List Bool) (v : ℕ → Bool) → HasWires set c.graph → ((i : ℕ) (n : Node) → slice_get c.graph i ≡ Some n → set i ≡ true → v i ≡ value s x c.graph i) → RespectsIn set v c.graph
respects_in c set s x v wires same = record { gate = gate_of c set s x v wires same }
  where
    gate_of : (c : Circuit) (set : ℕ → Bool) (s x : List Bool) (v : ℕ → Bool) → HasWires set c.graph → ((i : ℕ) (n : Node) → slice_get c.graph i ≡ Some n → set i ≡ true → v i ≡ value s x c.graph i) → (i : ℕ) (n : Node) → slice_get c.graph i ≡ Some n → set i ≡ true → Obeys v i n
    gate_of c set s x v wires same i node.Zero is marked = same i node.Zero is marked ∙ (value_is s x c.graph (graph_of c)).node i node.Zero is
    gate_of c set s x v wires same i (node.Latch n) is marked = tt
    gate_of c set s x v wires same i (node.Input n) is marked = tt
    gate_of c set s x v wires same i (node.And a b) is marked =
        let low : IsLow i (node.And a b) = node_low c.graph i (node.And a b) (graph_of c) is in
        let within : i < length c.graph = slice_get_within c.graph i (node.And a b) is in
        let left : v (a.0 / 2) ≡ value s x c.graph (a.0 / 2) = same (a.0 / 2) _ (there_below c.graph (a.0 / 2) (omega (arith, low.0))) (wires.left i a b is marked) in
        let right : v (b.0 / 2) ≡ value s x c.graph (b.0 / 2) = same (b.0 / 2) _ (there_below c.graph (b.0 / 2) (omega (arith, low.1))) (wires.right i a b is marked) in
        same i (node.And a b) is marked
        ∙ ((value_is s x c.graph (graph_of c)).node i (node.And a b) is
        ∙ rw (wire_same v (value s x c.graph) a left, wire_same v (value s x c.graph) b right) refl)

pub next_of : (c : Circuit) (n : ℕ) (l : Latch) → slice_get c.latches.items n ≡ Some l → IsOf l.next c.graph
next_of c n l is =
    let here : get_or c.latches.items n l ≡ l = get_or_from_slice_get c.latches.items n l l is in
    subst (λ (m : Latch). IsOf m.next c.graph) here (c.nexts n l (slice_get_within c.latches.items n l is))

-- a latch's entry in the next state
pub next_entry : (c : Circuit) (s x : List Bool) (n : ℕ) (l : Latch) → slice_get c.latches.items n ≡ Some l → at (next_state c s x) n ≡ wire_value (value s x c.graph) l.next
unfolding next_state
next_entry c s x n l is = at_map (λ (m : Latch). wire_value (value s x c.graph) m.next) c.latches.items n l is

pub latch_value_is : (c : Circuit) (s x : List Bool) (i n : ℕ) → slice_get c.graph i ≡ Some (node.Latch n) → value s x c.graph i ≡ at s n
latch_value_is c s x i n is = (value_is s x c.graph (graph_of c)).node i (node.Latch n) is
