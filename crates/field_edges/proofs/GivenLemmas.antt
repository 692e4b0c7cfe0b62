-- What fields' expressions read is of the graph, with its width.
use Rattle.std.proofs.Common.{◌≡◌, ℕ, zero, suc, drop, ◌+◌, ◌*◌, ◌<◌, ◌≤◌, Bool, true, false, if◌then◌else◌, List, [], ◌∷◌, length, map, replicate, get_or, slice_get, Option, Some, None, IsTrue, refl, sym, ap, ◌∙◌, arith}
use Rattle.std.specs.Prelude.{nat_lt, is_some}
use Rattle.std.specs.declared.vec.Vec.{Vec}
use Rattle.std.specs.declared.alloc.Global.{Global}
use Rattle.std.proofs.lemmas.Bool.{lt-ltb, eqb-true}
use Rattle.std.proofs.lemmas.List.{length-map, length-replicate}
use Rattle.field_policies.specs.declared.field.Field.{Field}
use Rattle.field_policies.specs.declared.signal.Gate.{Gate}
use Rattle.field_policies.specs.declared.signal.HwExpr.{HwExpr}
use Rattle.field_policies.specs.declared.signal.HwExpr.TheVariants.{Input, Value, Anded, Ored, Xored}
use Rattle.field_policies.specs.declared.signal.HwInput.{HwInput}
use Rattle.field_policies.specs.Fields.{is_in_range, has_width, expr_width, incr_of, decr_of}
use Rattle.gate_graph.specs.declared.wires.Wire.{Wire}
use Rattle.gate_graph.specs.declared.nodes.Node.{Node}
use Rattle.gate_graph.specs.Gates.{IsOf, AreOf, Means, Extends}
use Rattle.gate_graph.specs.Sharing.{HasZero}
use Rattle.gate_graph.proofs.GateLemmas.{means_zero, are_of_later}
use Rattle.word_gates.specs.Graphs.{off, on, inverse, as_bit}
use Rattle.word_gates.proofs.WordLemmas.{are_of_cons, are_of_none}
use Rattle.word_gates.proofs.RippleLemmas.{shows_repeated}
use Rattle.expr_gates.specs.declared.view.FieldView.{FieldView}
use Rattle.expr_gates.specs.Graphs.{expr_wires, given_made, open_made, opened_made}
use Rattle.expr_gates.proofs.ExprLemmas.{there, first_of, of_inverse, of_inverses, means_on}
use Rattle.side_gates.specs.declared.source.SourceGates.{SourceGates}
use Rattle.side_gates.specs.Graphs.{AreSources, IsSource, data_made}
use Rattle.side_gates.specs.Laws.{IsReadable}
use Rattle.field_edges.specs.Given.{AreGiven, AreStates}
use Rattle.latch_order.specs.declared.latches.StateGates.{StateGates}

-- a word is of the graph, and has this many places
pub record IsWord (nodes : List Node) (wires : List Wire) (width : ℕ) : Type 0 where
  pub of : AreOf wires nodes
  pub long : length wires ≡ width

one_word : (nodes : List Node) (w : Wire) → IsOf w nodes → IsWord nodes (w ∷ []) 1
one_word nodes w h = record { of = are_of_cons w [] nodes h (are_of_none nodes); long = refl }

pub expr_word : (nodes : List Node) (fields : List Field) (inputs : List HwInput) (views : List FieldView) (hw : List (Vec Wire Global)) (e : HwExpr)
    → AreGiven nodes fields inputs views hw → IsTrue (is_in_range (length fields) (length inputs) e) → IsWord nodes (expr_wires views hw e) (expr_width fields inputs e)
expr_word nodes fields inputs views hw (Input k) a h =
    let x = there hw k (length inputs) a.input_each h in
    let i = there inputs k (length inputs) refl h in
    rw (x.1, i.1) record { of = a.input_of k x.0 x.1; long = a.input_length k i.0 x.0 i.1 x.1 }
expr_word nodes fields inputs views hw (Value n) a h =
    let g = there views n (length fields) a.one_each h in
    let f = there fields n (length fields) refl h in
    rw (g.1, f.1) record { of = a.value_of n g.0 g.1; long = a.value_length n f.0 g.0 f.1 g.1 }
expr_word nodes fields inputs views hw (Anded n) a h =
    let g = there views n (length fields) a.one_each h in
    rw g.1 (one_word nodes g.0.anded (a.anded_of n g.0 g.1))
expr_word nodes fields inputs views hw (Ored n) a h =
    let g = there views n (length fields) a.one_each h in
    rw g.1 (one_word nodes g.0.ored (a.ored_of n g.0 g.1))
expr_word nodes fields inputs views hw (Xored n) a h =
    let g = there views n (length fields) a.one_each h in
    rw g.1 (one_word nodes g.0.xored (a.xored_of n g.0 g.1))

off_of : (nodes : List Node) → HasZero nodes → IsOf off nodes
off_of nodes z = (means_zero nodes off z refl).of

on_of : (nodes : List Node) → HasZero nodes → IsOf on nodes
on_of nodes z = (means_on nodes z).of

pub given_of : (nodes : List Node) (fields : List Field) (inputs : List HwInput) (views : List FieldView) (hw : List (Vec Wire Global)) (x : Option HwExpr)
    → AreGiven nodes fields inputs views hw → ((e : HwExpr) → x ≡ Some e → IsTrue (is_in_range (length fields) (length inputs) e)) → IsOf (given_made views hw x) nodes
given_of nodes fields inputs views hw None a h = off_of nodes a.zero
given_of nodes fields inputs views hw (Some e) a h = first_of nodes (expr_wires views hw e) a.zero (expr_word nodes fields inputs views hw e a (h e refl)).of

as_bit_of : (nodes : List Node) (w : Wire) (b : Bool) → IsOf w nodes → IsOf (as_bit w b) nodes
as_bit_of nodes w true h = h
as_bit_of nodes w false h = of_inverse nodes w h

pub open_of : (nodes : List Node) (fields : List Field) (inputs : List HwInput) (views : List FieldView) (hw : List (Vec Wire Global)) (x : Option Gate)
    → AreGiven nodes fields inputs views hw → ((g : Gate) → x ≡ Some g → IsTrue (is_in_range (length fields) (length inputs) g.expr)) → IsOf (open_made views hw x) nodes
open_of nodes fields inputs views hw None a h = on_of nodes a.zero
open_of nodes fields inputs views hw (Some g) a h = as_bit_of nodes (get_or (expr_wires views hw g.expr) 0 off) g.high (first_of nodes (expr_wires views hw g.expr) a.zero (expr_word nodes fields inputs views hw g.expr a (h g refl)).of)

ones_word : (nodes : List Node) (w : Wire) (n : ℕ) → IsOf w nodes → IsWord nodes (replicate n w) n
ones_word nodes w n h = record { of = (shows_repeated nodes w _ n record { of = h; value = λ v r. refl }).of; long = length-replicate n w }

masked_word : (nodes : List Node) (wires : List Wire) (width : ℕ) (b : Bool) → IsWord nodes wires width → IsWord nodes (if b then wires else map inverse wires) width
masked_word nodes wires width true h = h
masked_word nodes wires width false h = record { of = of_inverses nodes wires h.of; long = length-map wires inverse ∙ h.long }

pub opened_word : (nodes : List Node) (fields : List Field) (inputs : List HwInput) (views : List FieldView) (hw : List (Vec Wire Global)) (width : ℕ) (x : Option Gate)
    → AreGiven nodes fields inputs views hw → ((g : Gate) → x ≡ Some g → IsTrue (is_in_range (length fields) (length inputs) g.expr)) → ((g : Gate) → x ≡ Some g → IsTrue (has_width fields inputs width g.expr))
    → IsWord nodes (opened_made width views hw x) width
opened_word nodes fields inputs views hw width None a h wide = ones_word nodes on width (on_of nodes a.zero)
opened_word nodes fields inputs views hw width (Some g) a h wide =
    let word = expr_word nodes fields inputs views hw g.expr a (h g refl) in
    masked_word nodes (expr_wires views hw g.expr) width g.high record { of = word.of; long = word.long ∙ eqb-true (expr_width fields inputs g.expr) width (wide g refl) }

data_word : (nodes : List Node) (fields : List Field) (inputs : List HwInput) (views : List FieldView) (hw : List (Vec Wire Global)) (width : ℕ) (x : Option ℕ)
    → AreGiven nodes fields inputs views hw → ((k : ℕ) → x ≡ Some k → k < length inputs) → ((k : ℕ) (h : HwInput) → x ≡ Some k → slice_get inputs k ≡ Some h → h.width ≡ width)
    → IsWord nodes (data_made hw width x) width
data_word nodes fields inputs views hw width None a h wide = ones_word nodes off width (off_of nodes a.zero)
data_word nodes fields inputs views hw width (Some k) a h wide =
    let lt : IsTrue (nat_lt k (length inputs)) = lt-ltb k (length inputs) (h k refl) in
    let x = there hw k (length inputs) a.input_each lt in
    let i = there inputs k (length inputs) refl lt in
    rw x.1 record { of = a.input_of k x.0 x.1; long = a.input_length k i.0 x.0 i.1 x.1 ∙ wide k i.0 refl i.1 }

only_of : (nodes : List Node) (b : Bool) (w : Wire) → HasZero nodes → IsOf w nodes → IsOf (if b then w else off) nodes
only_of nodes true w z h = h
only_of nodes false w z h = off_of nodes z

pub same_of : (nodes : List Node) (u w : Wire) → u ≡ w → IsOf w nodes → IsOf u nodes
same_of nodes u w e h = rw e h

pub sources_of : (nodes : List Node) (fields : List Field) (inputs : List HwInput) (views : List FieldView) (hw : List (Vec Wire Global)) (f : Field) (s : SourceGates)
    → AreGiven nodes fields inputs views hw → IsReadable fields inputs f → IsSource f views hw s → AreSources nodes f.width s
sources_of nodes fields inputs views hw f s a fits is =
    let word = data_word nodes fields inputs views hw f.width f.data_in a fits.source fits.source_width in
    record {
      taken_of = same_of nodes _ _ is.taken (only_of nodes (is_some f.data_in) _ a.zero (open_of nodes fields inputs views hw f.data_gate a fits.in_range.data_gate));
      set_of = same_of nodes _ _ is.set (given_of nodes fields inputs views hw f.set a fits.in_range.set);
      clear_of = same_of nodes _ _ is.clear (given_of nodes fields inputs views hw f.clear a fits.in_range.clear);
      incr_of = same_of nodes _ _ is.incr (given_of nodes fields inputs views hw (incr_of f.extra) a fits.in_range.incr);
      decr_of = same_of nodes _ _ is.decr (given_of nodes fields inputs views hw (decr_of f.extra) a fits.in_range.decr);
      given_of = rw is.given word.of;
      given_length = ap length is.given ∙ word.long;
    }

-- in a graph with more gates
pub given_later : (old new : List Node) (k : ℕ) (fields : List Field) (inputs : List HwInput) (views : List FieldView) (hw : List (Vec Wire Global)) → Extends old new k → AreGiven old fields inputs views hw → AreGiven new fields inputs views hw
given_later old new k fields inputs views hw e a = record {
  zero = e.kept 0 _ a.zero;
  one_each = a.one_each;
  input_each = a.input_each;
  value_of = λ n g at. are_of_later _ old new k e (a.value_of n g at);
  anded_of = λ n g at. omega (arith, a.anded_of n g at, e.grows);
  ored_of = λ n g at. omega (arith, a.ored_of n g at, e.grows);
  xored_of = λ n g at. omega (arith, a.xored_of n g at, e.grows);
  input_of = λ i x at. are_of_later _ old new k e (a.input_of i x at);
  value_length = a.value_length;
  input_length = a.input_length;
}

pub states_later : (old new : List Node) (k width : ℕ) (s : StateGates) → Extends old new k → AreStates old width s → AreStates new width s
states_later old new k width s e a = record {
  value_of = are_of_later _ old new k e a.value_of;
  value_length = a.value_length;
  used_of = omega (arith, a.used_of, e.grows);
  known_of = omega (arith, a.known_of, e.grows);
}

pub sources_at : (old a b : List Node) (k m width n : ℕ) (s : SourceGates) → Extends old a k → Extends a b m → n ≡ width → AreSources old width s → AreSources b n s
sources_at old a b k m width n s p q e h = record {
  taken_of = omega (arith, h.taken_of, p.grows, q.grows);
  set_of = omega (arith, h.set_of, p.grows, q.grows);
  clear_of = omega (arith, h.clear_of, p.grows, q.grows);
  incr_of = omega (arith, h.incr_of, p.grows, q.grows);
  decr_of = omega (arith, h.decr_of, p.grows, q.grows);
  given_of = are_of_later s.given.items a b m q (are_of_later s.given.items old a k p h.given_of);
  given_length = h.given_length ∙ sym e;
}

pub are_of_drop : (n : ℕ) (wires : List Wire) (nodes : List Node) → AreOf wires nodes → AreOf (drop n wires) nodes
are_of_drop zero wires nodes h = h
are_of_drop (suc n) [] nodes h = are_of_none nodes
are_of_drop (suc n) (w ∷ wires) nodes h = are_of_drop n wires nodes record { each = λ i u at. h.each (suc i) u at }
