-- What the wires of a field's outputs stand for.
use Rattle.std.proofs.Common.{◌≡◌, ℕ, zero, suc, ◌+◌, ◌<◌, Bool, true, false, ◌&&◌, ◌||◌, cond, List, [], ◌∷◌, ◌++◌, length, map, take, get_or, slice_get, Some, IsTrue, refl, sym, ap, ◌∙◌, subst, append-nil, arith, inl, inr}
use Rattle.std.specs.Prelude.{nat_lt}
use Rattle.std.specs.List.{filter, sum_by, range_with_len}
use Rattle.std.specs.Option.{option_map_or}
use Rattle.std.specs.declared.vec.Vec.{Vec}
use Rattle.std.specs.declared.alloc.Global.{Global}
use Rattle.std.proofs.lemmas.Bool.{lt-ltb}
use Rattle.std.proofs.lemmas.Option.{slice_get_within, slice_get-map, slice_get-get_or}
use Rattle.std.proofs.lemmas.List.{map_push}
use Rattle.std.proofs.lemmas.List.Elements.{filter_more}
use Rattle.std.proofs.lemmas.List.FromFn.{map-range_with_len_more}
use Rattle.std.proofs.lemmas.List.Folds.{list_any-append}
use Rattle.bit_base.specs.Numbers.{low_bits}
use Rattle.bit_base.specs.Operators.{is_any}
use Rattle.field_policies.specs.declared.field.Field.{Field}
use Rattle.field_policies.specs.declared.map.RegMap.{RegMap}
use Rattle.field_policies.specs.declared.signal.HwExpr.TheVariants.{Anded, Ored, Xored}
use Rattle.field_policies.specs.declared.signal.OutSignal.{OutSignal}
use Rattle.field_policies.specs.Bits.{bit, any_below, all_below, odd_below}
use Rattle.field_policies.specs.Expressions.{value_of, expr_value, one_if, shows}
use Rattle.gate_graph.specs.declared.wires.Wire.{Wire}
use Rattle.gate_graph.specs.declared.nodes.Node.{Node}
use Rattle.gate_graph.specs.Gates.{wire_value, AreOf, Means, Extends, Respects}
use Rattle.gate_graph.proofs.GateLemmas.{respects_old, are_of_later, means_later}
use Rattle.gate_graph.proofs.ListLemmas.{get_push}
use Rattle.reg_machine.specs.Steps as machine
use Rattle.reg_machine.specs.Steps.{Edge, View}
use Rattle.reg_machine.specs.Machines.{is_accessed}
use Rattle.word_gates.specs.Graphs.{off}
use Rattle.word_gates.specs.Words.{values, Shows}
use Rattle.word_gates.proofs.WordLemmas.{means_same, shows_one, shows_same, shows_later}
use Rattle.expr_gates.specs.declared.view.FieldView.{FieldView}
use Rattle.expr_gates.specs.Graphs.{expr_wires}
use Rattle.expr_gates.proofs.ExprLemmas.{expressions}
use Rattle.field_edges.specs.declared.edge.EdgeGates.{EdgeGates}
use Rattle.field_edges.specs.Made.{ViewWires, EdgeWires, view_wires, views_of}
use Rattle.field_gates.specs.Laws.{places}
use Rattle.raise_gates.specs.Raises.{SeesFields}
use Rattle.raise_gates.proofs.RaiseLemmas.{fields_later}
use Rattle.output_gates.specs.Outputs.{SeesOutputs, ShowsAll, view_at, signals, signal_gates, output_gates_of, word_made, shown_step_made, after_made}

-- one bit
one_low : (b : Bool) → b ∷ [] ≡ low_bits 1 (one_if b)
one_low true = refl
one_low false = refl

pub one_shown : (nodes : List Node) (w : Wire) (b : (ℕ → Bool) → Bool) → Means nodes w b → Shows nodes (w ∷ []) (λ v. low_bits 1 (one_if (b v)))
one_shown nodes w b m = shows_same nodes (w ∷ []) _ _ (shows_one nodes w b m) (λ v r. one_low (b v))

-- some place
or_false : (b : Bool) → (b || false) ≡ b
or_false true = refl
or_false false = refl

any_places : (n : ℕ) (f : ℕ → Bool) → is_any (map f (range_with_len 0 n)) ≡ any_below n f
any_places zero f = refl
any_places (suc n) f =
    let e : n + 1 ≡ suc n = omega arith in
    ap (λ m. is_any (map f (range_with_len 0 m))) (sym e)
    ∙ (ap is_any (map-range_with_len_more f 0 n n (omega arith))
    ∙ (list_any-append (λ x. x) (map f (range_with_len 0 n)) (f n ∷ [])
    ∙ (ap (λ b. is_any (map f (range_with_len 0 n)) || b) (or_false (f n)) ∙ ap (λ b. b || f n) (any_places n f))))

-- software is at the field
turned : (readable reads writable touched : Bool) → ((readable && reads) || (writable && touched)) ≡ ((reads && readable) || (touched && writable))
turned true true writable touched = refl
turned true false true true = refl
turned true false true false = refl
turned true false false true = refl
turned true false false false = refl
turned false true true true = refl
turned false true true false = refl
turned false true false true = refl
turned false true false false = refl
turned false false true true = refl
turned false false true false = refl
turned false false false true = refl
turned false false false false = refl

pub accessed_is : (old new : List Node) (k : ℕ) (f : Field) (w reads : Wire) (enabled : List Wire) (e : (ℕ → Bool) → Edge) → Extends old new k → Means new w (λ v. (f.readable && wire_value v reads) || (f.writable && is_any (values v enabled)))
    → Means old reads (λ v. machine.reads (e v) f) → Shows old enabled (λ v. places f (machine.is_enabled (e v) f)) → Means new w (λ v. is_accessed (e v) f)
unfolding is_accessed
accessed_is old new k f w reads enabled e x m is s = means_same new w _ _ m (λ v r.
    let before : Respects v old = respects_old v _ _ _ x r in
    let touched : is_any (values v enabled) ≡ machine.is_touched (e v) f = ap is_any (s.value v before) ∙ any_places f.width (machine.is_enabled (e v) f) in
    ap (λ b. (f.readable && b) || (f.writable && is_any (values v enabled))) (is.value v before)
    ∙ (ap (λ b. (f.readable && machine.reads (e v) f) || (f.writable && b)) touched
    ∙ turned f.readable (machine.reads (e v) f) f.writable (machine.is_touched (e v) f)))

-- reductions
other_words : (nodes : List Node) (wires ws : List Wire) (a b : (ℕ → Bool) → List Bool) → wires ≡ ws → Shows nodes wires a → ((v : ℕ → Bool) → Respects v nodes → a v ≡ b v) → Shows nodes ws b
other_words nodes wires ws a b is s same = subst (λ x. Shows nodes x b) is (shows_same nodes wires a b s same)

in_range : (map_of : RegMap) (k : ℕ) (f : Field) → slice_get map_of.fields.items k ≡ Some f → IsTrue (nat_lt k (length map_of.fields.items))
in_range map_of k f at = lt-ltb k (length map_of.fields.items) (slice_get_within map_of.fields.items k f at)

pub anded_shown : (nodes : List Node) (map_of : RegMap) (views : List FieldView) (hw : List (Vec Wire Global)) (w : (ℕ → Bool) → View) (k : ℕ) (f : Field) (g : FieldView) → SeesFields nodes map_of views hw w → slice_get map_of.fields.items k ≡ Some f → slice_get views k ≡ Some g
    → Shows nodes (g.anded ∷ []) (λ v. low_bits 1 (one_if (all_below f.width (bit (value_of (w v).values (w v).hw k f)))))
unfolding expr_value
anded_shown nodes map_of views hw w k f g s at here =
    let is : expr_wires views hw (Anded k) ≡ g.anded ∷ [] = rw here refl in
    other_words nodes (expr_wires views hw (Anded k)) _ _ _ is (expressions nodes map_of.fields.items map_of.inputs.items w views hw (Anded k) s.views_are (in_range map_of k f at)) (λ v r. rw (s.views_are.fields_are v, at) refl)

pub ored_shown : (nodes : List Node) (map_of : RegMap) (views : List FieldView) (hw : List (Vec Wire Global)) (w : (ℕ → Bool) → View) (k : ℕ) (f : Field) (g : FieldView) → SeesFields nodes map_of views hw w → slice_get map_of.fields.items k ≡ Some f → slice_get views k ≡ Some g
    → Shows nodes (g.ored ∷ []) (λ v. low_bits 1 (one_if (any_below f.width (bit (value_of (w v).values (w v).hw k f)))))
unfolding expr_value
ored_shown nodes map_of views hw w k f g s at here =
    let is : expr_wires views hw (Ored k) ≡ g.ored ∷ [] = rw here refl in
    other_words nodes (expr_wires views hw (Ored k)) _ _ _ is (expressions nodes map_of.fields.items map_of.inputs.items w views hw (Ored k) s.views_are (in_range map_of k f at)) (λ v r. rw (s.views_are.fields_are v, at) refl)

pub xored_shown : (nodes : List Node) (map_of : RegMap) (views : List FieldView) (hw : List (Vec Wire Global)) (w : (ℕ → Bool) → View) (k : ℕ) (f : Field) (g : FieldView) → SeesFields nodes map_of views hw w → slice_get map_of.fields.items k ≡ Some f → slice_get views k ≡ Some g
    → Shows nodes (g.xored ∷ []) (λ v. low_bits 1 (one_if (odd_below f.width (bit (value_of (w v).values (w v).hw k f)))))
unfolding expr_value
xored_shown nodes map_of views hw w k f g s at here =
    let is : expr_wires views hw (Xored k) ≡ g.xored ∷ [] = rw here refl in
    other_words nodes (expr_wires views hw (Xored k)) _ _ _ is (expressions nodes map_of.fields.items map_of.inputs.items w views hw (Xored k) s.views_are (in_range map_of k f at)) (λ v r. rw (s.views_are.fields_are v, at) refl)

-- an element of a list, by its number
pub at_index : {A : Type 0} (xs : List A) (n : ℕ) (x : A) → n < length xs → x ≡ get_or xs n x → slice_get xs n ≡ Some x
at_index xs n x lt is = slice_get-get_or xs n x lt ∙ ap Some (sym is)

-- a view by its number
pub view_is : (views : List FieldView) (k : ℕ) (g : FieldView) → slice_get views k ≡ Some g → view_at (views_of views) k ≡ view_wires g
view_is views k g here = ap (λ o. option_map_or (λ (y : ViewWires). y) o record { value = []; anded = off; ored = off; xored = off }) (slice_get-map view_wires views k) ∙ rw here refl

-- lists of wires
pub all_none : (nodes : List Node) → ShowsAll nodes [] (λ v. [])
all_none nodes = record { of = λ k x at. absurd (let e : ⊥ = cc in e); value = λ v r. refl }

pub all_later : (old new : List Node) (n : ℕ) (words : List (Vec Wire Global)) (f : (ℕ → Bool) → List (List Bool)) → Extends old new n → ShowsAll old words f → ShowsAll new words f
all_later old new n words f x s = record { of = λ k y at. are_of_later _ old new n x (s.of k y at); value = λ v r. s.value v (respects_old v _ _ _ x r) }

pub all_same : (nodes : List Node) (words : List (Vec Wire Global)) (f g : (ℕ → Bool) → List (List Bool)) → ShowsAll nodes words f → ((v : ℕ → Bool) → Respects v nodes → f v ≡ g v) → ShowsAll nodes words g
all_same nodes words f g s same = record { of = s.of; value = λ v r. s.value v r ∙ same v r }

pub all_push : (old new : List Node) (n : ℕ) (words : List (Vec Wire Global)) (x : Vec Wire Global) (f : (ℕ → Bool) → List (List Bool)) (g : (ℕ → Bool) → List Bool) → Extends old new n → ShowsAll old words f → Shows new x.items g
    → ShowsAll new (words ++ x ∷ []) (λ v. f v ++ g v ∷ [])
all_push old new n words x f g e s is = record {
  of = λ k y at. elim (get_push words x y k at) [
    | inl p ↦ are_of_later _ old new n e (s.of k y p)
    | inr p ↦ subst (λ (z : Vec Wire Global). AreOf z.items new) p.1 is.of
  ];
  value = λ v r. map_push (λ (y : Vec Wire Global). values v y.items) words x
      ∙ (ap (λ l. l ++ values v x.items ∷ []) (s.value v (respects_old v _ _ _ e r)) ∙ ap (λ b. f v ++ b ∷ []) (is.value v r));
}

-- the outputs that are shown, one signal more
pub shown_more : {A : Type 0} (bits : OutSignal → A) (test : OutSignal → Bool) (all : List OutSignal) (i : ℕ) (s : OutSignal) → i < length all → get_or all i s ≡ s → test s ≡ true
    → map bits (filter test (take (i + 1) all)) ≡ map bits (filter test (take i all)) ++ bits s ∷ []
shown_more bits test all i s lt is h =
    ap (map bits) (filter_more test all i s lt ∙ (ap (λ x. filter test (take i all) ++ cond (test x) (x ∷ []) []) is ∙ ap (λ b. filter test (take i all) ++ cond b (s ∷ []) []) h))
    ∙ map_push bits (filter test (take i all)) s

pub shown_less : {A : Type 0} (bits : OutSignal → A) (test : OutSignal → Bool) (all : List OutSignal) (i : ℕ) (s : OutSignal) → i < length all → get_or all i s ≡ s → test s ≡ false
    → map bits (filter test (take (i + 1) all)) ≡ map bits (filter test (take i all))
shown_less bits test all i s lt is h =
    ap (map bits) (filter_more test all i s lt ∙ (ap (λ x. filter test (take i all) ++ cond (test x) (x ∷ []) []) is ∙ (ap (λ b. filter test (take i all) ++ cond b (s ∷ []) []) h ∙ append-nil (filter test (take i all)))))

-- all outputs of a field
pub all_gates : (fields : List Field) (f : Field) → sum_by (signal_gates fields f) signals ≡ output_gates_of fields f
all_gates fields f = omega arith

-- in a graph with more gates
pub sees_later : (old new : List Node) (n : ℕ) (map_of : RegMap) (k : ℕ) (f : Field) (reads : Wire) (edge : EdgeGates) (views : List FieldView) (hw : List (Vec Wire Global)) (e : (ℕ → Bool) → Edge) (u : (ℕ → Bool) → Bool) → Extends old new n
    → SeesOutputs old map_of k f reads edge views hw e u → SeesOutputs new map_of k f reads edge views hw e u
sees_later old new n map_of k f reads edge views hw e u x s = record {
  fields_are = fields_later old new n map_of views hw (λ v. (e v).view) x s.fields_are;
  reads_is = means_later old new n _ _ x s.reads_is;
  enabled = shows_later old new n _ _ x s.enabled;
  software = means_later old new n _ _ x s.software;
  over = means_later old new n _ _ x s.over;
  under = means_later old new n _ _ x s.under;
}

-- the graph of one output
pub step_shown : (fields : List Field) (f : Field) (reads : Wire) (edge : EdgeWires) (view : ViewWires) (views : List ViewWires) (hw : List (List Wire)) (old new : List Node) (words : List (List Wire)) (word : List Wire) (x : OutSignal) → shows f.shown x ≡ true
    → word_made fields f reads edge view views hw old x ≡ (word, new) → shown_step_made fields f reads edge view views hw old words x ≡ (words ++ word ∷ [], new)
step_shown fields f reads edge view views hw old new words word x shown is = rw shown (ap (after_made words) is)

pub step_hidden : (fields : List Field) (f : Field) (reads : Wire) (edge : EdgeWires) (view : ViewWires) (views : List ViewWires) (hw : List (List Wire)) (ns : List Node) (words : List (List Wire)) (x : OutSignal) → shows f.shown x ≡ false
    → shown_step_made fields f reads edge view views hw ns words x ≡ (words, ns)
step_hidden fields f reads edge view views hw ns words x hidden = rw hidden refl
