-- What the wires of interrupt fields stand for.
use Rattle.std.proofs.Common.{◌≡◌, ℕ, zero, suc, ◌+◌, ◌*◌, ◌%◌, ◌^◌, ◌<◌, ◌==◌, Bool, true, false, not, ◌||◌, List, [], ◌∷◌, length, take, get_or, slice_get, Option, Some, None, IsTrue, refl, sym, ap, ◌∙◌, arith}
use Rattle.std.specs.List.{list_any}
use Rattle.std.proofs.lemmas.List.{take_more}
use Rattle.std.proofs.lemmas.List.Folds.{list_any-append}
use Rattle.std.specs.Option.{option_map_or}
use Rattle.std.specs.declared.vec.Vec.{Vec}
use Rattle.std.specs.declared.alloc.Global.{Global}
use Rattle.std.proofs.lemmas.Bool.{eqb-true, ltb-true}
use Rattle.std.proofs.lemmas.Nat.{mod-mul-add}
use Rattle.std.proofs.lemmas.Option.{slice_get-get_or, slice_get-map, slice_get_within}
use Rattle.bit_base.specs.Numbers.{number_of, low_bits}
use Rattle.bit_base.proofs.Numbers.{number_of-low_bits}
use Rattle.field_policies.specs.declared.field.Field.{Field}
use Rattle.field_policies.specs.declared.map.RegMap.{RegMap}
use Rattle.field_policies.specs.declared.signal.Gate.{Gate}
use Rattle.field_policies.specs.declared.signal.HwExpr.{HwExpr}
use Rattle.field_policies.specs.declared.signal.HwInput.{HwInput}
use Rattle.field_policies.specs.declared.signal.HwExpr.TheVariants.{Input, Value, Anded, Ored, Xored}
use Rattle.field_policies.specs.Bits.{bit, any_below, all_below, odd_below}
use Rattle.field_policies.specs.declared.extra.Extra.{Extra}
use Rattle.field_policies.specs.declared.extra.Extra.TheVariants as extra
use Rattle.field_policies.specs.declared.extra.Intr.{Intr}
use Rattle.field_policies.specs.Fields.{members_of, filter_of, is_in_range, has_width, expr_width}
use Rattle.field_policies.specs.Expressions.{value_of, value_at, width_at, expr_value, one_if}
use Rattle.field_extras.specs.Interrupts.{interrupt_bits}
use Rattle.gate_graph.specs.declared.wires.Wire.{Wire}
use Rattle.gate_graph.specs.declared.nodes.Node.{Node}
use Rattle.gate_graph.specs.Gates.{Respects, Extends, Means}
use Rattle.gate_graph.proofs.GateLemmas.{means_later}
use Rattle.reg_machine.specs.Steps.{View}
use Rattle.reg_machine.specs.Conditions.{AreValues, AreInputs}
use Rattle.reg_machine.specs.Machines.{raises, filter_value}
use Rattle.reg_machine.proofs.Views.{got, field_of, input_below, source_below}
use Rattle.reg_machine.proofs.Shows.{raises_here}
use Rattle.word_gates.specs.Words.{values}
use Rattle.word_gates.proofs.WordLemmas.{shows_later, means_same}
use Rattle.expr_gates.specs.declared.view.FieldView.{FieldView}
use Rattle.expr_gates.specs.Graphs.{expr_wires}
use Rattle.expr_gates.specs.Laws.{AreViews}
use Rattle.expr_gates.proofs.ExprLemmas.{expressions}
use Rattle.extra_gates.specs.Graphs.{raised_made}
use Rattle.field_edges.specs.Given.{AreGiven}
use Rattle.field_edges.specs.Made.{view_wires, views_of, words_of}
use Rattle.field_edges.proofs.GivenLemmas.{IsWord, expr_word}
use Rattle.field_edges.proofs.MadeLemmas.{expr_is}
use Rattle.member_sums.proofs.SumLemmas as sums
use Rattle.raise_gates.specs.Raises as made
use Rattle.raise_gates.specs.Raises.{GatesAreFew, SeesFields, filter_wires, filter_by, filter_at}

-- no number is wider than its field
value_below : (map_of : RegMap) (values hw : List ℕ) (n : ℕ) (f : Field) (wire : Bool) (source : Option ℕ) → AreValues map_of.fields.items values → AreInputs map_of.inputs.items hw → slice_get map_of.fields.items n ≡ Some f
    → f.wire ≡ wire → f.data_in ≡ source → value_of values hw n f < 2 ^ f.width
value_below map_of values hw n f true None a b at w d = rw (w, d) (positive f.width)
  where
    positive : (k : ℕ) → 0 < 2 ^ k
    positive zero = omega arith
    positive (suc k) = let p = positive k in omega (arith, p)
value_below map_of values hw n f true (Some k) a b at w d = rw (w, d) (source_below map_of f hw k (field_of map_of n f at) b d)
value_below map_of values hw n f false source a b at w d =
    let there : n < length values = omega (arith, a.one_each, slice_get_within map_of.fields.items n f at) in
    rw w (a.fit n _ f at (slice_get-get_or values n 0 there))

pub value_fits : (map_of : RegMap) (values hw : List ℕ) (n : ℕ) (f : Field) → AreValues map_of.fields.items values → AreInputs map_of.inputs.items hw → slice_get map_of.fields.items n ≡ Some f → value_of values hw n f < 2 ^ f.width
value_fits map_of values hw n f a b at = value_below map_of values hw n f f.wire f.data_in a b at refl refl

one_below : (b : Bool) → one_if b < 2 ^ 1
one_below true = omega arith
one_below false = omega arith

expr_fits : (map_of : RegMap) (values hw : List ℕ) (e : HwExpr) → AreValues map_of.fields.items values → AreInputs map_of.inputs.items hw → IsTrue (is_in_range (length map_of.fields.items) (length map_of.inputs.items) e)
    → expr_value map_of.fields.items values hw e < 2 ^ expr_width map_of.fields.items map_of.inputs.items e
unfolding expr_value
expr_fits map_of values hw (Input k) a b h = input_below map_of.inputs.items hw k b (ltb-true k (length map_of.inputs.items) h)
expr_fits map_of values hw (Value n) a b h =
    let f = got map_of.fields.items n (ltb-true n (length map_of.fields.items) h) in
    rw f.1 (value_fits map_of values hw n f.0 a b f.1)
expr_fits map_of values hw (Anded n) a b h = one_below (all_below (width_at map_of.fields.items n) (bit (value_at map_of.fields.items values hw n)))
expr_fits map_of values hw (Ored n) a b h = one_below (any_below (width_at map_of.fields.items n) (bit (value_at map_of.fields.items values hw n)))
expr_fits map_of values hw (Xored n) a b h = one_below (odd_below (width_at map_of.fields.items n) (bit (value_at map_of.fields.items values hw n)))

small_mod : (n w : ℕ) → n < w → n % w ≡ n
small_mod n w lt = let none : 0 * w + n ≡ n = omega arith in rw none at (mod-mul-add 0 w n lt)

number_shown : (w n : ℕ) → n < 2 ^ w → number_of (low_bits w n) ≡ n
number_shown w n lt = number_of-low_bits w n ∙ small_mod n (2 ^ w) lt

-- the number that the wires of a field's value, and of what cuts it, stand for
value_number : (nodes : List Node) (map_of : RegMap) (views : List FieldView) (hw : List (Vec Wire Global)) (w : (ℕ → Bool) → View) (n : ℕ) (f : Field) (g : FieldView) (v : ℕ → Bool) → SeesFields nodes map_of views hw w → Respects v nodes
    → slice_get map_of.fields.items n ≡ Some f → slice_get views n ≡ Some g → number_of (values v g.value.items) ≡ value_of (w v).values (w v).hw n f
value_number nodes map_of views hw w n f g v s r at here =
    ap number_of ((s.views_are.value n f g at here).value v r) ∙ number_shown f.width _ (value_fits map_of (w v).values (w v).hw n f (s.values_fit v) (s.inputs_fit v) at)

filter_number : (nodes : List Node) (map_of : RegMap) (views : List FieldView) (hw : List (Vec Wire Global)) (w : (ℕ → Bool) → View) (e : HwExpr) (v : ℕ → Bool) → SeesFields nodes map_of views hw w → Respects v nodes
    → IsTrue (is_in_range (length map_of.fields.items) (length map_of.inputs.items) e) → number_of (values v (expr_wires views hw e)) ≡ expr_value (w v).fields (w v).values (w v).hw e
filter_number nodes map_of views hw w e v s r h =
    let same : expr_value (w v).fields (w v).values (w v).hw e ≡ expr_value map_of.fields.items (w v).values (w v).hw e = ap (λ fs. expr_value fs (w v).values (w v).hw e) (s.views_are.fields_are v) in
    ap number_of ((expressions nodes map_of.fields.items map_of.inputs.items w views hw e s.views_are h).value v r)
    ∙ (ap (λ m. number_of (low_bits (expr_width map_of.fields.items map_of.inputs.items e) m)) same
    ∙ (number_shown _ _ (expr_fits map_of (w v).values (w v).hw e (s.values_fit v) (s.inputs_fit v) h) ∙ sym same))

-- what is left of the bits
bits_left : (nodes : List Node) (map_of : RegMap) (views : List FieldView) (hw : List (Vec Wire Global)) (w : (ℕ → Bool) → View) (n : ℕ) (f : Field) (g : FieldView) (x : Option Gate) (v : ℕ → Bool) → SeesFields nodes map_of views hw w → Respects v nodes
    → slice_get map_of.fields.items n ≡ Some f → slice_get views n ≡ Some g → ((y : Gate) → x ≡ Some y → IsTrue (is_in_range (length map_of.fields.items) (length map_of.inputs.items) y.expr))
    → interrupt_bits x f.width (number_of (values v g.value.items)) (number_of (values v (filter_wires views hw g.value.items x))) ≡ interrupt_bits x f.width (value_of (w v).values (w v).hw n f) (filter_value (w v) x)
bits_left nodes map_of views hw w n f g None v s r at here h = value_number nodes map_of views hw w n f g v s r at here
bits_left nodes map_of views hw w n f g (Some y) v s r at here h =
    ap (λ m. interrupt_bits (Some y) f.width m (number_of (values v (expr_wires views hw y.expr)))) (value_number nodes map_of views hw w n f g v s r at here)
    ∙ ap (interrupt_bits (Some y) f.width (value_of (w v).values (w v).hw n f)) (filter_number nodes map_of views hw w y.expr v s r (h y refl))

pub raises_are : (nodes : List Node) (map_of : RegMap) (views : List FieldView) (hw : List (Vec Wire Global)) (w : (ℕ → Bool) → View) (n k : ℕ) (f : Field) (g : FieldView) (v : ℕ → Bool) → SeesFields nodes map_of views hw w → Respects v nodes
    → slice_get map_of.fields.items n ≡ Some f → slice_get views n ≡ Some g → k ≡ f.width
    → not (interrupt_bits (filter_of f.extra) k (number_of (values v g.value.items)) (number_of (values v (filter_wires views hw g.value.items (filter_of f.extra)))) == 0) ≡ raises (w v) n
raises_are nodes map_of views hw w n k f g v s r at here long =
    ap (λ m. not (interrupt_bits (filter_of f.extra) m (number_of (values v g.value.items)) (number_of (values v (filter_wires views hw g.value.items (filter_of f.extra)))) == 0)) long
    ∙ (ap (λ b. not (b == 0)) (bits_left nodes map_of views hw w n f g (filter_of f.extra) v s r at here (field_of map_of n f at).in_range.filter)
    ∙ sym (raises_here (w v) n f (ap (λ fs. slice_get fs n) (s.views_are.fields_are v) ∙ at)))

-- the wires of what cuts a field are of the graph, with its width
filter_word : (nodes : List Node) (map_of : RegMap) (views : List FieldView) (hw : List (Vec Wire Global)) (value : List Wire) (width : ℕ) (x : Option Gate) → AreGiven nodes map_of.fields.items map_of.inputs.items views hw
    → ((y : Gate) → x ≡ Some y → IsTrue (is_in_range (length map_of.fields.items) (length map_of.inputs.items) y.expr)) → ((y : Gate) → x ≡ Some y → IsTrue (has_width map_of.fields.items map_of.inputs.items width y.expr))
    → IsWord nodes value width → IsWord nodes (filter_wires views hw value x) width
filter_word nodes map_of views hw value width None a h wide is = is
filter_word nodes map_of views hw value width (Some y) a h wide is =
    let word = expr_word nodes map_of.fields.items map_of.inputs.items views hw y.expr a (h y refl) in
    record { of = word.of; long = word.long ∙ eqb-true (expr_width map_of.fields.items map_of.inputs.items y.expr) width (wide y refl) }

pub filter_is_word : (nodes : List Node) (map_of : RegMap) (views : List FieldView) (hw : List (Vec Wire Global)) (n : ℕ) (f : Field) (g : FieldView) → AreGiven nodes map_of.fields.items map_of.inputs.items views hw
    → slice_get map_of.fields.items n ≡ Some f → slice_get views n ≡ Some g → IsWord nodes (filter_wires views hw g.value.items (filter_of f.extra)) f.width
filter_is_word nodes map_of views hw n f g a at here =
    let is = field_of map_of n f at in
    filter_word nodes map_of views hw g.value.items f.width (filter_of f.extra) a is.in_range.filter is.widths.filter record { of = a.value_of n g here; long = a.value_length n f g at here }

-- which graph it is
filter_is : (views : List FieldView) (hw : List (Vec Wire Global)) (value : List Wire) (x : Option Gate) → filter_wires views hw value x ≡ filter_by (views_of views) (words_of hw) value x
filter_is views hw value None = refl
filter_is views hw value (Some y) = expr_is views hw y.expr

pub member_is : (fields : List Field) (views : List FieldView) (hw : List (Vec Wire Global)) (ns : List Node) (n : ℕ) (f : Field) (g : FieldView) → slice_get fields n ≡ Some f → slice_get views n ≡ Some g
    → made.member_made fields (views_of views) (words_of hw) ns n ≡ raised_made (filter_of f.extra) ns g.value.items (filter_wires views hw g.value.items (filter_of f.extra))
unfolding made.member_made
member_is fields views hw ns n f g at here =
    let filter : filter_at fields n ≡ filter_of f.extra = rw at refl in
    let value : made.value_at (views_of views) n ≡ g.value.items = ap (λ o. option_map_or (λ y. y.value) o []) (slice_get-map view_wires views n) ∙ rw here refl in
    rw (filter, value, filter_is views hw g.value.items (filter_of f.extra)) refl

-- an element of a list, by its number
pub at_index : {A : Type 0} (xs : List A) (n : ℕ) (x : A) → n < length xs → x ≡ get_or xs n x → slice_get xs n ≡ Some x
at_index xs n x lt is = slice_get-get_or xs n x lt ∙ ap Some (sym is)

pub bits_are : (views : List FieldView) (hw : List (Vec Wire Global)) (f : Field) (g : FieldView) (value bits : List Wire) (x : Option Gate) → bits ≡ filter_wires views hw value x → value ≡ g.value.items → x ≡ filter_of f.extra
    → bits ≡ filter_wires views hw g.value.items (filter_of f.extra)
bits_are views hw f g value bits x is value_is filter = is ∙ (ap (λ ws. filter_wires views hw ws x) value_is ∙ ap (filter_wires views hw g.value.items) filter)

-- one more of a register's fields
or_false : (b : Bool) → (b || false) ≡ b
or_false true = refl
or_false false = refl

pub any_more : (f : ℕ → Bool) (ks : List ℕ) (n d : ℕ) → n < length ks → list_any f (take (n + 1) ks) ≡ (list_any f (take n ks) || f (get_or ks n d))
any_more f ks n d lt = ap (list_any f) (take_more ks n d lt) ∙ (list_any-append f (take n ks) (get_or ks n d ∷ []) ∙ ap (λ b. list_any f (take n ks) || b) (or_false (f (get_or ks n d))))

pub members_are : (nodes : List Node) (w : Wire) (f : (ℕ → Bool) → ℕ → Bool) (ks ms : List ℕ) → ks ≡ ms → Means nodes w (λ v. list_any (f v) ks) → Means nodes w (λ v. list_any (f v) ms)
members_are nodes w f ks ms same m = means_same nodes w _ _ m (λ v r. ap (list_any (f v)) same)

pub no_members : (x : Extra) → ((k : Intr) → x ≡ extra.Intr k → ⊥) → members_of x ≡ []
no_members extra.Plain h = refl
no_members (extra.Counter k) h = refl
no_members (extra.Intr k) h = absurd (h k refl)

pub width_here : (fields : List Field) (n : ℕ) (f : Field) → slice_get fields n ≡ Some f → width_at fields n ≡ f.width
width_here fields n f at = ap (λ o. option_map_or (λ (f : Field). f.width) o 0) at

-- in a graph with more gates
views_later : (old new : List Node) (k : ℕ) (fields : List Field) (inputs : List HwInput) (w : (ℕ → Bool) → View) (views : List FieldView) (hw : List (Vec Wire Global)) → Extends old new k → AreViews old fields inputs w views hw → AreViews new fields inputs w views hw
views_later old new k fields inputs w views hw x a = record {
  zero = x.kept 0 _ a.zero;
  one_each = a.one_each;
  input_each = a.input_each;
  fields_are = a.fields_are;
  value = λ n f g at here. shows_later old new k _ _ x (a.value n f g at here);
  anded = λ n g here. means_later old new k _ _ x (a.anded n g here);
  ored = λ n g here. means_later old new k _ _ x (a.ored n g here);
  xored = λ n g here. means_later old new k _ _ x (a.xored n g here);
  input = λ i h y at here. shows_later old new k _ _ x (a.input i h y at here);
}

pub fields_later : (old new : List Node) (k : ℕ) (map_of : RegMap) (views : List FieldView) (hw : List (Vec Wire Global)) (w : (ℕ → Bool) → View) → Extends old new k → SeesFields old map_of views hw w → SeesFields new map_of views hw w
fields_later old new k map_of views hw w x s = record { views_are = views_later old new k _ _ _ _ _ x s.views_are; values_fit = s.values_fit; inputs_fit = s.inputs_fit }

-- the interrupts of all registers
pub few : GatesAreFew
few map_of = sums.few map_of
