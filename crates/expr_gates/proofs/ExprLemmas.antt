-- Expressions by their wires.
use Rattle.std.proofs.Common.{◌≡◌, ℕ, zero, suc, ◌+◌, ◌==◌, ◌<◌, ◌%◌, ◌/◌, Bool, true, false, not, if◌then◌else◌, ◌-◌, List, [], ◌∷◌, length, get_or, map, replicate, slice_get, Some, None, IsTrue, refl, sym, ap, ◌∙◌, arith, inl, inr}
use Rattle.std.specs.Prelude.{nat_lt}
use Rattle.std.specs.List.{range_with_len}
use Rattle.std.specs.declared.vec.Vec.{Vec}
use Rattle.std.specs.declared.alloc.Global.{Global}
use Rattle.std.proofs.lemmas.Option.{slice_get_cases}
use Rattle.std.proofs.lemmas.Bool.{cases_Bool, eqb-true, eqb-false, ltb-true}
use Rattle.std.proofs.lemmas.List.FromFn.{get_or-map-range_with_len, length-map-range_with_len}
use Rattle.bit_base.specs.Numbers.{low_bits}
use Rattle.bit_base.specs.Operators.{are_all, is_any, is_odd}
use Rattle.field_policies.specs.declared.field.Field.{Field}
use Rattle.field_policies.specs.declared.signal.HwExpr.{HwExpr}
use Rattle.field_policies.specs.declared.signal.HwExpr.TheVariants.{Input, Value, Anded, Ored, Xored}
use Rattle.field_policies.specs.declared.signal.HwInput.{HwInput}
use Rattle.field_policies.specs.Bits.{bit, any_below, all_below, odd_below}
use Rattle.field_policies.specs.Fields.{is_in_range, has_width, expr_width}
use Rattle.field_policies.specs.Expressions.{value_of, expr_value, one_if, is_given, is_open}
use Rattle.field_policies.proofs.NumberBits.{any_list, all_list, odd_list}
use Rattle.gate_graph.specs.declared.wires.Wire.{Wire}
use Rattle.gate_graph.specs.declared.nodes.Node.{Node}
use Rattle.gate_graph.specs.Gates.{wire_value, IsOf, AreOf, Means}
use Rattle.gate_graph.specs.Sharing.{HasZero}
use Rattle.gate_graph.proofs.GateLemmas.{means_zero, value_one, value_even, value_odd}
use Rattle.reg_machine.specs.Steps.{View}
use Rattle.word_gates.specs.Graphs.{off, on, inverse, as_bit}
use Rattle.word_gates.specs.Words.{values, Shows}
use Rattle.word_gates.proofs.WordLemmas.{are_of_cons, are_of_none, shows_one, shows_same}
use Rattle.word_gates.proofs.RippleLemmas.{shows_repeated}
use Rattle.extra_gates.proofs.NumberLemmas.{low_at, low_bits_by, length_low}
use Rattle.expr_gates.specs.declared.view.FieldView.{FieldView}
use Rattle.expr_gates.specs.Graphs.{expr_wires}
use Rattle.expr_gates.specs.Laws.{AreViews, ExpressionsAreMachines, GivenAreMachines, GatesAreMachines, MasksAreMachines}

-- the reductions of a number's lowest places
any_same : (n : ℕ) (f g : ℕ → Bool) → ((i : ℕ) → i < n → f i ≡ g i) → any_below n f ≡ any_below n g
any_same zero f g h = refl
any_same (suc n) f g h = rw (any_same n f g (λ i lt. h i (omega arith)), h n (omega arith)) refl

all_same : (n : ℕ) (f g : ℕ → Bool) → ((i : ℕ) → i < n → f i ≡ g i) → all_below n f ≡ all_below n g
all_same zero f g h = refl
all_same (suc n) f g h = rw (all_same n f g (λ i lt. h i (omega arith)), h n (omega arith)) refl

odd_same : (n : ℕ) (f g : ℕ → Bool) → ((i : ℕ) → i < n → f i ≡ g i) → odd_below n f ≡ odd_below n g
odd_same zero f g h = refl
odd_same (suc n) f g h = rw (odd_same n f g (λ i lt. h i (omega arith)), h n (omega arith)) refl

any_low : (w n : ℕ) → is_any (low_bits w n) ≡ any_below w (bit n)
any_low w n = sym (any_list (low_bits w n)) ∙ (ap (λ m. any_below m (λ i. get_or (low_bits w n) i false)) (length_low w n) ∙ any_same w _ _ (λ i lt. low_at w n i lt))

all_low : (w n : ℕ) → are_all (low_bits w n) ≡ all_below w (bit n)
all_low w n = sym (all_list (low_bits w n)) ∙ (ap (λ m. all_below m (λ i. get_or (low_bits w n) i false)) (length_low w n) ∙ all_same w _ _ (λ i lt. low_at w n i lt))

odd_low : (w n : ℕ) → is_odd (low_bits w n) ≡ odd_below w (bit n)
odd_low w n = sym (odd_list (low_bits w n)) ∙ (ap (λ m. odd_below m (λ i. get_or (low_bits w n) i false)) (length_low w n) ∙ odd_same w _ _ (λ i lt. low_at w n i lt))

one_low : (b : Bool) → b ∷ [] ≡ low_bits 1 (one_if b)
one_low true = refl
one_low false = refl

-- what is there at a number in range
pub there : {X : Type 0} (xs : List X) (n m : ℕ) → length xs ≡ m → IsTrue (nat_lt n m) → (x : X) × (slice_get xs n ≡ Some x)
there xs n m e h = elim (slice_get_cases xs n).1 [
  | inl p ↦ (p.0, p.2)
  | inr p ↦ absurd (let lt : n < m = ltb-true n m h in omega (arith, p.0))
]

-- a field's reduction, as an expression of one bit
one_wire : (nodes : List Node) (wire : Wire) (g : FieldView) (f : Field) (n : ℕ) (w : (ℕ → Bool) → View) (reduce : List Bool → Bool) (below : ℕ → (ℕ → Bool) → Bool)
    → ((m k : ℕ) → reduce (low_bits m k) ≡ below m (bit k))
    → Shows nodes g.value.items (λ v. low_bits f.width (value_of (w v).values (w v).hw n f)) → Means nodes wire (λ v. reduce (values v g.value.items))
    → Shows nodes (wire ∷ []) (λ v. low_bits 1 (one_if (below f.width (bit (value_of (w v).values (w v).hw n f)))))
one_wire nodes wire g f n w reduce below low s m = shows_same nodes (wire ∷ []) _ _ (shows_one nodes wire _ m) (λ v r.
    ap (λ l. reduce l ∷ []) (s.value v r) ∙ (ap (λ b. b ∷ []) (low f.width (value_of (w v).values (w v).hw n f)) ∙ one_low (below f.width (bit (value_of (w v).values (w v).hw n f)))))

pub expressions : ExpressionsAreMachines
unfolding expr_value
expressions nodes fields inputs w views hw (Input k) views_are h =
    let x = there hw k (length inputs) views_are.input_each h in
    let i = there inputs k (length inputs) refl h in
    rw (x.1, i.1) (views_are.input k i.0 x.0 i.1 x.1)
expressions nodes fields inputs w views hw (Value n) views_are h =
    let g = there views n (length fields) views_are.one_each h in
    let f = there fields n (length fields) refl h in
    rw (g.1, f.1) (shows_same _ _ _ _ (views_are.value n f.0 g.0 f.1 g.1) (λ v r. rw (views_are.fields_are v, f.1) refl))
expressions nodes fields inputs w views hw (Anded n) views_are h =
    let g = there views n (length fields) views_are.one_each h in
    let f = there fields n (length fields) refl h in
    rw g.1 (shows_same _ _ _ _ (one_wire nodes g.0.anded g.0 f.0 n w are_all all_below all_low (views_are.value n f.0 g.0 f.1 g.1) (views_are.anded n g.0 g.1)) (λ v r. rw (views_are.fields_are v, f.1) refl))
expressions nodes fields inputs w views hw (Ored n) views_are h =
    let g = there views n (length fields) views_are.one_each h in
    let f = there fields n (length fields) refl h in
    rw g.1 (shows_same _ _ _ _ (one_wire nodes g.0.ored g.0 f.0 n w is_any any_below any_low (views_are.value n f.0 g.0 f.1 g.1) (views_are.ored n g.0 g.1)) (λ v r. rw (views_are.fields_are v, f.1) refl))
expressions nodes fields inputs w views hw (Xored n) views_are h =
    let g = there views n (length fields) views_are.one_each h in
    let f = there fields n (length fields) refl h in
    rw g.1 (shows_same _ _ _ _ (one_wire nodes g.0.xored g.0 f.0 n w is_odd odd_below odd_low (views_are.value n f.0 g.0 f.1 g.1) (views_are.xored n g.0 g.1)) (λ v r. rw (views_are.fields_are v, f.1) refl))

-- a wire's inverse
pub value_inverse : (v : ℕ → Bool) (w : Wire) → wire_value v (inverse w) ≡ not (wire_value v w)
value_inverse v w = elim (cases_Bool (w.0 % 2 == 0)) [
  | inl t ↦
      let even : w.0 % 2 ≡ 0 = eqb-true (w.0 % 2) 0 t in
      let n : (inverse w).0 ≡ w.0 + 1 = rw t refl in
      let odd : (inverse w).0 % 2 ≡ 1 = omega arith in
      let same : (inverse w).0 / 2 ≡ w.0 / 2 = omega arith in
      value_odd v (inverse w) odd ∙ (ap (λ i. not (v i)) same ∙ ap not (sym (value_even v w even)))
  | inr f ↦
      let not_even : w.0 % 2 ≡ 0 → ⊥ = eqb-false (w.0 % 2) 0 f in
      let odd : w.0 % 2 ≡ 1 = omega arith in
      let n : (inverse w).0 ≡ w.0 - 1 = rw f refl in
      let even : (inverse w).0 % 2 ≡ 0 = omega arith in
      let same : (inverse w).0 / 2 ≡ w.0 / 2 = omega arith in
      value_even v (inverse w) even ∙ (ap v same ∙ (sym (not_not (v (w.0 / 2))) ∙ ap not (sym (value_odd v w odd))))
]
  where
    not_not : (b : Bool) → not (not b) ≡ b
    not_not true = refl
    not_not false = refl

pub of_inverse : (nodes : List Node) (w : Wire) → IsOf w nodes → IsOf (inverse w) nodes
of_inverse nodes w h = elim (cases_Bool (w.0 % 2 == 0)) [
  | inl t ↦ let even : w.0 % 2 ≡ 0 = eqb-true (w.0 % 2) 0 t in let n : (inverse w).0 ≡ w.0 + 1 = rw t refl in omega arith
  | inr f ↦ let n : (inverse w).0 ≡ w.0 - 1 = rw f refl in omega arith
]

pub values_inverse : (v : ℕ → Bool) (a : List Wire) → values v (map inverse a) ≡ map not (values v a)
values_inverse v [] = refl
values_inverse v (x ∷ a) = rw (value_inverse v x, values_inverse v a) refl

pub of_inverses : (nodes : List Node) (a : List Wire) → AreOf a nodes → AreOf (map inverse a) nodes
of_inverses nodes [] h = are_of_none nodes
of_inverses nodes (x ∷ a) h = are_of_cons (inverse x) (map inverse a) nodes (of_inverse nodes x (h.each 0 x refl)) (of_inverses nodes a record { each = λ i w at. h.each (suc i) w at })

-- the first wire of a word, and its value where the word shows one bit
pub first_of : (nodes : List Node) (wires : List Wire) → HasZero nodes → AreOf wires nodes → IsOf (get_or wires 0 off) nodes
first_of nodes [] z h = (means_zero nodes off z refl).of
first_of nodes (x ∷ wires) z h = h.each 0 x refl

first_is : (v : ℕ → Bool) (wires : List Wire) (n : ℕ) → values v wires ≡ low_bits 1 n → wire_value v (get_or wires 0 off) ≡ bit n 0
first_is v [] n e = absurd (let none : ⊥ = cc in none)
first_is v (x ∷ wires) n e = ap (λ l. get_or l 0 false) e ∙ low_at 1 n 0 (omega arith)

one_bit : (nodes : List Node) (fields : List Field) (inputs : List HwInput) (w : (ℕ → Bool) → View) (views : List FieldView) (hw : List (Vec Wire Global)) (e : HwExpr)
    → AreViews nodes fields inputs w views hw → IsTrue (is_in_range (length fields) (length inputs) e) → IsTrue (has_width fields inputs 1 e)
    → Means nodes (get_or (expr_wires views hw e) 0 off) (λ v. bit (expr_value (w v).fields (w v).values (w v).hw e) 0)
one_bit nodes fields inputs w views hw e views_are h wide =
    let s = expressions nodes fields inputs w views hw e views_are h in
    let one : expr_width fields inputs e ≡ 1 = eqb-true (expr_width fields inputs e) 1 wide in
    record {
      of = first_of nodes (expr_wires views hw e) views_are.zero s.of;
      value = λ v r. first_is v (expr_wires views hw e) (expr_value (w v).fields (w v).values (w v).hw e) (s.value v r ∙ ap (λ m. low_bits m (expr_value (w v).fields (w v).values (w v).hw e)) one);
    }

pub given : GivenAreMachines
unfolding is_given
given nodes fields inputs w views hw None views_are h wide = means_zero nodes off views_are.zero refl
given nodes fields inputs w views hw (Some e) views_are h wide = one_bit nodes fields inputs w views hw e views_are (h e refl) (wide e refl)

pub means_on : (nodes : List Node) → HasZero nodes → Means nodes on (λ v. true)
means_on nodes z = record { of = let zero_of : IsOf off nodes = (means_zero nodes off z refl).of in omega (arith, zero_of); value = λ v r. value_one v nodes on z r refl }

as_bit_means : (nodes : List Node) (wire : Wire) (high : Bool) (b : (ℕ → Bool) → Bool) → Means nodes wire b → Means nodes (as_bit wire high) (λ v. if high then b v else not (b v))
as_bit_means nodes wire true b m = m
as_bit_means nodes wire false b m = record { of = of_inverse nodes wire m.of; value = λ v r. value_inverse v wire ∙ ap not (m.value v r) }

pub gates : GatesAreMachines
unfolding is_open
gates nodes fields inputs w views hw None views_are h wide = means_on nodes views_are.zero
gates nodes fields inputs w views hw (Some g) views_are h wide = as_bit_means nodes _ g.high _ (one_bit nodes fields inputs w views hw g.expr views_are (h g refl) (wide g refl))

-- many places
pub places_low : (w n : ℕ) → low_bits w n ≡ map (bit n) (range_with_len 0 w)
places_low w n =
    let whole : length (map (bit n) (range_with_len 0 w)) ≡ w = length-map-range_with_len (bit n) 0 w in
    ap (λ m. low_bits m n) (sym whole) ∙ low_bits_by (map (bit n) (range_with_len 0 w)) n (λ i lt. sym (get_or-map-range_with_len (bit n) 0 w i i false (omega (arith, whole)) (omega arith)))

not_places : (f : ℕ → Bool) (xs : List ℕ) → map not (map f xs) ≡ map (λ i. not (f i)) xs
not_places f [] = refl
not_places f (x ∷ xs) = ap (λ l. not (f x) ∷ l) (not_places f xs)

ones_places : (w k : ℕ) → replicate w true ≡ map (λ i. true) (range_with_len k w)
ones_places zero k = refl
ones_places (suc w) k = ap (λ l. true ∷ l) (ones_places w (k + 1))

mask_shows : (nodes : List Node) (wires : List Wire) (high : Bool) (width : ℕ) (n : (ℕ → Bool) → ℕ) → Shows nodes wires (λ v. low_bits width (n v))
    → Shows nodes (if high then wires else map inverse wires) (λ v. map (λ i. if high then bit (n v) i else not (bit (n v) i)) (range_with_len 0 width))
mask_shows nodes wires true width n s = shows_same nodes wires _ _ s (λ v r. places_low width (n v))
mask_shows nodes wires false width n s = record {
  of = of_inverses nodes wires s.of;
  value = λ v r. values_inverse v wires ∙ (ap (map not) (s.value v r ∙ places_low width (n v)) ∙ not_places (bit (n v)) (range_with_len 0 width));
}

pub masks : MasksAreMachines
unfolding is_open
masks nodes fields inputs w views hw None width views_are h wide = shows_same _ _ _ _ (shows_repeated nodes on (λ v. true) width (means_on nodes views_are.zero)) (λ v r. ones_places width 0)
masks nodes fields inputs w views hw (Some g) width views_are h wide =
    let s = expressions nodes fields inputs w views hw g.expr views_are (h g refl) in
    let e : expr_width fields inputs g.expr ≡ width = eqb-true (expr_width fields inputs g.expr) width (wide g refl) in
    mask_shows nodes (expr_wires views hw g.expr) g.high width (λ v. expr_value (w v).fields (w v).values (w v).hw g.expr)
    (shows_same nodes (expr_wires views hw g.expr) _ _ s (λ v r. ap (λ m. low_bits m (expr_value (w v).fields (w v).values (w v).hw g.expr)) e))
