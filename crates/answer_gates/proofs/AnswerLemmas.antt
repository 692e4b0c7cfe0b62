-- The bus word with one field more.
use Rattle.std.proofs.Common.{◌≡◌, ℕ, zero, suc, ◌+◌, ◌-◌, ◌<◌, ◌≤◌, Bool, true, false, not, ◌&&◌, ◌||◌, List, [], ◌∷◌, ◌++◌, length, map, replicate, get_or, slice_get, Some, refl, sym, ap, ◌∙◌, arith, inl, inr, length-append, add-one}
use Rattle.std.specs.Prelude.{nat_le, nat_lt, slice_index_or}
use Rattle.std.specs.List.{range_with_len}
use Rattle.std.proofs.lemmas.Bool.{cases_Bool, lt-ltb, ltb-true, leb-true, le-leb, ltb-false, leb-false}
use Rattle.std.proofs.lemmas.List.{length-replicate, length-map, get_or-map, get_or-replicate, get_or_append_left, get_or-append-add, map-append}
use Rattle.std.proofs.lemmas.List.FromFn.{fill_by_all}
use Rattle.bit_base.specs.Numbers.{low_bits}
use Rattle.bit_base.specs.Operators.{each_place}
use Rattle.field_policies.specs.declared.field.Field.{Field}
use Rattle.field_policies.specs.Bits.{bit, any_below}
use Rattle.field_policies.specs.Expressions.{value_of}
use Rattle.gate_graph.specs.declared.wires.Wire.{Wire}
use Rattle.gate_graph.specs.declared.nodes.Node.{Node}
use Rattle.gate_graph.specs.Gates.{wire_value, IsOf, AreOf}
use Rattle.gate_graph.specs.Sharing.{HasZero}
use Rattle.gate_graph.proofs.GateLemmas.{means_zero}
use Rattle.reg_machine.specs.Steps.{Edge, reads}
use Rattle.reg_machine.specs.Machines.{has_bit, shows_one, hides}
use Rattle.word_gates.specs.Graphs.{off}
use Rattle.word_gates.specs.Words.{values}
use Rattle.word_gates.proofs.WordLemmas.{are_of_append}
use Rattle.word_gates.proofs.RippleLemmas.{shows_repeated}
use Rattle.extra_gates.proofs.NumberLemmas.{low_at, length_low}
use Rattle.answer_gates.specs.Answers.{placed}
use Rattle.answer_gates.specs.Laws.{ShownAreMachines, HiddenAreMachines}

-- a word at its places
placed_long : (low bus : ℕ) (bits : List Bool) → low + length bits ≤ bus → length (placed false low bus bits) ≡ bus
placed_long low bus bits inside =
    omega (arith, length-append (replicate low false) (bits ++ replicate (bus - (low + length bits)) false), length-append bits (replicate (bus - (low + length bits)) false), length-replicate low false, length-replicate (bus - (low + length bits)) false)

get_zeros : (n i : ℕ) → get_or (replicate n false) i false ≡ false
get_zeros zero i = refl
get_zeros (suc n) zero = refl
get_zeros (suc n) (suc i) = get_zeros n i

placed_at : (low bus j : ℕ) (bits : List Bool) → get_or (placed false low bus bits) j false ≡ (nat_le low j && nat_lt j (low + length bits) && get_or bits (j - low) false)
placed_at low bus j bits = elim (cases_Bool (nat_le low j)) [
  | inl t ↦
      let le : low ≤ j = leb-true low j t in
      let split : j ≡ length (replicate low false) + (j - low) = omega (arith, length-replicate low false) in
      let far : get_or (placed false low bus bits) j false ≡ get_or (bits ++ replicate (bus - (low + length bits)) false) (j - low) false =
      ap (λ k. get_or (placed false low bus bits) k false) split ∙ get_or-append-add (replicate low false) (bits ++ replicate (bus - (low + length bits)) false) (j - low) false in
      far ∙ elim (cases_Bool (nat_lt j (low + length bits))) [
        | inl u ↦ let lt : j < low + length bits = ltb-true j (low + length bits) u in rw (t, u) (get_or_append_left bits (replicate (bus - (low + length bits)) false) false (j - low) (omega arith))
        | inr u ↦
            let ge : low + length bits ≤ j = ltb-false j (low + length bits) u in
            let rest : j - low ≡ length bits + (j - low - length bits) = omega arith in
            rw (t, u) (ap (λ k. get_or (bits ++ replicate (bus - (low + length bits)) false) k false) rest ∙ (get_or-append-add bits (replicate (bus - (low + length bits)) false) (j - low - length bits) false ∙ get_zeros (bus - (low + length bits)) (j - low - length bits)))
      ]
  | inr f ↦
      let lt : j < low = leb-false low j f in
      rw f (get_or_append_left (replicate low false) (bits ++ replicate (bus - (low + length bits)) false) false j (omega (arith, length-replicate low false)) ∙ get_zeros low j)
]

placed_row : (low bus : ℕ) (bits : List Bool) → low + length bits ≤ bus → placed false low bus bits ≡ map (λ j. nat_le low j && nat_lt j (low + length bits) && get_or bits (j - low) false) (range_with_len 0 bus)
placed_row low bus bits inside = fill_by_all (λ j. nat_le low j && nat_lt j (low + length bits) && get_or bits (j - low) false) (placed false low bus bits) bus false (placed_long low bus bits inside) (λ k lt. placed_at low bus k bits)

or_rows : (a b : ℕ → Bool) (xs : List ℕ) → each_place (λ x y. x || y) (map a xs) (map b xs) ≡ map (λ i. a i || b i) xs
or_rows a b [] = refl
or_rows a b (x ∷ xs) = ap (λ rest. (a x || b x) ∷ rest) (or_rows a b xs)

row_same : (a b : ℕ → Bool) (xs : List ℕ) → ((i : ℕ) → a i ≡ b i) → map a xs ≡ map b xs
row_same a b [] same = refl
row_same a b (x ∷ xs) same = rw (same x, row_same a b xs same) refl

row_long : (a : ℕ → Bool) (n k : ℕ) → length (map a (range_with_len k n)) ≡ n
row_long a zero k = refl
row_long a (suc n) k = rw (row_long a n (k + 1)) (omega arith)

-- one field more
joined_row : (low bus n : ℕ) (bits : List Bool) (below : ℕ → Bool) (one : ℕ → Bool) → low + length bits ≤ bus → ((j : ℕ) → (nat_le low j && nat_lt j (low + length bits) && get_or bits (j - low) false) ≡ one j)
    → each_place (λ x y. x || y) (map below (range_with_len 0 bus)) (placed false low (length (map below (range_with_len 0 bus))) bits) ≡ map (λ j. below j || one j) (range_with_len 0 bus)
joined_row low bus n bits below one inside same =
    ap (λ k. each_place (λ x y. x || y) (map below (range_with_len 0 bus)) (placed false low k bits)) (row_long below bus 0)
    ∙ (ap (each_place (λ x y. x || y) (map below (range_with_len 0 bus))) (placed_row low bus bits inside ∙ row_same _ one (range_with_len 0 bus) same)
    ∙ or_rows below one (range_with_len 0 bus))

-- the bit that a field shows, and the one that it hides
shown_bits : (r a k h b : Bool) → (h && (b && ((a && r) && k))) ≡ ((r && a && h) && k && b)
shown_bits true true true true true = refl
shown_bits true true true true false = refl
shown_bits true true true false b = refl
shown_bits true true false true true = refl
shown_bits true true false true false = refl
shown_bits true true false false b = refl
shown_bits true false k true true = refl
shown_bits true false k true false = refl
shown_bits true false k false b = refl
shown_bits false true k true true = refl
shown_bits false true k true false = refl
shown_bits false true k false b = refl
shown_bits false false k true true = refl
shown_bits false false k true false = refl
shown_bits false false k false b = refl

hidden_bits : (r a k h : Bool) → (h && ((a && r) && k)) ≡ ((r && a && h) && k)
hidden_bits true true true true = refl
hidden_bits true true true false = refl
hidden_bits true true false true = refl
hidden_bits true true false false = refl
hidden_bits true false k true = refl
hidden_bits true false k false = refl
hidden_bits false true k true = refl
hidden_bits false true k false = refl
hidden_bits false false k true = refl
hidden_bits false false k false = refl

-- in a place of the field
within : (low w j : ℕ) (x y : Bool) → (j - low < w → x ≡ y) → (nat_le low j && nat_lt j (low + w) && x) ≡ (nat_le low j && nat_lt j (low + w) && y)
within low w j x y same = elim (cases_Bool (nat_le low j)) [
  | inl t ↦ elim (cases_Bool (nat_lt j (low + w))) [
    | inl u ↦ let le : low ≤ j = leb-true low j t in let lt : j < low + w = ltb-true j (low + w) u in rw (t, u) (same (omega arith))
    | inr u ↦ rw (t, u) refl
  ]
  | inr f ↦ rw f refl
]

grouped : (a b c : Bool) → (a && b && c) ≡ ((a && b) && c)
grouped true b c = refl
grouped false b c = refl

pub shown_is : ShownAreMachines
shown_is e known bus n f at inside =
    let number : ℕ = value_of e.view.values e.view.hw n f in
    let on : Bool = (f.readable && reads e f) && slice_index_or known n false in
    let bits : List Bool = map (λ x. x && on) (low_bits f.width number) in
    let long : length bits ≡ f.width = length-map (low_bits f.width number) (λ x. x && on) ∙ length_low f.width number in
    let one : (j : ℕ) → (nat_le f.lsb j && nat_lt j (f.lsb + length bits) && get_or bits (j - f.lsb) false) ≡ shows_one e known j n = λ j.
    ap (λ k. nat_le f.lsb j && nat_lt j (f.lsb + k) && get_or bits (j - f.lsb) false) long
    ∙ (within f.lsb f.width j (get_or bits (j - f.lsb) false) (bit number (j - f.lsb) && on) (λ lt. get_or-map (λ x. x && on) (low_bits f.width number) (j - f.lsb) false false (omega (arith, lt, length_low f.width number)) ∙ ap (λ b. b && on) (low_at f.width number (j - f.lsb) lt))
    ∙ (shown_bits (reads e f) f.readable (slice_index_or known n false) (has_bit f j) (bit number (j - f.lsb)) ∙ rw at refl)) in
    joined_row f.lsb bus n bits (λ j. any_below n (shows_one e known j)) (λ j. shows_one e known j n) (omega (arith, long, inside)) one ∙ ap (λ m. map (λ j. any_below m (shows_one e known j)) (range_with_len 0 bus)) (sym (add-one n))

pub hidden_is : HiddenAreMachines
hidden_is e known bus n f at inside =
    let on : Bool = (f.readable && reads e f) && not (slice_index_or known n false) in
    let bits : List Bool = replicate f.width on in
    let long : length bits ≡ f.width = length-replicate f.width on in
    let one : (j : ℕ) → (nat_le f.lsb j && nat_lt j (f.lsb + length bits) && get_or bits (j - f.lsb) false) ≡ hides e known j n = λ j.
    ap (λ k. nat_le f.lsb j && nat_lt j (f.lsb + k) && get_or bits (j - f.lsb) false) long
    ∙ (within f.lsb f.width j (get_or bits (j - f.lsb) false) on (λ lt. get_or-replicate f.width (j - f.lsb) on false lt)
    ∙ (hidden_bits (reads e f) f.readable (not (slice_index_or known n false)) (has_bit f j) ∙ rw at refl)) in
    joined_row f.lsb bus n bits (λ j. any_below n (hides e known j)) (λ j. hides e known j n) (omega (arith, long, inside)) one ∙ ap (λ m. map (λ j. any_below m (hides e known j)) (range_with_len 0 bus)) (sym (add-one n))

-- the placed wires
values_off : (v : ℕ → Bool) (w : ℕ) → wire_value v off ≡ false → values v (replicate w off) ≡ replicate w false
values_off v zero z = refl
values_off v (suc w) z = rw (z, values_off v w z) refl

pub placed_values : (v : ℕ → Bool) (low bus : ℕ) (wires : List Wire) → wire_value v off ≡ false → values v (placed off low bus wires) ≡ placed false low bus (values v wires)
placed_values v low bus wires z =
    map-append (wire_value v) (replicate low off) (wires ++ replicate (bus - (low + length wires)) off)
    ∙ (ap (λ l. values v (replicate low off) ++ l) (map-append (wire_value v) wires (replicate (bus - (low + length wires)) off))
    ∙ rw (values_off v low z, values_off v (bus - (low + length wires)) z, length-map wires (wire_value v)) refl)

pub placed_of : (nodes : List Node) (low bus : ℕ) (wires : List Wire) → HasZero nodes → AreOf wires nodes → AreOf (placed off low bus wires) nodes
placed_of nodes low bus wires z of =
    let zeros : (n : ℕ) → AreOf (replicate n off) nodes = λ n. (shows_repeated nodes off (λ v. false) n (means_zero nodes off z refl)).of in
    are_of_append _ _ nodes (zeros low) (are_of_append _ _ nodes of (zeros (bus - (low + length wires))))

pub placed_length : (low bus : ℕ) (wires : List Wire) → low + length wires ≤ bus → length (placed off low bus wires) ≡ bus
placed_length low bus wires inside =
    omega (arith, length-append (replicate low off) (wires ++ replicate (bus - (low + length wires)) off), length-append wires (replicate (bus - (low + length wires)) off), length-replicate low off, length-replicate (bus - (low + length wires)) off)

pub values_repeated : (v : ℕ → Bool) (n : ℕ) (w : Wire) → values v (replicate n w) ≡ replicate n (wire_value v w)
values_repeated v zero w = refl
values_repeated v (suc n) w = ap (λ rest. wire_value v w ∷ rest) (values_repeated v n w)
