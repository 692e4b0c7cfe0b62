-- The hardware inputs of a map: by their numbers, each with its signal and its bits.
use Rattle.std.proofs.Common.{◌≡◌, inl, inr, ℕ, zero, suc, ◌+◌, ◌*◌, length-append, ◌<◌, ◌≤◌, Bool, true, false, List, [], ◌∷◌, ◌++◌, length, map, Some, slice_get, refl, sym, ◌∙◌, ap, subst, arith, append_assoc}
use Rattle.std.specs.Prelude.{⊤}
use Rattle.std.proofs.lemmas.List.{length-map}
use Rattle.field_policies.specs.declared.signal.HwInput.{HwInput}
use Rattle.field_policies.specs.declared.signal.InSignal.{InSignal}
use Rattle.field_policies.specs.declared.signal.InSignal.TheVariants as signal
use Rattle.field_policies.specs.Maps.{input_width}
use Rattle.rdl_fields.specs.declared.named.Inputs.{Inputs}
use Rattle.rdl_fields.specs.declared.named.NamedField.{NamedField}
use Rattle.rdl_numbers.specs.Inputs.{signal_if, signals_of, input_of, own_inputs, inputs_from, inputs_of}
use Rattle.rdl_map.specs.Signals.{count_if, number_if, numbers_from, count_of, count_at}
use Rattle.rdl_regmap.proofs.Has.{Has, has_cases, has_at}
use Rattle.rdl_regmap.proofs.Made.{base_at}

-- those behind the data
abbrev others : Inputs → List InSignal
others i = (signal_if i.we signal.We ++ (signal_if i.wel signal.Wel ++ (signal_if i.hwset signal.HwSet ++ (signal_if i.hwclr signal.HwClr ++ (signal_if i.swwe signal.SwWe ++ (signal_if i.swwel signal.SwWel ++ (signal_if i.incr signal.Incr ++ signal_if i.decr signal.Decr)))))))

regrouped : (i : Inputs) → signals_of i ≡ signal_if i.has_data signal.Data ++ others i
regrouped i = simp append_assoc

same_nat : (a b : ℕ) → Some a ≡ Some b → a ≡ b
same_nat a b e = cc

-- ---- each is of a field, with its bits

pub record IsInput (gs : List NamedField) (number : ℕ) (h : HwInput) : Type 0 where
  pub at : ℕ
  pub field : NamedField
  pub here : slice_get gs at ≡ Some field
  pub numbered : h.field ≡ number + at
  pub width : h.width ≡ input_width h.signal field.spot.width

own_is : (number width : ℕ) (ss : List InSignal) (h : HwInput) → Has h (map (input_of number width) ss) → (h.field ≡ number) × (h.width ≡ input_width h.signal width)
own_is number width [] h i = absurd i
own_is number width (s ∷ ss) h i = elim i [
  | inl e ↦ (ap (λ (x : HwInput). x.field) e, ap (λ (x : HwInput). x.width) e ∙ ap (λ (x : InSignal). input_width x width) (ap (λ (x : HwInput). x.signal) (sym e)))
  | inr r ↦ own_is number width ss h r
]

pub input_is : (number : ℕ) (gs : List NamedField) (h : HwInput) → Has h (inputs_from number gs) → IsInput gs number h
input_is number [] h i = absurd i
input_is number (g ∷ gs) h i = elim (has_cases h (own_inputs number g) (inputs_from (number + 1) gs) i) [
  | inl l ↦ let o : (h.field ≡ number) × (h.width ≡ input_width h.signal g.spot.width) = own_is number g.spot.width (signals_of g.inputs) h l in
      record { at = 0; field = g; here = refl; numbered = omega (arith, o.0); width = o.1 }
  | inr r ↦ let m : IsInput gs (number + 1) h = input_is (number + 1) gs h r in record { at = suc m.at; field = m.field; here = m.here; numbered = omega (arith, m.numbered); width = m.width }
]

-- ---- no signal twice

abbrev code : InSignal → ℕ
code signal.Data = 0
code signal.We = 1
code signal.Wel = 2
code signal.HwSet = 3
code signal.HwClr = 4
code signal.SwWe = 5
code signal.SwWel = 6
code signal.Incr = 7
code signal.Decr = 8

few_codes : (s : InSignal) → code s ≤ 8
few_codes signal.Data = omega arith
few_codes signal.We = omega arith
few_codes signal.Wel = omega arith
few_codes signal.HwSet = omega arith
few_codes signal.HwClr = omega arith
few_codes signal.SwWe = omega arith
few_codes signal.SwWel = omega arith
few_codes signal.Incr = omega arith
few_codes signal.Decr = omega arith

abbrev key : HwInput → ℕ
key h = h.field * 9 + code h.signal

abbrev SignalsRise : ℕ → List InSignal → Type 0
SignalsRise low [] = ⊤
SignalsRise low (s ∷ ss) = (low ≤ code s) × SignalsRise (code s + 1) ss

signals_more : (low high : ℕ) (ss : List InSignal) → low ≤ high → SignalsRise high ss → SignalsRise low ss
signals_more low high [] le r = tt
signals_more low high (s ∷ ss) le r = (omega (arith, le, r.0), r.1)

signal_step : (b : Bool) (s : InSignal) (low : ℕ) (ss : List InSignal) → low ≤ code s → SignalsRise (code s + 1) ss → SignalsRise low (signal_if b s ++ ss)
signal_step true s low ss le r = (le, r)
signal_step false s low ss le r = signals_more low (code s + 1) ss (omega (arith, le)) r

signal_end : (b : Bool) (s : InSignal) (low : ℕ) → low ≤ code s → SignalsRise low (signal_if b s)
signal_end true s low le = (le, tt)
signal_end false s low le = tt

signals_rise : (i : Inputs) → SignalsRise 0 (signals_of i)
signals_rise i = subst (SignalsRise 0) (sym (regrouped i))
    (signal_step i.has_data signal.Data 0 _ (omega arith) (signal_step i.we signal.We 1 _ (omega arith) (signal_step i.wel signal.Wel 2 _ (omega arith)
    (signal_step i.hwset signal.HwSet 3 _ (omega arith) (signal_step i.hwclr signal.HwClr 4 _ (omega arith) (signal_step i.swwe signal.SwWe 5 _ (omega arith)
    (signal_step i.swwel signal.SwWel 6 _ (omega arith) (signal_step i.incr signal.Incr 7 _ (omega arith) (signal_end i.decr signal.Decr 8 (omega arith))))))))))

abbrev InputsRise : ℕ → List HwInput → Type 0
InputsRise low [] = ⊤
InputsRise low (h ∷ hs) = (low ≤ key h) × InputsRise (key h + 1) hs

inputs_more : (low high : ℕ) (hs : List HwInput) → low ≤ high → InputsRise high hs → InputsRise low hs
inputs_more low high [] le r = tt
inputs_more low high (h ∷ hs) le r = (omega (arith, le, r.0), r.1)

inputs_step : (number width low : ℕ) (ss : List InSignal) (rest : List HwInput) → low ≤ 9 → SignalsRise low ss → InputsRise ((number + 1) * 9) rest → InputsRise (number * 9 + low) (map (input_of number width) ss ++ rest)
inputs_step number width low [] rest le r more = inputs_more (number * 9 + low) ((number + 1) * 9) rest (omega (arith, le)) more
inputs_step number width low (s ∷ ss) rest le r more =
    let c : code s ≤ 8 = few_codes s in
    let n : InputsRise (number * 9 + (code s + 1)) (map (input_of number width) ss ++ rest) = inputs_step number width (code s + 1) ss rest (omega (arith, c)) r.1 more in
    (omega (arith, r.0), inputs_more (number * 9 + code s + 1) (number * 9 + (code s + 1)) _ (omega arith) n)

inputs_rise : (number : ℕ) (gs : List NamedField) → InputsRise (number * 9) (inputs_from number gs)
inputs_rise number [] = tt
inputs_rise number (g ∷ gs) =
    inputs_more (number * 9) (number * 9 + 0) _ (omega arith) (inputs_step number g.spot.width 0 (signals_of g.inputs) (inputs_from (number + 1) gs) (omega arith) (signals_rise g.inputs) (inputs_rise (number + 1) gs))

same_input : (a b : HwInput) → Some a ≡ Some b → a ≡ b
same_input a b e = cc

at_least : (low : ℕ) (hs : List HwInput) (i : ℕ) (h : HwInput) → InputsRise low hs → slice_get hs i ≡ Some h → low ≤ key h
at_least low [] i h r e = cc
at_least low (x ∷ hs) zero h r e = let s : key x ≡ key h = ap key (same_input x h e) in omega (arith, s, r.0)
at_least low (x ∷ hs) (suc i) h r e = let m : key x + 1 ≤ key h = at_least (key x + 1) hs i h r.1 e in omega (arith, m, r.0)

one_place : (low : ℕ) (hs : List HwInput) (i j : ℕ) (h k : HwInput) → InputsRise low hs → slice_get hs i ≡ Some h → slice_get hs j ≡ Some k → key h ≡ key k → i ≡ j
one_place low [] i j h k r e f same = cc
one_place low (x ∷ hs) zero zero h k r e f same = refl
one_place low (x ∷ hs) zero (suc j) h k r e f same =
    let s : key x ≡ key h = ap key (same_input x h e) in let m : key x + 1 ≤ key k = at_least (key x + 1) hs j k r.1 f in absurd (omega (arith, s, m, same))
one_place low (x ∷ hs) (suc i) zero h k r e f same =
    let s : key x ≡ key k = ap key (same_input x k f) in let m : key x + 1 ≤ key h = at_least (key x + 1) hs i h r.1 e in absurd (omega (arith, s, m, same))
one_place low (x ∷ hs) (suc i) (suc j) h k r e f same = ap suc (one_place (key x + 1) hs i j h k r.1 e f same)

pub signals_apart : (gs : List NamedField) (i j : ℕ) (h k : HwInput) → slice_get (inputs_of gs) i ≡ Some h → slice_get (inputs_of gs) j ≡ Some k → h.field ≡ k.field → h.signal ≡ k.signal → i ≡ j
signals_apart gs i j h k e f field same =
    let c : code h.signal ≡ code k.signal = ap code same in
    one_place 0 (inputs_of gs) i j h k (inputs_rise 0 gs) e f (omega (arith, c, field))

-- ---- by number

abbrev offset_at : List NamedField → ℕ → ℕ
offset_at [] k = 0
offset_at (g ∷ gs) zero = 0
offset_at (g ∷ gs) (suc k) = count_at g + offset_at gs k

base_is : (base : ℕ) (gs : List NamedField) (k : ℕ) → base_at base gs k ≡ base + offset_at gs k
base_is base [] k = omega arith
base_is base (g ∷ gs) zero = omega arith
base_is base (g ∷ gs) (suc k) = let e : base_at (base + count_at g) gs k ≡ (base + count_at g) + offset_at gs k = base_is (base + count_at g) gs k in omega (arith, e)

length_step : (b : Bool) (s : InSignal) (ss : List InSignal) → length (signal_if b s ++ ss) ≡ count_if b + length ss
length_step true s ss = omega arith
length_step false s ss = omega arith

length_end : (b : Bool) (s : InSignal) → length (signal_if b s) ≡ count_if b
length_end true s = refl
length_end false s = refl

sum_up : (n1 n2 n3 n4 n5 n6 n7 n8 n9 l1 l2 l3 l4 l5 l6 l7 l8 l9 : ℕ) → l1 ≡ n1 + l2 → l2 ≡ n2 + l3 → l3 ≡ n3 + l4 → l4 ≡ n4 + l5 → l5 ≡ n5 + l6 → l6 ≡ n6 + l7 → l7 ≡ n7 + l8 → l8 ≡ n8 + l9 → l9 ≡ n9
    → l1 ≡ n1 + n2 + n3 + n4 + n5 + n6 + n7 + n8 + n9
sum_up n1 n2 n3 n4 n5 n6 n7 n8 n9 l1 l2 l3 l4 l5 l6 l7 l8 l9 a b c d e f g h j = omega (arith, a, b, c, d, e, f, g, h, j)

many_signals : (i : Inputs) → length (signals_of i) ≡ count_of i
many_signals i = ap length (regrouped i) ∙ by i
  where
    by : (i : Inputs) → length (signal_if i.has_data signal.Data ++ others i) ≡ count_of i
    by i =
        let a = length_step i.has_data signal.Data (signal_if i.we signal.We ++ (signal_if i.wel signal.Wel ++ (signal_if i.hwset signal.HwSet ++ (signal_if i.hwclr signal.HwClr ++ (signal_if i.swwe signal.SwWe ++ (signal_if i.swwel signal.SwWel ++ (signal_if i.incr signal.Incr ++ signal_if i.decr signal.Decr))))))) in
        let b = length_step i.we signal.We (signal_if i.wel signal.Wel ++ (signal_if i.hwset signal.HwSet ++ (signal_if i.hwclr signal.HwClr ++ (signal_if i.swwe signal.SwWe ++ (signal_if i.swwel signal.SwWel ++ (signal_if i.incr signal.Incr ++ signal_if i.decr signal.Decr)))))) in
        let c = length_step i.wel signal.Wel (signal_if i.hwset signal.HwSet ++ (signal_if i.hwclr signal.HwClr ++ (signal_if i.swwe signal.SwWe ++ (signal_if i.swwel signal.SwWel ++ (signal_if i.incr signal.Incr ++ signal_if i.decr signal.Decr))))) in
        let d = length_step i.hwset signal.HwSet (signal_if i.hwclr signal.HwClr ++ (signal_if i.swwe signal.SwWe ++ (signal_if i.swwel signal.SwWel ++ (signal_if i.incr signal.Incr ++ signal_if i.decr signal.Decr)))) in
        let e = length_step i.hwclr signal.HwClr (signal_if i.swwe signal.SwWe ++ (signal_if i.swwel signal.SwWel ++ (signal_if i.incr signal.Incr ++ signal_if i.decr signal.Decr))) in
        let f = length_step i.swwe signal.SwWe (signal_if i.swwel signal.SwWel ++ (signal_if i.incr signal.Incr ++ signal_if i.decr signal.Decr)) in
        let g = length_step i.swwel signal.SwWel (signal_if i.incr signal.Incr ++ signal_if i.decr signal.Decr) in
        let h = length_step i.incr signal.Incr (signal_if i.decr signal.Decr) in
        let j = length_end i.decr signal.Decr in
        sum_up (count_if i.has_data) (count_if i.we) (count_if i.wel) (count_if i.hwset) (count_if i.hwclr) (count_if i.swwe) (count_if i.swwel) (count_if i.incr) (count_if i.decr) _ _ _ _ _ _ _ _ _ a b c d e f g h j

many_own : (number : ℕ) (g : NamedField) → length (own_inputs number g) ≡ count_at g
many_own number g = length-map (signals_of g.inputs) (input_of number g.spot.width) ∙ many_signals g.inputs

get_left : (xs ys : List HwInput) (i : ℕ) → i < length xs → slice_get (xs ++ ys) i ≡ slice_get xs i
get_left [] ys i lt = absurd (omega (arith, lt))
get_left (x ∷ xs) ys zero lt = refl
get_left (x ∷ xs) ys (suc i) lt = get_left xs ys i (omega (arith, lt))

get_right : (xs ys : List HwInput) (n i : ℕ) → n ≡ length xs + i → slice_get (xs ++ ys) n ≡ slice_get ys i
get_right [] ys n i e = let s : n ≡ i = omega (arith, e) in ap (slice_get ys) s
get_right (x ∷ xs) ys zero i e = absurd (omega (arith, e))
get_right (x ∷ xs) ys (suc n) i e = get_right xs ys n i (omega (arith, e))

-- input j of a field's own
own_at : (number : ℕ) (gs : List NamedField) (k j n : ℕ) (g : NamedField) → slice_get gs k ≡ Some g → j < count_at g → n ≡ offset_at gs k + j → slice_get (inputs_from number gs) n ≡ slice_get (own_inputs (number + k) g) j
own_at number [] k j n g e lt s = cc
own_at number (x ∷ gs) zero j n g e lt s =
    let same : x ≡ g = same_field x g e in
    let m : length (own_inputs number x) ≡ count_at g = many_own number x ∙ ap count_at same in
    let z : n ≡ j = omega (arith, s) in
    let y : number + 0 ≡ number = omega arith in
    get_left (own_inputs number x) (inputs_from (number + 1) gs) n (omega (arith, m, z, lt)) ∙ ap (slice_get (own_inputs number x)) z
    ∙ ap (λ (w : NamedField). slice_get (own_inputs number w) j) same ∙ ap (λ w. slice_get (own_inputs w g) j) (sym y)
  where
    same_field : (a b : NamedField) → Some a ≡ Some b → a ≡ b
    same_field a b q = cc
own_at number (x ∷ gs) (suc k) j n g e lt s =
    let m : length (own_inputs number x) ≡ count_at x = many_own number x in
    let y : number + 1 + k ≡ number + suc k = omega arith in
    get_right (own_inputs number x) (inputs_from (number + 1) gs) n (offset_at gs k + j) (omega (arith, m, s)) ∙ own_at (number + 1) gs k j (offset_at gs k + j) g e lt refl
    ∙ ap (λ w. slice_get (own_inputs w g) j) y

own_below : (number : ℕ) (gs : List NamedField) (k j : ℕ) (g : NamedField) → slice_get gs k ≡ Some g → j < count_at g → offset_at gs k + j < length (inputs_from number gs)
own_below number [] k j g e lt = cc
own_below number (x ∷ gs) zero j g e lt =
    let m : length (own_inputs number x) ≡ count_at g = many_own number x ∙ ap count_at (same_field x g e) in
    let a : length (own_inputs number x ++ inputs_from (number + 1) gs) ≡ length (own_inputs number x) + length (inputs_from (number + 1) gs) = length-append (own_inputs number x) _ in
    omega (arith, m, a, lt)
  where
    same_field : (a b : NamedField) → Some a ≡ Some b → a ≡ b
    same_field a b q = cc
own_below number (x ∷ gs) (suc k) j g e lt =
    let m : length (own_inputs number x) ≡ count_at x = many_own number x in
    let a : length (own_inputs number x ++ inputs_from (number + 1) gs) ≡ length (own_inputs number x) + length (inputs_from (number + 1) gs) = length-append (own_inputs number x) _ in
    let b : offset_at gs k + j < length (inputs_from (number + 1) gs) = own_below (number + 1) gs k j g e lt in
    omega (arith, m, a, b)

-- ---- the numbers of a field's inputs

-- of a property: behind the data
pub record IsOwn (i : Inputs) (base n : ℕ) : Type 0 where
  pub at : ℕ
  pub is : n ≡ base + at
  pub behind : count_if i.has_data ≤ at
  pub below : at < count_of i

number_is : (b : Bool) (m n : ℕ) → number_if b m ≡ Some n → (m ≡ n) × (count_if b ≡ 1)
number_is true m n e = (same_nat m n e, refl)
number_is false m n e = cc

pub data_own : (i : Inputs) (base n : ℕ) → (numbers_from base i).data_in ≡ Some n → (n ≡ base) × (0 < count_of i)
data_own i base n e = let q = number_is i.has_data base n e in (sym q.0, omega (arith, q.1))

pub we_own : (i : Inputs) (base n : ℕ) → (numbers_from base i).we ≡ Some n → IsOwn i base n
we_own i base n e = let q = number_is i.we _ n e in record { at = count_if i.has_data; is = sym q.0; behind = omega arith; below = omega (arith, q.1) }

pub wel_own : (i : Inputs) (base n : ℕ) → (numbers_from base i).wel ≡ Some n → IsOwn i base n
wel_own i base n e = let q = number_is i.wel _ n e in record { at = count_if i.has_data + count_if i.we; is = sym q.0 ∙ omega arith; behind = omega arith; below = omega (arith, q.1) }

pub hwset_own : (i : Inputs) (base n : ℕ) → (numbers_from base i).hwset ≡ Some n → IsOwn i base n
hwset_own i base n e = let q = number_is i.hwset _ n e in record { at = count_if i.has_data + count_if i.we + count_if i.wel; is = sym q.0 ∙ omega arith; behind = omega arith; below = omega (arith, q.1) }

pub hwclr_own : (i : Inputs) (base n : ℕ) → (numbers_from base i).hwclr ≡ Some n → IsOwn i base n
hwclr_own i base n e = let q = number_is i.hwclr _ n e in record { at = count_if i.has_data + count_if i.we + count_if i.wel + count_if i.hwset; is = sym q.0 ∙ omega arith; behind = omega arith; below = omega (arith, q.1) }

pub swwe_own : (i : Inputs) (base n : ℕ) → (numbers_from base i).swwe ≡ Some n → IsOwn i base n
swwe_own i base n e = let q = number_is i.swwe _ n e in record { at = count_if i.has_data + count_if i.we + count_if i.wel + count_if i.hwset + count_if i.hwclr; is = sym q.0 ∙ omega arith; behind = omega arith; below = omega (arith, q.1) }

pub swwel_own : (i : Inputs) (base n : ℕ) → (numbers_from base i).swwel ≡ Some n → IsOwn i base n
swwel_own i base n e = let q = number_is i.swwel _ n e in record { at = count_if i.has_data + count_if i.we + count_if i.wel + count_if i.hwset + count_if i.hwclr + count_if i.swwe; is = sym q.0 ∙ omega arith; behind = omega arith; below = omega (arith, q.1) }

pub incr_own : (i : Inputs) (base n : ℕ) → (numbers_from base i).incr ≡ Some n → IsOwn i base n
incr_own i base n e = let q = number_is i.incr _ n e in record { at = count_if i.has_data + count_if i.we + count_if i.wel + count_if i.hwset + count_if i.hwclr + count_if i.swwe + count_if i.swwel; is = sym q.0 ∙ omega arith; behind = omega arith; below = omega (arith, q.1) }

pub decr_own : (i : Inputs) (base n : ℕ) → (numbers_from base i).decr ≡ Some n → IsOwn i base n
decr_own i base n e = let q = number_is i.decr _ n e in record { at = count_if i.has_data + count_if i.we + count_if i.wel + count_if i.hwset + count_if i.hwclr + count_if i.swwe + count_if i.swwel + count_if i.incr; is = sym q.0 ∙ omega arith; behind = omega arith; below = omega (arith, q.1) }

-- ---- what stands there

pub record IsThere (gs : List NamedField) (n : ℕ) : Type 0 where
  pub below : n < length (inputs_of gs)
  pub bits : (h : HwInput) → slice_get (inputs_of gs) n ≡ Some h → h.width ≡ 1

bit_step : (b : Bool) (s t : InSignal) (ss : List InSignal) (w : ℕ) → input_width s w ≡ 1 → (Has t ss → input_width t w ≡ 1) → Has t (signal_if b s ++ ss) → input_width t w ≡ 1
bit_step true s t ss w one all h = elim h [ inl e ↦ ap (λ (x : InSignal). input_width x w) e ∙ one | inr r ↦ all r ]
bit_step false s t ss w one all h = all h

bit_end : (b : Bool) (s t : InSignal) (w : ℕ) → input_width s w ≡ 1 → Has t (signal_if b s) → input_width t w ≡ 1
bit_end true s t w one h = elim h [ inl e ↦ ap (λ (x : InSignal). input_width x w) e ∙ one | inr r ↦ absurd r ]
bit_end false s t w one h = absurd h

other_bits : (i : Inputs) (t : InSignal) (w : ℕ) → Has t (others i) → input_width t w ≡ 1
other_bits i t w h =
    bit_step i.we signal.We t _ w refl (bit_step i.wel signal.Wel t _ w refl (bit_step i.hwset signal.HwSet t _ w refl (bit_step i.hwclr signal.HwClr t _ w refl
    (bit_step i.swwe signal.SwWe t _ w refl (bit_step i.swwel signal.SwWel t _ w refl (bit_step i.incr signal.Incr t _ w refl (bit_end i.decr signal.Decr t w refl))))))) h

-- behind the data there are no data
own_bits : (number w : ℕ) (b : Bool) (ss : List InSignal) → ((t : InSignal) → Has t ss → input_width t w ≡ 1) → (j : ℕ) → count_if b ≤ j → (h : HwInput) → slice_get (map (input_of number w) (signal_if b signal.Data ++ ss)) j ≡ Some h → h.width ≡ 1
own_bits number w true ss all zero le h e = absurd (omega (arith, le))
own_bits number w true ss all (suc j) le h e = bits_in ss all (has_at (map (input_of number w) ss) j h e)
  where
    bits_in : (ts : List InSignal) → ((t : InSignal) → Has t ts → input_width t w ≡ 1) → Has h (map (input_of number w) ts) → h.width ≡ 1
    bits_in [] f i = absurd i
    bits_in (t ∷ ts) f i = elim i [ inl q ↦ ap (λ (x : HwInput). x.width) q ∙ f t (inl refl) | inr r ↦ bits_in ts (λ x y. f x (inr y)) r ]
own_bits number w false ss all j le h e = bits_in ss all (has_at (map (input_of number w) ss) j h e)
  where
    bits_in : (ts : List InSignal) → ((t : InSignal) → Has t ts → input_width t w ≡ 1) → Has h (map (input_of number w) ts) → h.width ≡ 1
    bits_in [] f i = absurd i
    bits_in (t ∷ ts) f i = elim i [ inl q ↦ ap (λ (x : HwInput). x.width) q ∙ f t (inl refl) | inr r ↦ bits_in ts (λ x y. f x (inr y)) r ]

pub is_there : (gs : List NamedField) (k n : ℕ) (g : NamedField) → slice_get gs k ≡ Some g → IsOwn g.inputs (base_at 0 gs k) n → IsThere gs n
is_there gs k n g e o =
    let b : base_at 0 gs k ≡ 0 + offset_at gs k = base_is 0 gs k in
    let s : n ≡ offset_at gs k + o.at = omega (arith, b, o.is) in
    let lt : offset_at gs k + o.at < length (inputs_from 0 gs) = own_below 0 gs k o.at g e o.below in
    record {
      below = omega (arith, lt, s);
      bits = λ h q. own_bits (0 + k) g.spot.width g.inputs.has_data (others g.inputs) (λ t. other_bits g.inputs t g.spot.width) o.at o.behind h (sym (ap (λ (ss : List InSignal). slice_get (map (input_of (0 + k) g.spot.width) ss) o.at) (regrouped g.inputs)) ∙ sym (own_at 0 gs k o.at n g e o.below s) ∙ q);
    }

-- the data of a field
pub record IsData (gs : List NamedField) (n : ℕ) (g : NamedField) : Type 0 where
  pub below : n < length (inputs_of gs)
  pub bits : (h : HwInput) → slice_get (inputs_of gs) n ≡ Some h → h.width ≡ g.spot.width

first_bits : (number w : ℕ) (b : Bool) (ss : List InSignal) (h : HwInput) → count_if b ≡ 1 → slice_get (map (input_of number w) (signal_if b signal.Data ++ ss)) 0 ≡ Some h → h.width ≡ w
first_bits number w true ss h one e = ap (λ (x : HwInput). x.width) (sym (same_input (input_of number w signal.Data) h e))
first_bits number w false ss h one e = cc

pub is_data : (gs : List NamedField) (k n : ℕ) (g : NamedField) → slice_get gs k ≡ Some g → (numbers_from (base_at 0 gs k) g.inputs).data_in ≡ Some n → IsData gs n g
is_data gs k n g e q =
    let d : (n ≡ base_at 0 gs k) × (0 < count_of g.inputs) = data_own g.inputs (base_at 0 gs k) n q in
    let c : (base_at 0 gs k ≡ n) × (count_if g.inputs.has_data ≡ 1) = number_is g.inputs.has_data (base_at 0 gs k) n q in
    let b : base_at 0 gs k ≡ 0 + offset_at gs k = base_is 0 gs k in
    let s : n ≡ offset_at gs k + 0 = omega (arith, b, d.0) in
    let lt : offset_at gs k + 0 < length (inputs_from 0 gs) = own_below 0 gs k 0 g e d.1 in
    record {
      below = omega (arith, lt, s);
      bits = λ h r. first_bits (0 + k) g.spot.width g.inputs.has_data (others g.inputs) h c.1 (sym (ap (λ (ss : List InSignal). slice_get (map (input_of (0 + k) g.spot.width) ss) 0) (regrouped g.inputs)) ∙ sym (own_at 0 gs k 0 n g e d.1 s) ∙ r);
    }
