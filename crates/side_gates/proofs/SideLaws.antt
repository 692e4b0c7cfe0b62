-- The side of hardware by bits.
use Rattle.std.proofs.Common.{◌≡◌, ℕ, ◌<◌, ◌^◌, Bool, true, false, not, ◌&&◌, ◌||◌, if◌then◌else◌, List, [], ◌∷◌, map, refl, sym, ap, ◌∙◌}
use Rattle.std.specs.Prelude.{unwrap_or, is_some, Some, None}
use Rattle.std.specs.List.{range_with_len}
use Rattle.std.proofs.Math.Nat.{mod-eq_of_lt}
use Rattle.bit_base.specs.Numbers.{number_of, low_bits}
use Rattle.bit_base.proofs.Numbers.{number_of-low_bits}
use Rattle.field_policies.specs.Bits.{bit}
use Rattle.field_policies.specs.Expressions.{input_value}
use Rattle.field_extras.specs.Counters.{counted}
use Rattle.field_extras.specs.declared.counter.Counted.{Counted}
use Rattle.field_extras.specs.Interrupts.{is_active, interrupt_result}
use Rattle.reg_machine.specs.Steps as machine
use Rattle.reg_machine.specs.Steps.{View}
use Rattle.expr_gates.proofs.ExprLemmas.{places_low}
use Rattle.side_gates.specs.Sides.{forced_bits, counter_active, counter_bits, count_at}
use Rattle.side_gates.specs.Laws.{places, PlainSideIsMachines, CounterSideIsMachines, IntrSideIsMachines}

-- place by place
forced_places : (set clear : Bool) (f : ℕ → Bool) (xs : List ℕ) → forced_bits set clear (map f xs) ≡ map (λ i. if clear then false else (if set then true else f i)) xs
forced_places set clear f [] = refl
forced_places set clear f (x ∷ xs) = rw (one set clear (f x), forced_places set clear f xs) refl
  where
    one : (set clear b : Bool) → ((b || set) && not clear) ≡ (if clear then false else (if set then true else b))
    one true true true = refl
    one true true false = refl
    one true false true = refl
    one true false false = refl
    one false true true = refl
    one false true false = refl
    one false false true = refl
    one false false false = refl

if_map : (t : Bool) (a b : ℕ → Bool) (xs : List ℕ) → (if t then map a xs else map b xs) ≡ map (λ i. if t then a i else b i) xs
if_map true a b xs = refl
if_map false a b xs = refl

pub or_three : (a b c : Bool) → (a || (b || c)) ≡ (a || b || c)
or_three true b c = refl
or_three false b c = refl

or_four : (a b c d : Bool) → (a || (b || (c || d))) ≡ (a || b || c || d)
or_four true b c d = refl
or_four false true c d = refl
or_four false false c d = refl

-- a number that fits is that of its lowest bits
fitting : (w n : ℕ) → n < 2 ^ w → number_of (low_bits w n) ≡ n
fitting w n h = number_of-low_bits w n ∙ mod-eq_of_lt h

pub plain_is : PlainSideIsMachines
unfolding machine.is_hardware_active machine.is_taken
plain_is w f v s sees kind =
    let xs : List ℕ = range_with_len 0 f.width in
    let taken : Bool = machine.is_taken w f in
    let datum : ℕ → Bool = bit (input_value w.hw f.data_in) in
    let given : (if taken then low_bits f.width (input_value w.hw f.data_in) else low_bits f.width v) ≡ map (λ i. if taken then datum i else bit v i) xs =
    rw (places_low f.width (input_value w.hw f.data_in), places_low f.width v) (if_map taken datum (bit v) xs) in
    record {
      active = rw (kind, sees.taken, sees.set, sees.clear) (or_three taken (machine.is_set w f) (machine.is_cleared w f));
      bits = rw (kind, sees.taken, sees.set, sees.clear, sees.given, sees.value, given) (forced_places (machine.is_set w f) (machine.is_cleared w f) (λ i. if taken then datum i else bit v i) xs);
    }

pub counter_is : CounterSideIsMachines
unfolding machine.is_hardware_active machine.count_of
counter_is w f v s c sees kind =
    let xs : List ℕ = range_with_len 0 f.width in
    let set : Bool = machine.is_set w f in
    let clear : Bool = machine.is_cleared w f in
    let next : Counted = counted c f.width v (machine.gives w c.incr) (machine.gives w c.decr) in
    let value : number_of s.value ≡ v = ap number_of sees.value ∙ fitting f.width v sees.value_fits in
    let count : count_at c f.width s ≡ next =
    ap (λ n. counted c f.width n s.incr s.decr) value
    ∙ (ap (λ b. counted c f.width v b s.decr) (sees.incr c kind)
    ∙ ap (λ b. counted c f.width v (machine.gives w c.incr) b) (sees.decr c kind)) in
    let active : counter_active s ≡ (machine.gives w c.incr || machine.gives w c.decr || set || clear) =
    rw (sees.incr c kind, sees.decr c kind, sees.set, sees.clear) (or_four (machine.gives w c.incr) (machine.gives w c.decr) set clear) in
    let bits : counter_bits c f.width s ≡ map (λ i. if clear then false else (if set then true else bit next.value i)) xs =
    ap (λ (k : Counted). forced_bits s.set s.clear (low_bits f.width k.value)) count
    ∙ (ap (λ l. forced_bits s.set s.clear l) (places_low f.width next.value)
    ∙ (ap (λ b. forced_bits b s.clear (map (bit next.value) xs)) sees.set
    ∙ (ap (λ b. forced_bits set b (map (bit next.value) xs)) sees.clear ∙ forced_places set clear (bit next.value) xs))) in (
      record {
        active = active ∙ sym (ap (λ e. (machine.side_of w f v e).active) kind);
        bits = bits ∙ sym (ap (λ e. places f (machine.side_of w f v e).bits) kind);
      },
      count,
    )

is_some_if : (b : Bool) (n : ℕ) → b ≡ is_some (if b then Some n else None)
is_some_if true n = refl
is_some_if false n = refl

pub intr_is : IntrSideIsMachines
unfolding machine.is_hardware_active
intr_is w f v s n sees kind =
    let datum : number_of s.given ≡ input_value w.hw f.data_in = ap number_of sees.given ∙ fitting f.width (input_value w.hw f.data_in) sees.given_fits in
    let value : number_of s.value ≡ v = ap number_of sees.value ∙ fitting f.width v sees.value_fits in
    record {
      active = rw (kind, datum, value) (is_some_if (is_active n.sticky v (input_value w.hw f.data_in)) _);
      bits = rw (kind, datum, value) (places_low f.width (unwrap_or (interrupt_result n.sticky v (input_value w.hw f.data_in)) v));
    }
