-- The starts, the inputs and the next states of 64 runs.
use Rattle.std.proofs.Common.{◌≡◌, ◌≢◌, ℕ, ◌+◌, ◌-◌, ◌/◌, ◌^◌, ◌<◌, ◌≤◌, true, false, eqb, bit_and, List, [], ◌∷◌, ◌++◌, length, drop, get_or, set, Some, refl, ap, ◌∙◌, sym, arith, append_assoc, inl, inr, get_or-set_other, get_or-set_same}
use Rattle.std.proofs.lemmas.Bool.{cases_eq, cases_lt, lt-ltb, le-ltb, lt-leb, le-leb}
use Rattle.std.proofs.lemmas.List.{drop_more, drop_all, append-nil, length-map}
use Rattle.std.proofs.lemmas.List.FromFn.{fill_by_all}
use Rattle.std.proofs.lemmas.Nat.Bits.{shr_and_one}
use Rattle.gate_graph.specs.declared.parts.Latch.{Latch}
use Rattle.gate_graph.specs.declared.circuits.Circuit.{Circuit}
use Rattle.invariant_miner.specs.Draws.{word_at}
use Rattle.invariant_miner.specs.Lanes.{bit, lane}
use Rattle.invariant_miner.specs.Samples.{start_in, after_start, starts_in, after_starts, taken_address, is_address_bit, input_with, input_in, inputs_in}
use Rattle.invariant_miner.proofs.BitLemmas.{lane_push, at_lane}

-- one latch more: what is done, with the starts of the rest
pub starts_more : (latches : List Latch) (i : ℕ) (d : Latch) (g : List ℕ) (words : List ℕ) (w r : ℕ) → i < length latches → bit r w ≡ start_in (get_or latches i d).start g r
    → lane r (words ++ w ∷ []) ++ starts_in (drop (i + 1) latches) (after_start (get_or latches i d).start g) r ≡ lane r words ++ starts_in (drop i latches) g r
starts_more latches i d g words w r lt is =
    rw (lane_push r words w, append_assoc (lane r words) (bit r w ∷ []) (starts_in (drop (i + 1) latches) (after_start (get_or latches i d).start g) r), drop_more latches i d lt, is) refl

pub after_more : (latches : List Latch) (i : ℕ) (d : Latch) (g : List ℕ) → i < length latches → after_starts (drop (i + 1) latches) (after_start (get_or latches i d).start g) ≡ after_starts (drop i latches) g
after_more latches i d g lt = rw (drop_more latches i d lt) refl

pub starts_all : (latches : List Latch) (i : ℕ) (g : List ℕ) (words : List ℕ) (r : ℕ) → length latches ≤ i → lane r words ++ starts_in (drop i latches) g r ≡ lane r words
starts_all latches i g words r le = rw (drop_all i latches le) (append-nil (lane r words))

pub after_all : (latches : List Latch) (i : ℕ) (g : List ℕ) → length latches ≤ i → after_starts (drop i latches) g ≡ g
after_all latches i g le = rw (drop_all i latches le) refl

-- the address has no bit yet
no_bit : (first i : ℕ) → is_address_bit first 0 i ≡ false
unfolding is_address_bit
no_bit first i = elim (cases_lt i first) [
  | inl lt ↦ rw (lt-leb first i lt) refl
  | inr le ↦ let past : first + 0 ≤ i = omega arith in rw (le-leb first i le, le-ltb i (first + 0) past) refl
]

bit_here : (first j : ℕ) → is_address_bit first (j + 1) (first + j) ≡ true
unfolding is_address_bit
bit_here first j =
    let from : first ≤ first + j = omega arith in
    let below : first + j < first + (j + 1) = omega arith in
    rw (le-leb first (first + j) from, lt-ltb (first + j) (first + (j + 1)) below) refl

bit_elsewhere : (first j i : ℕ) → i ≢ first + j → is_address_bit first (j + 1) i ≡ is_address_bit first j i
unfolding is_address_bit
bit_elsewhere first j i away = elim (cases_lt i (first + j)) [
  | inl lt ↦ let more : i < first + (j + 1) = omega arith in rw (lt-ltb i (first + j) lt, lt-ltb i (first + (j + 1)) more) refl
  | inr le ↦ let past : first + (j + 1) ≤ i = omega arith in rw (le-ltb i (first + j) le, le-ltb i (first + (j + 1)) past) refl
]

-- in run r the first j bits of the address are written, and nothing in another run
pub record IsPut (old now : List ℕ) (first j address r : ℕ) : Type 0 where
  pub own : (i : ℕ) → bit r (get_or now i 0) ≡ input_with first j (Some address) i (bit r (get_or old i 0))
  pub others : (i k : ℕ) → k < 64 → k ≢ r → bit k (get_or now i 0) ≡ bit k (get_or old i 0)

pub put_none : (old : List ℕ) (first address r : ℕ) → IsPut old old first 0 address r
put_none old first address r = record { own = λ i. rw (no_bit first i) refl; others = λ i k lt away. refl }

pub put_more : (old now : List ℕ) (first j address r p w : ℕ) → p ≡ first + j → p < length now → bit r w ≡ bit j address → ((k : ℕ) → k < 64 → k ≢ r → bit k w ≡ bit k (get_or now p 0)) → IsPut old now first j address r → IsPut old (set now p w) first (j + 1) address r
put_more old now first j address r p w at_p lt is same q = record {
  own = λ i. elim (cases_eq i p) [
    | inl e ↦
        let here : is_address_bit first (j + 1) i ≡ true = ap (is_address_bit first (j + 1)) (e ∙ at_p) ∙ bit_here first j in
        let place : i - first ≡ j = omega arith in
        let value : get_or (set now p w) i 0 ≡ w = ap (λ (k : ℕ). get_or (set now p w) k 0) e ∙ get_or-set_same now p w 0 lt in
        rw (here, place, value) is
    | inr away ↦
        let other : i ≢ first + j = λ e. away (e ∙ sym at_p) in
        rw (bit_elsewhere first j i other, get_or-set_other now p i w 0 away) (q.own i)
  ];
  others = λ i k below away. elim (cases_eq i p) [
    | inl e ↦
        let value : get_or (set now p w) i 0 ≡ w = ap (λ (m : ℕ). get_or (set now p w) m 0) e ∙ get_or-set_same now p w 0 lt in
        ap (bit k) value ∙ (same k below away ∙ (ap (λ (m : ℕ). bit k (get_or now m 0)) (sym e) ∙ q.others i k below away))
    | inr far ↦ ap (bit k) (get_or-set_other now p i w 0 far) ∙ q.others i k below away
  ];
}

-- the test of one bit of an address
pub address_bit : (a j : ℕ) → eqb (bit_and (a / 2 ^ j) 1) 1 ≡ bit j a
unfolding bit
address_bit a j = ap (λ (n : ℕ). eqb n 1) (shr_and_one a j)

-- of the runs below n the inputs are what they take, the others' are what was drawn
pub record ArePut (c : Circuit) (e : List ℕ) (inputs : List ℕ) (n : ℕ) : Type 0 where
  pub done : (k i : ℕ) → k < n → i < c.inputs → bit k (get_or inputs i 0) ≡ input_in c e k i
  pub drawn : (k i : ℕ) → n ≤ k → k < 64 → i < c.inputs → bit k (get_or inputs i 0) ≡ bit k (word_at e i)

pub puts_none : (c : Circuit) (e : List ℕ) (inputs : List ℕ) → ((i : ℕ) → i < c.inputs → get_or inputs i 0 ≡ word_at e i) → ArePut c e inputs 0
puts_none c e inputs h = record { done = λ k i lt within. absurd (omega arith); drawn = λ k i le lt within. ap (bit k) (h i within) }

pub puts_more : (c : Circuit) (e : List ℕ) (old now : List ℕ) (n z : ℕ) → n < 64 → z ≡ word_at e (c.inputs + n) → ((i : ℕ) → bit n (get_or now i 0) ≡ input_with c.address_first c.address_bits (taken_address c.addresses.items z) i (bit n (get_or old i 0)))
    → ((i k : ℕ) → k < 64 → k ≢ n → bit k (get_or now i 0) ≡ bit k (get_or old i 0)) → ArePut c e old n → ArePut c e now (n + 1)
unfolding input_in
puts_more c e old now n z few is own others p = record {
  done = λ k i lt within. elim (cases_eq k n) [
    | inl same ↦ rw same (own i ∙ rw (p.drawn n i (omega arith) few within, is) refl)
    | inr away ↦ let below : k < 64 = omega arith in others i k below away ∙ p.done k i (omega arith) within
  ];
  drawn = λ k i le lt within. let away : k ≢ n = omega arith in others i k lt away ∙ p.drawn k i (omega arith) lt within;
}

-- the inputs of a run by their places
pub puts_all : (c : Circuit) (e : List ℕ) (inputs : List ℕ) (k : ℕ) → k < 64 → length inputs ≡ c.inputs → ArePut c e inputs 64 → lane k inputs ≡ inputs_in c e k
unfolding inputs_in
puts_all c e inputs k lt long p = fill_by_all (input_in c e k) (lane k inputs) c.inputs false (length-map inputs (bit k) ∙ long) (λ i within. at_lane k inputs i ∙ p.done k i lt within)
