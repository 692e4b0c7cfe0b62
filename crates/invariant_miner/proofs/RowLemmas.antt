-- Tests of all runs of all rows.
use Rattle.std.proofs.Common.{◌≡◌, ℕ, zero, suc, ◌+◌, ◌-◌, ◌/◌, ◌%◌, ◌^◌, ◌<◌, ◌≤◌, Bool, true, false, not, ◌&&◌, ◌||◌, eqb, bit_and, bit_or, w64, List, [], length, get_or, Some, None, slice_index, slice_get, refl, ap, ◌∙◌, sym, subst, arith, inl, inr, add-one, true≢false, eq-eqb}
use Rattle.std.specs.Int.{bit_not}
use Rattle.std.proofs.Math.Path.{fun_ext}
use Rattle.std.proofs.lemmas.Option.{slice_get-get_or, slice_get_within, get_or_from_slice_get}
use Rattle.std.proofs.lemmas.Bool.{cases_eq, and_parts, and_from, ne_eqb, false_from_ne_true}
use Rattle.gate_graph.specs.Values.{at}
use Rattle.gate_graph.specs.declared.circuits.Circuit.{Circuit}
use Rattle.unroll_cnf.specs.declared.latch_literal.LatchLiteral.{LatchLiteral}
use Rattle.unroll_cnf.specs.Latches.{holds}
use Rattle.invariant_miner.specs.Draws.{seeded}
use Rattle.invariant_miner.specs.Lanes.{bit, lane}
use Rattle.invariant_miner.specs.Samples.{all_below, in_row, in_all_rows, in_all_samples, edge_count, state_in, run_state, batch_draws, AreRows}
use Rattle.invariant_miner.specs.Candidates.{same_value, least_from, plain, negated, one_holds_in_all, are_equal, are_opposite}
use Rattle.invariant_miner.proofs.BitLemmas.{at_lane, bit_zero, bit_and_both, bit_or_both, bit_inverted, zero_from_bits}

pub below_same : (n : ℕ) (p q : ℕ → Bool) → ((k : ℕ) → k < n → p k ≡ q k) → all_below n p ≡ all_below n q
unfolding all_below
below_same zero p q h = refl
below_same (suc n) p q h = rw (below_same n p q (λ k lt. h k (omega arith)), h n (omega arith)) refl

pub below_true : (n : ℕ) (p : ℕ → Bool) → ((k : ℕ) → k < n → p k ≡ true) → all_below n p ≡ true
unfolding all_below
below_true zero p h = refl
below_true (suc n) p h = and_from (all_below n p) (p n) (below_true n p (λ k lt. h k (omega arith))) (h n (omega arith))

pub below_each : (n : ℕ) (p : ℕ → Bool) → all_below n p ≡ true → (k : ℕ) → k < n → p k ≡ true
unfolding all_below
below_each zero p h k lt = absurd (omega (arith, lt))
below_each (suc n) p h k lt =
    let parts : (all_below n p ≡ true) × (p n ≡ true) = and_parts (all_below n p) (p n) h in
    elim (cases_eq k n) [ inl e ↦ ap p e ∙ parts.1 | inr away ↦ below_each n p parts.0 k (omega arith) ]

pub below_false : (n : ℕ) (p : ℕ → Bool) (k : ℕ) → k < n → p k ≡ false → all_below n p ≡ false
below_false n p k lt h = false_from_ne_true (all_below n p) (λ e. true≢false (sym (below_each n p e k lt) ∙ h))

pub below_none : (p : ℕ → Bool) → all_below 0 p ≡ true
unfolding all_below
below_none p = refl

pub below_more : (n : ℕ) (p : ℕ → Bool) → all_below n p ≡ true → p n ≡ true → all_below (n + 1) p ≡ true
unfolding all_below
below_more n p h here = ap (λ (k : ℕ). all_below k p) (add-one n) ∙ and_from (all_below n p) (p n) h here

-- both tests hold of all where their conjunction does
and_swap : (a b c d : Bool) → ((a && b) && (c && d)) ≡ ((a && c) && (b && d))
and_swap true true c d = refl
and_swap true false true d = refl
and_swap true false false d = refl
and_swap false b c d = refl

pub below_and : (n : ℕ) (p q : ℕ → Bool) → (all_below n p && all_below n q) ≡ all_below n (λ k. p k && q k)
unfolding all_below
below_and zero p q = refl
below_and (suc n) p q = and_swap (all_below n p) (p n) (all_below n q) (q n) ∙ rw (below_and n p q) refl

weaker_and : (l a b : Bool) → ((not l || a) && (not l || b)) ≡ (not l || (a && b))
weaker_and true a b = refl
weaker_and false a b = refl

row_and : (row : List ℕ) (p q : List Bool → Bool) → (in_row row p && in_row row q) ≡ in_row row (λ s. p s && q s)
unfolding in_row
row_and row p q =
    below_and 64 (λ r. not (at (lane r row) 0) || p (lane r row)) (λ r. not (at (lane r row) 0) || q (lane r row))
    ∙ below_same 64 _ _ (λ r lt. weaker_and (at (lane r row) 0) (p (lane r row)) (q (lane r row)))

pub rows_and : (rows : List (List ℕ)) (p q : List Bool → Bool) → (in_all_rows rows p && in_all_rows rows q) ≡ in_all_rows rows (λ s. p s && q s)
unfolding in_all_rows
rows_and rows p q =
    below_and (length rows) (λ k. in_row (get_or rows k []) p) (λ k. in_row (get_or rows k []) q)
    ∙ below_same (length rows) _ _ (λ k lt. row_and (get_or rows k []) p q)

-- equal tests hold alike
pub rows_same : (rows : List (List ℕ)) (p q : List Bool → Bool) → ((s : List Bool) → p s ≡ q s) → in_all_rows rows p ≡ in_all_rows rows q
rows_same rows p q h = let e : p ≡ q = fun_ext h in ap (in_all_rows rows) e

or_self : (b : Bool) → (b || b) ≡ b
or_self true = refl
or_self false = refl

pub rows_once : (rows : List (List ℕ)) (p : List Bool → Bool) → in_all_rows rows (λ s. p s || p s) ≡ in_all_rows rows p
rows_once rows p = rows_same rows (λ s. p s || p s) p (λ s. or_self (p s))

equal_parts : (a b : Bool) → ((a || not b) && (not a || b)) ≡ same_value a b
equal_parts true true = refl
equal_parts true false = refl
equal_parts false true = refl
equal_parts false false = refl

opposite_parts : (a b : Bool) → ((a || b) && (not a || not b)) ≡ same_value a (not b)
opposite_parts true true = refl
opposite_parts true false = refl
opposite_parts false true = refl
opposite_parts false false = refl

pub rows_equal : (rows : List (List ℕ)) (m n : ℕ) → (in_all_rows rows (λ s. at s m || not (at s n)) && in_all_rows rows (λ s. not (at s m) || at s n)) ≡ in_all_rows rows (λ s. same_value (at s m) (at s n))
rows_equal rows m n = rows_and rows (λ s. at s m || not (at s n)) (λ s. not (at s m) || at s n) ∙ rows_same rows _ _ (λ s. equal_parts (at s m) (at s n))

pub rows_opposite : (rows : List (List ℕ)) (m n : ℕ) → (in_all_rows rows (λ s. at s m || at s n) && in_all_rows rows (λ s. not (at s m) || not (at s n))) ≡ in_all_rows rows (λ s. same_value (at s m) (not (at s n)))
rows_opposite rows m n = rows_and rows (λ s. at s m || at s n) (λ s. not (at s m) || not (at s n)) ∙ rows_same rows _ _ (λ s. opposite_parts (at s m) (at s n))

-- the runs that fail: `word` has those with p in which q does not hold
violated : (l a : Bool) → (l && not a) ≡ false → (not l || a) ≡ true
violated true true h = refl
violated true false h = sym h
violated false a h = refl

met : (l a : Bool) → (not l || a) ≡ true → (l && not a) ≡ false
met true true h = refl
met true false h = sym h
met false a h = refl

pub clear_by_word : (p q : ℕ → Bool) (word : ℕ) → word < 2 ^ 64 → ((r : ℕ) → r < 64 → bit r word ≡ (p r && not (q r))) → eqb word 0 ≡ all_below 64 (λ r. not (p r) || q r)
clear_by_word p q word small bits =
    let each : ℕ → Bool = λ r. not (p r) || q r in
    elim (cases_eq word 0) [
      | inl z ↦
          let none : (r : ℕ) → r < 64 → bit r word ≡ false = λ r lt. ap (bit r) z ∙ bit_zero r in
          eq-eqb word 0 z ∙ sym (below_true 64 each (λ r lt. violated (p r) (q r) (sym (bits r lt) ∙ none r lt)))
      | inr away ↦
          ne_eqb word 0 away ∙ sym (false_from_ne_true (all_below 64 each) (λ e. away (zero_from_bits word small (λ r lt. bits r lt ∙ met (p r) (q r) (below_each 64 each e r lt)))))
    ]

-- one row by its words: `word` has the runs with `live` 1 in which neither literal holds
pub row_by_word : (row : List ℕ) (x y : LatchLiteral) (word : ℕ) → word < 2 ^ 64 → ((r : ℕ) → r < 64 → bit r word ≡ (at (lane r row) 0 && not (holds (lane r row) x || holds (lane r row) y))) → eqb word 0 ≡ in_row row (λ s. holds s x || holds s y)
unfolding in_row
row_by_word row x y word small bits = clear_by_word (λ r. at (lane r row) 0) (λ r. holds (lane r row) x || holds (lane r row) y) word small bits

pub word_bits : (row : List ℕ) (x y : LatchLiteral) (a b r : ℕ) → bit_or a b < 2 ^ 64 → r < 64 → bit r a ≡ holds (lane r row) x → bit r b ≡ holds (lane r row) y → bit r (bit_and (slice_index row 0) (bit_not w64 (bit_or a b))) ≡ (at (lane r row) 0 && not (holds (lane r row) x || holds (lane r row) y))
word_bits row x y a b r small lt ea eb =
    let live : at (lane r row) 0 ≡ bit r (slice_index row 0) = at_lane r row 0 in
    bit_and_both (slice_index row 0) (bit_not w64 (bit_or a b)) r ∙ rw (bit_inverted (bit_or a b) r small lt, bit_or_both a b r, ea, eb, live) refl

-- the least number, as a loop finds it
pub least_step : (p : ℕ → Bool) (m n : ℕ) → m < n → p m ≡ false → least_from p (m + 1) (n - (m + 1)) ≡ least_from p m (n - m)
least_step p m n lt h = let e : n - m ≡ suc (n - (m + 1)) = omega arith in rw e (rw h refl)

pub least_found : (p : ℕ → Bool) (m n : ℕ) → m < n → p m ≡ true → Some m ≡ least_from p m (n - m)
least_found p m n lt h = let e : n - m ≡ suc (n - (m + 1)) = omega arith in rw e (rw h refl)

pub least_none : (p : ℕ → Bool) (m n : ℕ) → n ≤ m → None ≡ least_from p m (n - m)
least_none p m n le = let e : n - m ≡ 0 = omega arith in rw e refl

-- the rows of a circuit have its sample states
pub rows_are_samples : (c : Circuit) (seed : ℕ) (rows : List (List ℕ)) → AreRows c (seeded seed) rows → length rows ≡ edge_count c → in_all_rows rows ≡ in_all_samples c seed
unfolding in_all_rows in_all_samples in_row state_in
rows_are_samples c seed rows a long = fun_ext (λ p. rw long (below_same (edge_count c) _ _ (λ k lt. below_same 64 _ _ (λ r below.
    let within : k < length rows = omega (arith, long) in
    let same : lane r (get_or rows k []) ≡ run_state c (batch_draws c (seeded seed) (k / 64)) r (k % 64) = a.each k (get_or rows k []) r (slice_get-get_or rows k [] within) below in
    ap (λ (s : List Bool). not (at s 0) || p s) same))))

-- a literal's word
pub literal_inverted : (row : List ℕ) (l : LatchLiteral) (w r : ℕ) → w ≡ slice_index row l.latch → w < 2 ^ 64 → l.negated ≡ true → r < 64 → bit r (bit_not w64 w) ≡ holds (lane r row) l
literal_inverted row l w r is small neg lt =
    let value : at (lane r row) l.latch ≡ bit r w = at_lane r row l.latch ∙ ap (bit r) (sym is) in
    rw (neg, value) (bit_inverted w r small lt)

pub literal_plain : (row : List ℕ) (l : LatchLiteral) (w r : ℕ) → w ≡ slice_index row l.latch → l.negated ≡ false → bit r w ≡ holds (lane r row) l
literal_plain row l w r is pos =
    let value : at (lane r row) l.latch ≡ bit r w = at_lane r row l.latch ∙ ap (bit r) (sym is) in
    rw (pos, value) refl

-- a row that a loop has passed, and one that it stops at
pub rows_more : (rows : List (List ℕ)) (k : ℕ) (row : List ℕ) (p : List Bool → Bool) → slice_get rows k ≡ Some row → all_below k (λ j. in_row (get_or rows j []) p) ≡ true → in_row row p ≡ true → all_below (k + 1) (λ j. in_row (get_or rows j []) p) ≡ true
rows_more rows k row p is before here = below_more k (λ j. in_row (get_or rows j []) p) before (ap (λ (z : List ℕ). in_row z p) (get_or_from_slice_get rows k row [] is) ∙ here)

pub rows_stop : (rows : List (List ℕ)) (k : ℕ) (row : List ℕ) (p : List Bool → Bool) → slice_get rows k ≡ Some row → in_row row p ≡ false → in_all_rows rows p ≡ false
unfolding in_all_rows
rows_stop rows k row p is here = below_false (length rows) (λ j. in_row (get_or rows j []) p) k (slice_get_within rows k row is) (ap (λ (z : List ℕ). in_row z p) (get_or_from_slice_get rows k row [] is) ∙ here)

pub rows_end : (rows : List (List ℕ)) (k : ℕ) (p : List Bool → Bool) → k ≡ length rows → all_below k (λ j. in_row (get_or rows j []) p) ≡ true → in_all_rows rows p ≡ true
unfolding in_all_rows
rows_end rows k p e h = subst (λ (n : ℕ). all_below n (λ j. in_row (get_or rows j []) p) ≡ true) e h

-- two tests, of which the second is made where the first passes
pub and_first : (a b v : Bool) → a ≡ true → (a && b) ≡ v → b ≡ v
and_first a b v t h = sym (rw t refl) ∙ h

pub and_fails : (a b v : Bool) → a ≡ false → (a && b) ≡ v → a ≡ v
and_fails a b v f h = f ∙ (sym (rw f refl) ∙ h)

pub equal_by : (rows : List (List ℕ)) (x y z w : LatchLiteral) (m n : ℕ) → x ≡ plain m → y ≡ negated n → z ≡ negated m → w ≡ plain n → (one_holds_in_all (in_all_rows rows) x y && one_holds_in_all (in_all_rows rows) z w) ≡ are_equal (in_all_rows rows) n m
equal_by rows x y z w m n a b c d = rw (a, b, c, d) (rows_equal rows m n)

pub opposite_by : (rows : List (List ℕ)) (x y z w : LatchLiteral) (m n : ℕ) → x ≡ plain m → y ≡ plain n → z ≡ negated m → w ≡ negated n → (one_holds_in_all (in_all_rows rows) x y && one_holds_in_all (in_all_rows rows) z w) ≡ are_opposite (in_all_rows rows) n m
opposite_by rows x y z w m n a b c d = rw (a, b, c, d) (rows_opposite rows m n)

-- `live` is 0 in all sample states, which have it at 1, where there is none
none_live : (l : Bool) → (not l || not l) ≡ (not l || false)
none_live true = refl
none_live false = refl

pub rows_no_live : (rows : List (List ℕ)) → in_all_rows rows (λ s. not (at s 0)) ≡ in_all_rows rows (λ _. false)
unfolding in_all_rows in_row
rows_no_live rows = below_same (length rows) _ _ (λ k lt. below_same 64 _ _ (λ r below. none_live (at (lane r (get_or rows k [])) 0)))
