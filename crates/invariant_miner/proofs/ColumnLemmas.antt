-- Latches with one column have one key, so the least of them is the first of its list.
use Rattle.std.proofs.Common.{◌≡◌, ℕ, zero, suc, ◌+◌, ◌-◌, ◌%◌, ◌^◌, ◌<◌, ◌≤◌, Bool, true, false, not, ◌&&◌, ◌||◌, eqb, cond, bit_and, w64, List, [], ◌∷◌, ◌++◌, length, map, set, drop, get_or, replicate, Option, Some, None, IfSome, Vec, Global, refl, ap, ◌∙◌, sym, subst, arith, inl, inr, true≢false, eq-eqb}
use Rattle.std.specs.Int.{bit_at, bit_not}
use Rattle.std.specs.List.{filter, find, range_with_len}
use Rattle.std.proofs.lemmas.Nat.{and_le_l}
use Rattle.std.proofs.lemmas.Nat.Bits.{bit_at-lt, same_from_bits_below}
use Rattle.std.proofs.lemmas.Bool.{cases_eq, cases_lt, ne_eqb}
use Rattle.std.proofs.lemmas.List.{drop_more, drop_all, get_or_past, map-set, get_or-map, length-set, get_or-set_same, get_or-set_other}
use Rattle.std.proofs.lemmas.List.Elements.{filter-append}
use Rattle.gate_graph.specs.Values.{at}
use Rattle.invariant_miner.specs.Lanes.{bit, lane}
use Rattle.invariant_miner.specs.Samples.{in_row, in_all_rows}
use Rattle.invariant_miner.specs.Candidates.{same_value, least_from, are_equal, are_opposite}
use Rattle.invariant_miner.specs.Columns.{masked, mixed, column_key, column_place, AreColumns, AreWords}
use Rattle.invariant_miner.proofs.BitLemmas.{at_lane, bit_and_both, bit_inverted}
use Rattle.invariant_miner.proofs.RowLemmas.{below_each}

-- words of the same bits
eqb_two : (x y : ℕ) → x < 2 → y < 2 → eqb x 1 ≡ eqb y 1 → x ≡ y
eqb_two x y p q e = elim (cases_eq x 1) [
  | inl a ↦ elim (cases_eq y 1) [ inl b ↦ a ∙ sym b | inr b ↦ absurd (true≢false (sym (eq-eqb x 1 a) ∙ (e ∙ ne_eqb y 1 b))) ]
  | inr a ↦ elim (cases_eq y 1) [ inl b ↦ absurd (true≢false (sym (eq-eqb y 1 b) ∙ (sym e ∙ ne_eqb x 1 a))) | inr b ↦ omega arith ]
]

same_by_bits : (a b : ℕ) → a < 2 ^ 64 → b < 2 ^ 64 → ((r : ℕ) → r < 64 → bit r a ≡ bit r b) → a ≡ b
unfolding bit
same_by_bits a b p q h = same_from_bits_below 64 a b p q (λ i lt. eqb_two (bit_at a i) (bit_at b i) (bit_at-lt a i) (bit_at-lt b i) (h i lt))

-- what a test of a row says of one run
run_passes : (row : List ℕ) (p : List Bool → Bool) (r : ℕ) → in_row row p ≡ true → r < 64 → (not (at (lane r row) 0) || p (lane r row)) ≡ true
unfolding in_row
run_passes row p r h lt = below_each 64 (λ q. not (at (lane q row) 0) || p (lane q row)) h r lt

row_passes : (rows : List (List ℕ)) (p : List Bool → Bool) (k : ℕ) → in_all_rows rows p ≡ true → k < length rows → in_row (get_or rows k []) p ≡ true
unfolding in_all_rows
row_passes rows p k h lt = below_each (length rows) (λ j. in_row (get_or rows j []) p) h k lt

live_and : (l a b : Bool) → (not l || same_value a b) ≡ true → (l && a) ≡ (l && b)
live_and true true b h = sym h
live_and true false true h = h
live_and true false false h = refl
live_and false a b h = refl

masked_equal : (row : List ℕ) (m n : ℕ) → ((i : ℕ) → get_or row i 0 < 2 ^ 64) → in_row row (λ s. same_value (at s m) (at s n)) ≡ true → masked false row m ≡ masked false row n
masked_equal row m n small h =
    let live : get_or row 0 0 < 2 ^ 64 = small 0 in
    let first : bit_and (get_or row 0 0) (get_or row m 0) ≤ get_or row 0 0 = and_le_l (get_or row 0 0) (get_or row m 0) in
    let second : bit_and (get_or row 0 0) (get_or row n 0) ≤ get_or row 0 0 = and_le_l (get_or row 0 0) (get_or row n 0) in
    same_by_bits (bit_and (get_or row 0 0) (get_or row m 0)) (bit_and (get_or row 0 0) (get_or row n 0)) (omega arith) (omega arith) (λ r lt.
    let shown : (not (bit r (get_or row 0 0)) || same_value (bit r (get_or row m 0)) (bit r (get_or row n 0))) ≡ true = rw (at_lane r row 0, at_lane r row m, at_lane r row n) at (run_passes row (λ s. same_value (at s m) (at s n)) r h lt) in
    bit_and_both (get_or row 0 0) (get_or row m 0) r ∙ (live_and (bit r (get_or row 0 0)) (bit r (get_or row m 0)) (bit r (get_or row n 0)) shown ∙ sym (bit_and_both (get_or row 0 0) (get_or row n 0) r)))

masked_opposite : (row : List ℕ) (m n : ℕ) → ((i : ℕ) → get_or row i 0 < 2 ^ 64) → in_row row (λ s. same_value (at s m) (not (at s n))) ≡ true → masked false row m ≡ masked true row n
masked_opposite row m n small h =
    let live : get_or row 0 0 < 2 ^ 64 = small 0 in
    let first : bit_and (get_or row 0 0) (get_or row m 0) ≤ get_or row 0 0 = and_le_l (get_or row 0 0) (get_or row m 0) in
    let second : bit_and (get_or row 0 0) (bit_not w64 (get_or row n 0)) ≤ get_or row 0 0 = and_le_l (get_or row 0 0) (bit_not w64 (get_or row n 0)) in
    same_by_bits (bit_and (get_or row 0 0) (get_or row m 0)) (bit_and (get_or row 0 0) (bit_not w64 (get_or row n 0))) (omega arith) (omega arith) (λ r lt.
    let shown : (not (bit r (get_or row 0 0)) || same_value (bit r (get_or row m 0)) (not (bit r (get_or row n 0)))) ≡ true = rw (at_lane r row 0, at_lane r row m, at_lane r row n) at (run_passes row (λ s. same_value (at s m) (not (at s n))) r h lt) in
    bit_and_both (get_or row 0 0) (get_or row m 0) r
    ∙ (live_and (bit r (get_or row 0 0)) (bit r (get_or row m 0)) (not (bit r (get_or row n 0))) shown
    ∙ sym (bit_and_both (get_or row 0 0) (bit_not w64 (get_or row n 0)) r ∙ ap (λ (b : Bool). bit r (get_or row 0 0) && b) (bit_inverted (get_or row n 0) r (small n) lt))))

keys_same : (rows : List (List ℕ)) (i j : Bool) (m n k : ℕ) → ((t : ℕ) → t < k → masked i (get_or rows t []) m ≡ masked j (get_or rows t []) n) → column_key rows i m k ≡ column_key rows j n k
keys_same rows i j m n zero h = refl
keys_same rows i j m n (suc k) h = rw (keys_same rows i j m n k (λ t lt. h t (omega arith)), h k (omega arith)) refl

pub equal_key : (rows : List (List ℕ)) (n m : ℕ) → AreWords rows → are_equal (in_all_rows rows) n m ≡ true → column_key rows false m (length rows) ≡ column_key rows false n (length rows)
equal_key rows n m w h = keys_same rows false false m n (length rows) (λ t lt. masked_equal (get_or rows t []) m n (w.each t) (row_passes rows (λ s. same_value (at s m) (at s n)) t h lt))

pub opposite_key : (rows : List (List ℕ)) (n m : ℕ) → AreWords rows → are_opposite (in_all_rows rows) n m ≡ true → column_key rows false m (length rows) ≡ column_key rows true n (length rows)
opposite_key rows n m w h = keys_same rows false true m n (length rows) (λ t lt. masked_opposite (get_or rows t []) m n (w.each t) (row_passes rows (λ s. same_value (at s m) (not (at s n))) t h lt))

-- the first of a list that passes, as a loop finds it
pub find_step : (p : ℕ → Bool) (xs : List ℕ) (i d : ℕ) → i < length xs → p (get_or xs i d) ≡ false → find p (drop (i + 1) xs) ≡ find p (drop i xs)
find_step p xs i d lt h = sym (ap (find p) (drop_more xs i d lt) ∙ rw h refl)

pub find_found : (p : ℕ → Bool) (xs : List ℕ) (i d : ℕ) → i < length xs → p (get_or xs i d) ≡ true → Some (get_or xs i d) ≡ find p (drop i xs)
find_found p xs i d lt h = sym (ap (find p) (drop_more xs i d lt) ∙ rw h refl)

pub find_none : (p : ℕ → Bool) (xs : List ℕ) (i : ℕ) → length xs ≤ i → None ≡ find p (drop i xs)
find_none p xs i le = sym (ap (find p) (drop_all i xs le))

-- the first of those that pass a weaker test is the least of all
find_filter : (p q : ℕ → Bool) (m count : ℕ) → ((k : ℕ) → p k ≡ true → q k ≡ true) → find p (filter q (range_with_len m count)) ≡ least_from p m count
find_filter p q m zero h = refl
find_filter p q m (suc count) h = by_tests p q m count (p m) (q m) refl refl (h m) (find_filter p q (m + 1) count h)
  where
    by_tests : (p q : ℕ → Bool) (m count : ℕ) (a b : Bool) → p m ≡ a → q m ≡ b → (p m ≡ true → q m ≡ true) → find p (filter q (range_with_len (m + 1) count)) ≡ least_from p (m + 1) count → find p (cond (q m) (m ∷ filter q (range_with_len (m + 1) count)) (filter q (range_with_len (m + 1) count))) ≡ cond (p m) (Some m) (least_from p (m + 1) count)
    by_tests p q m count true true e f h r = rw (f, e) refl
    by_tests p q m count true false e f h r = absurd (true≢false (sym (h e) ∙ f))
    by_tests p q m count false true e f h r = rw (f, e) r
    by_tests p q m count false false e f h r = rw (f, e) r

least_before : (p : ℕ → Bool) (m count : ℕ) → IfSome (least_from p m count) (λ k. k < m + count)
least_before p m zero = tt
least_before p m (suc count) = by_test p m count (p m) (least_before p (m + 1) count)
  where
    weaker : (r : Option ℕ) (a b : ℕ) → a ≡ b → IfSome r (λ k. k < a) → IfSome r (λ k. k < b)
    weaker None a b e h = tt
    weaker (Some k) a b e h = omega arith

    by_test : (p : ℕ → Bool) (m count : ℕ) (b : Bool) → IfSome (least_from p (m + 1) count) (λ k. k < m + 1 + count) → IfSome (cond b (Some m) (least_from p (m + 1) count)) (λ k. k < m + suc count)
    by_test p m count true h = omega arith
    by_test p m count false h = weaker (least_from p (m + 1) count) (m + 1 + count) (m + suc count) (omega arith) h

pub least_within : (p : ℕ → Bool) (n : ℕ) (r : Option ℕ) → r ≡ least_from p 1 (n - 1) → IfSome r (λ k. k < n)
least_within p zero r e = rw e tt
least_within p (suc n) r e = let same : 1 + (suc n - 1) ≡ suc n = omega arith in rw e (subst (λ (b : ℕ). IfSome (least_from p 1 (suc n - 1)) (λ k. k < b)) same (least_before p 1 (suc n - 1)))

pub equal_found : (rows : List (List ℕ)) (size n place : ℕ) (lists : List (List ℕ)) → AreWords rows → AreColumns rows size n lists → place < size → place ≡ column_place rows size false n → find (are_equal (in_all_rows rows) n) (get_or lists place []) ≡ least_from (are_equal (in_all_rows rows) n) 1 (n - 1)
equal_found rows size n place lists w c lt e =
    ap (find (are_equal (in_all_rows rows) n)) (c.each place lt)
    ∙ find_filter (are_equal (in_all_rows rows) n) (λ m. eqb (column_place rows size false m) place) 1 (n - 1) (λ k h. eq-eqb (column_place rows size false k) place (ap (λ (key : ℕ). key % size) (equal_key rows n k w h) ∙ sym e))

pub opposite_found : (rows : List (List ℕ)) (size n place : ℕ) (lists : List (List ℕ)) → AreWords rows → AreColumns rows size n lists → place < size → place ≡ column_place rows size true n → find (are_opposite (in_all_rows rows) n) (get_or lists place []) ≡ least_from (are_opposite (in_all_rows rows) n) 1 (n - 1)
opposite_found rows size n place lists w c lt e =
    ap (find (are_opposite (in_all_rows rows) n)) (c.each place lt)
    ∙ find_filter (are_opposite (in_all_rows rows) n) (λ m. eqb (column_place rows size false m) place) 1 (n - 1) (λ k h. eq-eqb (column_place rows size false k) place (ap (λ (key : ℕ). key % size) (opposite_key rows n k w h) ∙ sym e))

-- the list of a column
pub list_of : (lists : List (Vec ℕ Global)) (place : ℕ) (x : Vec ℕ Global) → place < length lists → (get_or lists place x).items ≡ get_or (map (λ (v : Vec ℕ Global). v.items) lists) place []
list_of lists place x lt = sym (get_or-map (λ (v : Vec ℕ Global). v.items) lists place x [] lt)

-- one latch more
range_push : (a n : ℕ) → range_with_len a (suc n) ≡ range_with_len a n ++ (a + n) ∷ []
range_push a zero = let e : a ≡ a + 0 = omega arith in ap (λ (k : ℕ). k ∷ []) e
range_push a (suc n) = let e : a + 1 + n ≡ a + suc n = omega arith in ap (λ (z : List ℕ). a ∷ z) (range_push (a + 1) n ∙ ap (λ (k : ℕ). range_with_len (a + 1) n ++ k ∷ []) e)

filter_more : (q : ℕ → Bool) (n : ℕ) → 1 ≤ n → filter q (range_with_len 1 (n + 1 - 1)) ≡ filter q (range_with_len 1 (n - 1)) ++ cond (q n) (n ∷ []) []
filter_more q n some =
    let e : n + 1 - 1 ≡ suc (n - 1) = omega arith in
    let f : 1 + (n - 1) ≡ n = omega arith in
    ap (λ (k : ℕ). filter q (range_with_len 1 k)) e ∙ (ap (filter q) (range_push 1 (n - 1)) ∙ (filter-append q (range_with_len 1 (n - 1)) ((1 + (n - 1)) ∷ []) ∙ ap (λ (k : ℕ). filter q (range_with_len 1 (n - 1)) ++ cond (q k) (k ∷ []) []) f))

append_none : (xs : List ℕ) → xs ≡ xs ++ []
append_none [] = refl
append_none (x ∷ xs) = ap (λ (z : List ℕ). x ∷ z) (append_none xs)

column_more : (rows : List (List ℕ)) (size n place : ℕ) (lists : List (List ℕ)) → AreColumns rows size n lists → 1 ≤ n → place < size → place ≡ column_place rows size false n → AreColumns rows size (n + 1) (set lists place (get_or lists place [] ++ n ∷ []))
column_more rows size n place lists c some lt e =
    let q : ℕ → ℕ → Bool = λ b m. eqb (column_place rows size false m) b in
    record {
      count = length-set lists place (get_or lists place [] ++ n ∷ []) ∙ c.count;
      each = λ b below. elim (cases_eq b place) [
        | inl same ↦
            let here : q b n ≡ true = eq-eqb (column_place rows size false n) b (sym e ∙ sym same) in
            ap (λ (k : ℕ). get_or (set lists place (get_or lists place [] ++ n ∷ [])) k []) same
            ∙ (get_or-set_same lists place (get_or lists place [] ++ n ∷ []) [] (omega (arith, c.count))
            ∙ (ap (λ (k : ℕ). get_or lists k [] ++ n ∷ []) (sym same)
            ∙ (ap (λ (z : List ℕ). z ++ n ∷ []) (c.each b below) ∙ sym (filter_more (q b) n some ∙ ap (λ (t : Bool). filter (q b) (range_with_len 1 (n - 1)) ++ cond t (n ∷ []) []) here))))
        | inr away ↦
            let none : q b n ≡ false = ne_eqb (column_place rows size false n) b (λ f. away (sym f ∙ sym e)) in
            get_or-set_other lists place b (get_or lists place [] ++ n ∷ []) [] away
            ∙ (c.each b below ∙ (append_none (filter (q b) (range_with_len 1 (n - 1))) ∙ sym (filter_more (q b) n some ∙ ap (λ (t : Bool). filter (q b) (range_with_len 1 (n - 1)) ++ cond t (n ∷ []) []) none)))
      ];
    }

pub column_push : (rows : List (List ℕ)) (size n place : ℕ) (lists : List (Vec ℕ Global)) (a x : Vec ℕ Global) → length lists ≡ size → AreColumns rows size n (map (λ (v : Vec ℕ Global). v.items) lists) → 1 ≤ n → place < size → place ≡ column_place rows size false n → a.items ≡ (get_or lists place x).items ++ n ∷ [] → AreColumns rows size (n + 1) (map (λ (v : Vec ℕ Global). v.items) (set lists place a))
column_push rows size n place lists a x count c some lt e pushed =
    let items : Vec ℕ Global → List ℕ = λ v. v.items in
    let there : a.items ≡ get_or (map items lists) place [] ++ n ∷ [] = pushed ∙ ap (λ (z : List ℕ). z ++ n ∷ []) (list_of lists place x (omega (arith, count))) in
    subst (AreColumns rows size (n + 1)) (sym (map-set items lists place a ∙ ap (λ (z : List ℕ). set (map items lists) place z) there)) (column_more rows size n place (map items lists) c some lt e)

-- no latch yet
none_at : (b size : ℕ) (d : List ℕ) → get_or (replicate size d) b d ≡ d
none_at b zero d = refl
none_at zero (suc size) d = refl
none_at (suc b) (suc size) d = none_at b size d

pub no_column : (rows : List (List ℕ)) (size : ℕ) (lists : List (List ℕ)) → length lists ≡ size → lists ≡ replicate size [] → AreColumns rows size 1 lists
no_column rows size lists count e = record { count = count; each = λ b lt. ap (λ (z : List (List ℕ)). get_or z b []) e ∙ none_at b size [] }

-- the key of one row more
pub key_none : (rows : List (List ℕ)) (inverted : Bool) (n : ℕ) → 0 ≡ column_key rows inverted n 0
key_none rows inverted n = refl

pub key_more : (rows : List (List ℕ)) (inverted : Bool) (n k key : ℕ) (row : List ℕ) → get_or rows k [] ≡ row → key ≡ column_key rows inverted n k → mixed key (masked inverted row n) ≡ column_key rows inverted n (k + 1)
key_more rows inverted n k key row is e =
    let next : suc k ≡ k + 1 = omega arith in
    ap (λ (z : ℕ). mixed z (masked inverted row n)) e ∙ (ap (λ (z : List ℕ). mixed (column_key rows inverted n k) (masked inverted z n)) (sym is) ∙ ap (column_key rows inverted n) next)

pub words_more : (rows : List (List ℕ)) (n : ℕ) (row : List ℕ) → get_or rows n [] ≡ row → ((i : ℕ) → get_or row i 0 < 2 ^ 64) → ((k i : ℕ) → k < n → get_or (get_or rows k []) i 0 < 2 ^ 64) → (k i : ℕ) → k < n + 1 → get_or (get_or rows k []) i 0 < 2 ^ 64
words_more rows n row is small h k i lt = elim (cases_eq k n) [
  | inl e ↦ subst (λ (z : List ℕ). get_or z i 0 < 2 ^ 64) (sym (ap (λ (j : ℕ). get_or rows j []) e ∙ is)) (small i)
  | inr away ↦ h k i (omega arith)
]

pub words_all : (rows : List (List ℕ)) (n : ℕ) → length rows ≤ n → ((k i : ℕ) → k < n → get_or (get_or rows k []) i 0 < 2 ^ 64) → AreWords rows
words_all rows n le h = record { each = λ k i. elim (cases_lt k n) [ inl lt ↦ h k i lt | inr past ↦ rw (get_or_past rows k [] (omega arith)) (omega arith) ] }

-- the same lists, given otherwise
pub columns_by : (rows : List (List ℕ)) (n : ℕ) (lists other : List (Vec ℕ Global)) → lists ≡ other → AreColumns rows (length other) n (map (λ (v : Vec ℕ Global). v.items) other) → AreColumns rows (length lists) n (map (λ (v : Vec ℕ Global). v.items) lists)
columns_by rows n lists other e c = subst (λ (z : List (Vec ℕ Global)). AreColumns rows (length z) n (map (λ (v : Vec ℕ Global). v.items) z)) (sym e) c

pub first_columns : (rows : List (List ℕ)) (size : ℕ) (lists : List (Vec ℕ Global)) → length lists ≡ size → ((others : List (List ℕ)) → AreColumns others size 1 (map (λ (v : Vec ℕ Global). v.items) lists)) → AreColumns rows (length lists) 1 (map (λ (v : Vec ℕ Global). v.items) lists)
first_columns rows size lists e c = subst (λ (z : ℕ). AreColumns rows z 1 (map (λ (v : Vec ℕ Global). v.items) lists)) (sym e) (c rows)
