-- Tables of drivers, and what they pass on.
use Rattle.std.proofs.Common.{◌≡◌, ◌⊎◌, inl, inr, ℕ, zero, suc, ◌+◌, ◌<◌, ◌≤◌, true, false, List, [], ◌∷◌, ◌++◌, take, length, get_or, Some, slice_get, refl, sym, ◌∙◌, ap, subst, arith, add-one}
use Rattle.std.specs.Prelude.{◌==◌, Option, if◌then◌else◌, slice_index_or}
use Rattle.std.proofs.Math.Seq.{take-suc}
use Rattle.std.proofs.lemmas.Bool.{cases_Bool}
use Rattle.std.proofs.lemmas.Bool.Decides.{nat_tests}
use Rattle.flat_design.specs.declared.net.Net.{Net}
use Rattle.flat_design.specs.declared.item.FlatItem.{FlatItem}
use Rattle.flat_design.specs.Systems.{IsUnclocked, is_clocked, item_flow}
use Rattle.flat_orders.specs.Orders.{among, HaveSingleDrivers}
use Rattle.flat_orders.specs.Cycles.{Feeds}
use Rattle.flat_loops.specs.Graphs.{Graph, leads, row_of}
use Rattle.flat_loops.specs.Feeding.{driver_at, IsDriver, AreDrivers, IsPassed, ArePassed, IsRowOf, AreFeeds, AreUnclocked}
use Rattle.flat_loops.proofs.SortLemmas.{still_there, last_there, there_or_last}

pub entry : {A : Type 0} (xs : List A) (k : ℕ) (x : A) → k < length xs → x ≡ get_or xs k x → slice_get xs k ≡ Some x
entry [] k x h is = absurd (omega arith)
entry (y ∷ xs) zero x h is = ap Some (sym is)
entry (y ∷ xs) (suc k) x h is = entry xs k x (omega arith) is

pub one_item : {A : Type 0} (o : Option A) (x y : A) → o ≡ Some x → o ≡ Some y → x ≡ y
one_item o x y p q = let e : Some x ≡ Some y = sym p ∙ q in cc e

-- an item more, which no clock starts
pub drivers_more : (nets : List Net) (items : List FlatItem) (k : ℕ) (x : FlatItem) (table table' : List (Option ℕ)) (members : List ℕ) → HaveSingleDrivers nets items → AreDrivers nets items k table → slice_get items k ≡ Some x → is_clocked x ≡ false
    → ((i : ℕ) → among i members ≡ (item_flow nets x).drives i) → ((i : ℕ) → driver_at table' i ≡ (if among i members then Some k else driver_at table i)) → AreDrivers nets items (k + 1) table'
drivers_more nets items k x table table' members single are there free driven noted = record { found = found; all = all } where
  here : (i : ℕ) → among i members ≡ true → driver_at table' i ≡ Some k
  here i on = noted i ∙ ap (λ b. if b then Some k else driver_at table i) on

  not_here : (i : ℕ) → among i members ≡ false → driver_at table' i ≡ driver_at table i
  not_here i off = noted i ∙ ap (λ b. if b then Some k else driver_at table i) off

  found : (i m : ℕ) → driver_at table' i ≡ Some m → IsDriver nets items m i
  found i m e = elim (cases_Bool (among i members)) [
    | inl on ↦ subst (λ n. IsDriver nets items n i) (one_item (driver_at table' i) k m (here i on) e) (record { item = x; is = (there, free); drives = sym (driven i) ∙ on })
    | inr off ↦ are.found i m (sym (not_here i off) ∙ e)
  ]

  by_number : (i m : ℕ) → (m ≡ k) ⊎ (m < k) → IsDriver nets items m i → driver_at table' i ≡ Some m
  by_number i m (inl e) d =
      let same : d.item ≡ x = one_item (slice_get items k) d.item x (sym (ap (slice_get items) e) ∙ d.is.0) there in
      here i (driven i ∙ ap (λ y. (item_flow nets y).drives i) (sym same) ∙ d.drives) ∙ ap Some (sym e)
  by_number i m (inr less) d = elim (cases_Bool (among i members)) [
    | inl on ↦ (let e : k ≡ m = single.single k m x d.item i there d.is.0 (sym (driven i) ∙ on) d.drives in absurd (omega arith))
    | inr off ↦ not_here i off ∙ are.all i m less d
  ]

  all : (i m : ℕ) → m < k + 1 → IsDriver nets items m i → driver_at table' i ≡ Some m
  all i m h d = by_number i m (elim (cases_Bool (m == k)) [ inl on ↦ inl (grind (arith, nat_tests)) | inr off ↦ inr (grind (arith, nat_tests)) ]) d

-- an item more, which a clock starts
pub drivers_same : (nets : List Net) (items : List FlatItem) (k : ℕ) (x : FlatItem) (table : List (Option ℕ)) → AreDrivers nets items k table → slice_get items k ≡ Some x → is_clocked x ≡ true → AreDrivers nets items (k + 1) table
drivers_same nets items k x table are there clocked = record { found = are.found; all = λ i m h d. by_number i m (elim (cases_Bool (m == k)) [ inl on ↦ inl (grind (arith, nat_tests)) | inr off ↦ inr (grind (arith, nat_tests)) ]) d } where
  by_number : (i m : ℕ) → (m ≡ k) ⊎ (m < k) → IsDriver nets items m i → driver_at table i ≡ Some m
  by_number i m (inl e) d =
      let same : d.item ≡ x = one_item (slice_get items k) d.item x (sym (ap (slice_get items) e) ∙ d.is.0) there in
      absurd (cc (sym clocked ∙ ap is_clocked (sym same) ∙ d.is.1))
  by_number i m (inr less) d = are.all i m less d

-- ---- the bits of a list

more_bits : (bits : List ℕ) (i : ℕ) → i < length bits → take (i + 1) bits ≡ take i bits ++ slice_index_or bits i 0 ∷ []
more_bits bits i h = rw (add-one) (take-suc bits i 0 h)

passed_on : (table : List (Option ℕ)) (bits : List ℕ) (bit k : ℕ) → IsPassed table bits k → IsPassed table (bits ++ bit ∷ []) k
passed_on table bits bit k p = record { bit = p.bit; there = still_there p.bit bits bit p.there; driver = p.driver }

pub passed_more : (table : List (Option ℕ)) (bits feeds feeds' : List ℕ) (i d : ℕ) → i < length bits → ArePassed table (take i bits) feeds → driver_at table (slice_index_or bits i 0) ≡ Some d → feeds' ≡ feeds ++ d ∷ [] → ArePassed table (take (i + 1) bits) feeds'
passed_more table bits feeds feeds' i d h are driver grown = subst (λ l. ArePassed table l feeds') (sym (more_bits bits i h)) (record { found = found; all = all }) where
  last : IsPassed table (take i bits ++ slice_index_or bits i 0 ∷ []) d
  last = record { bit = slice_index_or bits i 0; there = last_there (take i bits) (slice_index_or bits i 0); driver = driver }

  found : (k : ℕ) → among k feeds' ≡ true → IsPassed table (take i bits ++ slice_index_or bits i 0 ∷ []) k
  found k on = by (there_or_last k feeds d (sym (ap (among k) grown) ∙ on)) where
    by : (among k feeds ≡ true) ⊎ (d ≡ k) → IsPassed table (take i bits ++ slice_index_or bits i 0 ∷ []) k
    by (inl a) = passed_on table (take i bits) (slice_index_or bits i 0) k (are.found k a)
    by (inr e) = subst (IsPassed table (take i bits ++ slice_index_or bits i 0 ∷ [])) e last

  all : (k : ℕ) → IsPassed table (take i bits ++ slice_index_or bits i 0 ∷ []) k → among k feeds' ≡ true
  all k p = by (there_or_last p.bit (take i bits) (slice_index_or bits i 0) p.there) where
    by : (among p.bit (take i bits) ≡ true) ⊎ (slice_index_or bits i 0 ≡ p.bit) → among k feeds' ≡ true
    by (inl a) = ap (among k) grown ∙ still_there k feeds d (are.all k (record { bit = p.bit; there = a; driver = p.driver }))
    by (inr e) = let same : d ≡ k = one_item (driver_at table p.bit) d k (ap (driver_at table) (sym e) ∙ driver) p.driver in ap (among k) grown ∙ subst (λ n. among n (feeds ++ d ∷ []) ≡ true) same (last_there feeds d)

pub passed_none : (table : List (Option ℕ)) (bits feeds : List ℕ) (i : ℕ) → i < length bits → ArePassed table (take i bits) feeds → ((d : ℕ) → driver_at table (slice_index_or bits i 0) ≡ Some d → ⊥) → ArePassed table (take (i + 1) bits) feeds
passed_none table bits feeds i h are none = subst (λ l. ArePassed table l feeds) (sym (more_bits bits i h)) (record { found = λ k on. passed_on table (take i bits) (slice_index_or bits i 0) k (are.found k on); all = all }) where
  all : (k : ℕ) → IsPassed table (take i bits ++ slice_index_or bits i 0 ∷ []) k → among k feeds ≡ true
  all k p = by (there_or_last p.bit (take i bits) (slice_index_or bits i 0) p.there) where
    by : (among p.bit (take i bits) ≡ true) ⊎ (slice_index_or bits i 0 ≡ p.bit) → among k feeds ≡ true
    by (inl a) = are.all k (record { bit = p.bit; there = a; driver = p.driver })
    by (inr e) = absurd (none k (ap (driver_at table) e ∙ p.driver))

-- ---- one row more

row_before : (graph : Graph) (row : List ℕ) (m : ℕ) → m < length graph → row_of (graph ++ row ∷ []) m ≡ row_of graph m
row_before [] row m h = absurd (omega arith)
row_before (r ∷ graph) row zero h = refl
row_before (r ∷ graph) row (suc m) h = row_before graph row m (omega arith)

row_last : (graph : Graph) (row : List ℕ) → row_of (graph ++ row ∷ []) (length graph) ≡ row
row_last [] row = refl
row_last (r ∷ graph) row = row_last graph row

row_past : (graph : Graph) (row : List ℕ) (m : ℕ) → length graph < m → row_of (graph ++ row ∷ []) m ≡ []
row_past [] row zero h = absurd (omega arith)
row_past [] row (suc m) h = refl
row_past (r ∷ graph) row zero h = absurd (omega arith)
row_past (r ∷ graph) row (suc m) h = row_past graph row m (omega arith)

pub inside : {A : Type 0} (xs : List A) (k : ℕ) (x : A) → slice_get xs k ≡ Some x → k < length xs
inside [] k x at = absurd (cc at)
inside (y ∷ xs) zero x at = omega arith
inside (y ∷ xs) (suc k) x at = let h = inside xs k x at in omega arith

-- a number is below another, it, or above
order_of : (m k : ℕ) → (m < k) ⊎ ((m ≡ k) ⊎ (k < m))
order_of zero zero = inr (inl refl)
order_of zero (suc k) = inl (omega arith)
order_of (suc m) zero = inr (inr (omega arith))
order_of (suc m) (suc k) = more (order_of m k) where
  more : (m < k) ⊎ ((m ≡ k) ⊎ (k < m)) → (suc m < suc k) ⊎ ((suc m ≡ suc k) ⊎ (suc k < suc m))
  more (inl h) = inl (omega arith)
  more (inr (inl e)) = inr (inl (ap suc e))
  more (inr (inr h)) = inr (inr (omega arith))

pub graph_more : (nets : List Net) (items : List FlatItem) (k : ℕ) (x : FlatItem) (table : List (Option ℕ)) (graph graph' : Graph) (row : List ℕ) → AreFeeds nets items k graph → length graph ≡ k → slice_get items k ≡ Some x → AreDrivers nets items (length items) table
    → IsRowOf nets x table row → graph' ≡ graph ++ row ∷ [] → AreFeeds nets items (k + 1) graph'
graph_more nets items k x table graph graph' row are long there drivers is grown = record { found = λ m j on. found m j (order_of m k) on; all = λ m j h f. all m j (order_of m k) h f } where
  at_last : (m : ℕ) → m ≡ k → row_of graph' m ≡ row
  at_last m e = ap (row_of graph') (e ∙ sym long) ∙ ap (λ g. row_of g (length graph)) grown ∙ row_last graph row

  at_before : (m : ℕ) → m < k → row_of graph' m ≡ row_of graph m
  at_before m h = ap (λ g. row_of g m) grown ∙ row_before graph row m (omega arith)

  found : (m j : ℕ) → (m < k) ⊎ ((m ≡ k) ⊎ (k < m)) → leads graph' m j ≡ true → Feeds nets items m j
  found m j (inl h) on = are.found m j (sym (ap (among j) (at_before m h)) ∙ on)
  found m j (inr (inl e)) on =
      let f = is.found j (sym (ap (among j) (at_last m e)) ∙ on) in
      let d = drivers.found f.1.0 j f.1.1.1 in
      record { reader = x; driver = d.item; bit = f.1.0; is_reader = (ap (slice_get items) e ∙ there, f.0); is_driver = d.is; reads = f.1.1.0; drives = d.drives }
  found m j (inr (inr h)) on = let past : row_of graph' m ≡ [] = ap (λ g. row_of g m) grown ∙ row_past graph row m (omega arith) in absurd (cc (sym (ap (among j) past) ∙ on))

  all : (m j : ℕ) → (m < k) ⊎ ((m ≡ k) ⊎ (k < m)) → m < k + 1 → Feeds nets items m j → leads graph' m j ≡ true
  all m j (inl h) low f = ap (among j) (at_before m h) ∙ are.all m j h f
  all m j (inr (inl e)) low f =
      let same : f.reader ≡ x = one_item (slice_get items k) f.reader x (sym (ap (slice_get items) e) ∙ f.is_reader.0) there in
      ap (among j) (at_last m e) ∙ is.all f.bit j (sym (ap is_clocked same) ∙ f.is_reader.1) (sym (ap (λ y. (item_flow nets y).reads f.bit) same) ∙ f.reads)
      (drivers.all f.bit j (inside items j f.driver f.is_driver.0) (record { item = f.driver; is = f.is_driver; drives = f.drives }))
  all m j (inr (inr h)) low f = absurd (omega arith)

-- ---- the items without a clock

pub record AreSoFar (items : List FlatItem) (bound : ℕ) (numbers : List ℕ) : Type 0 where
  pub found : (k : ℕ) → among k numbers ≡ true → (x : FlatItem) × IsUnclocked items k x
  pub all : (k : ℕ) (x : FlatItem) → k < bound → IsUnclocked items k x → among k numbers ≡ true

pub number_more : (items : List FlatItem) (n : ℕ) (x : FlatItem) (numbers numbers' : List ℕ) → AreSoFar items n numbers → slice_get items n ≡ Some x → is_clocked x ≡ false → numbers' ≡ numbers ++ n ∷ [] → AreSoFar items (n + 1) numbers'
number_more items n x numbers numbers' are there free grown = record {
  found = λ k on. found k (there_or_last k numbers n (sym (ap (among k) grown) ∙ on));
  all = λ k y h u. ap (among k) grown ∙ all k y (order_of k n) h u;
} where
  found : (k : ℕ) → (among k numbers ≡ true) ⊎ (n ≡ k) → (x : FlatItem) × IsUnclocked items k x
  found k (inl a) = are.found k a
  found k (inr e) = (x, (sym (ap (slice_get items) e) ∙ there, free))

  all : (k : ℕ) (y : FlatItem) → (k < n) ⊎ ((k ≡ n) ⊎ (n < k)) → k < n + 1 → IsUnclocked items k y → among k (numbers ++ n ∷ []) ≡ true
  all k y (inl less) h u = still_there k numbers n (are.all k y less u)
  all k y (inr (inl e)) h u = subst (λ m. among m (numbers ++ n ∷ []) ≡ true) (sym e) (last_there numbers n)
  all k y (inr (inr more)) h u = absurd (omega arith)

pub number_same : (items : List FlatItem) (n : ℕ) (x : FlatItem) (numbers : List ℕ) → AreSoFar items n numbers → slice_get items n ≡ Some x → is_clocked x ≡ true → AreSoFar items (n + 1) numbers
number_same items n x numbers are there clocked = record { found = are.found; all = λ k y h u. all k y (order_of k n) h u } where
  all : (k : ℕ) (y : FlatItem) → (k < n) ⊎ ((k ≡ n) ⊎ (n < k)) → k < n + 1 → IsUnclocked items k y → among k numbers ≡ true
  all k y (inl less) h u = are.all k y less u
  all k y (inr (inl e)) h u = let same : y ≡ x = one_item (slice_get items n) y x (sym (ap (slice_get items) e) ∙ u.0) there in absurd (cc (sym clocked ∙ sym (ap is_clocked same) ∙ u.1))
  all k y (inr (inr more)) h u = absurd (omega arith)

pub all_numbers : (items : List FlatItem) (n : ℕ) (numbers : List ℕ) → length items ≤ n → AreSoFar items n numbers → AreUnclocked items numbers
all_numbers items n numbers h are = record { found = are.found; all = λ k x u. are.all k x (let low = inside items k x u.0 in omega arith) u }
