-- The readers of a net with one item more.
use Rattle.std.proofs.Common.{◌≡◌, ◌⊎◌, inl, inr, ℕ, ◌+◌, ◌<◌, Bool, true, false, ◌==◌, List, [], Some, refl, sym, ◌∙◌, subst, eq-eqb, arith}
use Rattle.std.specs.Prelude.{slice_get, if◌then◌else◌}
use Rattle.std.proofs.lemmas.Bool.{cases_lt, eqb-true}
use Rattle.flat_design.specs.declared.net.Net.{Net}
use Rattle.flat_design.specs.declared.item.FlatItem.{FlatItem}
use Rattle.flat_design.specs.Systems.{item_flow}
use Rattle.flat_orders.specs.Orders.{among}
use Rattle.flat_offences.specs.Owners.{AreOwners}
use Rattle.flat_drives.specs.Listed.{nets_of}
use Rattle.flat_drives.proofs.Leasts.{from_list, to_list}
use Rattle.flat_races.specs.declared.readers.Readers.{Readers}
use Rattle.flat_races.specs.declared.readers.Readers.TheVariants as R
use Rattle.flat_races.specs.Races.{ReadsNet}
use Rattle.flat_races.specs.Readers.{Count, joined_by, readers_of, AreReaders}

pub either : (a : Bool) → (a ≡ true) ⊎ (a ≡ false)
either true = inl refl
either false = inr refl

pub differ : (b : Bool) → b ≡ true → b ≡ false → ⊥
differ b h k = cc

pub some_same : {A : Type 0} {a b : A} → Some a ≡ Some b → a ≡ b
some_same {A} {a} {b} e = cc

before_or_here : (k j : ℕ) → j < k + 1 → (j < k) ⊎ (j ≡ k)
before_or_here k j h = elim (cases_lt j k) [ inl less ↦ inl less | inr more ↦ inr (omega arith) ]

-- the numbers of a set below a bound
abbrev Below : (ℕ → Type 0) → ℕ → ℕ → Type 0
Below set bound j = (j < bound) × set j

-- one that isn't the number k
other_than : (set : ℕ → Type 0) (k m q : ℕ) → set k → set m → m < k → (j : ℕ) × ((j ≡ q → ⊥) × Below set (k + 1) j)
other_than set k m q here there less = elim (either (m == q)) [
  | inl same ↦ (k, ((λ e. let s : m ≡ q = eqb-true m q same in omega arith), (omega arith, here)))
  | inr out ↦ (m, ((λ e. differ (m == q) (eq-eqb m q e) out), (omega arith, there)))
]

pub count_more : (set : ℕ → Type 0) (k : ℕ) (r : Readers) → set k → Count (Below set k) r → Count (Below set (k + 1)) (joined_by k r)
count_more set k R.Nobody here h = ((omega arith, here), λ j g. elim (before_or_here k j g.0) [ inl less ↦ absurd (h j (less, g.1)) | inr same ↦ same ])
count_more set k (R.One m) here h = by (m == k) refl where
  by : (b : Bool) → m == k ≡ b → Count (Below set (k + 1)) (if b then R.One m else R.Several)
  by true e = let s : m ≡ k = eqb-true m k e in let less : m < k = h.0.0 in absurd (omega arith)
  by false e = λ q. other_than set k m q here h.0.1 h.0.0
count_more set k R.Several here h = λ q. let o = h q in (o.0, (o.1.0, (let less : o.0 < k = o.1.1.0 in omega arith, o.1.1.1)))

up : (set : ℕ → Type 0) (k j : ℕ) → Below set k j → Below set (k + 1) j
up set k j h = let less : j < k = h.0 in (omega arith, h.1)

down : (set : ℕ → Type 0) (k j : ℕ) → (set k → ⊥) → Below set (k + 1) j → Below set k j
down set k j none h = elim (before_or_here k j h.0) [ inl less ↦ (less, h.1) | inr same ↦ absurd (none (subst set same h.1)) ]

pub count_same : (set : ℕ → Type 0) (k : ℕ) (r : Readers) → (set k → ⊥) → Count (Below set k) r → Count (Below set (k + 1)) r
count_same set k R.Nobody none h = λ j g. h j (down set k j none g)
count_same set k (R.One m) none h = (up set k m h.0, λ j g. h.1 j (down set k j none g))
count_same set k R.Several none h = λ q. let o = h q in (o.0, (o.1.0, up set k o.0 o.1.1))

-- ---- the nets that an item reads

reads_of : (nets : List Net) (items : List FlatItem) (owners bits : List ℕ) (k n : ℕ) (x : FlatItem) → AreOwners nets owners → slice_get items k ≡ Some x → ((i : ℕ) → among i bits ≡ (item_flow nets x).reads i)
    → among n (nets_of owners bits) ≡ true → ReadsNet nets items k n
reads_of nets items owners bits k n x own at is h = let f = from_list owners bits n h in record { item = x; is = at; bit = f.bit; inside = own.only f.bit n f.at; reads = sym (is f.bit) ∙ f.is }

of_reads : (nets : List Net) (items : List FlatItem) (owners bits : List ℕ) (k n : ℕ) (x : FlatItem) → AreOwners nets owners → slice_get items k ≡ Some x → ((i : ℕ) → among i bits ≡ (item_flow nets x).reads i)
    → ReadsNet nets items k n → among n (nets_of owners bits) ≡ true
of_reads nets items owners bits k n x own at is h =
    to_list owners bits h.bit n (own.all h.bit n h.inside) (is h.bit ∙ subst (λ y. (item_flow nets y).reads h.bit ≡ true) (some_same (sym h.is ∙ at)) h.reads)

pub more_readers : (nets : List Net) (items : List FlatItem) (owners bits : List ℕ) (k : ℕ) (x : FlatItem) (old new : List Readers) → AreOwners nets owners → slice_get items k ≡ Some x → ((i : ℕ) → among i bits ≡ (item_flow nets x).reads i)
    → ((n : ℕ) → readers_of new n ≡ (if among n (nets_of owners bits) then joined_by k (readers_of old n) else readers_of old n)) → AreReaders nets items k old → AreReaders nets items (k + 1) new
more_readers nets items owners bits k x old new own at is step h = λ n. subst (Count (Below (λ j. ReadsNet nets items j n) (k + 1))) (sym (step n)) (by n (among n (nets_of owners bits)) refl) where
  by : (n : ℕ) (b : Bool) → among n (nets_of owners bits) ≡ b → Count (Below (λ j. ReadsNet nets items j n) (k + 1)) (if b then joined_by k (readers_of old n) else readers_of old n)
  by n true e = count_more (λ j. ReadsNet nets items j n) k (readers_of old n) (reads_of nets items owners bits k n x own at is e) (h n)
  by n false e = count_same (λ j. ReadsNet nets items j n) k (readers_of old n) (λ r. differ _ (of_reads nets items owners bits k n x own at is r) e) (h n)

pub no_readers : (nets : List Net) (items : List FlatItem) → AreReaders nets items 0 []
no_readers nets items n j g = let less : j < 0 = g.0 in omega arith
