-- Places fall along a chain of items, and closed sets keep it.
use Rattle.std.proofs.Common.{◌≡◌, ◌⊎◌, inl, inr, ℕ, zero, suc, ◌<◌, Bool, true, false, List, [], ◌∷◌, ◌++◌, Some, slice_get, length, refl, sym, ◌∙◌, ap, subst, arith}
use Rattle.std.specs.Prelude.{◌==◌}
use Rattle.std.proofs.lemmas.Bool.Decides.{nat_tests}
use Rattle.flat_design.specs.declared.net.Net.{Net}
use Rattle.flat_design.specs.declared.item.FlatItem.{FlatItem}
use Rattle.flat_design.specs.Systems.{IsUnclocked, is_clocked}
use Rattle.flat_orders.specs.Orders.{IsOrder, among}
use Rattle.flat_orders.specs.Cycles.{Feeds, LeadsTo, IsCycle, AllFrom, IsClosedFrom, IsClosedOrder}
use Rattle.flat_orders.proofs.Settling.{IsAt, placed, same_number, any_from}

-- ---- orders

pub record IsBelow (order : List ℕ) (j p : ℕ) : Type 0 where
  pub place : ℕ
  pub at : slice_get order place ≡ Some j
  pub below : place < p

fed_below : (nets : List Net) (items : List FlatItem) (order : List ℕ) → IsOrder nets items order → (k j p : ℕ) → slice_get order p ≡ Some k → Feeds nets items k j → IsBelow order j p
fed_below nets items order is k j p at feeds =
    let a : IsAt order (λ l. l == j) = placed order j (is.covers j feeds.driver feeds.is_driver) in
    let here : slice_get order a.place ≡ Some j = a.at ∙ ap Some (same_number a.number j a.holds) in
    record { place = a.place; at = here; below = is.after p a.place k j feeds.reader feeds.driver feeds.bit at here feeds.is_reader.0 feeds.is_driver.0 feeds.reads feeds.drives }

falls : (nets : List Net) (items : List FlatItem) (order : List ℕ) → IsOrder nets items order → (k : ℕ) (ks : List ℕ) (last p : ℕ) → slice_get order p ≡ Some k → LeadsTo nets items k ks last → IsBelow order last p
falls nets items order is k [] last p at leads = fed_below nets items order is k last p at leads
falls nets items order is k (j ∷ js) last p at leads =
    let b = fed_below nets items order is k j p at leads.0 in
    let c = falls nets items order is j js last b.place b.at leads.1 in
    record { place = c.place; at = c.at; below = lower c.place b.place p c.below b.below } where
      lower : (a b c : ℕ) → a < b → b < c → a < c
      lower a b c h k = omega arith

first_reader : (nets : List Net) (items : List FlatItem) (k : ℕ) (ks : List ℕ) (last : ℕ) → LeadsTo nets items k ks last → (x : FlatItem) × IsUnclocked items k x
first_reader nets items k [] last leads = (leads.reader, leads.is_reader)
first_reader nets items k (j ∷ js) last leads = (leads.0.reader, leads.0.is_reader)

pub order_excludes_cycle : (nets : List Net) (items : List FlatItem) (order ks : List ℕ) → IsOrder nets items order → IsCycle nets items ks → ⊥
order_excludes_cycle nets items order [] is cycle = cycle
order_excludes_cycle nets items order (k ∷ ks) is cycle =
    let x = first_reader nets items k ks k cycle in
    let a : IsAt order (λ l. l == k) = placed order k (is.covers k x.0 x.1) in
    let here : slice_get order a.place ≡ Some k = a.at ∙ ap Some (same_number a.number k a.holds) in
    let b : IsBelow order k a.place = falls nets items order is k ks k a.place here cycle in
    let one : b.place ≡ a.place = is.once b.place a.place k b.at here in
    omega arith

-- ---- closed sets

kept_in : (nets : List Net) (items : List FlatItem) (first : ℕ) (set : ℕ → Bool) → IsClosedFrom nets items first set → (k : ℕ) (ks : List ℕ) → set k ≡ true → AllFrom first ks → LeadsTo nets items k ks first → set first ≡ true
kept_in nets items first set closed k [] on from leads = closed.step k first on leads (omega arith)
kept_in nets items first set closed k (j ∷ js) on from leads = kept_in nets items first set closed j js (closed.step k j on leads.0 from.0) from.1 leads.1

pub closed_excludes_cycle : (nets : List Net) (items : List FlatItem) (first : ℕ) (ks : List ℕ) (set : ℕ → Bool) → IsClosedFrom nets items first set → AllFrom first ks → IsCycle nets items (first ∷ ks) → ⊥
closed_excludes_cycle nets items first [] set closed from cycle = cc (sym closed.out ∙ closed.start first cycle (omega arith))
closed_excludes_cycle nets items first (j ∷ js) set closed from cycle = cc (sym closed.out ∙ kept_in nets items first set closed j js (closed.start j cycle.0 from.0) from.1 cycle.1)

-- ---- one more item

at_end : (ks : List ℕ) (n : ℕ) → slice_get (ks ++ n ∷ []) (length ks) ≡ Some n
at_end [] n = refl
at_end (k ∷ ks) n = at_end ks n

-- an entry of the longer list is one of the shorter, or the last
pub record IsLast (ks : List ℕ) (n p k : ℕ) : Type 0 where
  pub place : p ≡ length ks
  pub number : k ≡ n

split_end : (ks : List ℕ) (n p k : ℕ) → slice_get (ks ++ n ∷ []) p ≡ Some k → ((slice_get ks p ≡ Some k) × (p < length ks)) ⊎ IsLast ks n p k
split_end [] n zero k at = inr (record { place = refl; number = cc at })
split_end [] n (suc p) k at = absurd (cc at)
split_end (j ∷ ks) n zero k at = inl (at, omega arith)
split_end (j ∷ ks) n (suc p) k at = more (split_end ks n p k at) where
  more : ((slice_get ks p ≡ Some k) × (p < length ks)) ⊎ IsLast ks n p k → ((slice_get ks p ≡ Some k) × (suc p < suc (length ks))) ⊎ IsLast (j ∷ ks) n (suc p) k
  more (inl a) = inl (a.0, let h = a.1 in omega arith)
  more (inr l) = inr (record { place = ap suc l.place; number = l.number })

still : (ks : List ℕ) (n p k : ℕ) → slice_get ks p ≡ Some k → slice_get (ks ++ n ∷ []) p ≡ Some k
still [] n p k at = absurd (cc at)
still (j ∷ ks) n zero k at = at
still (j ∷ ks) n (suc p) k at = still ks n p k at

within : (ks : List ℕ) (p k : ℕ) → slice_get ks p ≡ Some k → p < length ks
within [] p k at = absurd (cc at)
within (j ∷ ks) zero k at = omega arith
within (j ∷ ks) (suc p) k at = let h = within ks p k at in omega arith

itself : (k : ℕ) → (k == k) ≡ true
itself k = grind (arith, nat_tests)

not_there : (ks : List ℕ) (n p : ℕ) → among n ks ≡ false → slice_get ks p ≡ Some n → ⊥
not_there ks n p out at = cc (sym out ∙ any_from ks (λ j. j == n) p n at (itself n))

pub one_more : (nets : List Net) (items : List FlatItem) (order : List ℕ) (n : ℕ) → IsClosedOrder nets items order → among n order ≡ false → ((x : FlatItem) → slice_get items n ≡ Some x → is_clocked x ≡ false)
    → ((j : ℕ) → Feeds nets items n j → among j order ≡ true) → IsClosedOrder nets items (order ++ n ∷ [])
one_more nets items order n closed out unclocked fed = record {
  only = λ p k x at found. only k x found (split_end order n p k at);
  once = λ p q k at also. once p q k (split_end order n p k at) (split_end order n q k also);
  before = λ p k j at feeds. before p k j feeds (split_end order n p k at);
} where
  only : (k : ℕ) (x : FlatItem) → slice_get items k ≡ Some x → {p : ℕ} → ((slice_get order p ≡ Some k) × (p < length order)) ⊎ IsLast order n p k → is_clocked x ≡ false
  only k x found {p} (inl a) = closed.only p k x a.0 found
  only k x found (inr l) = unclocked x (ap (slice_get items) (sym l.number) ∙ found)

  once : (p q k : ℕ) → ((slice_get order p ≡ Some k) × (p < length order)) ⊎ IsLast order n p k → ((slice_get order q ≡ Some k) × (q < length order)) ⊎ IsLast order n q k → p ≡ q
  once p q k (inl a) (inl b) = closed.once p q k a.0 b.0
  once p q k (inl a) (inr l) = absurd (not_there order n p out (a.0 ∙ ap Some l.number))
  once p q k (inr l) (inl b) = absurd (not_there order n q out (b.0 ∙ ap Some l.number))
  once p q k (inr l) (inr m) = l.place ∙ sym m.place

  before : (p k j : ℕ) → Feeds nets items k j → ((slice_get order p ≡ Some k) × (p < length order)) ⊎ IsLast order n p k → (q : ℕ) × ((slice_get (order ++ n ∷ []) q ≡ Some j) × (q < p))
  before p k j feeds (inl a) = let b = closed.before p k j a.0 feeds in (b.0, (still order n b.0 j b.1.0, b.1.1))
  before p k j feeds (inr l) =
      let a : IsAt order (λ i. i == j) = placed order j (fed j (subst (λ k. Feeds nets items k j) l.number feeds)) in
      let here : slice_get order a.place ≡ Some j = a.at ∙ ap Some (same_number a.number j a.holds) in
      let low : a.place < length order = within order a.place j here in
      let end_ : p ≡ length order = l.place in
      (a.place, (still order n a.place j here, omega arith))

-- ---- closed orders

pub closed_is_order : (nets : List Net) (items : List FlatItem) (order : List ℕ) → IsClosedOrder nets items order → ((k : ℕ) (x : FlatItem) → IsUnclocked items k x → among k order ≡ true) → IsOrder nets items order
closed_is_order nets items order closed all = record {
  covers = all;
  only = closed.only;
  once = closed.once;
  after = λ p q k j x y i at also found driven reads drives.
      let b = closed.before p k j at (record { reader = x; driver = y; bit = i; is_reader = (found, closed.only p k x at found); is_driver = (driven, closed.only q j y also driven); reads = reads; drives = drives }) in
      let same : b.0 ≡ q = closed.once b.0 q j b.1.0 also in
      subst (λ q. q < p) same b.1.1;
}
