-- Items in an order settle: each one's values stay as those after it run, since they drive neither what it reads nor what it drives.
use Rattle.std.proofs.Common.{◌≡◌, inr, ℕ, zero, suc, ◌+◌, ◌<◌, Bool, true, false, ◌||◌, List, [], ◌∷◌, Option, Some, None, slice_get, refl, sym, ◌∙◌, ap, arith}
use Rattle.std.specs.Prelude.{◌==◌}
use Rattle.std.proofs.lemmas.Bool.Decides.{nat_tests}
use Rattle.std.specs.List.{list_any}
use Rattle.flat_design.specs.declared.net.Net.{Net}
use Rattle.flat_design.specs.declared.item.FlatItem.{FlatItem}
use Rattle.flat_design.specs.Bits.{Values, Agree}
use Rattle.flat_design.specs.Flows.{Flow, idle}
use Rattle.flat_design.specs.Systems.{IsUnclocked, IsSettled, item_flow}
use Rattle.flat_design.proofs.Running.{item_has_flow}
use Rattle.flat_design.proofs.FlowLemmas.{or_left, or_right, none_left, none_right}
use Rattle.flat_orders.specs.Orders.{HaveNoLatch, HaveSingleDrivers, IsOrder, among, after_found, after_order}

-- ---- what the item of a number does

unfoldable pub flow_found : List Net → Option FlatItem → Flow
flow_found nets None = idle
flow_found nets (Some x) = item_flow nets x

abbrev pub flow_at : List Net → List FlatItem → ℕ → Flow
flow_at nets items k = flow_found nets (slice_get items k)

abbrev after_at : List Net → List FlatItem → ℕ → Values → Values
after_at nets items k v = after_found nets (slice_get items k) v

found_stays : (nets : List Net) (o : Option FlatItem) (v : Values) (i : ℕ) → (flow_found nets o).drives i ≡ false → after_found nets o v i ≡ v i
unfolding flow_found
found_stays nets None v i h = refl
found_stays nets (Some x) v i h = (item_has_flow nets x).stays (record { now = v; later = [] }) i h

found_same : (nets : List Net) (o : Option FlatItem) → ((i : ℕ) → (flow_found nets o).drives i ≡ true → (flow_found nets o).leaves i ≡ false) → (v w : Values) → Agree (flow_found nets o).reads v w → (i : ℕ) → (flow_found nets o).drives i ≡ true → after_found nets o v i ≡ after_found nets o w i
unfolding flow_found
found_same nets None complete v w agree i on = absurd (cc on)
found_same nets (Some x) complete v w agree i on = (item_has_flow nets x).same (record { now = v; later = [] }) (record { now = w; later = [] }) agree i (inr (complete i on))

-- an item that drives or reads is there
pub record IsThere (nets : List Net) (items : List FlatItem) (k : ℕ) : Type 0 where
  pub item : FlatItem
  pub found : slice_get items k ≡ Some item
  pub flow : flow_at nets items k ≡ item_flow nets item

there : (nets : List Net) (items : List FlatItem) (k i : ℕ) → (flow_at nets items k).drives i ≡ true → IsThere nets items k
unfolding flow_found
there nets items k i on = by (slice_get items k) refl where
  by : (o : Option FlatItem) → slice_get items k ≡ o → IsThere nets items k
  by None e = absurd (cc (sym on ∙ ap (λ o. (flow_found nets o).drives i) e))
  by (Some x) e = record { item = x; found = e; flow = ap (flow_found nets) e }

there_read : (nets : List Net) (items : List FlatItem) (k i : ℕ) → (flow_at nets items k).reads i ≡ true → IsThere nets items k
unfolding flow_found
there_read nets items k i on = by (slice_get items k) refl where
  by : (o : Option FlatItem) → slice_get items k ≡ o → IsThere nets items k
  by None e = absurd (cc (sym on ∙ ap (λ o. (flow_found nets o).reads i) e))
  by (Some x) e = record { item = x; found = e; flow = ap (flow_found nets) e }

flow_is : (nets : List Net) (items : List FlatItem) (k : ℕ) (x : FlatItem) → slice_get items k ≡ Some x → flow_at nets items k ≡ item_flow nets x
unfolding flow_found
flow_is nets items k x e = ap (flow_found nets) e

-- ---- lists of numbers

driven_by : List Net → List FlatItem → List ℕ → ℕ → Bool
driven_by nets items ks i = list_any (λ k. (flow_at nets items k).drives i) ks

pub record IsAt (ks : List ℕ) (f : ℕ → Bool) : Type 0 where
  pub place : ℕ
  pub number : ℕ
  pub at : slice_get ks place ≡ Some number
  pub holds : f number ≡ true

any_at : (ks : List ℕ) (f : ℕ → Bool) → list_any f ks ≡ true → IsAt ks f
any_at [] f h = absurd (cc h)
any_at (k ∷ ks) f h = by (f k) refl (λ h. any_at ks f h) where
  later : (x y : Bool) → x ≡ false → x || y ≡ true → y ≡ true
  later true y e h = absurd (cc e)
  later false y e h = h

  by : (b : Bool) → f k ≡ b → (list_any f ks ≡ true → IsAt ks f) → IsAt (k ∷ ks) f
  by true e rest = record { place = 0; number = k; at = refl; holds = e }
  by false e rest = let r : IsAt ks f = rest (later (f k) _ e h) in record { place = suc r.place; number = r.number; at = r.at; holds = r.holds }

pub any_from : (ks : List ℕ) (f : ℕ → Bool) (p k : ℕ) → slice_get ks p ≡ Some k → f k ≡ true → list_any f ks ≡ true
any_from [] f p k at h = absurd (cc at)
any_from (j ∷ ks) f zero k at h = let e : j ≡ k = cc at in or_left (f j) _ (ap f e ∙ h)
any_from (j ∷ ks) f (suc p) k at h = or_right (f j) _ (any_from ks f p k at h)

pub not_true : (b : Bool) → (b ≡ true → ⊥) → b ≡ false
not_true true h = absurd (h refl)
not_true false h = refl

-- ---- orders by their rest

AreRanked : List Net → List FlatItem → List ℕ → Type 0
AreRanked nets items [] = Unit {0}
AreRanked nets items (k ∷ ks) =
    ((i : ℕ) → (flow_at nets items k).reads i ≡ true → driven_by nets items (k ∷ ks) i ≡ false)
    × (((i : ℕ) → (flow_at nets items k).drives i ≡ true → driven_by nets items ks i ≡ false) × AreRanked nets items ks)

-- the rest of an order from a place on
abbrev IsRest : List ℕ → ℕ → List ℕ → Type 0
IsRest order p ks = (q k : ℕ) → slice_get ks q ≡ Some k → slice_get order (p + q) ≡ Some k

ranked_from : (nets : List Net) (items : List FlatItem) (order : List ℕ) → HaveSingleDrivers nets items → IsOrder nets items order → (p : ℕ) (ks : List ℕ) → IsRest order p ks → AreRanked nets items ks
unfolding AreRanked driven_by
ranked_from nets items order single is p [] rest = tt
ranked_from nets items order single is p (k ∷ ks) rest =
    (λ i on. not_true _ (reads_none i on), (λ i on. not_true _ (drives_none i on), ranked_from nets items order single is (p + 1) ks (λ q j at. ap (slice_get order) (omega arith) ∙ rest (suc q) j at))) where
      here : slice_get order p ≡ Some k
      here = ap (slice_get order) (omega arith) ∙ rest 0 k refl

      reads_none : (i : ℕ) → (flow_at nets items k).reads i ≡ true → list_any (λ k. (flow_at nets items k).drives i) (k ∷ ks) ≡ true → ⊥
      reads_none i on some =
          let a : IsAt (k ∷ ks) (λ k. (flow_at nets items k).drives i) = any_at (k ∷ ks) (λ k. (flow_at nets items k).drives i) some in
          let x : IsThere nets items k = there_read nets items k i on in
          let y : IsThere nets items a.number = there nets items a.number i a.holds in
          let below : p + a.place < p = is.after p (p + a.place) k a.number x.item y.item i here (rest a.place a.number a.at) x.found y.found (ap (λ f. f.reads i) (sym x.flow) ∙ on) (ap (λ f. f.drives i) (sym y.flow) ∙ a.holds) in
          omega arith

      drives_none : (i : ℕ) → (flow_at nets items k).drives i ≡ true → list_any (λ k. (flow_at nets items k).drives i) ks ≡ true → ⊥
      drives_none i on some =
          let a : IsAt ks (λ k. (flow_at nets items k).drives i) = any_at ks (λ k. (flow_at nets items k).drives i) some in
          let x : IsThere nets items k = there nets items k i on in
          let y : IsThere nets items a.number = there nets items a.number i a.holds in
          let same : k ≡ a.number = single.single k a.number x.item y.item i x.found y.found (ap (λ f. f.drives i) (sym x.flow) ∙ on) (ap (λ f. f.drives i) (sym y.flow) ∙ a.holds) in
          let one : p ≡ p + suc a.place = is.once p (p + suc a.place) k here (rest (suc a.place) a.number a.at ∙ ap Some (sym same)) in
          omega arith

-- ---- the solution

AreComplete : List Net → List FlatItem → List ℕ → Type 0
AreComplete nets items [] = Unit {0}
AreComplete nets items (k ∷ ks) = ((i : ℕ) → (flow_at nets items k).drives i ≡ true → (flow_at nets items k).leaves i ≡ false) × AreComplete nets items ks

AreSolved : List Net → List FlatItem → List ℕ → Values → Type 0
AreSolved nets items [] v = Unit {0}
AreSolved nets items (k ∷ ks) v = ((i : ℕ) → (flow_at nets items k).drives i ≡ true → after_at nets items k v i ≡ v i) × AreSolved nets items ks v

stays_all : (nets : List Net) (items : List FlatItem) (ks : List ℕ) (v : Values) (i : ℕ) → driven_by nets items ks i ≡ false → after_order nets items ks v i ≡ v i
unfolding driven_by
stays_all nets items [] v i h = refl
stays_all nets items (k ∷ ks) v i h = stays_all nets items ks (after_at nets items k v) i (none_right ((flow_at nets items k).drives i) _ h) ∙ found_stays nets (slice_get items k) v i (none_left ((flow_at nets items k).drives i) _ h)

solution : (nets : List Net) (items : List FlatItem) (ks : List ℕ) → AreComplete nets items ks → AreRanked nets items ks → (v : Values) → AreSolved nets items ks (after_order nets items ks v)
unfolding AreComplete AreRanked AreSolved
solution nets items [] complete ranked v = tt
solution nets items (k ∷ ks) complete ranked v = (
  λ i on. found_same nets (slice_get items k) complete.0 (after_order nets items (k ∷ ks) v) v (λ j r. stays_all nets items (k ∷ ks) v j (ranked.0 j r)) i on ∙ sym (stays_all nets items ks (after_at nets items k v) i (ranked.1.0 i on)),
  solution nets items ks complete.1 ranked.1.1 (after_at nets items k v),
)

only_solution : (nets : List Net) (items : List FlatItem) (ks : List ℕ) → AreComplete nets items ks → AreRanked nets items ks → (v w : Values) → AreSolved nets items ks w → ((i : ℕ) → driven_by nets items ks i ≡ false → v i ≡ w i) → (i : ℕ) → after_order nets items ks v i ≡ w i
unfolding AreComplete AreRanked AreSolved driven_by
only_solution nets items [] complete ranked v w solved base i = base i refl
only_solution nets items (k ∷ ks) complete ranked v w solved base i =
    only_solution nets items ks complete.1 ranked.1.1 (after_at nets items k v) w solved.1 (λ i off. by i off ((flow_at nets items k).drives i) refl) i where
      by : (i : ℕ) → driven_by nets items ks i ≡ false → (b : Bool) → (flow_at nets items k).drives i ≡ b → after_at nets items k v i ≡ w i
      by i off true e = found_same nets (slice_get items k) complete.0 v w (λ j r. base j (ranked.0 j r)) i e ∙ solved.0 i e
      by i off false e = found_stays nets (slice_get items k) v i e ∙ base i (neither ((flow_at nets items k).drives i) (driven_by nets items ks i) e off) where
        neither : (x y : Bool) → x ≡ false → y ≡ false → x || y ≡ false
        neither true y h k = absurd (cc h)
        neither false y h k = k

-- ---- orders by number

order_complete : (nets : List Net) (items : List FlatItem) (order : List ℕ) → HaveNoLatch nets items → IsOrder nets items order → (p : ℕ) (ks : List ℕ) → IsRest order p ks → AreComplete nets items ks
unfolding AreComplete
order_complete nets items order latch is p [] rest = tt
order_complete nets items order latch is p (k ∷ ks) rest = (fixed, order_complete nets items order latch is (p + 1) ks (λ q j at. ap (slice_get order) (omega arith) ∙ rest (suc q) j at)) where
  here : slice_get order p ≡ Some k
  here = ap (slice_get order) (omega arith) ∙ rest 0 k refl

  fixed : (i : ℕ) → (flow_at nets items k).drives i ≡ true → (flow_at nets items k).leaves i ≡ false
  fixed i on =
      let x : IsThere nets items k = there nets items k i on in
      ap (λ f. f.leaves i) x.flow ∙ latch.complete k x.item i (x.found, is.only p k x.item here x.found) (ap (λ f. f.drives i) (sym x.flow) ∙ on)

settled_solved : (nets : List Net) (items : List FlatItem) (order : List ℕ) (base v : Values) → IsSettled nets items base v → IsOrder nets items order → (p : ℕ) (ks : List ℕ) → IsRest order p ks → AreSolved nets items ks v
unfolding AreSolved
settled_solved nets items order base v settled is p [] rest = tt
settled_solved nets items order base v settled is p (k ∷ ks) rest = (own, settled_solved nets items order base v settled is (p + 1) ks (λ q j at. ap (slice_get order) (omega arith) ∙ rest (suc q) j at)) where
  here : slice_get order p ≡ Some k
  here = ap (slice_get order) (omega arith) ∙ rest 0 k refl

  own : (i : ℕ) → (flow_at nets items k).drives i ≡ true → after_at nets items k v i ≡ v i
  own i on =
      let x : IsThere nets items k = there nets items k i on in
      ap (λ o. after_found nets o v i) x.found ∙ settled.holds k x.item (x.found, is.only p k x.item here x.found) i (ap (λ f. f.drives i) (sym x.flow) ∙ on)

solved_at : (nets : List Net) (items : List FlatItem) (ks : List ℕ) (v : Values) (p k : ℕ) → AreSolved nets items ks v → slice_get ks p ≡ Some k → (i : ℕ) → (flow_at nets items k).drives i ≡ true → after_at nets items k v i ≡ v i
unfolding AreSolved
solved_at nets items [] v p k solved at i on = absurd (cc at)
solved_at nets items (j ∷ ks) v zero k solved at i on = let e : j ≡ k = cc at in ap (λ k. after_at nets items k v i) (sym e) ∙ solved.0 i (ap (λ k. (flow_at nets items k).drives i) e ∙ on)
solved_at nets items (j ∷ ks) v (suc p) k solved at i on = solved_at nets items ks v p k solved.1 at i on

pub same_number : (j k : ℕ) → (j == k) ≡ true → j ≡ k
same_number j k h = grind (arith, nat_tests)

-- the place of a number that stands in a list
pub placed : (ks : List ℕ) (k : ℕ) → among k ks ≡ true → IsAt ks (λ j. j == k)
placed ks k h = any_at ks (λ j. j == k) h

order_rest : (order : List ℕ) → IsRest order 0 order
order_rest order q k at = ap (slice_get order) (omega arith) ∙ at

pub order_settles : (nets : List Net) (items : List FlatItem) (order : List ℕ) (base : Values) → HaveNoLatch nets items → HaveSingleDrivers nets items → IsOrder nets items order → IsSettled nets items base (after_order nets items order base)
unfolding driven_by
order_settles nets items order base latch single is = record {
  holds = λ k x un i on.
      let a : IsAt order (λ j. j == k) = placed order k (is.covers k x un) in
      let e : a.number ≡ k = same_number a.number k a.holds in
      ap (λ o. after_found nets o (after_order nets items order base) i) (sym un.0) ∙ solved_at nets items order (after_order nets items order base) a.place k (solution nets items order (order_complete nets items order latch is 0 order (order_rest order)) (ranked_from nets items order single is 0 order (order_rest order)) base) (a.at ∙ ap Some e) i (ap (λ f. f.drives i) (flow_is nets items k x un.0) ∙ on);
  rest = λ i out. stays_all nets items order base i (not_true _ (λ on.
      let a : IsAt order (λ k. (flow_at nets items k).drives i) = any_at order (λ k. (flow_at nets items k).drives i) on in
      let x : IsThere nets items a.number = there nets items a.number i a.holds in
      cc (sym (ap (λ f. f.drives i) (sym x.flow) ∙ a.holds) ∙ out a.number x.item (x.found, is.only a.place a.number x.item a.at x.found))));
}

pub one_settles : (nets : List Net) (items : List FlatItem) (order : List ℕ) (base v : Values) → HaveNoLatch nets items → HaveSingleDrivers nets items → IsOrder nets items order → IsSettled nets items base v → (i : ℕ) → v i ≡ after_order nets items order base i
unfolding driven_by
one_settles nets items order base v latch single is settled i =
    sym (only_solution nets items order (order_complete nets items order latch is 0 order (order_rest order)) (ranked_from nets items order single is 0 order (order_rest order)) base v (settled_solved nets items order base v settled is 0 order (order_rest order)) (λ i off. sym (settled.rest i (λ k x un. not_true _ (λ on. driven k x un i off on)))) i) where
      driven : (k : ℕ) (x : FlatItem) → IsUnclocked items k x → (i : ℕ) → list_any (λ k. (flow_at nets items k).drives i) order ≡ false → (item_flow nets x).drives i ≡ true → ⊥
      driven k x un i off on =
          let a : IsAt order (λ j. j == k) = placed order k (is.covers k x un) in
          let e : a.number ≡ k = same_number a.number k a.holds in
          let some : list_any (λ k. (flow_at nets items k).drives i) order ≡ true = any_from order (λ k. (flow_at nets items k).drives i) a.place k (a.at ∙ ap Some e) (ap (λ f. f.drives i) (flow_is nets items k x un.0) ∙ on) in
          cc (sym off ∙ some)

pub settles_alike : (nets : List Net) (items : List FlatItem) (order other : List ℕ) (base : Values) → HaveNoLatch nets items → HaveSingleDrivers nets items → IsOrder nets items order → IsOrder nets items other → (i : ℕ) → after_order nets items order base i ≡ after_order nets items other base i
settles_alike nets items order other base latch single is also i = one_settles nets items other base (after_order nets items order base) latch single also (order_settles nets items order base latch single is) i
