-- One visit more.
use Rattle.std.proofs.Common.{◌≡◌, ◌⊎◌, inl, inr, ℕ, zero, suc, ◌+◌, ◌<◌, ◌≤◌, Bool, true, false, List, [], ◌∷◌, ◌++◌, Option, Some, None, slice_get, slice_set, take, length, refl, sym, ◌∙◌, ap, subst, arith, add-one}
use Rattle.std.specs.Prelude.{◌==◌, slice_index_or}
use Rattle.std.proofs.lemmas.Bool.{cases_Bool}
use Rattle.std.proofs.lemmas.Bool.Decides.{nat_tests}
use Rattle.std.proofs.Math.Seq.{take-suc}
use Rattle.std.proofs.lemmas.List.{length-append, length-set}
use Rattle.bit_base.specs.Operators.{count_of_true}
use Rattle.flat_sets.proofs.SetLemmas.{count_more, was_out}
use Rattle.flat_flows.specs.Tables.{in_table}
use Rattle.flat_loops.specs.Graphs.{Graph, leads}
use Rattle.flat_orders.specs.Orders.{among}
use Rattle.flat_loops.proofs.SortLemmas.{itself, there_or_last}
use Rattle.flat_loops.proofs.FeedLemmas.{inside}
use Rattle.flat_cycles.specs.declared.visit.Visit.{Visit}
use Rattle.flat_cycles.specs.Visits.{IsFrom, AreVisits, IsSource, HasGrown}

set_same : (table : List Bool) (k : ℕ) → k < length table → in_table (slice_set table k true) k ≡ true
set_same [] k h = absurd (omega arith)
set_same (x ∷ table) zero h = refl
set_same (x ∷ table) (suc k) h = set_same table k (omega arith)

set_other : (table : List Bool) (k i : ℕ) → (k ≡ i → ⊥) → in_table (slice_set table k true) i ≡ in_table table i
set_other [] k i ne = refl
set_other (x ∷ table) zero zero ne = absurd (ne refl)
set_other (x ∷ table) zero (suc i) ne = refl
set_other (x ∷ table) (suc k) zero ne = refl
set_other (x ∷ table) (suc k) (suc i) ne = set_other table k i (λ e. ne (ap suc e))

one_or_other : (k i : ℕ) → (k ≡ i) ⊎ (k ≡ i → ⊥)
one_or_other k i = elim (cases_Bool (k == i)) [ inl on ↦ inl (grind (arith, nat_tests)) | inr off ↦ inr (λ e. cc (sym off ∙ ap (λ n. k == n) (sym e) ∙ itself k)) ]

set_kept : (table : List Bool) (k i : ℕ) → k < length table → in_table table i ≡ true → in_table (slice_set table k true) i ≡ true
set_kept table k i h on = by (one_or_other k i) where
  by : (k ≡ i) ⊎ (k ≡ i → ⊥) → in_table (slice_set table k true) i ≡ true
  by (inl e) = subst (λ n. in_table (slice_set table k true) n ≡ true) e (set_same table k h)
  by (inr ne) = set_other table k i ne ∙ on

still : {A : Type 0} (xs : List A) (y : A) (p : ℕ) (x : A) → slice_get xs p ≡ Some x → slice_get (xs ++ y ∷ []) p ≡ Some x
still [] y p x at = absurd (cc at)
still (z ∷ xs) y zero x at = at
still (z ∷ xs) y (suc p) x at = still xs y p x at

at_end : {A : Type 0} (xs : List A) (y : A) → slice_get (xs ++ y ∷ []) (length xs) ≡ Some y
at_end [] y = refl
at_end (z ∷ xs) y = at_end xs y

-- an entry of the longer list is one of the shorter, or the last
split_end : {A : Type 0} (xs : List A) (y : A) (p : ℕ) (x : A) → slice_get (xs ++ y ∷ []) p ≡ Some x → (slice_get xs p ≡ Some x) ⊎ ((p ≡ length xs) × (x ≡ y))
split_end [] y zero x at = inr (refl, cc at)
split_end [] y (suc p) x at = absurd (cc at)
split_end (z ∷ xs) y zero x at = inl at
split_end (z ∷ xs) y (suc p) x at = more (split_end xs y p x at) where
  more : (slice_get xs p ≡ Some x) ⊎ ((p ≡ length xs) × (x ≡ y)) → (slice_get (z ∷ xs) (suc p) ≡ Some x) ⊎ ((suc p ≡ length (z ∷ xs)) × (x ≡ y))
  more (inl a) = inl a
  more (inr e) = inr (ap suc e.0, e.1)

from_still : (graph : Graph) (first : ℕ) (visits : List Visit) (w : Visit) (p node : ℕ) (from : Option ℕ) → IsFrom graph first visits p node from → IsFrom graph first (visits ++ w ∷ []) p node from
from_still graph first visits w p node None h = h
from_still graph first visits w p node (Some q) h = (h.0, (still visits w q h.0 h.1.0, h.1.1))

pub grown_same : (seen : List Bool) (visits : List Visit) → HasGrown seen visits seen visits
grown_same seen visits = record { bound = refl; kept = λ i h. h; stays = λ p v h. h }

pub grown_more : (seen : List Bool) (visits : List Visit) (seen' seen'' : List Bool) (visits' visits'' : List Visit) (node : ℕ) (w : Visit) → HasGrown seen visits seen' visits' → node < length seen' → seen'' ≡ slice_set seen' node true → visits'' ≡ visits' ++ w ∷ [] → HasGrown seen visits seen'' visits''
grown_more seen visits seen' seen'' visits' visits'' node w grown low marked more = record {
  bound = ap length marked ∙ length-set seen' node true ∙ grown.bound;
  kept = λ i on. ap (λ t. in_table t i) marked ∙ set_kept seen' node i low (grown.kept i on);
  stays = λ p v at. ap (λ l. slice_get l p) more ∙ still visits' w p v (grown.stays p v at);
}

-- where a node comes from, by the one that was looked at
source_from : (graph : Graph) (first : ℕ) (visits : List Visit) (p source node : ℕ) (from : Option ℕ) → IsSource first visits source from → length visits ≤ p → leads graph source node ≡ true → IsFrom graph first visits p node from
source_from graph first visits p source node None is h on = subst (λ n. leads graph n node ≡ true) is on
source_from graph first visits p source node (Some q) is h on = (is.0, (is.1.0, (let low : q < length visits = inside visits q is.0 is.1.0 in omega arith, subst (λ n. leads graph n node ≡ true) (sym is.1.1) on)))

pub visits_more : (graph : Graph) (first source node : ℕ) (from : Option ℕ) (seen seen' : List Bool) (visits visits' : List Visit) → AreVisits graph first seen visits → IsSource first visits source from → leads graph source node ≡ true → first < node → node < length seen → in_table seen node ≡ false
    → seen' ≡ slice_set seen node true → visits' ≡ visits ++ record { node = node; from = from } ∷ [] → AreVisits graph first seen' visits'
visits_more graph first source node from seen seen' visits visits' are is on high low off marked more =
    subst (λ t. AreVisits graph first t visits') (sym marked) (subst (λ l. AreVisits graph first (slice_set seen node true) l) (sym more) (record { from = comes; high = above; found = found; listed = listed; counted = counted; once = single })) where
      w : Visit
      w = record { node = node; from = from }

      comes : (p : ℕ) (v : Visit) → slice_get (visits ++ record { node = node; from = from } ∷ []) p ≡ Some v → IsFrom graph first (visits ++ record { node = node; from = from } ∷ []) p v.node v.from
      comes p v at = by (split_end visits (record { node = node; from = from }) p v at) where
        by : (slice_get visits p ≡ Some v) ⊎ ((p ≡ length visits) × (v ≡ record { node = node; from = from })) → IsFrom graph first (visits ++ record { node = node; from = from } ∷ []) p v.node v.from
        by (inl a) = from_still graph first visits (record { node = node; from = from }) p v.node v.from (are.from p v a)
        by (inr e) = subst (λ (u : Visit). IsFrom graph first (visits ++ record { node = node; from = from } ∷ []) p u.node u.from) (sym e.1)
            (from_still graph first visits (record { node = node; from = from }) p node from (source_from graph first visits p source node from is (let h : p ≡ length visits = e.0 in omega arith) on))

      above : (p : ℕ) (v : Visit) → slice_get (visits ++ record { node = node; from = from } ∷ []) p ≡ Some v → first < v.node
      above p v at = by (split_end visits (record { node = node; from = from }) p v at) where
        by : (slice_get visits p ≡ Some v) ⊎ ((p ≡ length visits) × (v ≡ record { node = node; from = from })) → first < v.node
        by (inl a) = are.high p v a
        by (inr e) = subst (λ (u : Visit). first < u.node) (sym e.1) high

      found : (i : ℕ) → in_table (slice_set seen node true) i ≡ true → (p : ℕ) × ((v : Visit) × ((slice_get (visits ++ record { node = node; from = from } ∷ []) p ≡ Some v) × (v.node ≡ i)))
      found i h = by (one_or_other node i) where
        by : (node ≡ i) ⊎ (node ≡ i → ⊥) → (p : ℕ) × ((v : Visit) × ((slice_get (visits ++ record { node = node; from = from } ∷ []) p ≡ Some v) × (v.node ≡ i)))
        by (inl e) = (length visits, (record { node = node; from = from }, (at_end visits (record { node = node; from = from }), e)))
        by (inr ne) = let f = are.found i (sym (set_other seen node i ne) ∙ h) in (f.0, (f.1.0, (still visits (record { node = node; from = from }) f.0 f.1.0 f.1.1.0, f.1.1.1)))

      listed : (p : ℕ) (v : Visit) → slice_get (visits ++ record { node = node; from = from } ∷ []) p ≡ Some v → in_table (slice_set seen node true) v.node ≡ true
      listed p v at = by (split_end visits (record { node = node; from = from }) p v at) where
        by : (slice_get visits p ≡ Some v) ⊎ ((p ≡ length visits) × (v ≡ record { node = node; from = from })) → in_table (slice_set seen node true) v.node ≡ true
        by (inl a) = set_kept seen node v.node low (are.listed p v a)
        by (inr e) = subst (λ (u : Visit). in_table (slice_set seen node true) u.node ≡ true) (sym e.1) (set_same seen node low)

      counted : length (visits ++ record { node = node; from = from } ∷ []) ≡ count_of_true (slice_set seen node true)
      counted =
          let m : count_of_true (slice_set seen node true) ≡ count_of_true seen + 1 = count_more seen node (was_out seen node false low off) in
          let l : length (visits ++ record { node = node; from = from } ∷ []) ≡ length visits + 1 = length-append visits (record { node = node; from = from } ∷ []) in
          let c : length visits ≡ count_of_true seen = are.counted in
          omega arith

      single : (p q : ℕ) (v u : Visit) → slice_get (visits ++ record { node = node; from = from } ∷ []) p ≡ Some v → slice_get (visits ++ record { node = node; from = from } ∷ []) q ≡ Some u → v.node ≡ u.node → p ≡ q
      single p q v u at there same = by (split_end visits (record { node = node; from = from }) p v at) (split_end visits (record { node = node; from = from }) q u there) where
        by : (slice_get visits p ≡ Some v) ⊎ ((p ≡ length visits) × (v ≡ record { node = node; from = from })) → (slice_get visits q ≡ Some u) ⊎ ((q ≡ length visits) × (u ≡ record { node = node; from = from })) → p ≡ q
        by (inl a) (inl b) = are.once p q v u a b same
        by (inl a) (inr f) = absurd (cc (sym off ∙ subst (λ n. in_table seen n ≡ true) (same ∙ ap (λ (w : Visit). w.node) f.1) (are.listed p v a)))
        by (inr e) (inl b) = absurd (cc (sym off ∙ subst (λ n. in_table seen n ≡ true) (sym same ∙ ap (λ (w : Visit). w.node) e.1) (are.listed q u b)))
        by (inr e) (inr f) = e.0 ∙ sym f.0

more_bits : (bits : List ℕ) (i : ℕ) → i < length bits → take (i + 1) bits ≡ take i bits ++ slice_index_or bits i 0 ∷ []
more_bits bits i h = rw (add-one) (take-suc bits i 0 h)

source_stays : (first : ℕ) (seen : List Bool) (visits : List Visit) (seen' : List Bool) (visits' : List Visit) (node : ℕ) (from : Option ℕ) → HasGrown seen visits seen' visits' → IsSource first visits node from → IsSource first visits' node from
source_stays first seen visits seen' visits' node None grown is = is
source_stays first seen visits seen' visits' node (Some q) grown is = (is.0, (grown.stays q is.0 is.1.0, is.1.1))

-- what stands after one node of a row, when those before it are visited
pub record IsPast (graph : Graph) (first source : ℕ) (from : Option ℕ) (seen : List Bool) (visits : List Visit) (seen' : List Bool) (visits' : List Visit) (ks : List ℕ) : Type 0 where
  pub are : AreVisits graph first seen' visits'
  pub grown : HasGrown seen visits seen' visits'
  pub passed : (j : ℕ) → among j ks ≡ true → first ≤ j → in_table seen' j ≡ true

pub past_lower : (graph : Graph) (first source : ℕ) (from : Option ℕ) (seen : List Bool) (visits : List Visit) (seen' : List Bool) (visits' : List Visit) (row : List ℕ) (i : ℕ) → i < length row → slice_index_or row i 0 < first → IsPast graph first source from seen visits seen' visits' (take i row)
    → IsPast graph first source from seen visits seen' visits' (take (i + 1) row)
past_lower graph first source from seen visits seen' visits' row i h low past = record { are = past.are; grown = past.grown; passed = passed } where
  passed : (j : ℕ) → among j (take (i + 1) row) ≡ true → first ≤ j → in_table seen' j ≡ true
  passed j on high = by (there_or_last j (take i row) (slice_index_or row i 0) (sym (ap (among j) (more_bits row i h)) ∙ on)) where
    by : (among j (take i row) ≡ true) ⊎ (slice_index_or row i 0 ≡ j) → in_table seen' j ≡ true
    by (inl a) = past.passed j a high
    by (inr e) = absurd (omega arith)

pub past_noted : (graph : Graph) (first source : ℕ) (from : Option ℕ) (seen : List Bool) (visits : List Visit) (seen' seen'' : List Bool) (visits' visits'' : List Visit) (row : List ℕ) (i : ℕ) → i < length row → first < slice_index_or row i 0 → slice_index_or row i 0 < length seen'
    → leads graph source (slice_index_or row i 0) ≡ true → IsSource first visits source from
    → (in_table seen' (slice_index_or row i 0) ≡ true → (seen'' ≡ seen') × (visits'' ≡ visits'))
    → (in_table seen' (slice_index_or row i 0) ≡ false → (seen'' ≡ slice_set seen' (slice_index_or row i 0) true) × (visits'' ≡ visits' ++ record { node = slice_index_or row i 0; from = from } ∷ []))
    → IsPast graph first source from seen visits seen' visits' (take i row) → IsPast graph first source from seen visits seen'' visits'' (take (i + 1) row)
past_noted graph first source from seen visits seen' seen'' visits' visits'' row i h high low led is was new past = elim (cases_Bool (in_table seen' (slice_index_or row i 0))) [
  | inl on ↦ (let w = was on in record {
    are = subst (λ t. AreVisits graph first t visits'') (sym w.0) (subst (λ l. AreVisits graph first seen' l) (sym w.1) past.are);
    grown = subst (λ t. HasGrown seen visits t visits'') (sym w.0) (subst (λ l. HasGrown seen visits seen' l) (sym w.1) past.grown);
    passed = passed seen'' (λ j k. ap (λ t. in_table t j) w.0 ∙ k) (ap (λ t. in_table t (slice_index_or row i 0)) w.0 ∙ on);
  })
  | inr off ↦ (let n = new off in record {
    are = visits_more graph first source (slice_index_or row i 0) from seen' seen'' visits' visits'' past.are (source_stays first seen visits seen' visits' source from past.grown is) led high low off n.0 n.1;
    grown = grown_more seen visits seen' seen'' visits' visits'' (slice_index_or row i 0) (record { node = slice_index_or row i 0; from = from }) past.grown low n.0 n.1;
    passed = passed seen'' (λ j k. ap (λ t. in_table t j) n.0 ∙ set_kept seen' (slice_index_or row i 0) j low k) (ap (λ t. in_table t (slice_index_or row i 0)) n.0 ∙ set_same seen' (slice_index_or row i 0) low);
  })
] where
  passed : (now : List Bool) → ((j : ℕ) → in_table seen' j ≡ true → in_table now j ≡ true) → in_table now (slice_index_or row i 0) ≡ true → (j : ℕ) → among j (take (i + 1) row) ≡ true → first ≤ j → in_table now j ≡ true
  passed now kept here j on up = by (there_or_last j (take i row) (slice_index_or row i 0) (sym (ap (among j) (more_bits row i h)) ∙ on)) where
    by : (among j (take i row) ≡ true) ⊎ (slice_index_or row i 0 ≡ j) → in_table now j ≡ true
    by (inl a) = kept j (past.passed j a up)
    by (inr e) = subst (λ n. in_table now n ≡ true) e here
