-- The search as a whole.
use Rattle.std.proofs.Common.{◌≡◌, ℕ, zero, suc, ◌+◌, ◌<◌, ◌≤◌, Bool, true, false, List, [], ◌∷◌, Some, slice_get, replicate, length, refl, sym, ◌∙◌, ap, subst, arith, ◌⊎◌, inl, inr}
use Rattle.std.specs.Prelude.{◌==◌}
use Rattle.std.proofs.lemmas.Bool.{cases_Bool}
use Rattle.std.proofs.lemmas.Bool.Decides.{nat_tests}
use Rattle.bit_base.specs.Operators.{count_of_true}
use Rattle.flat_sets.proofs.SetLemmas.{none_true}
use Rattle.flat_flows.specs.Tables.{in_table}
use Rattle.flat_loops.specs.Graphs.{Graph, leads, IsLoop}
use Rattle.flat_loops.proofs.SortLemmas.{count_within}
use Rattle.flat_loops.proofs.FeedLemmas.{inside, one_item}
use Rattle.flat_cycles.specs.declared.visit.Visit.{Visit}
use Rattle.flat_cycles.specs.Visits.{AreVisits, AreComing, IsDone, AreDone, HasGrown, IsWay}
use Rattle.flat_cycles.specs.Rounds.{IsRound, IsShut, StandOnce}

in_none : (n i : ℕ) → in_table (replicate n false) i ≡ false
in_none zero i = refl
in_none (suc n) zero = refl
in_none (suc n) (suc i) = in_none n i

pub none_visited : (graph : Graph) (first n : ℕ) (seen : List Bool) (visits : List Visit) → seen ≡ replicate n false → visits ≡ [] → AreVisits graph first seen visits
none_visited graph first n seen visits s v = subst (λ t. AreVisits graph first t visits) (sym s) (subst (λ l. AreVisits graph first (replicate n false) l) (sym v) (record {
  from = λ p v at. absurd (cc at);
  high = λ p v at. absurd (cc at);
  found = λ i on. absurd (cc (sym (in_none n i) ∙ on));
  listed = λ p v at. absurd (cc at);
  counted = sym (none_true n);
  once = λ p q v u at there same. absurd (cc at);
}))

pub coming : (graph : Graph) (first : ℕ) (seen : List Bool) (visits view : List Visit) → view ≡ visits → AreVisits graph first seen visits → AreComing graph first view
coming graph first seen visits view same are = subst (AreComing graph first) (sym same) (record { from = are.from; high = are.high; once = are.once })

pub few : (graph : Graph) (first : ℕ) (seen : List Bool) (visits : List Visit) → AreVisits graph first seen visits → length visits ≤ length seen
few graph first seen visits are = let c : length visits ≡ count_of_true seen = are.counted in let w : count_of_true seen ≤ length seen = count_within seen in omega arith

pub done_kept : (graph : Graph) (first : ℕ) (seen : List Bool) (visits : List Visit) (seen' : List Bool) (visits' : List Visit) (node : ℕ) → HasGrown seen visits seen' visits' → IsDone graph first seen node → IsDone graph first seen' node
done_kept graph first seen visits seen' visits' node grown done j on up = grown.kept j (done j on up)

get_back : {A : Type 0} (xs : List A) (p : ℕ) → p < length xs → (x : A) × (slice_get xs p ≡ Some x)
get_back [] p h = absurd (omega arith)
get_back (x ∷ xs) zero h = (x, refl)
get_back (x ∷ xs) (suc p) h = get_back xs p (omega arith)

-- the visit at the head is done too
pub done_more : (graph : Graph) (first : ℕ) (seen : List Bool) (visits : List Visit) (seen' : List Bool) (visits' : List Visit) (head node : ℕ) (u : Visit) → head < length visits → slice_get visits head ≡ Some u → u.node ≡ node → HasGrown seen visits seen' visits' → AreDone graph first seen visits head
    → IsDone graph first seen' node → AreDone graph first seen' visits' (head + 1)
done_more graph first seen visits seen' visits' head node u low at is grown before now p v here h = by (elim (cases_Bool (p == head)) [ inl on ↦ inl (grind (arith, nat_tests)) | inr off ↦ inr (grind (arith, nat_tests)) ]) where
  by : (p ≡ head) ⊎ (p < head) → IsDone graph first seen' v.node
  by (inl e) = let same : v ≡ u = one_item (slice_get visits' head) v u (sym (ap (slice_get visits') e) ∙ here) (grown.stays head u at) in subst (λ n. IsDone graph first seen' n) (sym (ap (λ (w : Visit). w.node) same ∙ is)) now
  by (inr less) =
      let o = get_back visits p (omega arith) in
      let same : v ≡ o.0 = one_item (slice_get visits' p) v o.0 here (grown.stays p o.0 o.1) in
      subst (λ (w : Visit). IsDone graph first seen' w.node) (sym same) (done_kept graph first seen visits seen' visits' o.0.node grown (before p o.0 o.1 less))

pub longer : (seen : List Bool) (visits : List Visit) (seen' : List Bool) (visits' : List Visit) (head : ℕ) → HasGrown seen visits seen' visits' → head < length visits → head < length visits'
longer seen visits seen' visits' head grown low = let o = get_back visits head low in inside visits' head o.0 (grown.stays head o.0 o.1)

pub no_round : (graph : Graph) (first : ℕ) (seen : List Bool) (visits : List Visit) (head : ℕ) → AreVisits graph first seen visits → IsDone graph first seen first → AreDone graph first seen visits head → length visits ≤ head → IsShut graph first
no_round graph first seen visits head are start done all = (λ i. in_table seen i, record { start = λ j on up. start j on up; step = step; out = out }) where
  step : (k j : ℕ) → in_table seen k ≡ true → leads graph k j ≡ true → first ≤ j → in_table seen j ≡ true
  step k j on l up =
      let f = are.found k on in
      let low : f.0 < length visits = inside visits f.0 f.1.0 f.1.1.0 in
      done f.0 f.1.0 f.1.1.0 (omega arith) j (subst (λ n. leads graph n j ≡ true) (sym f.1.1.1) l) up

  out : in_table seen first ≡ false
  out = elim (cases_Bool (in_table seen first)) [
    | inl on ↦ (let f = are.found first on in let h : first < f.1.0.node = are.high f.0 f.1.0 f.1.1.0 in let e : f.1.0.node ≡ first = f.1.1.1 in absurd (omega arith))
    | inr off ↦ off
  ]

pub round_is : (graph : Graph) (first : ℕ) (visits : List Visit) (place node : ℕ) (u : Visit) (way round : List ℕ) → slice_get visits place ≡ Some u → u.node ≡ node → leads graph node first ≡ true → IsWay graph first visits place way → round ≡ first ∷ way → IsRound graph first round
round_is graph first visits place node u way round at is back w made = record {
  rest = way;
  is = made;
  loop = subst (IsLoop graph) (sym made) (w.leads_on u first at (subst (λ n. leads graph n first ≡ true) (sym is) back));
  from = w.high;
  once = subst StandOnce (sym made) w.once;
}

pub own_round : (graph : Graph) (first : ℕ) (round : List ℕ) → round ≡ first ∷ [] → leads graph first first ≡ true → IsRound graph first round
own_round graph first round made back = record { rest = []; is = made; loop = subst (IsLoop graph) (sym made) back; from = tt; once = subst StandOnce (sym made) (refl, tt) }
