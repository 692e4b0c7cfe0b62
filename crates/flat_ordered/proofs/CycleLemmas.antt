-- Loops of the graph of items are cycles of them, and where no node begins a loop there is none.
use Rattle.std.proofs.Common.{◌≡◌, ◌⊎◌, inl, inr, ℕ, zero, suc, ◌<◌, ◌≤◌, Bool, true, List, [], ◌∷◌, ◌++◌, map, length, Some, slice_get, refl, sym, ◌∙◌, ap, subst, arith}
use Rattle.std.specs.Prelude.{nat_lt, nat_le}
use Rattle.std.proofs.lemmas.Bool.{cases_Bool}
use Rattle.std.proofs.lemmas.Bool.Decides.{nat_tests}
use Rattle.bit_base.specs.declared.place.Place.{Place}
use Rattle.bit_base.specs.Places.{is_before}
use Rattle.flat_design.specs.declared.net.Net.{Net}
use Rattle.flat_design.specs.declared.item.FlatItem.{FlatItem}
use Rattle.flat_design.specs.Systems.{place_of}
use Rattle.flat_orders.specs.Cycles.{LeadsTo, IsCycle, AllFrom, IsClosedFrom}
use Rattle.flat_orders.proofs.CycleLemmas.{closed_excludes_cycle}
use Rattle.flat_loops.specs.Graphs.{Graph, leads, LeadsOver, IsLoop}
use Rattle.flat_loops.specs.Feeding.{IsGraphOf}
use Rattle.flat_loops.proofs.FeedLemmas.{inside}
use Rattle.flat_cycles.specs.Rounds.{ShutsOut, IsShut}
use Rattle.flat_ordered.specs.declared.first.Best.{Best}
use Rattle.flat_ordered.specs.Bests.{Comes, IsBest, AreShut}
use Rattle.flat_ordered.specs.Firsts.{IsFirstCycle}

over_to : (nets : List Net) (items : List FlatItem) (graph : Graph) → IsGraphOf nets items graph → (k : ℕ) (ks : List ℕ) (last : ℕ) → LeadsOver graph k ks last → LeadsTo nets items k ks last
over_to nets items graph is k [] last h = is.feeds.found k last h
over_to nets items graph is k (j ∷ js) last h = (is.feeds.found k j h.0, over_to nets items graph is j js last h.1)

is_cycle : (nets : List Net) (items : List FlatItem) (graph : Graph) (ks : List ℕ) → IsGraphOf nets items graph → IsLoop graph ks → IsCycle nets items ks
is_cycle nets items graph [] is h = h
is_cycle nets items graph (k ∷ ks) is h = over_to nets items graph is k ks k h

-- ---- nodes that begin no loop

closed_from : (nets : List Net) (items : List FlatItem) (graph : Graph) (m : ℕ) (x : FlatItem) (shut : IsShut graph m) → IsGraphOf nets items graph → slice_get items m ≡ Some x → IsClosedFrom nets items m shut.0
closed_from nets items graph m x shut is there = record {
  start = λ j f up. shut.1.start j (is.feeds.all m j (inside items m x there) f) up;
  step = λ k j on f up. shut.1.step k j on (is.feeds.all k j (inside items k f.reader f.is_reader.0) f) up;
  out = shut.1.out;
}

pub shut_excludes : (nets : List Net) (items : List FlatItem) (graph : Graph) (m : ℕ) (x : FlatItem) (js : List ℕ) → IsShut graph m → IsGraphOf nets items graph → slice_get items m ≡ Some x → AllFrom m js → IsCycle nets items (m ∷ js) → ⊥
shut_excludes nets items graph m x js shut is there from cycle = closed_excludes_cycle nets items m js shut.0 (closed_from nets items graph m x shut is there) from cycle

-- ---- a loop has a least node, from which it comes back to it

-- the least of a list, with its place
pub record IsLeastOf (ks : List ℕ) (m : ℕ) : Type 0 where
  pub pre : List ℕ
  pub post : List ℕ
  pub is : ks ≡ pre ++ m ∷ post
  pub high : AllFrom m ks

lower_from : (m n : ℕ) (ks : List ℕ) → m ≤ n → AllFrom n ks → AllFrom m ks
lower_from m n [] h a = tt
lower_from m n (k ∷ ks) h a = (let u : n ≤ k = a.0 in omega arith, lower_from m n ks h a.1)

pub least_of : (k : ℕ) (ks : List ℕ) → (m : ℕ) × IsLeastOf (k ∷ ks) m
least_of k [] = (k, record { pre = []; post = []; is = refl; high = (omega arith, tt) })
least_of k (j ∷ js) = by (least_of j js) where
  lower : (m : ℕ) (r : IsLeastOf (j ∷ js) m) → k ≤ m → (n : ℕ) × IsLeastOf (k ∷ j ∷ js) n
  lower m r h = (k, record { pre = []; post = j ∷ js; is = refl; high = (omega arith, lower_from k m (j ∷ js) h r.high) })

  upper : (m : ℕ) (r : IsLeastOf (j ∷ js) m) → m ≤ k → (n : ℕ) × IsLeastOf (k ∷ j ∷ js) n
  upper m r h = (m, record { pre = k ∷ r.pre; post = r.post; is = ap (λ l. k ∷ l) r.is; high = (h, r.high) })

  by : (m : ℕ) × IsLeastOf (j ∷ js) m → (n : ℕ) × IsLeastOf (k ∷ j ∷ js) n
  by r = elim (cases_Bool (nat_le k r.0)) [ inl on ↦ lower r.0 r.1 (grind (arith, nat_tests)) | inr off ↦ upper r.0 r.1 (grind (arith, nat_tests)) ]

from_pre : (m : ℕ) (pre : List ℕ) (k : ℕ) (post : List ℕ) → AllFrom m (pre ++ k ∷ post) → AllFrom m pre
from_pre m [] k post a = tt
from_pre m (j ∷ pre) k post a = (a.0, from_pre m pre k post a.1)

from_post : (m : ℕ) (pre : List ℕ) (k : ℕ) (post : List ℕ) → AllFrom m (pre ++ k ∷ post) → AllFrom m post
from_post m [] k post a = a.1
from_post m (j ∷ pre) k post a = from_post m pre k post a.1

-- the way to the end goes over each node of it
split : (graph : Graph) (k : ℕ) (pre : List ℕ) (m : ℕ) (post : List ℕ) (last : ℕ) → LeadsOver graph k (pre ++ m ∷ post) last → LeadsOver graph k pre m × LeadsOver graph m post last
split graph k [] m post last h = (h.0, h.1)
split graph k (j ∷ pre) m post last h = let s = split graph j pre m post last h.1 in ((h.0, s.0), s.1)

-- from the node, or from one of the set, over nodes that aren't before it, each is in the set
run : (graph : Graph) (m : ℕ) (set : ℕ → Bool) → ShutsOut graph m set → (a : ℕ) (js : List ℕ) (last : ℕ) → (a ≡ m) ⊎ (set a ≡ true) → AllFrom m js → m ≤ last → LeadsOver graph a js last → set last ≡ true
run graph m set shut a [] last (inl e) from up h = shut.start last (subst (λ n. leads graph n last ≡ true) e h) up
run graph m set shut a [] last (inr on) from up h = shut.step a last on h up
run graph m set shut a (j ∷ js) last (inl e) from up h = run graph m set shut j js last (inr (shut.start j (subst (λ n. leads graph n j ≡ true) e h.0) from.0)) from.1 up h.1
run graph m set shut a (j ∷ js) last (inr on) from up h = run graph m set shut j js last (inr (shut.step a j on h.0 from.0)) from.1 up h.1

round_in : (graph : Graph) (k : ℕ) (ks : List ℕ) (m : ℕ) (pre post : List ℕ) → k ∷ ks ≡ pre ++ m ∷ post → AllFrom m (k ∷ ks) → LeadsOver graph k ks k → IsShut graph m → ⊥
round_in graph k ks m [] post is high h shut =
    let e : k ≡ m = cc is in
    cc (sym shut.1.out ∙ run graph m shut.0 shut.1 m ks m (inl refl) high.1 (omega arith) (subst (λ n. LeadsOver graph n ks n) e h))
round_in graph k ks m (j ∷ pre) post is high h shut =
    let e : ks ≡ pre ++ m ∷ post = cc is in
    let s = split graph k pre m post k (subst (λ l. LeadsOver graph k l k) e h) in
    let rest : AllFrom m (pre ++ m ∷ post) = subst (AllFrom m) e high.1 in
    let back : shut.0 k ≡ true = run graph m shut.0 shut.1 m post k (inl refl) (from_post m pre m post rest) high.0 s.1 in
    cc (sym shut.1.out ∙ run graph m shut.0 shut.1 k pre m (inr back) (from_pre m pre m post rest) (omega arith) s.0)

leads_inside : (graph : Graph) (bound : ℕ) → ((k j : ℕ) → leads graph k j ≡ true → j < bound) → (k : ℕ) (ks : List ℕ) (last : ℕ) → LeadsOver graph k ks last → (pre : List ℕ) (m : ℕ) (post : List ℕ) → ks ≡ pre ++ m ∷ post → m < bound
leads_inside graph bound bounded k [] last h [] m post e = absurd (cc e)
leads_inside graph bound bounded k [] last h (p ∷ pre) m post e = absurd (cc e)
leads_inside graph bound bounded k (j ∷ js) last h [] m post e = let s : j ≡ m = cc e in let b : j < bound = bounded k j h.0 in omega arith
leads_inside graph bound bounded k (j ∷ js) last h (p ∷ pre) m post e = leads_inside graph bound bounded j js last h.1 pre m post (cc e)

last_inside : (graph : Graph) (bound : ℕ) → ((k j : ℕ) → leads graph k j ≡ true → j < bound) → (k : ℕ) (ks : List ℕ) (last : ℕ) → LeadsOver graph k ks last → last < bound
last_inside graph bound bounded k [] last h = bounded k last h
last_inside graph bound bounded k (j ∷ js) last h = last_inside graph bound bounded j js last h.1

-- where no node begins a loop there is none
pub no_loop : (graph : Graph) (bound : ℕ) (ks : List ℕ) → ((k j : ℕ) → leads graph k j ≡ true → j < bound) → AreShut graph bound → IsLoop graph ks → ⊥
no_loop graph bound [] bounded shut h = h
no_loop graph bound (k ∷ ks) bounded shut h =
    let least = least_of k ks in
    round_in graph k ks least.0 least.1.pre least.1.post least.1.is least.1.high h (shut least.0 (below least.0 least.1.post least.1.pre least.1.is)) where
      below : (m : ℕ) (post pre : List ℕ) → k ∷ ks ≡ pre ++ m ∷ post → m < bound
      below m post [] is = let e : k ≡ m = cc is in let b : k < bound = last_inside graph bound bounded k ks k h in omega arith
      below m post (p ∷ pre) is = leads_inside graph bound bounded k ks k h pre m post (cc is)

-- ---- the cycle that is shown

pub mapped_at : {A B : Type 0} (f : A → B) (xs : List A) (n : ℕ) (x : A) → slice_get xs n ≡ Some x → slice_get (map f xs) n ≡ Some (f x)
mapped_at f [] n x at = absurd (cc at)
mapped_at f (y ∷ xs) zero x at = let e : y ≡ x = cc at in ap (λ z. Some (f z)) e
mapped_at f (y ∷ xs) (suc n) x at = mapped_at f xs n x at

pub record IsMapped {A B : Type 0} (f : A → B) (xs : List A) (n : ℕ) (y : B) : Type 0 where
  pub from : A
  pub at : slice_get xs n ≡ Some from
  pub is : f from ≡ y

pub mapped_from : {A B : Type 0} (f : A → B) (xs : List A) (n : ℕ) (y : B) → slice_get (map f xs) n ≡ Some y → IsMapped f xs n y
mapped_from f [] n y at = absurd (cc at)
mapped_from f (x ∷ xs) zero y at = record { from = x; at = refl; is = cc at }
mapped_from f (x ∷ xs) (suc n) y at = let m = mapped_from f xs n y at in record { from = m.from; at = m.at; is = m.is }

pub first_cycle : (nets : List Net) (items : List FlatItem) (graph : Graph) (places : List Place) (b : Best) → IsGraphOf nets items graph → places ≡ map place_of items → IsBest graph places (length places) b → IsFirstCycle nets items b.round.items
first_cycle nets items graph places b is same best = record {
  first = b.number;
  rest = best.round.rest;
  item = here.from;
  is = best.round.is;
  there = here.at;
  cycle = is_cycle nets items graph b.round.items is best.round.loop;
  from = best.round.from;
  once = best.round.once;
  least = λ m js x there cycle from. elim (cases_Bool (is_before (place_of x) (place_of here.from))) [
    | inl on ↦ absurd (excluded m js x there cycle from (inl (ap (is_before (place_of x)) (sym here.is) ∙ on)))
    | inr off ↦ off
  ];
  also = λ m js x there cycle from off. elim (cases_Bool (nat_lt m b.number)) [
    | inl less ↦ absurd (excluded m js x there cycle from (inr (ap (λ p. is_before p (place_of x)) (sym here.is) ∙ off, grind (arith, nat_tests))))
    | inr more ↦ grind (arith, nat_tests)
  ];
} where
  here : IsMapped place_of items b.number b.place
  here = mapped_from place_of items b.number b.place (sym (ap (λ l. slice_get l b.number) same) ∙ best.at)

  excluded : (m : ℕ) (js : List ℕ) (x : FlatItem) → slice_get items m ≡ Some x → IsCycle nets items (m ∷ js) → AllFrom m js → Comes (place_of x) m b.place b.number → ⊥
  excluded m js x there cycle from comes =
      let at : slice_get places m ≡ Some (place_of x) = ap (λ l. slice_get l m) same ∙ mapped_at place_of items m x there in
      shut_excludes nets items graph m x js (best.first m (place_of x) (inside places m (place_of x) at) at comes) is there from cycle

long : {A B : Type 0} (f : A → B) (xs : List A) → length (map f xs) ≡ length xs
long f [] = refl
long f (x ∷ xs) = ap suc (long f xs)

pub as_many : (nets : List Net) (items : List FlatItem) (graph : Graph) (places : List Place) → IsGraphOf nets items graph → places ≡ map place_of items → length places ≡ length graph
as_many nets items graph places is same = ap length same ∙ long place_of items ∙ sym is.nodes
