-- The steps of a search keep what it has sorted.
use Rattle.std.proofs.Common.{◌≡◌, ◌⊎◌, inl, inr, ℕ, zero, suc, ◌+◌, ◌<◌, ◌≤◌, Bool, true, false, ◌||◌, List, [], ◌∷◌, ◌++◌, Some, slice_get, slice_set, length, drop, take, refl, sym, ◌∙◌, ap, subst, arith, add-one}
use Rattle.std.specs.Prelude.{◌==◌, Option, None, MatchOption, slice_index_or}
use Rattle.std.proofs.Math.Seq.{take-suc}
use Rattle.std.proofs.lemmas.Bool.{cases_Bool}
use Rattle.std.proofs.lemmas.Bool.Decides.{nat_tests}
use Rattle.std.proofs.lemmas.List.{length-append, length-set}
use Rattle.std.proofs.lemmas.List.Folds.{list_any-append}
use Rattle.bit_base.specs.Operators.{count_of_true}
use Rattle.flat_sets.proofs.SetLemmas.{count_more, was_out}
use Rattle.flat_orders.specs.Orders.{among}
use Rattle.flat_orders.proofs.Settling.{IsAt, placed, same_number, any_from}
use Rattle.flat_flows.specs.Tables.{in_table}
use Rattle.flat_loops.specs.Graphs.{Graph, leads, IsSorted, IsChain, LeadsOver, IsLoop, IsSearch, IsClosed, AllIn}
use Rattle.flat_loops.specs.Steps.{IsStep, IsBack, IsPart, to_do}

-- ---- lists with one entry more

none_right : (b : Bool) → b || false ≡ b
none_right true = refl
none_right false = refl

pub among_last : (i : ℕ) (ks : List ℕ) (n : ℕ) → among i (ks ++ n ∷ []) ≡ (among i ks || n == i)
among_last i ks n = list_any-append (λ j. j == i) ks (n ∷ []) ∙ ap (λ b. among i ks || b) (none_right (n == i))

pub itself : (k : ℕ) → (k == k) ≡ true
itself k = grind (arith, nat_tests)

either_of : (a b : Bool) → a || b ≡ true → (a ≡ true) ⊎ (b ≡ true)
either_of true b h = inl refl
either_of false b h = inr h

left_on : (a b : Bool) → a ≡ true → a || b ≡ true
left_on a b h = rw h refl

right_on : (a b : Bool) → b ≡ true → a || b ≡ true
right_on true b h = refl
right_on false b h = h

pub still_there : (i : ℕ) (ks : List ℕ) (n : ℕ) → among i ks ≡ true → among i (ks ++ n ∷ []) ≡ true
still_there i ks n h = among_last i ks n ∙ left_on (among i ks) _ h

pub last_there : (ks : List ℕ) (n : ℕ) → among n (ks ++ n ∷ []) ≡ true
last_there ks n = among_last n ks n ∙ right_on (among n ks) _ (itself n)

pub there_or_last : (i : ℕ) (ks : List ℕ) (n : ℕ) → among i (ks ++ n ∷ []) ≡ true → (among i ks ≡ true) ⊎ (n ≡ i)
there_or_last i ks n h = by (either_of (among i ks) (n == i) (sym (among_last i ks n) ∙ h)) where
  by : (among i ks ≡ true) ⊎ ((n == i) ≡ true) → (among i ks ≡ true) ⊎ (n ≡ i)
  by (inl a) = inl a
  by (inr b) = inr (grind (arith, nat_tests))

-- ---- chains

pub chain_front : (graph : Graph) (front : List ℕ) (node : ℕ) → IsChain graph (front ++ node ∷ []) → IsChain graph front
chain_front graph [] node h = tt
chain_front graph (k ∷ []) node h = tt
chain_front graph (k ∷ j ∷ ks) node h = (h.0, chain_front graph (j ∷ ks) node h.1)

pub chain_more : (graph : Graph) (front : List ℕ) (node next : ℕ) → IsChain graph (front ++ node ∷ []) → leads graph node next ≡ true → IsChain graph ((front ++ node ∷ []) ++ next ∷ [])
chain_more graph [] node next h l = (l, tt)
chain_more graph (k ∷ []) node next h l = (h.0, (l, tt))
chain_more graph (k ∷ j ∷ ks) node next h l = (h.0, chain_more graph (j ∷ ks) node next h.1 l)

over : (graph : Graph) (k : ℕ) (front : List ℕ) (node next : ℕ) → IsChain graph (k ∷ (front ++ node ∷ [])) → leads graph node next ≡ true → LeadsOver graph k (front ++ node ∷ []) next
over graph k [] node next h l = (h.0, l)
over graph k (f ∷ fs) node next h l = (h.0, over graph f fs node next h.1 l)

chain_tail : (graph : Graph) (k : ℕ) (ks : List ℕ) → IsChain graph (k ∷ ks) → IsChain graph ks
chain_tail graph k [] h = tt
chain_tail graph k (j ∷ ks) h = h.1

pub loop_of : (graph : Graph) (front : List ℕ) (node next p : ℕ) → IsChain graph (front ++ node ∷ []) → leads graph node next ≡ true → slice_get (front ++ node ∷ []) p ≡ Some next → IsLoop graph (drop p (front ++ node ∷ []))
loop_of graph [] node next zero h l at = let e : node ≡ next = cc at in subst (λ n. leads graph node n ≡ true) (sym e) l
loop_of graph [] node next (suc p) h l at = absurd (cc at)
loop_of graph (f ∷ fs) node next zero h l at = let e : f ≡ next = cc at in over graph f fs node f h (subst (λ n. leads graph node n ≡ true) (sym e) l)
loop_of graph (f ∷ fs) node next (suc p) h l at = loop_of graph fs node next p (chain_tail graph f (fs ++ node ∷ []) h) l at

-- ---- sorted nodes, and one more

-- an entry of the longer list is one of the shorter, or the last
pub record IsEnd (ks : List ℕ) (n p k : ℕ) : Type 0 where
  pub place : p ≡ length ks
  pub number : k ≡ n

split_end : (ks : List ℕ) (n p k : ℕ) → slice_get (ks ++ n ∷ []) p ≡ Some k → ((slice_get ks p ≡ Some k) × (p < length ks)) ⊎ IsEnd ks n p k
split_end [] n zero k at = inr (record { place = refl; number = cc at })
split_end [] n (suc p) k at = absurd (cc at)
split_end (j ∷ ks) n zero k at = inl (at, omega arith)
split_end (j ∷ ks) n (suc p) k at = more (split_end ks n p k at) where
  more : ((slice_get ks p ≡ Some k) × (p < length ks)) ⊎ IsEnd ks n p k → ((slice_get ks p ≡ Some k) × (suc p < suc (length ks))) ⊎ IsEnd (j ∷ ks) n (suc p) k
  more (inl a) = inl (a.0, let h = a.1 in omega arith)
  more (inr l) = inr (record { place = ap suc l.place; number = l.number })

still : (ks : List ℕ) (n p k : ℕ) → slice_get ks p ≡ Some k → slice_get (ks ++ n ∷ []) p ≡ Some k
still [] n p k at = absurd (cc at)
still (j ∷ ks) n zero k at = at
still (j ∷ ks) n (suc p) k at = still ks n p k at

within : (ks : List ℕ) (p k : ℕ) → slice_get ks p ≡ Some k → p < length ks
within [] p k at = absurd (cc at)
within (j ∷ ks) zero k at = omega arith
within (j ∷ ks) (suc p) k at = let h = within ks p k at in omega arith

not_there : (ks : List ℕ) (n p : ℕ) → among n ks ≡ false → slice_get ks p ≡ Some n → ⊥
not_there ks n p out at = cc (sym out ∙ any_from ks (λ j. j == n) p n at (itself n))

pub sorted_more : (graph : Graph) (order : List ℕ) (n : ℕ) → IsSorted graph order → among n order ≡ false → ((j : ℕ) → leads graph n j ≡ true → among j order ≡ true) → IsSorted graph (order ++ n ∷ [])
sorted_more graph order n sorted out led = record {
  once = λ p q k at also. once p q k (split_end order n p k at) (split_end order n q k also);
  before = λ p k j at l. before p k j l (split_end order n p k at);
} where
  once : (p q k : ℕ) → ((slice_get order p ≡ Some k) × (p < length order)) ⊎ IsEnd order n p k → ((slice_get order q ≡ Some k) × (q < length order)) ⊎ IsEnd order n q k → p ≡ q
  once p q k (inl a) (inl b) = sorted.once p q k a.0 b.0
  once p q k (inl a) (inr l) = absurd (not_there order n p out (a.0 ∙ ap Some l.number))
  once p q k (inr l) (inl b) = absurd (not_there order n q out (b.0 ∙ ap Some l.number))
  once p q k (inr l) (inr m) = l.place ∙ sym m.place

  before : (p k j : ℕ) → leads graph k j ≡ true → ((slice_get order p ≡ Some k) × (p < length order)) ⊎ IsEnd order n p k → (q : ℕ) × ((slice_get (order ++ n ∷ []) q ≡ Some j) × (q < p))
  before p k j l (inl a) = let b = sorted.before p k j a.0 l in (b.0, (still order n b.0 j b.1.0, b.1.1))
  before p k j l (inr e) =
      let a : IsAt order (λ i. i == j) = placed order j (led j (subst (λ k. leads graph k j ≡ true) e.number l)) in
      let here : slice_get order a.place ≡ Some j = a.at ∙ ap Some (same_number a.number j a.holds) in
      let low : a.place < length order = within order a.place j here in
      let end_ : p ≡ length order = e.place in
      (a.place, (still order n a.place j here, omega arith))

-- ---- how many are in a table

pub count_within : (table : List Bool) → count_of_true table ≤ length table
count_within [] = omega arith
count_within (true ∷ table) = let h = count_within table in omega arith
count_within (false ∷ table) = let h = count_within table in omega arith

pub got : (table : List Bool) (i : ℕ) (x : Bool) → slice_get table i ≡ Some x → in_table table i ≡ x
got [] i x h = absurd (cc h)
got (y ∷ table) zero x h = cc h
got (y ∷ table) (suc i) x h = got table i x h

in_set_same : (table : List Bool) (k : ℕ) → k < length table → in_table (slice_set table k true) k ≡ true
in_set_same [] k h = absurd (omega arith)
in_set_same (x ∷ table) zero h = refl
in_set_same (x ∷ table) (suc k) h = in_set_same table k (omega arith)

in_set_other : (table : List Bool) (k i : ℕ) → (k ≡ i → ⊥) → in_table (slice_set table k true) i ≡ in_table table i
in_set_other [] k i ne = refl
in_set_other (x ∷ table) zero zero ne = absurd (ne refl)
in_set_other (x ∷ table) zero (suc i) ne = refl
in_set_other (x ∷ table) (suc k) zero ne = refl
in_set_other (x ∷ table) (suc k) (suc i) ne = in_set_other table k i (λ e. ne (ap suc e))

-- ---- the steps

-- the last node of the path was sorted before
pub step_back : (graph : Graph) (seen done : List Bool) (order front path : List ℕ) (node : ℕ) → path ≡ front ++ node ∷ [] → IsSearch graph seen done order path → in_table done node ≡ true → IsStep graph seen done order path seen done order front
step_back graph seen done order front path node is search on = record {
  search = record {
    chain = chain_front graph front node (subst (IsChain graph) is search.chain);
    listed = search.listed;
    sorted = search.sorted;
    open_ = λ i s d. open_ i s d (there_or_last i front node (sym (ap (among i) is) ∙ search.open_ i s d));
  };
  less = let e : length path ≡ length front + 1 = ap length is ∙ length-append front (node ∷ []) in omega arith;
  bound = refl;
  kept = λ i h. h;
  stays = λ i h. stays i (either_of (among i order) (among i path) h);
  within = λ set closed a b. (a, λ i h. b i (ap (among i) is ∙ still_there i front node h));
} where
  open_ : (i : ℕ) → in_table seen i ≡ true → in_table done i ≡ false → (among i front ≡ true) ⊎ (node ≡ i) → among i front ≡ true
  open_ i s d (inl a) = a
  open_ i s d (inr e) = absurd (cc (sym on ∙ ap (in_table done) e ∙ d))

  stays : (i : ℕ) → (among i order ≡ true) ⊎ (among i path ≡ true) → among i order || among i front ≡ true
  stays i (inl a) = left_on (among i order) _ a
  stays i (inr b) = at (there_or_last i front node (sym (ap (among i) is) ∙ b)) where
    at : (among i front ≡ true) ⊎ (node ≡ i) → among i order || among i front ≡ true
    at (inl a) = right_on (among i order) _ a
    at (inr e) = left_on (among i order) _ (sym (search.listed i) ∙ ap (in_table done) (sym e) ∙ on)

-- the last node of the path is sorted now
pub step_sorted : (graph : Graph) (seen done done' : List Bool) (order order' front path : List ℕ) (node : ℕ) → path ≡ front ++ node ∷ [] → order' ≡ order ++ node ∷ [] → IsSearch graph seen done order path → in_table done node ≡ false
    → ((i : ℕ) → in_table done' i ≡ (in_table done i || i == node)) → ((j : ℕ) → leads graph node j ≡ true → in_table done j ≡ true) → IsStep graph seen done order path seen done' order' front
step_sorted graph seen done done' order order' front path node is grown search off added led = record {
  search = record {
    chain = chain_front graph front node (subst (IsChain graph) is search.chain);
    listed = λ i. added i ∙ (λ t. search.listed i t || turned i node t) ∙ sym (ap (among i) grown ∙ among_last i order node);
    sorted = subst (IsSorted graph) (sym grown) (sorted_more graph order node search.sorted (sym (search.listed node) ∙ off) (λ j l. sym (search.listed j) ∙ led j l));
    open_ = λ i s d. open_ i s d;
  };
  less = let e : length path ≡ length front + 1 = ap length is ∙ length-append front (node ∷ []) in omega arith;
  bound = refl;
  kept = λ i h. ap (among i) grown ∙ still_there i order node h;
  stays = λ i h. stays i (either_of (among i order) (among i path) h);
  within = λ set closed a b. (λ i h. inside set a b i (there_or_last i order node (sym (ap (among i) grown) ∙ h)), λ i h. b i (ap (among i) is ∙ still_there i front node h));
} where
  turned : (i n : ℕ) → (i == n) ≡ (n == i)
  turned i n = grind (arith, nat_tests)

  left_off : (a b : Bool) → a || b ≡ false → a ≡ false
  left_off true b h = absurd (cc h)
  left_off false b h = refl

  open_ : (i : ℕ) → in_table seen i ≡ true → in_table done' i ≡ false → among i front ≡ true
  open_ i s d = at (there_or_last i front node (sym (ap (among i) is) ∙ search.open_ i s (left_off (in_table done i) _ (sym (added i) ∙ d)))) where
    at : (among i front ≡ true) ⊎ (node ≡ i) → among i front ≡ true
    at (inl a) = a
    at (inr e) = absurd (cc (sym (right_on (in_table done i) _ (turned i node ∙ ap (λ n. n == i) e ∙ itself i)) ∙ sym (added i) ∙ d))

  stays : (i : ℕ) → (among i order ≡ true) ⊎ (among i path ≡ true) → among i order' || among i front ≡ true
  stays i (inl a) = left_on (among i order') _ (ap (among i) grown ∙ still_there i order node a)
  stays i (inr b) = at (there_or_last i front node (sym (ap (among i) is) ∙ b)) where
    at : (among i front ≡ true) ⊎ (node ≡ i) → among i order' || among i front ≡ true
    at (inl a) = right_on (among i order') _ a
    at (inr e) = left_on (among i order') _ (ap (among i) grown ∙ subst (λ k. among k (order ++ node ∷ []) ≡ true) e (last_there order node))

  inside : (set : ℕ → Bool) → AllIn set order → AllIn set path → (i : ℕ) → (among i order ≡ true) ⊎ (node ≡ i) → set i ≡ true
  inside set a b i (inl h) = a i h
  inside set a b i (inr e) = subst (λ k. set k ≡ true) e (b node (ap (among node) is ∙ last_there front node))

-- a node comes behind the last of the path
pub step_on : (graph : Graph) (seen seen' done : List Bool) (order front path path' : List ℕ) (node next : ℕ) → path ≡ front ++ node ∷ [] → path' ≡ path ++ next ∷ [] → seen' ≡ slice_set seen next true → IsSearch graph seen done order path
    → next < length seen → in_table seen next ≡ false → leads graph node next ≡ true → IsStep graph seen done order path seen' done order path'
step_on graph seen seen' done order front path path' node next is grown marked search low off led = record {
  search = record {
    chain = subst (IsChain graph) (sym (grown ∙ ap (λ l. l ++ next ∷ []) is)) (chain_more graph front node next (subst (IsChain graph) is search.chain) led);
    listed = search.listed;
    sorted = search.sorted;
    open_ = open_;
  };
  less = less;
  bound = ap length marked ∙ length-set seen next true;
  kept = λ i h. h;
  stays = λ i h. stays i (either_of (among i order) (among i path) h);
  within = λ set closed a b. (a, λ i h. inside set closed b i (there_or_last i path next (sym (ap (among i) grown) ∙ h)));
} where
  less : to_do seen' path' < to_do seen path
  less =
      let e : length path' ≡ length path + 1 = ap length grown ∙ length-append path (next ∷ []) in
      let m : count_of_true seen' ≡ count_of_true seen + 1 = ap count_of_true marked ∙ count_more seen next (was_out seen next false low off) in
      let b : length seen' ≡ length seen = ap length marked ∙ length-set seen next true in
      let w : count_of_true seen' ≤ length seen' = count_within seen' in
      omega arith

  open_ : (i : ℕ) → in_table seen' i ≡ true → in_table done i ≡ false → among i path' ≡ true
  open_ i s d = elim (cases_Bool (next == i)) [
    | inl on ↦ (let e : next ≡ i = grind (arith, nat_tests) in ap (among i) grown ∙ subst (λ k. among k (path ++ next ∷ []) ≡ true) e (last_there path next))
    | inr out ↦ ap (among i) grown ∙ still_there i path next (search.open_ i (sym (in_set_other seen next i (λ e. absurd (cc (sym out ∙ ap (λ k. next == k) (sym e) ∙ itself next)))) ∙ sym (ap (λ t. in_table t i) marked) ∙ s) d)
  ]

  stays : (i : ℕ) → (among i order ≡ true) ⊎ (among i path ≡ true) → among i order || among i path' ≡ true
  stays i (inl a) = left_on (among i order) _ a
  stays i (inr b) = right_on (among i order) _ (ap (among i) grown ∙ still_there i path next b)

  inside : (set : ℕ → Bool) → IsClosed graph set → AllIn set path → (i : ℕ) → (among i path ≡ true) ⊎ (next ≡ i) → set i ≡ true
  inside set closed b i (inl h) = b i h
  inside set closed b i (inr e) = subst (λ k. set k ≡ true) e (closed node next (b node (ap (among node) is ∙ last_there front node)) led)

-- the node to come is on the path already
pub step_round : (graph : Graph) (seen done : List Bool) (order front path path' : List ℕ) (node next : ℕ) → path ≡ front ++ node ∷ [] → path' ≡ front ++ node ∷ [] → IsSearch graph seen done order path → in_table seen next ≡ true → in_table done next ≡ false
    → leads graph node next ≡ true → IsBack graph path' next
step_round graph seen done order front path path' node next is same search on off led =
    record { front = front; last = node; path_is = same; chain = subst (IsChain graph) (is ∙ sym same) search.chain; on = ap (among next) (same ∙ sym is) ∙ search.open_ next on off; leads_back = led }

-- ---- answers

pub match_some : {A : Type 0} (o : Option A) (x : A) (P : Type 0) (Q : A → Type 0) → o ≡ Some x → MatchOption o P Q → Q x
match_some None x P Q is h = absurd (cc is)
match_some (Some y) x P Q is h = let e : y ≡ x = cc in subst Q e h

pub match_none : {A : Type 0} (o : Option A) (P : Type 0) (Q : A → Type 0) → ((x : A) → o ≡ Some x → ⊥) → MatchOption o P Q → P
match_none None P Q out h = h
match_none (Some y) P Q out h = absurd (out y refl)

pub loop_back : (graph : Graph) (path view part : List ℕ) (next : ℕ) → view ≡ path → IsBack graph path next → IsPart next view part → IsLoop graph part
loop_back graph path view part next same back is =
    let at : slice_get (back.front ++ back.last ∷ []) is.place ≡ Some next = subst (λ l. slice_get l is.place ≡ Some next) (same ∙ back.path_is) is.at in
    subst (IsLoop graph) (sym (is.is ∙ ap (drop is.place) (same ∙ back.path_is))) (loop_of graph back.front back.last next is.place (subst (IsChain graph) back.path_is back.chain) back.leads_back at)

pub entry_there : (ks : List ℕ) (i : ℕ) → i < length ks → among (slice_index_or ks i 0) ks ≡ true
entry_there [] i h = absurd (omega arith)
entry_there (k ∷ ks) zero h = left_on (k == k) _ (itself k)
entry_there (k ∷ ks) (suc i) h = right_on (k == slice_index_or ks i 0) _ (entry_there ks i (omega arith))

-- one node more of a list
pub covers_more : (order order' nodes : List ℕ) (i k : ℕ) → i < length nodes → ((k : ℕ) → among k (take i nodes) ≡ true → among k order ≡ true) → ((k : ℕ) → among k order ≡ true → among k order' ≡ true) → among (slice_index_or nodes i 0) order' ≡ true
    → among k (take (i + 1) nodes) ≡ true → among k order' ≡ true
covers_more order order' nodes i k h covers kept there on = by (there_or_last k (take i nodes) (slice_index_or nodes i 0) (sym (ap (among k) more) ∙ on)) where
  more : take (i + 1) nodes ≡ take i nodes ++ slice_index_or nodes i 0 ∷ []
  more = rw (add-one) (take-suc nodes i 0 h)

  by : (among k (take i nodes) ≡ true) ⊎ (slice_index_or nodes i 0 ≡ k) → among k order' ≡ true
  by (inl a) = kept k (covers k a)
  by (inr e) = subst (λ n. among n order' ≡ true) e there

pub whole : (ks : List ℕ) (i : ℕ) → length ks ≤ i → take i ks ≡ ks
whole [] zero h = refl
whole [] (suc i) h = refl
whole (k ∷ ks) zero h = absurd (omega arith)
whole (k ∷ ks) (suc i) h = ap (λ l. k ∷ l) (whole ks i (omega arith))
