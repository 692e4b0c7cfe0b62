-- The laws of the sets that every edge keeps.
use Rattle.std.proofs.Common.{◌≡◌, ℕ, zero, suc, Bool, true, false, cond, List, [], ◌∷◌, ◌++◌, length, map, Some, slice_get, refl, ap, sym, ◌∙◌, subst, inl, inr, ◌⊎◌}
use Rattle.std.specs.List.{filter}
use Rattle.lemma_checker.specs.Checker.{link}
use Rattle.lemma_checker.proofs.Semantics.{none_solves}
use Rattle.gate_graph.specs.declared.parts.Start.{Start}
use Rattle.gate_graph.specs.declared.parts.Start.TheVariants as start
use Rattle.gate_graph.specs.declared.parts.Latch.{Latch}
use Rattle.gate_graph.specs.declared.circuits.Circuit.{Circuit}
use Rattle.gate_graph.specs.Values.{at}
use Rattle.gate_graph.specs.Latches.{StartsAtZero, StartsAs}
use Rattle.gate_graph.specs.Runs.{next_state, IsStart}
use Rattle.unroll_cnf.specs.declared.latch_literal.LatchLiteral.{LatchLiteral}
use Rattle.unroll_cnf.specs.Latches.{meets, MeetsAll, AreOfLatches}
use Rattle.unroll_cnf.specs.Queries.{keep_clauses}
use Rattle.invariant_miner.specs.declared.set.InductiveSet.{InductiveSet}
use Rattle.invariant_miner.specs.Kept.{IsClosed, IsWithin, IsGreatestClosed}
use Rattle.invariant_miner.specs.Thinned.{IsInductive}
use Rattle.invariant_miner.proofs.KeptLemmas.{filter_within, filter_get}
use Rattle.invariant_miner.proofs.ThinLemmas.{closed_of}

-- each set is met at the start, since `live` is 0 there
pub starts_at_zero : (latches : List Latch) → StartsAtZero latches → ((l : Latch) × ((slice_get latches 0 ≡ Some l) × (l.start ≡ start.Zero)))
starts_at_zero [] h = absurd (let e : ⊥ = cc in e)
starts_at_zero (l ∷ ls) h = let e : l.start ≡ start.Zero = cc in (l, (refl, e))

pub start_meets : (c : Circuit) (set : List (List LatchLiteral)) (s : List Bool) → IsStart c s → MeetsAll s set
unfolding meets
start_meets c set s b =
    let first = starts_at_zero c.latches.items c.live in
    let zero_there : at s 0 ≡ false = subst (λ (z : Start). StartsAs z (at s 0)) first.1.1 (b.each 0 first.0 first.1.0) in
    record { each = λ i d is. rw zero_there refl }

-- a state meets sets joined where it meets both
get_left : {X : Type 0} (a b : List X) (i : ℕ) (x : X) → slice_get a i ≡ Some x → slice_get (a ++ b) i ≡ Some x
get_left [] b i x is = absurd (let e : ⊥ = cc in e)
get_left (y ∷ a) b zero x is = is
get_left (y ∷ a) b (suc i) x is = get_left a b i x is

get_right : {X : Type 0} (a b : List X) (i : ℕ) (x : X) → slice_get b i ≡ Some x → ((j : ℕ) × (slice_get (a ++ b) j ≡ Some x))
get_right [] b i x is = (i, is)
get_right (y ∷ a) b i x is = let r = get_right a b i x is in (suc r.0, r.1)

pub get_either : {X : Type 0} (a b : List X) (i : ℕ) (x : X) → slice_get (a ++ b) i ≡ Some x → ((slice_get a i ≡ Some x) ⊎ ((j : ℕ) × (slice_get b j ≡ Some x)))
get_either [] b i x is = inr (i, is)
get_either (y ∷ a) b zero x is = inl is
get_either (y ∷ a) b (suc i) x is = get_either a b i x is

meets_left : (s : List Bool) (a b : List (List LatchLiteral)) → MeetsAll s (a ++ b) → MeetsAll s a
meets_left s a b m = record { each = λ i d is. m.each i d (get_left a b i d is) }

meets_right : (s : List Bool) (a b : List (List LatchLiteral)) → MeetsAll s (a ++ b) → MeetsAll s b
meets_right s a b m = record { each = λ i d is. let r = get_right a b i d is in m.each r.0 d r.1 }

meets_both : (s : List Bool) (a b : List (List LatchLiteral)) → MeetsAll s a → MeetsAll s b → MeetsAll s (a ++ b)
meets_both s a b m n = record { each = λ i d is. elim (get_either a b i d is) [ inl r ↦ m.each i d r | inr r ↦ n.each r.0 d r.1 ] }

pub closed_join : (c : Circuit) (a b : List (List LatchLiteral)) → IsClosed c a → IsClosed c b → IsClosed c (a ++ b)
closed_join c a b k l = record { kept = λ s x m. meets_both (next_state c s x) a b (k.kept s x (meets_left s a b m)) (l.kept s x (meets_right s a b m)) }

-- two filters of a list that agree on its elements
filter_agrees : {X : Type 0} (p q : X → Bool) (xs : List X) → ((i : ℕ) (x : X) → slice_get xs i ≡ Some x → p x ≡ q x) → filter p xs ≡ filter q xs
filter_agrees p q [] h = refl
filter_agrees p q (x ∷ xs) h = rw (h 0 x refl, filter_agrees p q xs (λ i y is. h (suc i) y is)) refl

filtered_passes : {X : Type 0} (p : X → Bool) (xs : List X) (i : ℕ) (x : X) → slice_get (filter p xs) i ≡ Some x → p x ≡ true
filtered_passes p [] i x is = absurd (let e : ⊥ = cc in e)
filtered_passes p (y ∷ xs) i x is = by_test p y xs i x (p y) refl is (filtered_passes p xs)
  where
    by_test : {X : Type 0} (p : X → Bool) (y : X) (xs : List X) (i : ℕ) (x : X) (b : Bool) → p y ≡ b → slice_get (cond b (y ∷ filter p xs) (filter p xs)) i ≡ Some x → ((k : ℕ) (z : X) → slice_get (filter p xs) k ≡ Some z → p z ≡ true) → p x ≡ true
    by_test p y xs zero x true e is more = let same : y ≡ x = cc in sym (ap p same) ∙ e
    by_test p y xs (suc i) x true e is more = more i x is
    by_test p y xs i x false e is more = more i x is

-- what the one set has the other has
passes_too : (p q : List LatchLiteral → Bool) (list a b : List (List LatchLiteral)) (i : ℕ) (d : List LatchLiteral) → a ≡ filter p list → b ≡ filter q list → IsWithin a b → slice_get list i ≡ Some d → p d ≡ true → q d ≡ true
passes_too p q list a b i d ea eb w is t =
    let r : (j : ℕ) × (slice_get (filter p list) j ≡ Some d) = filter_get p list i d is t in
    let there : (j : ℕ) × (slice_get b j ≡ Some d) = w.each r.0 d (subst (λ (z : List (List LatchLiteral)). slice_get z r.0 ≡ Some d) (sym ea) r.1) in
    filtered_passes q list there.0 d (subst (λ (z : List (List LatchLiteral)). slice_get z there.0 ≡ Some d) eb there.1)

both_ways : (x y : Bool) → (x ≡ true → y ≡ true) → (y ≡ true → x ≡ true) → x ≡ y
both_ways true y f g = sym (f refl)
both_ways false true f g = g refl
both_ways false false f g = refl

within_list : (p : List LatchLiteral → Bool) (list a : List (List LatchLiteral)) → a ≡ filter p list → IsWithin a list
within_list p list a e = record { each = λ i d is. filter_within p list i d (subst (λ (z : List (List LatchLiteral)). slice_get z i ≡ Some d) e is) }

pub greatest_one : (c : Circuit) (list a b : List (List LatchLiteral)) → IsGreatestClosed c list a → IsGreatestClosed c list b → a ≡ b
greatest_one c list a b g h =
    let a_in_b : IsWithin a b = h.greatest a g.closed (within_list g.picks list a g.is) in
    let b_in_a : IsWithin b a = g.greatest b h.closed (within_list h.picks list b h.is) in
    g.is ∙ (filter_agrees g.picks h.picks list (λ i d is. both_ways (g.picks d) (h.picks d)
    (passes_too g.picks h.picks list a b i d g.is h.is a_in_b is)
    (passes_too h.picks g.picks list b a i d h.is g.is b_in_a is)) ∙ sym h.is)

pub inductive_closed : (c : Circuit) (set : InductiveSet) → AreOfLatches (length c.latches.items) set.clauses.items → IsInductive c set → IsClosed c set.clauses.items
inductive_closed c set of r = closed_of c set.clauses.items of (none_solves (keep_clauses c set.clauses.items) (map link set.chains.items) r)
