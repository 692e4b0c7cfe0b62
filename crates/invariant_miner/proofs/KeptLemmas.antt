-- Closed sets, and what stays of a list as clauses that are not kept are dropped.
use Rattle.std.proofs.Common.{◌≡◌, ℕ, zero, suc, ◌+◌, ◌<◌, ◌≤◌, Bool, true, false, ◌&&◌, cond, List, [], ◌∷◌, length, Some, slice_get, refl, ap, sym, ◌∙◌, subst, arith}
use Rattle.std.specs.List.{filter}
use Rattle.gate_graph.specs.declared.circuits.Circuit.{Circuit}
use Rattle.gate_graph.specs.Runs.{next_state}
use Rattle.unroll_cnf.specs.declared.latch_literal.LatchLiteral.{LatchLiteral}
use Rattle.unroll_cnf.specs.Latches.{meets, MeetsAll, AreOfLatches, weight}
use Rattle.invariant_miner.specs.Kept.{IsClosed, IsWithin, IsAbove, IsGreatestClosed}

-- elements of a filtered list
pub filter_within : {X : Type 0} (p : X → Bool) (xs : List X) (i : ℕ) (x : X) → slice_get (filter p xs) i ≡ Some x → ((j : ℕ) × (slice_get xs j ≡ Some x))
filter_within p [] i x h = absurd (let e : ⊥ = cc in e)
filter_within p (y ∷ xs) i x h = by_test p y xs i x (p y) h (filter_within p xs)
  where
    by_test : {X : Type 0} (p : X → Bool) (y : X) (xs : List X) (i : ℕ) (x : X) (b : Bool) → slice_get (cond b (y ∷ filter p xs) (filter p xs)) i ≡ Some x → ((k : ℕ) (z : X) → slice_get (filter p xs) k ≡ Some z → ((j : ℕ) × (slice_get xs j ≡ Some z))) → ((j : ℕ) × (slice_get (y ∷ xs) j ≡ Some x))
    by_test p y xs zero x true h more = (0, h)
    by_test p y xs (suc i) x true h more = let r = more i x h in (suc r.0, r.1)
    by_test p y xs i x false h more = let r = more i x h in (suc r.0, r.1)

-- an element that passes stays
pub filter_get : {X : Type 0} (p : X → Bool) (xs : List X) (i : ℕ) (x : X) → slice_get xs i ≡ Some x → p x ≡ true → ((j : ℕ) × (slice_get (filter p xs) j ≡ Some x))
filter_get p [] i x h t = absurd (let e : ⊥ = cc in e)
filter_get p (y ∷ xs) zero x h t = let e : y ≡ x = cc in (0, rw (ap p e ∙ t) (ap Some e))
filter_get p (y ∷ xs) (suc i) x h t = by_test p y xs x (p y) (filter_get p xs i x h t)
  where
    by_test : {X : Type 0} (p : X → Bool) (y : X) (xs : List X) (x : X) (b : Bool) → ((j : ℕ) × (slice_get (filter p xs) j ≡ Some x)) → ((j : ℕ) × (slice_get (cond b (y ∷ filter p xs) (filter p xs)) j ≡ Some x))
    by_test p y xs x true r = (suc r.0, r.1)
    by_test p y xs x false r = r

pub filter_twice : {X : Type 0} (p q : X → Bool) (xs : List X) → filter q (filter p xs) ≡ filter (λ x. p x && q x) xs
filter_twice p q [] = refl
filter_twice p q (x ∷ xs) = by_tests p q x xs (p x) (q x) refl (filter_twice p q xs)
  where
    by_tests : {X : Type 0} (p q : X → Bool) (x : X) (xs : List X) (a b : Bool) → q x ≡ b → filter q (filter p xs) ≡ filter (λ y. p y && q y) xs → filter q (cond a (x ∷ filter p xs) (filter p xs)) ≡ cond (a && b) (x ∷ filter (λ y. p y && q y) xs) (filter (λ y. p y && q y) xs)
    by_tests p q x xs true true e r = rw e (ap (λ (z : List _). x ∷ z) r)
    by_tests p q x xs true false e r = rw e r
    by_tests p q x xs false b e r = r

pub filter_all : {X : Type 0} (xs : List X) → filter (λ x. true) xs ≡ xs
filter_all [] = refl
filter_all (x ∷ xs) = ap (λ (z : List _). x ∷ z) (filter_all xs)

pub filter_short : {X : Type 0} (p : X → Bool) (xs : List X) → length (filter p xs) ≤ length xs
filter_short p [] = omega arith
filter_short p (x ∷ xs) = by_test p x xs (p x) (filter_short p xs)
  where
    by_test : {X : Type 0} (p : X → Bool) (x : X) (xs : List X) (b : Bool) → length (filter p xs) ≤ length xs → length (cond b (x ∷ filter p xs) (filter p xs)) ≤ suc (length xs)
    by_test p x xs true h = omega arith
    by_test p x xs false h = omega arith

-- one that fails is dropped
pub filter_less : {X : Type 0} (p : X → Bool) (xs : List X) (i : ℕ) (x : X) → slice_get xs i ≡ Some x → p x ≡ false → length (filter p xs) < length xs
filter_less p [] i x h f = absurd (let e : ⊥ = cc in e)
filter_less p (y ∷ xs) zero x h f = let e : y ≡ x = cc in rw (ap p e ∙ f) (let le : length (filter p xs) ≤ length xs = filter_short p xs in omega arith)
filter_less p (y ∷ xs) (suc i) x h f = by_test p y xs (p y) (filter_less p xs i x h f)
  where
    by_test : {X : Type 0} (p : X → Bool) (x : X) (xs : List X) (b : Bool) → length (filter p xs) < length xs → length (cond b (x ∷ filter p xs) (filter p xs)) < suc (length xs)
    by_test p x xs true h = omega arith
    by_test p x xs false h = omega arith

-- what a set's clauses are of, and how many they are, stays
pub filter_of : (n : ℕ) (p : List LatchLiteral → Bool) (set : List (List LatchLiteral)) → AreOfLatches n set → AreOfLatches n (filter p set)
filter_of n p set of = record { each = λ i d is. let r : (j : ℕ) × (slice_get set j ≡ Some d) = filter_within p set i d is in of.each r.0 d r.1 }

pub filter_weight : (p : List LatchLiteral → Bool) (set : List (List LatchLiteral)) → weight (filter p set) ≤ weight set
filter_weight p [] = omega arith
filter_weight p (d ∷ ds) = by_test p d ds (p d) (filter_weight p ds)
  where
    by_test : (p : List LatchLiteral → Bool) (d : List LatchLiteral) (ds : List (List LatchLiteral)) (b : Bool) → weight (filter p ds) ≤ weight ds → weight (cond b (d ∷ filter p ds) (filter p ds)) ≤ 1 + length d + weight ds
    by_test p d ds true h = omega arith
    by_test p d ds false h = omega arith

-- a state that meets a set meets what is within it
pub meets_within : (s : List Bool) (sub set : List (List LatchLiteral)) → IsWithin sub set → MeetsAll s set → MeetsAll s sub
meets_within s sub set w m = record { each = λ i d is. let r : (j : ℕ) × (slice_get set j ≡ Some d) = w.each i d is in m.each r.0 d r.1 }

-- the whole list has each closed set of its clauses
pub above_all : (c : Circuit) (list : List (List LatchLiteral)) → IsAbove c list list
above_all c list = record { picks = λ d. true; is = sym (filter_all list); above = λ sub k w. w }

-- and so has what is left after the clauses that a next state does not meet are dropped
pub above_drop : (c : Circuit) (list current left : List (List LatchLiteral)) (s x : List Bool) → IsAbove c list current → MeetsAll s current → left ≡ filter (meets (next_state c s x)) current → IsAbove c list left
above_drop c list current left s x a m e = record {
  picks = λ d. a.picks d && meets (next_state c s x) d;
  is = e ∙ (ap (filter (meets (next_state c s x))) a.is ∙ filter_twice a.picks (meets (next_state c s x)) list);
  above = λ sub k w.
      let inside : IsWithin sub current = a.above sub k w in
      let next : MeetsAll (next_state c s x) sub = k.kept s x (meets_within s sub current inside m) in
      record {
        each = λ i d h.
            let r : (j : ℕ) × (slice_get current j ≡ Some d) = inside.each i d h in
            subst (λ (set : List (List LatchLiteral)). (j : ℕ) × (slice_get set j ≡ Some d)) (sym e) (filter_get (meets (next_state c s x)) current r.0 d r.1 (next.each i d h));
      };
}

pub greatest_of : (c : Circuit) (list current : List (List LatchLiteral)) → IsAbove c list current → IsClosed c current → IsGreatestClosed c list current
greatest_of c list current a k = record { picks = a.picks; is = a.is; closed = k; greatest = a.above }
