-- The first loop so far, and one node more.
use Rattle.std.proofs.Common.{◌≡◌, ◌⊎◌, inl, inr, ℕ, ◌+◌, ◌<◌, true, false, List, Option, Some, None, slice_get, sym, ◌∙◌, ap, subst, arith}
use Rattle.std.specs.Prelude.{◌==◌, Result, Ok, Err, IfOk}
use Rattle.std.proofs.lemmas.Bool.{cases_Bool}
use Rattle.std.proofs.lemmas.Bool.Decides.{nat_tests}
use Rattle.bit_base.specs.declared.place.Place.{Place}
use Rattle.bit_base.specs.Places.{is_before}
use Rattle.bit_base.proofs.Places.{not_before_itself, before_goes_on}
use Rattle.flat_loops.specs.Graphs.{Graph}
use Rattle.flat_loops.proofs.FeedLemmas.{one_item}
use Rattle.flat_cycles.specs.Rounds.{IsRound, IsShut}
use Rattle.flat_ordered.specs.declared.first.Best.{Best}
use Rattle.flat_ordered.specs.Bests.{Comes, IsBest, AreShut, IsSoFar, IsNext}

before_or_not : (q p r : Place) → is_before p r ≡ true → is_before p q ≡ false → is_before q r ≡ true
before_or_not q p r on off = grind (arith, nat_tests)

it_or_below : (m n : ℕ) → m < n + 1 → (m ≡ n) ⊎ (m < n)
it_or_below m n h = elim (cases_Bool (m == n)) [ inl on ↦ inl (grind (arith, nat_tests)) | inr off ↦ inr (grind (arith, nat_tests)) ]

-- a node that doesn't come before, or begins no loop
pub best_kept : (graph : Graph) (places : List Place) (n : ℕ) (p : Place) (b : Best) → slice_get places n ≡ Some p → (is_before p b.place ≡ false) ⊎ IsShut graph n → IsBest graph places n b → IsBest graph places (n + 1) b
best_kept graph places n p b here why best = record { below = let h : b.number < n = best.below in omega arith; at = best.at; round = best.round; first = λ m q h at comes. first m q (it_or_below m n h) at comes } where
  first : (m : ℕ) (q : Place) → (m ≡ n) ⊎ (m < n) → slice_get places m ≡ Some q → Comes q m b.place b.number → IsShut graph m
  first m q (inr less) at comes = best.first m q less at comes
  first m q (inl e) at comes = by why (let same : q ≡ p = one_item (slice_get places n) q p (sym (ap (slice_get places) e) ∙ at) here in subst (λ r. Comes r m b.place b.number) same comes) where
    by : (is_before p b.place ≡ false) ⊎ IsShut graph n → Comes p m b.place b.number → IsShut graph m
    by (inr shut) c = subst (IsShut graph) (sym e) shut
    by (inl off) (inl on) = absurd (cc (sym off ∙ on))
    by (inl off) (inr d) = let h : m < b.number = d.1 in let k : b.number < n = best.below in absurd (omega arith)

no_self : (p : Place) (n : ℕ) → Comes p n p n → ⊥
no_self p n (inl on) = cc (sym (not_before_itself p) ∙ on)
no_self p n (inr d) = let h : n < n = d.1 in absurd (omega arith)

-- a loop at a place before
pub best_new : (graph : Graph) (places : List Place) (n : ℕ) (p : Place) (b c : Best) → slice_get places n ≡ Some p → is_before p b.place ≡ true → IsBest graph places n b → c.number ≡ n → c.place ≡ p → IsRound graph n c.round.items → IsBest graph places (n + 1) c
best_new graph places n p b c here on best number place round = record {
  below = omega arith;
  at = ap (slice_get places) number ∙ here ∙ ap Some (sym place);
  round = subst (λ m. IsRound graph m c.round.items) (sym number) round;
  first = λ m q h at comes. first m q (it_or_below m n h) at (subst (λ r. Comes q m r n) place (subst (λ k. Comes q m c.place k) number comes));
} where
  first : (m : ℕ) (q : Place) → (m ≡ n) ⊎ (m < n) → slice_get places m ≡ Some q → Comes q m p n → IsShut graph m
  first m q (inl e) at comes = let same : q ≡ p = one_item (slice_get places n) q p (sym (ap (slice_get places) e) ∙ at) here in absurd (no_self p n (subst (λ k. Comes p k p n) e (subst (λ r. Comes r m p n) same comes)))
  first m q (inr less) at (inl up) = best.first m q less at (inl (before_goes_on q p b.place up on))
  first m q (inr less) at (inr d) = best.first m q less at (inl (before_or_not q p b.place on d.0))

-- the first loop
pub best_first : (graph : Graph) (places : List Place) (n : ℕ) (p : Place) (c : Best) → slice_get places n ≡ Some p → AreShut graph n → c.number ≡ n → c.place ≡ p → IsRound graph n c.round.items → IsBest graph places (n + 1) c
best_first graph places n p c here shut number place round = record {
  below = omega arith;
  at = ap (slice_get places) number ∙ here ∙ ap Some (sym place);
  round = subst (λ m. IsRound graph m c.round.items) (sym number) round;
  first = λ m q h at comes. first m q (it_or_below m n h) at (subst (λ r. Comes q m r n) place (subst (λ k. Comes q m c.place k) number comes));
} where
  first : (m : ℕ) (q : Place) → (m ≡ n) ⊎ (m < n) → slice_get places m ≡ Some q → Comes q m p n → IsShut graph m
  first m q (inl e) at comes = let same : q ≡ p = one_item (slice_get places n) q p (sym (ap (slice_get places) e) ∙ at) here in absurd (no_self p n (subst (λ k. Comes p k p n) e (subst (λ r. Comes r m p n) same comes)))
  first m q (inr less) at comes = shut m less

shut_more : (graph : Graph) (n : ℕ) → AreShut graph n → IsShut graph n → AreShut graph (n + 1)
shut_more graph n shut one m h = by (it_or_below m n h) where
  by : (m ≡ n) ⊎ (m < n) → IsShut graph m
  by (inl e) = subst (IsShut graph) (sym e) one
  by (inr less) = shut m less

so_far_none : (graph : Graph) (places : List Place) (n : ℕ) (p : Place) (found : Option Best) → slice_get places n ≡ Some p → AreShut graph n → IsNext graph n p None found → IsSoFar graph places (n + 1) found
so_far_none graph places n p found here shut (inl a) = subst (IsSoFar graph places (n + 1)) (sym a.1) (shut_more graph n shut a.0)
so_far_none graph places n p found here shut (inr a) = subst (IsSoFar graph places (n + 1)) (sym a.1.0) (best_first graph places n p a.0 here shut a.1.1.0 a.1.1.1.0 a.1.1.1.1)

so_far_some : (graph : Graph) (places : List Place) (n : ℕ) (p : Place) (b : Best) (found : Option Best) → slice_get places n ≡ Some p → is_before p b.place ≡ true → IsBest graph places n b → IsNext graph n p (Some b) found → IsSoFar graph places (n + 1) found
so_far_some graph places n p b found here on best (inl a) = subst (IsSoFar graph places (n + 1)) (sym a.1) (best_kept graph places n p b here (inr a.0) best)
so_far_some graph places n p b found here on best (inr a) = subst (IsSoFar graph places (n + 1)) (sym a.1.0) (best_new graph places n p b a.0 here on best a.1.1.0 a.1.1.1.0 a.1.1.1.1)

pub next_none : {E : Type 0} (r : Result (Option Best) E) (graph : Graph) (places : List Place) (n : ℕ) (p : Place) → slice_get places n ≡ Some p → AreShut graph n → IfOk r (λ found. IsNext graph n p None found) → IfOk r (IsSoFar graph places (n + 1))
next_none (Ok found) graph places n p here shut next = so_far_none graph places n p found here shut next
next_none (Err e) graph places n p here shut next = next

pub next_some : {E : Type 0} (r : Result (Option Best) E) (graph : Graph) (places : List Place) (n : ℕ) (p : Place) (b : Best) → slice_get places n ≡ Some p → is_before p b.place ≡ true → IsBest graph places n b → IfOk r (λ found. IsNext graph n p (Some b) found) → IfOk r (IsSoFar graph places (n + 1))
next_some (Ok found) graph places n p b here on best next = so_far_some graph places n p b found here on best next
next_some (Err e) graph places n p b here on best next = next
