-- Resolving a literal away beside the one that the clause will force.
use Rattle.std.proofs.Common.{◌≡◌, ◌≢◌, ℕ, ◌+◌, ◌-◌, ◌/◌, ◌<◌, ◌≤◌, Bool, true, not, ◌||◌, eqb, List, [], ◌∷◌, ◌++◌, length, take, get_or, Some, slice_get, refl, ap, ◌∙◌, sym, inl, inr, arith, true≢false, eq-eqb}
use Rattle.std.proofs.lemmas.Option.{slice_get-get_or}
use Rattle.std.proofs.lemmas.Bool.{or_cases, and_parts, cases_lt, ne_eqb}
use Rattle.lemma_checker.specs.declared.literal.Literal.{Literal}
use Rattle.lemma_checker.specs.Clauses.{opposite, has, set_of, at, AreDistinct}
use Rattle.lemma_checker.specs.Chains.{clashes, resolved, numbered}
use Rattle.lemma_checker.specs.Checker.{Lists}
use Rattle.lemma_checker.specs.Propagation.{AreOthersFalse, AreApart}
use Rattle.lemma_checker.proofs.LawProofs.{opposite_back, opposite_half}
use Rattle.watch_lists.proofs.Lists.{has_longer, has_at, get_take}
use Rattle.clause_solver.specs.Walks.{IsEnd}
use Rattle.clause_solver.specs.Analyses.{IsShort, StepStops}
use Rattle.clause_solver.proofs.WalkLemmas.{result_push, same_half}

-- where the walk stopped, nothing is resolved away yet
pub short_start : (n : ℕ) (cs : List (List Literal)) (t : List Literal) (ss : List ℕ) (i k low : ℕ) (seen : List Bool) (touched : List Literal) (ids pivots : List ℕ) → StepStops n cs t ss i k low seen touched ids pivots → IsShort n cs t i low seen touched ids pivots
short_start n cs t ss i k low seen touched ids pivots s = record { walk = s.walk; marked = s.marked; before = s.found.end.before }

pub short_step : (n : ℕ) (cs : List (List Literal)) (t : List Literal) (i low p : ℕ) (seen after : List Bool) (touched more : List Literal) (ids pivots : List ℕ) (x : Literal) (id : ℕ) (c : List Literal) → AreApart (set_of t) → AreDistinct t → p < low → low ≤ i → IsShort n cs t i low seen touched ids pivots → slice_get t p ≡ Some x → numbered cs id ≡ Some c → clashes (x.0 / 2) (at seen) (set_of c) ≡ true → AreOthersFalse c x.0 (set_of (take p t)) → length after ≡ length seen → Lists after more → at after ≡ resolved (x.0 / 2) (at seen) (set_of c) → IsShort n cs t i low after more (ids ++ id ∷ []) (pivots ++ (x.0 / 2) ∷ [])
unfolding resolved
short_step n cs t i low p seen after touched more ids pivots x id c a once lt le s is at_c clash others long lists same =
    let parts : (l : ℕ) → at after l ≡ true → (not (eqb (l / 2) (x.0 / 2)) ≡ true) × ((at seen l || has l c) ≡ true) = λ l h. and_parts _ _ (sym (ap (λ (f : ℕ → Bool). f l) same) ∙ h) in
    let apart : (l : ℕ) → at after l ≡ true → l / 2 ≢ x.0 / 2 = λ l h e. true≢false (sym (parts l h).0 ∙ ap not (eq-eqb (l / 2) (x.0 / 2) e)) in
    let early : (l : ℕ) → at after l ≡ true → has l c ≡ true → has (opposite l) (take p t) ≡ true = λ l h member. others.others l member (λ e. apart l h (ap (λ (k : ℕ). k / 2) e)) in
    record {
      walk = record {
        size = long ∙ s.walk.size;
        lists = lists;
        chain = result_push cs ids pivots (at seen) id (x.0 / 2) c s.walk.chain at_c clash ∙ ap Some (sym same);
        below = λ l h. elim (or_cases (at seen l) (has l c) (parts l h).1) [
          | inl old ↦ s.walk.below l old
          | inr member ↦ has_longer p (i + 1) t (opposite l) (omega arith) (early l h member)
        ];
      };
      marked = record {
        each = λ y y_is.
            let not_same : y.0 ≢ x.0 = λ q. true≢false (sym (ap (λ (k : ℕ). has k (take i t)) q ∙ has_at (take i t) p x (get_take i t p x (omega arith) is)) ∙ once.once i y y_is) in
            let not_opposite : opposite y.0 ≢ x.0 = λ q. true≢false (sym (ap (λ (k : ℕ). has k t) q ∙ has_at t p x is) ∙ a.apart y.0 (has_at t i y y_is)) in
            let other : opposite y.0 / 2 ≢ x.0 / 2 = λ e. elim (same_half y.0 x.0 (sym (opposite_half y.0) ∙ e)) [ inl q ↦ not_same q | inr q ↦ not_opposite q ] in
            ap (λ (f : ℕ → Bool). f (opposite y.0)) same ∙ rw (ne_eqb (opposite y.0 / 2) (x.0 / 2) other, s.marked.each y y_is) refl;
      };
      before = λ l h in_front. elim (or_cases (at seen l) (has l c) (parts l h).1) [
        | inl old ↦ s.before l old in_front
        | inr member ↦ has_longer p low t (opposite l) (omega arith) (early l h member)
      ];
    }

-- the end of the others is not past the place before which they were denied
pub end_under : (t : List Literal) (f : ℕ → Bool) (i low end : ℕ) → AreDistinct t → i < length t → IsEnd f t i end → ((l : ℕ) → f l ≡ true → has (opposite l) (take i t) ≡ true → has (opposite l) (take low t) ≡ true) → end ≤ low
end_under t f i low end once within e before = elim (cases_lt low end) [
  | inl over ↦
      let y : Literal = get_or t (end - 1) (record { 0 = 0 }) in
      let y_is : slice_get t (end - 1) ≡ Some y = slice_get-get_or t (end - 1) (record { 0 = 0 }) (omega (arith, e.within)) in
      let marked : f (opposite y.0) ≡ true = e.last (end - 1) y (omega arith) y_is in
      let stands : has (opposite (opposite y.0)) (take i t) ≡ true = ap (λ (k : ℕ). has k (take i t)) (opposite_back y.0) ∙ has_at (take i t) (end - 1) y (get_take i t (end - 1) y (omega (arith, e.within)) y_is) in
      let low_too : has y.0 (take low t) ≡ true = ap (λ (k : ℕ). has k (take low t)) (sym (opposite_back y.0)) ∙ before (opposite y.0) marked stands in
      absurd (true≢false (sym (has_longer low (end - 1) t y.0 (omega arith) low_too) ∙ once.once (end - 1) y y_is))
  | inr under ↦ under
]
