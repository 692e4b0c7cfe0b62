-- The learned clause is new, and lets the trail go back.
use Rattle.std.proofs.Common.{◌≡◌, ◌≢◌, ℕ, zero, suc, ◌+◌, ◌<◌, ◌≤◌, Bool, true, false, not, eqb, List, [], ◌∷◌, ◌++◌, length, take, set, Some, slice_get, ap, ◌∙◌, sym, subst, inl, inr, arith, true≢false, eq-eqb}
use Rattle.std.proofs.lemmas.Option.{slice_get_within}
use Rattle.std.proofs.lemmas.Bool.{and_parts, false_from_ne_true, not-true}
use Rattle.std.proofs.lemmas.List.{take-take, take_at, take-append-le, length_push}
use Rattle.lemma_checker.specs.declared.literal.Literal.{Literal}
use Rattle.lemma_checker.specs.Clauses.{opposite, has, set_of, at}
use Rattle.lemma_checker.specs.Chains.{numbered}
use Rattle.lemma_checker.specs.Propagation.{IsConflictFree, IsNew, AreNew}
use Rattle.lemma_checker.proofs.ListLemmas.{get_push, get_last}
use Rattle.lemma_checker.proofs.LawProofs.{opposite_back}
use Rattle.watch_lists.specs.Trails.{IsSettled, HasTwoOpen, IsTrail}
use Rattle.watch_lists.proofs.Lists.{get_front, has_longer}
use Rattle.watch_lists.proofs.TrailLemmas.{trail_cut, trail_add, trail_push}
use Rattle.clause_solver.specs.Walks.{IsStop}

-- a settled set has no conflict
pub settled_free : (cs : List (List Literal)) (s : ℕ → Bool) → IsSettled cs s → IsConflictFree cs s
settled_free cs s st = record { apart = st.apart; clause = λ i c is. (st.quiet i c is).not_false }

-- the clause is new: before the start that the solver goes back to unit propagation has nothing left to do
pub stop_new : (n : ℕ) (cs : List (List Literal)) (t : List Literal) (rs ss : List ℕ) (vs : List Bool) (f : ℕ → Bool) (l m k : ℕ) (c : List Literal) → IsTrail n cs t rs ss vs → IsStop t ss f l m k → set_of c ≡ f → IsNew cs c
stop_new n cs t rs ss vs f l m k c tr st same =
    let settled : IsSettled cs (set_of (take st.place t)) = tr.settled k st.place st.is in
    record {
      literal = l;
      member = ap (λ (g : ℕ → Bool). g l) same ∙ st.member;
      set = set_of (take st.place t);
      closed = record {
        start = λ x h.
            let parts : (has (opposite x) c ≡ true) × (not (eqb (opposite x) l) ≡ true) = and_parts _ _ h in
            let away : opposite x ≢ l = λ e. true≢false (sym (eq-eqb (opposite x) l e) ∙ not-true _ parts.1) in
            ap (λ (j : ℕ). has j (take st.place t)) (sym (opposite_back x)) ∙ st.others (opposite x) (sym (ap (λ (g : ℕ → Bool). g (opposite x)) same) ∙ parts.0) away;
        unit = λ i d x is others. (settled.quiet i d is).unit x others;
      };
      free = settled_free cs (set_of (take st.place t)) settled;
      absent = st.absent;
    }

pub news_push : (fs added : List (List Literal)) (c : List Literal) → AreNew fs added → IsNew (fs ++ added) c → AreNew fs (added ++ c ∷ [])
news_push fs added c news new = record {
  each = λ i d is. elim (get_push added c i d is) [
    | inl old ↦ subst (λ (z : List (List Literal)). IsNew (fs ++ z) d) (sym (take-append-le i added (c ∷ []) (omega (arith, slice_get_within added i d old)))) (news.each i d old)
    | inr e ↦ subst (λ (z : List (List Literal)). IsNew (fs ++ z) d) (sym (take_at added (c ∷ []) i (sym e.0))) (subst (IsNew (fs ++ added)) (sym e.1) new)
  ];
}

numbered_last : (cs : List (List Literal)) (c : List Literal) (id : ℕ) → id ≡ length cs + 1 → numbered (cs ++ c ∷ []) id ≡ Some c
numbered_last cs c zero e = absurd (omega (arith, e))
numbered_last cs c (suc i) e = let last : i ≡ length cs = omega (arith, e) in ap (slice_get (cs ++ c ∷ [])) last ∙ get_last cs c

-- the trail goes back, the clause is added, and its literal follows
pub stop_trail : (n : ℕ) (cs : List (List Literal)) (t : List Literal) (rs ss : List ℕ) (vs ws : List Bool) (f : ℕ → Bool) (k place : ℕ) (x y : Literal) (id : ℕ) (c : List Literal) → IsTrail n cs t rs ss vs → IsStop t ss f x.0 y.0 k → slice_get ss k ≡ Some place → set_of c ≡ f → x.0 < n → 2 ≤ x.0 → id ≡ length cs + 1 → length ws ≡ n → at ws ≡ set_of (take place t) → IsTrail n (cs ++ c ∷ []) (take place t ++ x ∷ []) (take place rs ++ id ∷ []) (take k ss) (set ws x.0 true)
stop_trail n cs t rs ss vs ws f k place x y id c tr st at_k same lt low number long values =
    let place_is : st.place ≡ place = same_place (sym st.is ∙ at_k) in
    let back : IsTrail n cs (take place t) (take place rs) (take k ss) ws = trail_cut n cs t rs ss vs ws k place tr at_k long values in
    let to_set : (m : ℕ) → has m c ≡ true → f m ≡ true = λ m h. sym (ap (λ (g : ℕ → Bool). g m) same) ∙ h in
    let from_set : (m : ℕ) → f m ≡ true → has m c ≡ true = λ m h. ap (λ (g : ℕ → Bool). g m) same ∙ h in
    let added : IsTrail n (cs ++ c ∷ []) (take place t) (take place rs) (take k ss) ws = trail_add n cs (take place t) (take place rs) (take k ss) ws c back (λ j a at_j.
    let g : (j < k) × (slice_get ss j ≡ Some a) = get_front k ss j a at_j in
    let under : a < place = tr.rising j k a place g.0 g.1 at_k in
    let o : (y.0 ≢ x.0) × (has (opposite y.0) (take a t) ≡ false) = st.lower j a g.0 g.1 in
    let shorter : take a (take place t) ≡ take a t = take-take a place t (omega (arith, under)) in
    subst (λ (u : List Literal). HasTwoOpen c (set_of u)) (sym shorter) (record {
      first = x.0;
      second = y.0;
      first_in = from_set x.0 st.member;
      second_in = from_set y.0 st.second;
      different = λ e. o.0 (sym e);
      first_open = false_from_ne_true (has (opposite x.0) (take a t)) (λ h. true≢false (sym (has_longer a place t (opposite x.0) (omega (arith, under)) h) ∙ ap (λ (p : ℕ). has (opposite x.0) (take p t)) (sym place_is) ∙ st.free));
      second_open = o.1;
    })) in
    trail_push n (cs ++ c ∷ []) (take place t) (take place rs) (take k ss) ws x id c added (numbered_last cs c id number)
    (record {
      others = record {
        member = from_set x.0 st.member;
        others = λ m h away. ap (λ (p : ℕ). has (opposite m) (take p t)) (sym place_is) ∙ st.others m (to_set m h) away;
      };
      not_true = ap (λ (p : ℕ). has x.0 (take p t)) (sym place_is) ∙ st.absent;
      not_false = ap (λ (p : ℕ). has (opposite x.0) (take p t)) (sym place_is) ∙ st.free;
    })
    lt low (omega (arith, number, length_push cs c))
  where
    same_place : {y z : ℕ} → Some y ≡ Some z → y ≡ z
    same_place e = cc
