-- The solver's turns over plain lists.
use Rattle.std.proofs.Common.{◌≡◌, ℕ, ◌+◌, ◌-◌, ◌*◌, ◌/◌, ◌<◌, ◌≤◌, ◌⊎◌, Bool, true, false, ◌==◌, eqb, List, [], ◌∷◌, ◌++◌, length, take, set, Some, slice_get, refl, ap, ◌∙◌, sym, subst, inl, inr, arith, true≢false, eq-eqb, append_assoc}
use Rattle.std.proofs.lemmas.Option.{slice_get_within}
use Rattle.std.proofs.lemmas.Bool.{cases_Bool, or_left, or_right, false_from_ne_true, not-false}
use Rattle.std.proofs.lemmas.List.Folds.{list_any-append}
use Rattle.lemma_checker.specs.declared.literal.Literal.{Literal}
use Rattle.lemma_checker.specs.Clauses.{opposite, has, set_of, at, assigned, literal_true, clause_true, Solves, IsOver, AreOver}
use Rattle.lemma_checker.specs.Chains.{has_empty}
use Rattle.lemma_checker.specs.Propagation.{DoesNotConflict, IsNew, AreNew}
use Rattle.lemma_checker.proofs.ListLemmas.{get_left, get_last}
use Rattle.lemma_checker.proofs.ChainLemmas.{over_join}
use Rattle.lemma_checker.proofs.LawProofs.{opposite_plain, opposite_negated, new_has_no_variable_twice}
use Rattle.lemma_checker.proofs.Semantics.{literal_makes_true, of_variable, plain_true, negated_true}
use Rattle.watch_lists.specs.Trails.{IsSettled, IsTrail}
use Rattle.watch_lists.specs.Scans.{AreWithin}
use Rattle.watch_lists.proofs.TrailLemmas.{trail_choose, trail_cut}
use Rattle.clause_solver.specs.Walks.{IsStop}
use Rattle.clause_solver.specs.Analyses.{IsNone}
use Rattle.clause_solver.specs.Solver.{AreAssigned, IsFree, IsProper}
use Rattle.clause_solver.proofs.StopLemmas.{stop_trail, settled_free}

-- the lemmas' clauses are of the variables
pub lemmas_within : (n vars : ℕ) (a b : List (List Literal)) → AreOver vars a → AreOver vars b → n ≡ 2 * vars + 2 → AreWithin n (a ++ b)
lemmas_within n vars a b p q e =
    let o : AreOver vars (a ++ b) = over_join vars a b p q in
    record {
      low = λ i c l is h. (o.each i c is).low l h;
      high = λ i c l is h. omega (arith, e, (o.each i c is).high l h);
    }

-- a literal is chosen
pub choose_step : (n vars : ℕ) (cs : List (List Literal)) (t : List Literal) (rs ss : List ℕ) (vs : List Bool) (x : Literal) → IsTrail n cs t rs ss vs → IsSettled cs (set_of t) → n ≡ 2 * vars + 2 → IsFree vars (at vs) x.0 → IsTrail n cs (t ++ x ∷ []) (rs ++ 0 ∷ []) (ss ++ length t ∷ []) (set vs x.0 true)
choose_step n vars cs t rs ss vs x tr s e f = trail_choose n cs t rs ss vs x tr s (omega (arith, e, f.high)) f.low
    (sym (ap (λ (g : ℕ → Bool). g x.0) tr.same) ∙ f.not_true)
    (sym (ap (λ (g : ℕ → Bool). g (opposite x.0)) tr.same) ∙ f.not_false)

-- a clause without literals
none_empty : (c : List Literal) → ((l : ℕ) → has l c ≡ false) → c ≡ []
none_empty [] n = refl
none_empty (x ∷ xs) n = absurd (true≢false (sym (or_left (eqb x.0 x.0) (has x.0 xs) (eq-eqb x.0 x.0 refl)) ∙ n x.0))

pub empty_last : (fs added : List (List Literal)) (c : List Literal) (f : ℕ → Bool) → set_of c ≡ f → IsNone f → has_empty (fs ++ (added ++ c ∷ [])) ≡ true
empty_last fs added c f same n =
    let nil : c ≡ [] = none_empty c (λ l. ap (λ (g : ℕ → Bool). g l) same ∙ n.each l) in
    let last : has_empty (c ∷ []) ≡ true = ap (λ (z : List Literal). has_empty (z ∷ [])) nil in
    list_any-append (λ (d : List Literal). length d == 0) fs (added ++ c ∷ []) ∙ or_right (has_empty fs) _ (list_any-append (λ (d : List Literal). length d == 0) added (c ∷ []) ∙ or_right (has_empty added) _ last)

-- the numbers of the learned clause's literals
pub learned_range : (vars : ℕ) (added : List (List Literal)) (c : List Literal) (l : ℕ) → AreOver vars (added ++ c ∷ []) → has l c ≡ true → (2 ≤ l) × (l < 2 * vars + 2)
learned_range vars added c l o h = let r : IsOver vars c = o.each (length added) c (get_last added c) in (r.low l h, r.high l h)

pub finish_trail : (n : ℕ) (fs added : List (List Literal)) (t : List Literal) (rs ss : List ℕ) (vs ws : List Bool) (f : ℕ → Bool) (k place : ℕ) (x y : Literal) (id : ℕ) (c : List Literal) → IsTrail n (fs ++ added) t rs ss vs → IsStop t ss f x.0 y.0 k → slice_get ss k ≡ Some place → set_of c ≡ f → x.0 < n → 2 ≤ x.0 → id ≡ length (fs ++ added) + 1 → length ws ≡ n → at ws ≡ set_of (take place t) → IsTrail n (fs ++ (added ++ c ∷ [])) (take place t ++ x ∷ []) (take place rs ++ id ∷ []) (take k ss) (set ws x.0 true)
finish_trail n fs added t rs ss vs ws f k place x y id c tr st at_k same lt low number long values =
    subst (λ (cs : List (List Literal)). IsTrail n cs (take place t ++ x ∷ []) (take place rs ++ id ∷ []) (take k ss) (set ws x.0 true)) (append_assoc fs added (c ∷ []))
    (stop_trail n (fs ++ added) t rs ss vs ws f k place x y id c tr st at_k same lt low number long values)

-- all levels are left
pub bottom_trail : (n : ℕ) (cs : List (List Literal)) (t : List Literal) (rs ss : List ℕ) (vs ws : List Bool) (place : ℕ) → IsTrail n cs t rs ss vs → slice_get ss 0 ≡ Some place → length ws ≡ n → at ws ≡ set_of (take place t) → IsTrail n cs (take place t) (take place rs) [] ws
bottom_trail n cs t rs ss vs ws place tr is long values = trail_cut n cs t rs ss vs ws 0 place tr is long values

-- a settled trail's set is closed from nothing, and has no conflict
pub settled_quiet : (cs : List (List Literal)) (s : ℕ → Bool) → IsSettled cs s → DoesNotConflict cs (λ _. false)
settled_quiet cs s st = record {
  set = s;
  closed = record { start = λ l h. absurd (true≢false (sym h)); unit = λ i c l is others. (st.quiet i c is).unit l others };
  free = settled_free cs s st;
}

-- the values that a settled set with all variables gives satisfy the clauses
pub solved : (vars : ℕ) (fs added : List (List Literal)) (s : ℕ → Bool) (values : List Bool) → AreOver vars fs → IsSettled (fs ++ added) s → AreAssigned vars s → ((v : ℕ) → 1 ≤ v → v ≤ vars → at values (v - 1) ≡ s (2 * v)) → Solves (assigned values) fs
solved vars fs added s values o st all same = record {
  each = λ i c is. elim (cases_Bool (clause_true (assigned values) c)) [
    | inl holds ↦ holds
    | inr fails ↦ absurd ((st.quiet i c (get_left fs added i (slice_get_within fs i c is) ∙ is)).not_false (record {
      each = λ m h.
          let not_held : literal_true (assigned values) m ≡ false = false_from_ne_true _ (λ t. true≢false (sym (literal_makes_true (assigned values) c m h t) ∙ fails)) in
          let low : 2 ≤ m = (o.each i c is).low m h in
          let high : m < 2 * vars + 2 = (o.each i c is).high m h in
          denied (m / 2) m (omega (arith, low)) (omega (arith, high)) (of_variable m (m / 2) refl) not_held;
    }))
  ];
}
  where
    denied : (v m : ℕ) → 1 ≤ v → v ≤ vars → (m ≡ 2 * v) ⊎ (m ≡ 2 * v + 1) → literal_true (assigned values) m ≡ false → s (opposite m) ≡ true
    denied v m low high (inl plain) fails =
        let value : s (2 * v) ≡ false = sym (same v low high) ∙ (sym (plain_true (assigned values) v) ∙ (ap (literal_true (assigned values)) (sym plain) ∙ fails)) in
        elim (all.each v low high) [
          | inl holds ↦ absurd (true≢false (sym holds ∙ value))
          | inr negated ↦ ap s (ap opposite plain ∙ opposite_plain v) ∙ negated
        ]
    denied v m low high (inr negated) fails =
        let value : s (2 * v) ≡ true = sym (same v low high) ∙ not-false _ (sym (negated_true (assigned values) v) ∙ (ap (literal_true (assigned values)) (sym negated) ∙ fails)) in
        ap s (ap opposite negated ∙ opposite_negated v) ∙ value

-- a new clause has a literal, and no variable twice
pub new_proper : (cs : List (List Literal)) (c : List Literal) → IsNew cs c → IsProper c
new_proper cs c n = record { some = positive n.literal c n.member; single = new_has_no_variable_twice cs c n }
  where
    positive : (l : ℕ) (c : List Literal) → has l c ≡ true → 0 < length c
    positive l [] h = absurd (true≢false (sym h))
    positive l (x ∷ xs) h = omega arith

-- no clause has been added
pub none_new : (fs added : List (List Literal)) → added ≡ [] → AreNew fs added
none_new fs added e = subst (AreNew fs) (sym e) (record { each = λ i c is. absurd (cc) })
