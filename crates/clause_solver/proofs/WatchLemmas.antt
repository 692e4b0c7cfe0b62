-- The solver's trail and its watches.
use Rattle.std.proofs.Common.{◌≡◌, ℕ, ◌+◌, ◌-◌, ◌*◌, ◌<◌, ◌≤◌, Bool, true, List, [], ◌∷◌, ◌++◌, length, take, set, get_or, Some, slice_get, ap, ◌∙◌, sym, arith, true≢false}
use Rattle.std.proofs.lemmas.Option.{slice_get-get_or, same_Some}
use Rattle.std.proofs.lemmas.List.{take-take, take-append-le, length-take-le, length_push}
use Rattle.lemma_checker.specs.declared.literal.Literal.{Literal}
use Rattle.lemma_checker.specs.Clauses.{opposite, has, set_of, at, AreDistinct}
use Rattle.lemma_checker.specs.Propagation.{AreApart}
use Rattle.lemma_checker.proofs.ListLemmas.{get_last}
use Rattle.lemma_checker.proofs.CollectLemmas.{has_push_new}
use Rattle.watch_lists.specs.declared.trail.Trail.{Trail}
use Rattle.watch_lists.specs.declared.watches.Watches.{Watches}
use Rattle.watch_lists.specs.Trails.{IsSettled, IsTrail}
use Rattle.watch_lists.specs.Scans.{IsTrailOf}
use Rattle.watch_lists.specs.Watching.{HasTrue}
use Rattle.watch_lists.specs.Watches.{Holds, Fits, ArePair, ArePairGuarded}
use Rattle.watch_lists.specs.FitLaws.{IsCut}
use Rattle.watch_lists.proofs.Lists.{get_front, has_at}
use Rattle.watch_lists.proofs.GuardLemmas.{guard_free}
use Rattle.watch_lists.proofs.FitLemmas.{chosen_fits, cut_fits, longer_fits}
use Rattle.clause_solver.specs.Walks.{IsStop}
use Rattle.clause_solver.specs.Solver.{IsFree, ArePairOrOne}

-- a literal was chosen: the trail still fits
pub choose_fits : (w : Watches) (vars : ℕ) (cs : List (List Literal)) (t u : Trail) (x : Literal) → Holds w vars cs → Fits w t → at t.values.items ≡ set_of t.literals.items → t.done ≡ length t.literals.items → IsFree vars (at t.values.items) x.0 → u.literals.items ≡ t.literals.items ++ x ∷ [] → u.reasons.items ≡ t.reasons.items ++ 0 ∷ [] → u.values.items ≡ set t.values.items x.0 true → u.starts.items ≡ t.starts.items ++ length t.literals.items ∷ [] → u.done ≡ t.done → Fits w u
choose_fits w vars cs t u x h f same all free literals reasons values starts done = chosen_fits w t u x f all (record {
  low = free.low;
  high = omega (arith, h.size, free.high);
  absent = sym (ap (λ (g : ℕ → Bool). g x.0) same) ∙ free.not_true;
  free = sym (ap (λ (g : ℕ → Bool). g (opposite x.0)) same) ∙ free.not_false;
  literals = literals;
  reasons = reasons;
  values = values;
  done = done;
}) starts

-- two different literals stand in the clause, if it has two
pub pair_or_one : (c : List Literal) (l m : ℕ) → AreDistinct c → ArePairOrOne c l m → 2 ≤ length c → ArePair c l m
pair_or_one c l m d p long =
    let x : Literal = get_or c 0 (record { 0 = 0 }) in
    let y : Literal = get_or c 1 (record { 0 = 0 }) in
    let x_is : slice_get c 0 ≡ Some x = slice_get-get_or c 0 (record { 0 = 0 }) (omega arith) in
    let y_is : slice_get c 1 ≡ Some y = slice_get-get_or c 1 (record { 0 = 0 }) (omega arith) in
    record {
      first_in = p.first_in;
      second_in = p.second_in;
      different = λ e.
          let one : x.0 ≡ l = p.alone (sym e) x.0 (has_at c 0 x x_is) in
          let two : y.0 ≡ l = p.alone (sym e) y.0 (has_at c 1 y y_is) in
          true≢false (sym (front c x x_is) ∙ (ap (λ (k : ℕ). has k (take 1 c)) (one ∙ sym two) ∙ d.once 1 y y_is));
    }
  where
    front : (c : List Literal) (x : Literal) → slice_get c 0 ≡ Some x → has x.0 (take 1 c) ≡ true
    front [] x is = absurd (cc)
    front (z ∷ zs) x is = has_at (z ∷ []) 0 x is

-- the two literals of a stop
pub stop_pair : (t : List Literal) (ss : List ℕ) (f : ℕ → Bool) (l m k : ℕ) (c : List Literal) → IsStop t ss f l m k → set_of c ≡ f → ArePairOrOne c l m
stop_pair t ss f l m k c st same = record {
  first_in = ap (λ (g : ℕ → Bool). g l) same ∙ st.member;
  second_in = ap (λ (g : ℕ → Bool). g m) same ∙ st.second;
  alone = λ e x h. st.alone e x (sym (ap (λ (g : ℕ → Bool). g x) same) ∙ h);
}

-- both are guarded, once the trail is cut and the first follows
pub stop_guarded : (n : ℕ) (cs : List (List Literal)) (t : List Literal) (rs ss : List ℕ) (vs : List Bool) (f : ℕ → Bool) (x : Literal) (m k place : ℕ) (c : List Literal) (u : Trail) → IsTrail n cs t rs ss vs → IsStop t ss f x.0 m k → slice_get ss k ≡ Some place → set_of c ≡ f → AreApart (set_of u.literals.items) → u.literals.items ≡ take place t ++ x ∷ [] → u.starts.items ≡ take k ss → ArePairGuarded c x.0 m u
stop_guarded n cs t rs ss vs f x m k place c u tr st at_k same apart literals starts =
    let pair : ArePairOrOne c x.0 m = stop_pair t ss f x.0 m k c st same in
    let holds : has x.0 u.literals.items ≡ true = ap (has x.0) literals ∙ has_push_new (take place t) x in
    let met : HasTrue (set_of c) u.literals.items = record { literal = x.0; member = pair.first_in; holds = holds } in
    record {
      first_guarded = guard_free (set_of c) x.0 u.literals.items u.starts.items u.done (apart.apart x.0 holds);
      second_guarded = record {
        now = λ _. met;
        levels = λ i a is h.
            let r : (i < k) × (slice_get ss i ≡ Some a) = get_front k ss i a (ap (λ (s : List ℕ). slice_get s i) (sym starts) ∙ is) in
            let under : a < place = tr.rising i k a place r.0 r.1 at_k in
            let long : length (take place t) ≡ place = length-take-le place t (omega (arith, tr.inside k place at_k)) in
            let front : take a u.literals.items ≡ take a t = ap (take a) literals ∙ (take-append-le a (take place t) (x ∷ []) (omega (arith, under, long)) ∙ take-take a place t (omega (arith, under))) in
            absurd (true≢false (sym h ∙ (ap (has (opposite m)) front ∙ (st.lower i a r.0 r.1).1)));
      };
    }

-- the trail is cut to the start of a level, and a literal follows
pub back_fits : (w : Watches) (vars : ℕ) (cs : List (List Literal)) (t u v : Trail) (f : ℕ → Bool) (x : Literal) (m k place id : ℕ) → Holds w vars cs → Fits w t → IsTrailOf cs t → IsStop t.literals.items t.starts.items f x.0 m k → slice_get t.starts.items k ≡ Some place → IsCut t u k place → x.0 < 2 * vars + 2 → 2 ≤ x.0 → v.literals.items ≡ u.literals.items ++ x ∷ [] → v.reasons.items ≡ u.reasons.items ++ id ∷ [] → v.values.items ≡ set u.values.items x.0 true → v.starts.items ≡ u.starts.items → v.done ≡ u.done → Fits w v
back_fits w vars cs t u v f x m k place id h fits tr st at_k cut lt low literals reasons values starts done =
    let place_is : st.place ≡ place = same_place (sym st.is ∙ at_k) in
    let settled : IsSettled cs (set_of (take place t.literals.items)) = tr.settled k place at_k in
    let back : Fits w u = cut_fits w vars cs t u k place h fits (record { each = tr.rising }) at_k settled cut in
    longer_fits w u v x id back (record {
      low = low;
      high = omega (arith, h.size, lt);
      absent = ap (has x.0) cut.literals ∙ (ap (λ (p : ℕ). has x.0 (take p t.literals.items)) (sym place_is) ∙ st.absent);
      free = ap (has (opposite x.0)) cut.literals ∙ (ap (λ (p : ℕ). has (opposite x.0) (take p t.literals.items)) (sym place_is) ∙ st.free);
      literals = literals;
      reasons = reasons;
      values = values;
      done = done;
    }) starts
  where
    same_place : {y z : ℕ} → Some y ≡ Some z → y ≡ z
    same_place e = cc

-- the clause at the end
pub last_at : (added : List (List Literal)) (c : List Literal) → slice_get (added ++ c ∷ []) (length (added ++ c ∷ []) - 1) ≡ Some c
last_at added c = let e : length (added ++ c ∷ []) - 1 ≡ length added = omega (arith, length_push added c) in ap (slice_get (added ++ c ∷ [])) e ∙ get_last added c

pub last_clause : (added more : List (List Literal)) (c d : List Literal) → more ≡ added ++ c ∷ [] → slice_get more (length more - 1) ≡ Some d → d ≡ c
last_clause added more c d e is = same_Some d c (sym is ∙ (ap (λ (z : List (List Literal)). slice_get z (length z - 1)) e ∙ last_at added c))
