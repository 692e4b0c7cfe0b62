-- How a trail may change and still fit the watches.
use Rattle.std.proofs.Common.{◌≡◌, ℕ, zero, suc, ◌+◌, ◌<◌, ◌≤◌, Bool, true, List, [], ◌∷◌, ◌++◌, length, take, get_or, set, Some, slice_get, ap, ◌∙◌, sym, subst, inl, inr, arith, true≢false}
use Rattle.std.proofs.lemmas.Option.{slice_get-get_or}
use Rattle.std.proofs.lemmas.List.{take_all, take_at, take-take, length-take-le, length_push}
use Rattle.lemma_checker.specs.declared.literal.Literal.{Literal}
use Rattle.lemma_checker.specs.Clauses.{opposite, has, set_of, at}
use Rattle.lemma_checker.proofs.ListLemmas.{get_push}
use Rattle.watch_lists.specs.declared.trail.Trail.{Trail}
use Rattle.watch_lists.specs.declared.watches.Watches.{Watches}
use Rattle.watch_lists.specs.Trails.{IsSettled}
use Rattle.watch_lists.specs.Watching.{copy, lists_of, among, IsGuarded, IsPlain, HasTrue}
use Rattle.watch_lists.specs.Watches.{Holds}
use Rattle.watch_lists.specs.FitLaws.{AreRising, IsOpenAtStarts, FirstFits, LongerFits, LowerFits, CutFits, ChosenFits, OpenAreGuarded}
use Rattle.watch_lists.proofs.Lists.{get_front, has_front, lacks_front, has_longer}
use Rattle.watch_lists.proofs.GuardLemmas.{true_push, guard_push, guards_push, plain_push, quiet_set}
use Rattle.watch_lists.proofs.VisitLemmas.{short_true}
use Rattle.watch_lists.proofs.BuildLemmas.{among_place}
use Rattle.watch_lists.proofs.WatchLists.{length_lists}

pub first_fits : FirstFits
first_fits w vars clauses t h p starts done = record {
  watching = record {
    watches = h.sound.watches;
    plain = subst (λ (m : ℕ). IsPlain m t.literals.items t.reasons.items t.starts.items t.values.items t.done) (sym (length_lists w.lists.items)) p;
    guarded = record { each = λ k x lt long watched. record { now = λ n. absurd (true≢false (sym n ∙ ap (λ (d : ℕ). has (opposite x) (take d t.literals.items)) done)); levels = λ i a is n. absurd (none_some i a (ap (λ (s : List ℕ). slice_get s i) (sym starts) ∙ is)) } };
  };
  short = h.sound.short;
  looked = h.sound.looked;
  met = record { each = λ k some m. absurd (omega (arith, some, done)) };
}
  where
    none_some : (i a : ℕ) → slice_get [] i ≡ Some a → ⊥
    none_some zero a e = cc
    none_some (suc i) a e = cc

pub longer_fits : LongerFits
longer_fits w t u x reason f p starts =
    let plain : IsPlain (length (lists_of w.lists.items)) (t.literals.items ++ x ∷ []) (t.reasons.items ++ reason ∷ []) t.starts.items (set t.values.items x.0 true) t.done = plain_push (length (lists_of w.lists.items)) t.literals.items t.reasons.items t.starts.items t.values.items t.done x reason f.watching.plain (omega (arith, p.high, length_lists w.lists.items)) p.low p.absent p.free in
    record {
      watching = record {
        watches = f.watching.watches;
        plain = rw (p.literals, p.reasons, p.values, starts, p.done) plain;
        guarded = rw (p.literals, starts, p.done) (guards_push w.literals.items w.starts.items t.literals.items t.starts.items t.done x f.watching.plain.within f.watching.plain.inside f.watching.guarded);
      };
      short = f.short;
      looked = f.looked;
      met = rw (p.literals, p.done) (record { each = λ k some m. true_push (set_of (copy w.literals.items w.starts.items k)) t.literals.items x (f.met.each k some m) });
    }

lower_guard : (f : ℕ → Bool) (x : ℕ) (t : List Literal) (ss : List ℕ) (d e : ℕ) → e ≤ d → IsGuarded f x t ss d → IsGuarded f x t ss e
lower_guard f x t ss d e le g = record { now = λ n. g.now (has_longer e d t (opposite x) le n); levels = g.levels }

pub lower_fits : LowerFits
lower_fits w t done f le = record {
  watching = record {
    watches = f.watching.watches;
    plain = record { size = f.watching.plain.size; same = f.watching.plain.same; apart = f.watching.plain.apart; once = f.watching.plain.once; named = f.watching.plain.named; lengths = f.watching.plain.lengths; inside = f.watching.plain.inside; within = omega (arith, le, f.watching.plain.within) };
    guarded = record { each = λ k x lt long m. lower_guard (set_of (copy w.literals.items w.starts.items k)) x t.literals.items t.starts.items t.done done le (f.watching.guarded.each k x lt long m) };
  };
  short = f.short;
  looked = f.looked;
  met = record { each = λ k some m. f.met.each k (omega (arith, le, some)) m };
}

-- a guard, where the trail is cut to a level's start
cut_guard : (f : ℕ → Bool) (x : ℕ) (t : List Literal) (ss : List ℕ) (d e k a : ℕ) → AreRising ss → slice_get ss k ≡ Some a → IsGuarded f x t ss d → IsGuarded f x (take a t) (take k ss) e
cut_guard f x t ss d e k a rising is g = record {
  now = λ n. g.levels k a is (has_front e (take a t) (opposite x) n);
  levels = λ i b at_i n.
      let r : (i < k) × (slice_get ss i ≡ Some b) = get_front k ss i b at_i in
      let same : take b (take a t) ≡ take b t = take-take b a t (omega (arith, rising.each i k b a r.0 r.1 is)) in
      subst (HasTrue f) (sym same) (g.levels i b r.1 (ap (has (opposite x)) (sym same) ∙ n));
}

plain_cut : (n : ℕ) (t : List Literal) (rs ss : List ℕ) (vs ws : List Bool) (d e k a : ℕ) → IsPlain n t rs ss vs d → AreRising ss → slice_get ss k ≡ Some a → at ws ≡ set_of (take a t) → length ws ≡ n → e ≤ a → IsPlain n (take a t) (take a rs) (take k ss) ws e
plain_cut n t rs ss vs ws d e k a p rising is same size le =
    let inside : a ≤ length t = p.inside k a is in
    let long : length (take a t) ≡ a = length-take-le a t inside in
    record {
      size = size;
      same = same;
      apart = record { apart = λ l h. lacks_front a t (opposite l) (p.apart.apart l (has_front a t l h)) };
      once = record { once = λ q x at_q. let r : (q < a) × (slice_get t q ≡ Some x) = get_front a t q x at_q in ap (has x.0) (take-take q a t (omega (arith, r.0))) ∙ p.once.once q x r.1 };
      named = λ l h. p.named l (has_front a t l h);
      lengths = length-take-le a rs (omega (arith, p.lengths)) ∙ sym long;
      inside = λ i b at_i. let r : (i < k) × (slice_get ss i ≡ Some b) = get_front k ss i b at_i in omega (arith, rising.each i k b a r.0 r.1 is, long);
      within = omega (arith, le, long);
    }

-- a short clause has a true literal before the start of a level
short_settled : (w : Watches) (vars : ℕ) (clauses : List (List Literal)) (t : List Literal) (k : ℕ) → Holds w vars clauses → IsSettled clauses (set_of t) → among k (take w.looked w.short.items) ≡ true → HasTrue (set_of (copy w.literals.items w.starts.items k)) t
short_settled w vars clauses t k h s m =
    let r : (j : ℕ) × (slice_get (take w.looked w.short.items) j ≡ Some k) = among_place k (take w.looked w.short.items) m in
    let e : (k + 1 < length w.starts.items) × (length (copy w.literals.items w.starts.items k) ≤ 1) = h.sound.short.entries r.0 k (get_front w.looked w.short.items r.0 k r.1).1 in
    let is : slice_get clauses k ≡ Some (get_or clauses k []) = slice_get-get_or clauses k [] (omega (arith, e.0, h.held.count)) in
    short_true (copy w.literals.items w.starts.items k) t e.1 (quiet_set (get_or clauses k []) (copy w.literals.items w.starts.items k) (set_of t) (h.held.same k (get_or clauses k []) is) (s.quiet k (get_or clauses k []) is))

pub cut_fits : CutFits
cut_fits w vars clauses t u levels place h f rising is settled c =
    let plain : IsPlain (length (lists_of w.lists.items)) (take place t.literals.items) (take place t.reasons.items) (take levels t.starts.items) u.values.items u.done = plain_cut (length (lists_of w.lists.items)) t.literals.items t.reasons.items t.starts.items t.values.items u.values.items t.done u.done levels place f.watching.plain rising is c.values (c.size ∙ f.watching.plain.size) c.done in
    record {
      watching = record {
        watches = f.watching.watches;
        plain = rw (c.literals, c.reasons, c.starts) plain;
        guarded = rw (c.literals, c.starts) (record { each = λ k x lt long m. cut_guard (set_of (copy w.literals.items w.starts.items k)) x t.literals.items t.starts.items t.done u.done levels place rising is (f.watching.guarded.each k x lt long m) });
      };
      short = f.short;
      looked = f.looked;
      met = rw c.literals (record { each = λ k some m. short_settled w vars clauses (take place t.literals.items) k h settled m });
    }

-- a guard, where a level begins
chosen_guard : (f : ℕ → Bool) (x : ℕ) (t : List Literal) (ss : List ℕ) (d : ℕ) (y : Literal) → d ≡ length t → ((i a : ℕ) → slice_get ss i ≡ Some a → a ≤ length t) → IsGuarded f x t ss d → IsGuarded f x (t ++ y ∷ []) (ss ++ length t ∷ []) d
chosen_guard f x t ss d y all inside g =
    let pushed : IsGuarded f x (t ++ y ∷ []) ss d = guard_push f x t ss d y (omega (arith, all)) inside g in
    record {
      now = pushed.now;
      levels = λ i a is n. elim (get_push ss (length t) i a is) [
        | inl old ↦ pushed.levels i a old n
        | inr e ↦
            let front : take a (t ++ y ∷ []) ≡ t = take_at t (y ∷ []) a (sym e.1) in
            subst (HasTrue f) (sym front) (g.now (ap (has (opposite x)) (take_all d t (omega (arith, all))) ∙ (ap (has (opposite x)) (sym front) ∙ n)))
      ];
    }

pub chosen_fits : ChosenFits
chosen_fits w t u x f all p starts =
    let plain : IsPlain (length (lists_of w.lists.items)) (t.literals.items ++ x ∷ []) (t.reasons.items ++ 0 ∷ []) t.starts.items (set t.values.items x.0 true) t.done = plain_push (length (lists_of w.lists.items)) t.literals.items t.reasons.items t.starts.items t.values.items t.done x 0 f.watching.plain (omega (arith, p.high, length_lists w.lists.items)) p.low p.absent p.free in
    let more : IsPlain (length (lists_of w.lists.items)) (t.literals.items ++ x ∷ []) (t.reasons.items ++ 0 ∷ []) (t.starts.items ++ length t.literals.items ∷ []) (set t.values.items x.0 true) t.done = record { size = plain.size; same = plain.same; apart = plain.apart; once = plain.once; named = plain.named; lengths = plain.lengths; within = plain.within; inside = λ i a is. elim (get_push t.starts.items (length t.literals.items) i a is) [ inl old ↦ plain.inside i a old | inr e ↦ omega (arith, e.1, length_push t.literals.items x) ] } in
    record {
      watching = record {
        watches = f.watching.watches;
        plain = rw (p.literals, p.reasons, p.values, starts, p.done) more;
        guarded = rw (p.literals, starts, p.done) (record { each = λ k y lt long m. chosen_guard (set_of (copy w.literals.items w.starts.items k)) y t.literals.items t.starts.items t.done x all f.watching.plain.inside (f.watching.guarded.each k y lt long m) });
      };
      short = f.short;
      looked = f.looked;
      met = rw (p.literals, p.done) (record { each = λ k some m. true_push (set_of (copy w.literals.items w.starts.items k)) t.literals.items x (f.met.each k some m) });
    }

pub open_guard : (c : List Literal) (l : ℕ) (t : Trail) → IsOpenAtStarts l t → IsGuarded (set_of c) l t.literals.items t.starts.items t.done
open_guard c l t o = record { now = λ n. absurd (true≢false (sym n ∙ o.now)); levels = λ i a is n. absurd (true≢false (sym n ∙ o.levels i a is)) }

pub open_are_guarded : OpenAreGuarded
open_are_guarded c first second t a b = record { first_guarded = open_guard c first t a; second_guarded = open_guard c second t b }
