-- Guards of watched literals, while a trail grows and copies change their order.
use Rattle.std.proofs.Common.{◌≡◌, ℕ, ◌+◌, ◌<◌, ◌≤◌, ◌⊎◌, Bool, true, false, List, [], ◌∷◌, ◌++◌, length, take, get_or, set, Some, slice_get, refl, ap, ◌∙◌, sym, subst, inl, inr, arith, true≢false, length-set, length-take, add-one}
use Rattle.std.proofs.lemmas.Bool.{cases_eq, cases_lt}
use Rattle.std.proofs.lemmas.Option.{slice_get-get_or, slice_get_within}
use Rattle.std.proofs.lemmas.List.{take_at, take_all, take_more, take-take, length_push}
use Rattle.lemma_checker.specs.declared.literal.Literal.{Literal}
use Rattle.lemma_checker.specs.Clauses.{opposite, has, set_of}
use Rattle.lemma_checker.specs.Chains.{numbered}
use Rattle.lemma_checker.specs.Propagation.{AreOthersFalse, IsFalse, AreApart}
use Rattle.lemma_checker.proofs.ListLemmas.{get_push}
use Rattle.lemma_checker.proofs.LawProofs.{opposite_back}
use Rattle.lemma_checker.proofs.CollectLemmas.{has_push_old, distinct_push}
use Rattle.watch_lists.specs.Trails.{IsQuiet}
use Rattle.watch_lists.specs.Scans.{IsConflictNumber}
use Rattle.watch_lists.specs.Watching.{copy, literal_at, AreTwo, watched_at, HasTrue, IsGuarded, AreGuarded, IsPlain, AreHeld, AreForced, IsReason}
use Rattle.watch_lists.specs.Visits.{AreSameCopies}
use Rattle.watch_lists.proofs.Lists.{lacks_front, push_cases, get_take, has_front}
use Rattle.watch_lists.proofs.LookLemmas.{first_watched, second_watched, has_place}
use Rattle.watch_lists.proofs.TrailLemmas.{values_push, apart_push, before_push}

-- a true literal stays
pub true_push : (f : ℕ → Bool) (t : List Literal) (x : Literal) → HasTrue f t → HasTrue f (t ++ x ∷ [])
true_push f t x h = record { literal = h.literal; member = h.member; holds = has_push_old h.literal t x h.holds }

pub true_set : (f g : ℕ → Bool) (t : List Literal) → g ≡ f → HasTrue f t → HasTrue g t
true_set f g t e h = record { literal = h.literal; member = ap (λ (s : ℕ → Bool). s h.literal) e ∙ h.member; holds = h.holds }

-- a clause with a true literal is quiet
pub quiet_true : (c t : List Literal) → AreApart (set_of t) → HasTrue (set_of c) t → IsQuiet c (set_of t)
quiet_true c t a h = record {
  not_false = λ n. true≢false (sym (n.each h.literal h.member) ∙ a.apart h.literal h.holds);
  unit = λ l o. elim (cases_eq h.literal l) [
    | inl e ↦ ap (λ (k : ℕ). has k t) (sym e) ∙ h.holds
    | inr away ↦ absurd (true≢false (sym (o.others h.literal h.member away) ∙ a.apart h.literal h.holds))
  ];
}

pub guard_set : (f g : ℕ → Bool) (x : ℕ) (t : List Literal) (ss : List ℕ) (d : ℕ) → g ≡ f → IsGuarded f x t ss d → IsGuarded g x t ss d
guard_set f g x t ss d e h = record { now = λ n. true_set f g t e (h.now n); levels = λ i a is n. true_set f g (take a t) e (h.levels i a is n) }

-- a literal that is not false is guarded
pub guard_free : (f : ℕ → Bool) (x : ℕ) (t : List Literal) (ss : List ℕ) (d : ℕ) → has (opposite x) t ≡ false → IsGuarded f x t ss d
guard_free f x t ss d free = record { now = λ n. absurd (true≢false (sym n ∙ lacks_front d t (opposite x) free)); levels = λ i a is n. absurd (true≢false (sym n ∙ lacks_front a t (opposite x) free)) }

pub guard_push : (f : ℕ → Bool) (x : ℕ) (t : List Literal) (ss : List ℕ) (d : ℕ) (y : Literal) → d ≤ length t → ((i a : ℕ) → slice_get ss i ≡ Some a → a ≤ length t) → IsGuarded f x t ss d → IsGuarded f x (t ++ y ∷ []) ss d
guard_push f x t ss d y within inside h = record {
  now = λ n. true_push f t y (h.now (ap (has (opposite x)) (sym (before_push t y d within)) ∙ n));
  levels = λ i a is n. subst (HasTrue f) (sym (before_push t y a (inside i a is))) (h.levels i a is (ap (has (opposite x)) (sym (before_push t y a (inside i a is))) ∙ n));
}

-- one literal more is propagated
pub guard_more : (f : ℕ → Bool) (x : ℕ) (t : List Literal) (ss : List ℕ) (d : ℕ) → d < length t → (x ≡ opposite (literal_at t d) → HasTrue f t) → IsGuarded f x t ss d → IsGuarded f x t ss (d + 1)
guard_more f x t ss d lt met h = record {
  now = λ n. elim (push_cases (opposite x) (take d t) (get_or t d (record { 0 = 0 })) (ap (has (opposite x)) (sym (take_more t d (record { 0 = 0 }) lt)) ∙ n)) [ inl old ↦ h.now old | inr e ↦ met (sym (opposite_back x) ∙ ap opposite e) ];
  levels = h.levels;
}

-- the guards after copies changed their order
pub guards_next : (ls new : List Literal) (starts : List ℕ) (t : List Literal) (ss : List ℕ) (d : ℕ) → AreSameCopies starts ls new → ((k x : ℕ) → k + 1 < length starts → watched_at new starts k x ≡ true → (watched_at ls starts k x ≡ true) ⊎ (has (opposite x) t ≡ false)) → AreGuarded ls starts t ss d → AreGuarded new starts t ss d
guards_next ls new starts t ss d copies watched g = record {
  each = λ k x lt long w. elim (watched k x lt w) [
    | inl old ↦ guard_set (set_of (copy ls starts k)) (set_of (copy new starts k)) x t ss d (copies.same k lt) (g.each k x lt (omega (arith, long, copies.long k lt)) old)
    | inr free ↦ guard_free (set_of (copy new starts k)) x t ss d free
  ];
}

pub guards_push : (ls : List Literal) (starts : List ℕ) (t : List Literal) (ss : List ℕ) (d : ℕ) (y : Literal) → d ≤ length t → ((i a : ℕ) → slice_get ss i ≡ Some a → a ≤ length t) → AreGuarded ls starts t ss d → AreGuarded ls starts (t ++ y ∷ []) ss d
guards_push ls starts t ss d y within inside g = record { each = λ k x lt long w. guard_push (set_of (copy ls starts k)) x t ss d y within inside (g.each k x lt long w) }

-- the trail grows by an open literal
pub plain_push : (n : ℕ) (t : List Literal) (rs ss : List ℕ) (vs : List Bool) (d : ℕ) (x : Literal) (id : ℕ) → IsPlain n t rs ss vs d → x.0 < n → 2 ≤ x.0 → has x.0 t ≡ false → has (opposite x.0) t ≡ false → IsPlain n (t ++ x ∷ []) (rs ++ id ∷ []) ss (set vs x.0 true) d
plain_push n t rs ss vs d x id p lt low absent free =
    let more : length (t ++ x ∷ []) ≡ length t + 1 = length_push t x in
    record {
      size = length-set vs x.0 true ∙ p.size;
      same = values_push vs t x (omega (arith, p.size)) p.same;
      apart = apart_push t x p.apart free;
      once = distinct_push t x p.once absent;
      named = λ l h. elim (push_cases l t x h) [ inl old ↦ p.named l old | inr e ↦ omega (arith, e) ];
      lengths = omega (arith, p.lengths, more, length_push rs id);
      inside = λ i a is. omega (arith, more, p.inside i a is);
      within = omega (arith, more, p.within);
    }

-- the clause of a copy
pub record IsClause (ls : List Literal) (starts : List ℕ) (clauses : List (List Literal)) (k : ℕ) : Type 0 where
  pub clause : List Literal
  pub is : numbered clauses (k + 1) ≡ Some clause
  pub same : set_of (copy ls starts k) ≡ set_of clause

numbered_next : (clauses : List (List Literal)) (k : ℕ) → numbered clauses (k + 1) ≡ slice_get clauses k
numbered_next clauses k = ap (numbered clauses) (add-one k)

pub clause_of : (ls : List Literal) (starts : List ℕ) (clauses : List (List Literal)) (k : ℕ) → AreHeld ls starts clauses → k + 1 < length starts → IsClause ls starts clauses k
clause_of ls starts clauses k held lt =
    let is : slice_get clauses k ≡ Some (get_or clauses k []) = slice_get-get_or clauses k [] (omega (arith, held.count)) in
    record { clause = get_or clauses k []; is = numbered_next clauses k ∙ is; same = held.same k (get_or clauses k []) is }

pub others_set : (c d : List Literal) (l : ℕ) (s : ℕ → Bool) → set_of d ≡ set_of c → AreOthersFalse c l s → AreOthersFalse d l s
others_set c d l s e o = record { member = ap (λ (f : ℕ → Bool). f l) e ∙ o.member; others = λ m h away. o.others m (ap (λ (f : ℕ → Bool). f m) (sym e) ∙ h) away }

pub false_set : (c d : List Literal) (s : ℕ → Bool) → set_of d ≡ set_of c → IsFalse c s → IsFalse d s
false_set c d s e n = record { each = λ m h. n.each m (ap (λ (f : ℕ → Bool). f m) (sym e) ∙ h) }

-- a false copy is a false clause
pub conflict_of : (ls c : List Literal) (starts : List ℕ) (clauses : List (List Literal)) (k : ℕ) (s : ℕ → Bool) → AreHeld ls starts clauses → k + 1 < length starts → set_of c ≡ set_of (copy ls starts k) → IsFalse c s → IsConflictNumber clauses (k + 1) s
conflict_of ls c starts clauses k s held lt same n =
    let i : IsClause ls starts clauses k = clause_of ls starts clauses k held lt in
    record { few = omega (arith, held.count); clause = i.clause; is = i.is; conflict = false_set c i.clause s (sym (same ∙ i.same)) n }

-- nothing was added
pub forced_none : (clauses : List (List Literal)) (t : List Literal) (rs : List ℕ) → length rs ≡ length t → AreForced clauses t rs t rs
forced_none clauses t rs same = record {
  front = take_all (length t) t (omega arith);
  known = take_all (length t) rs (omega (arith, same));
  each = λ p k x late at_p at_reason. absurd (omega (arith, slice_get_within t p x at_p));
}

-- a literal was added that the copy of a clause forces
pub forced_push : (ls c : List Literal) (starts : List ℕ) (clauses : List (List Literal)) (k : ℕ) (t : List Literal) (rs : List ℕ) (x : Literal) → AreHeld ls starts clauses → k + 1 < length starts → set_of c ≡ set_of (copy ls starts k) → AreOthersFalse c x.0 (set_of t) → length rs ≡ length t → AreForced clauses t rs (t ++ x ∷ []) (rs ++ (k + 1) ∷ [])
forced_push ls c starts clauses k t rs x held lt same o lengths =
    let i : IsClause ls starts clauses k = clause_of ls starts clauses k held lt in
    let others : AreOthersFalse i.clause x.0 (set_of t) = others_set c i.clause x.0 (set_of t) (sym (same ∙ i.same)) o in
    let front : take (length t) (t ++ x ∷ []) ≡ t = take_at t (x ∷ []) (length t) refl in
    record {
      front = front;
      known = take_at rs ((k + 1) ∷ []) (length t) lengths;
      each = λ p q y late at_p at_reason. elim (get_push t x p y at_p) [
        | inl old ↦ absurd (omega (arith, slice_get_within t p y old))
        | inr e ↦ elim (get_push rs (k + 1) p q at_reason) [
          | inl old ↦ absurd (omega (arith, slice_get_within rs p q old))
          | inr f ↦ record {
            some = omega (arith, f.1);
            clause = i.clause;
            is = ap (numbered clauses) f.1 ∙ i.is;
            others = subst (λ (u : List Literal). AreOthersFalse i.clause y.0 (set_of u)) (sym (ap (λ (n : ℕ). take n (t ++ x ∷ [])) e.0 ∙ front)) (subst (λ (z : Literal). AreOthersFalse i.clause z.0 (set_of t)) (sym e.1) others);
          }
        ]
      ];
    }

front_le : (xs ys : List Literal) → take (length xs) ys ≡ xs → length xs ≤ length ys
front_le xs ys e = omega (arith, ap length e, length-take (length xs) ys)

pub front_more : (t u v : List Literal) → take (length t) u ≡ t → take (length u) v ≡ u → take (length t) v ≡ t
front_more t u v a b = sym (take-take (length t) (length u) v (front_le t u a)) ∙ (ap (take (length t)) b ∙ a)

-- one part of propagation after another
pub forced_more : (clauses : List (List Literal)) (t u v : List Literal) (rs us ws : List ℕ) → length us ≡ length u → AreForced clauses t rs u us → AreForced clauses u us v ws → AreForced clauses t rs v ws
forced_more clauses t u v rs us ws lengths a b =
    let shorter : length t ≤ length u = front_le t u a.front in
    let back : take (length t) v ≡ take (length t) u = sym (take-take (length t) (length u) v shorter) ∙ ap (take (length t)) b.front in
    record {
      front = back ∙ a.front;
      known = sym (take-take (length t) (length u) ws shorter) ∙ (ap (take (length t)) b.known ∙ a.known);
      each = λ p k x late at_p at_reason. elim (cases_lt p (length u)) [
        | inl early ↦
            let in_u : slice_get u p ≡ Some x = ap (λ (z : List Literal). slice_get z p) (sym b.front) ∙ get_take (length u) v p x early at_p in
            let in_us : slice_get us p ≡ Some k = ap (λ (z : List ℕ). slice_get z p) (sym b.known) ∙ get_take (length u) ws p k early at_reason in
            let same : take p u ≡ take p v = ap (take p) (sym b.front) ∙ take-take p (length u) v (omega arith) in
            subst (λ (z : List Literal). IsReason clauses k x.0 (set_of z)) same (a.each p k x late in_u in_us)
        | inr past ↦ b.each p k x past at_p at_reason
      ];
    }

-- a longer trail keeps what is true
pub true_longer : (f : ℕ → Bool) (t u : List Literal) → take (length t) u ≡ t → HasTrue f t → HasTrue f u
true_longer f t u front h = record { literal = h.literal; member = h.member; holds = has_front (length t) u h.literal (ap (has h.literal) front ∙ h.holds) }

-- a clause whose two watches are guarded up to the end of the trail is quiet
pub quiet_watched : (c t : List Literal) (ss : List ℕ) (d : ℕ) → d ≡ length t → AreTwo c → AreApart (set_of t) → ((x : ℕ) → has x (take 2 c) ≡ true → IsGuarded (set_of c) x t ss d) → IsQuiet c (set_of t)
quiet_watched c t ss d all two apart g =
    let first : has (opposite (literal_at c 0)) t ≡ true → HasTrue (set_of c) t = λ h. (g (literal_at c 0) (first_watched c two.long)).now (ap (has (opposite (literal_at c 0))) (take_all d t (omega (arith, all))) ∙ h) in
    let second : has (opposite (literal_at c 1)) t ≡ true → HasTrue (set_of c) t = λ h. (g (literal_at c 1) (second_watched c two.long)).now (ap (has (opposite (literal_at c 1))) (take_all d t (omega (arith, all))) ∙ h) in
    let first_in : has (literal_at c 0) c ≡ true = has_place c 0 (omega (arith, two.long)) in
    let second_in : has (literal_at c 1) c ≡ true = has_place c 1 (omega (arith, two.long)) in
    record {
      not_false = λ n. (quiet_true c t apart (first (n.each (literal_at c 0) first_in))).not_false n;
      unit = λ l o. elim (cases_eq (literal_at c 0) l) [
        | inl e ↦ (quiet_true c t apart (second (o.others (literal_at c 1) second_in (λ q. two.different (e ∙ sym q))))).unit l o
        | inr away ↦ (quiet_true c t apart (first (o.others (literal_at c 0) first_in away))).unit l o
      ];
    }

pub quiet_set : (c d : List Literal) (s : ℕ → Bool) → set_of d ≡ set_of c → IsQuiet c s → IsQuiet d s
quiet_set c d s e q = record { not_false = λ n. q.not_false (false_set d c s (sym e) n); unit = λ l o. q.unit l (others_set d c l s (sym e) o) }
