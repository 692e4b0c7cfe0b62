-- The laws of a rule hold of what the combinators make of rules.
use Rattle.std.proofs.Common.{◌≡◌, ℕ, zero, suc, ◌+◌, ◌<◌, ◌≤◌, Bool, true, false, cond, ◌||◌, List, [], ◌∷◌, ◌++◌, length, Option, Some, None, Result, Ok, Err, refl, sym, ◌∙◌, ◌⊎◌, inl, inr, ap, subst, append_assoc, length-append, arith}
use Rattle.parsing.specs.Parser.{Fail, Refused, Sunk, Outcome, Parser, and_then, pure, sunk, seq, form, head_of, on_head, sees, expect, on, optional}
use Rattle.parsing.specs.Rule.{Heads, anything, either, one, Passes, joined, Each, if_any, IfAny, Within, Without, SameHead, Begins, Stuck, Taken, Follows, Rule}
use Rattle.parsing.proofs.Steps.{some_same, either_left, either_right, cond_true, cond_false, same_front, same_sees, same_after, none_same, at_head, seq_ok, seq_refused, seq_first_refused, form_ok, form_refused, front_more}

-- ---- one token

module _ {Tok : Type 0} (test : Tok → Bool) where
  expect_is : (t : Tok) (zs : List Tok) → test t ≡ true → expect test (t ∷ zs) ≡ Ok (t, zs)
  unfolding expect
  expect_is t zs e = rw e refl

  expect_not : (t : Tok) (zs : List Tok) → test t ≡ false → expect test (t ∷ zs) ≡ Err (Refused (t ∷ zs))
  unfolding expect
  expect_not t zs e = rw e refl

  expect_at : (room : ℕ) (some : Tok) → test some ≡ true → (t : Tok) (ts : List Tok) (b : Bool) → test t ≡ b → Follows room (expect test) one (Passes test) (t ∷ ts) (cond b (Ok (t, ts)) (Err (Refused (t ∷ ts))))
  unfolding Taken Stuck Begins
  expect_at room some fits t ts true e = (refl, (e, λ zs same. expect_is t zs e))
  expect_at room some fits t ts false e = ([], (refl, ((λ zs same. let x = at_head t ts zs same in rw x.1 (expect_not t x.0 e)), (some, (fits, (some ∷ [], refl))))))

  expect_follows : (room : ℕ) (some : Tok) → test some ≡ true → (ts : List Tok) → Follows room (expect test) one (Passes test) ts (expect test ts)
  unfolding expect Stuck Begins
  expect_follows room some fits [] = ([], (refl, ((λ zs same. rw (none_same zs same) refl), (some, (fits, (some ∷ [], refl))))))
  expect_follows room some fits (t ∷ ts) = expect_at room some fits t ts (test t) refl

  pub expect_rule : (room more : ℕ) (some : Tok) → test some ≡ true → Rule room more (on_head test) anything (expect test) (expect test) one (Passes test)
  expect_rule room more some is = record {
    some = some;
    fits = is;
    follows = expect_follows room some is;
    reads = λ t e short zs next. expect_is t zs e;
    begins = λ t e short zs next. e;
  }

-- ---- one rule after another

module _ {Tok A B : Type 0} (p' : Parser Tok A) (k k' : A → Parser Tok B) (f : A → List Tok) (g : B → List Tok) (G : A → Type 0) (H : A → B → Type 0) where
  seq_second : (room space : ℕ) (ts r1 : List Tok) (a : A) → ((a : A) → G a → room ≤ space + length (f a)) → Taken p' f G ts a r1 → (o : Outcome Tok B) → Follows space (k' a) g (H a) r1 o
      → Follows room (seq p' k') (λ (ab : A × B). f ab.0 ++ g ab.1) (λ (ab : A × B). G ab.0 × H ab.0 ab.1) ts (and_then o (λ b rest. Ok ((a, b), rest)))
  unfolding Taken Stuck Begins
  seq_second room space ts r1 a gap (e, (fits, same)) (Ok (b, r2)) (e2, (fits2, same2)) =
      (rw (e, e2, append_assoc) refl, ((fits, fits2), λ zs s. rw append_assoc (seq_ok p' k' _ _ _ a b (same (g b ++ zs) (same_after (g b) r2 r1 zs e2 s)) (same2 zs s))))
  seq_second room space ts r1 a gap (e, (fits, same)) (Err (Refused r2)) (front, (e2, (same2, (b, (fits2, (more, begun)))))) = (
    f a ++ front,
    (
      rw (e, e2, append_assoc) refl,
      (
        (λ zs s. rw append_assoc (seq_refused p' k' _ _ _ a (same (front ++ zs) (same_after front r2 r1 zs e2 s)) (same2 zs s))),
        ((a, b), ((fits, fits2), (more, rw (begun, append_assoc) refl))),
      ),
    ),
  )
  seq_second room space ts r1 a gap (e, (fits, same)) (Err Sunk) h =
      let bound : room ≤ space + length (f a) = gap a fits in
      let long : length ts ≡ length (f a) + length r1 = rw e (length-append (f a) r1) in
      omega arith

  seq_first : (room space : ℕ) (ts : List Tok) → ((a : A) → G a → room ≤ space + length (f a)) → ((a : A) (r1 : List Tok) → Follows space (k' a) g (H a) r1 (k a r1)) → ((a : A) → (b : B) × H a b) → (o : Outcome Tok A) → Follows room p' f G ts o
      → Follows room (seq p' k') (λ (ab : A × B). f ab.0 ++ g ab.1) (λ (ab : A × B). G ab.0 × H ab.0 ab.1) ts (and_then o (λ a rest. and_then (k a rest) (λ b more. Ok ((a, b), more))))
  unfolding Taken Stuck Begins
  seq_first room space ts gap second some (Ok (a, r1)) h = seq_second room space ts r1 a gap h (k a r1) (second a r1)
  seq_first room space ts gap second some (Err (Refused r1)) (front, (e, (same, (a, (fits, (more, begun)))))) = (
    front,
    (
      e,
      (
        (λ zs s. seq_first_refused p' k' _ _ (same zs s)),
        ((a, (some a).0), ((fits, (some a).1), (more ++ g (some a).0, rw (begun, append_assoc) refl))),
      ),
    ),
  )
  seq_first room space ts gap second some (Err Sunk) h = h

pub seq_rule_by : {Tok A B : Type 0} {room more space less : ℕ} {First Next First' Next' : Heads Tok} {p p' : Parser Tok A} {k k' : A → Parser Tok B} {f : A → List Tok} {g : B → List Tok} {G : A → Type 0} {H : A → B → Type 0}
    → ((a : A) → G a → room ≤ space + length (f a)) → ((a : A) → G a → more ≤ less + length (f a))
    → Rule room more First Next p p' f G → ((a : A) → Rule space less First' Next' (k a) (k' a) g (H a)) → Within First' Next
    → Rule {A = A × B} room more First Next' (seq p k) (seq p' k') (λ ab. f ab.0 ++ g ab.1) (λ ab. G ab.0 × H ab.0 ab.1)
unfolding Within
seq_rule_by {room = room} {more = more} {space = space} {less = less} {p = p} {p' = p'} {k = k} {k' = k'} {f = f} {g = g} {G = G} {H = H} gap gap' first second within = record {
  some = (first.some, (second first.some).some);
  fits = (first.fits, (second first.some).fits);
  follows = λ ts. seq_first p' k k' f g G H room space ts gap (λ a r1. (second a).follows r1) (λ a. ((second a).some, (second a).fits)) (p ts) (first.follows ts);
  reads = λ ab fits short zs next.
      let long : length (f ab.0 ++ g ab.1) ≡ length (f ab.0) + length (g ab.1) = length-append (f ab.0) (g ab.1) in
      let bound : more ≤ less + length (f ab.0) = gap' ab.0 fits.0 in
      let short1 : length (f ab.0) < more = omega arith in
      let short2 : length (g ab.1) < less = omega arith in
      rw append_assoc (seq_ok p' k' _ _ _ ab.0 ab.1
      (first.reads ab.0 fits.0 short1 (g ab.1 ++ zs) (within _ ((second ab.0).begins ab.1 fits.1 short2 zs next)))
      ((second ab.0).reads ab.1 fits.1 short2 zs next));
  begins = λ ab fits short zs next.
      let long : length (f ab.0 ++ g ab.1) ≡ length (f ab.0) + length (g ab.1) = length-append (f ab.0) (g ab.1) in
      let bound : more ≤ less + length (f ab.0) = gap' ab.0 fits.0 in
      let short1 : length (f ab.0) < more = omega arith in
      let short2 : length (g ab.1) < less = omega arith in
      rw append_assoc (first.begins ab.0 fits.0 short1 (g ab.1 ++ zs) (within _ ((second ab.0).begins ab.1 fits.1 short2 zs next)));
}

pub seq_rule : {Tok A B : Type 0} {room more : ℕ} {First Next First' Next' : Heads Tok} {p p' : Parser Tok A} {k k' : A → Parser Tok B} {f : A → List Tok} {g : B → List Tok} {G : A → Type 0} {H : A → B → Type 0}
    → Rule room more First Next p p' f G → ((a : A) → Rule room more First' Next' (k a) (k' a) g (H a)) → Within First' Next
    → Rule {A = A × B} room more First Next' (seq p k) (seq p' k') (λ ab. f ab.0 ++ g ab.1) (λ ab. G ab.0 × H ab.0 ab.1)
seq_rule first second within = seq_rule_by (λ a fits. omega arith) (λ a fits. omega arith) first second within

-- the first takes a token, so what comes after it needs less room
pub seq_step_rule : {Tok A B : Type 0} {room more : ℕ} {First Next First' Next' : Heads Tok} {p p' : Parser Tok A} {k k' : A → Parser Tok B} {f : A → List Tok} {g : B → List Tok} {G : A → Type 0} {H : A → B → Type 0}
    → ((a : A) → G a → 0 < length (f a))
    → Rule (suc room) (suc more) First Next p p' f G → ((a : A) → Rule room more First' Next' (k a) (k' a) g (H a)) → Within First' Next
    → Rule {A = A × B} (suc room) (suc more) First Next' (seq p k) (seq p' k') (λ ab. f ab.0 ++ g ab.1) (λ ab. G ab.0 × H ab.0 ab.1)
seq_step_rule some first second within = seq_rule_by (λ a fits. omega (arith, some a fits)) (λ a fits. omega (arith, some a fits)) first second within

-- ---- a rule in another form

module _ {Tok A B : Type 0} (into : A → B) (p' : Parser Tok A) (f : A → List Tok) (g : B → List Tok) (G : A → Type 0) (H : B → Type 0) (same : (a : A) → G a → (g (into a) ≡ f a) × H (into a)) where
  form_follows : (room : ℕ) (ts : List Tok) (o : Outcome Tok A) → Follows room p' f G ts o → Follows room (form into p') g H ts (and_then o (λ a rest. Ok (into a, rest)))
  unfolding Taken Stuck Begins
  form_follows room ts (Ok (a, rest)) (e, (fits, next)) = let x = same a fits in (rw (x.0) e, (x.1, λ zs s. rw (x.0) (form_ok into p' _ _ a (next zs s))))
  form_follows room ts (Err (Refused rest)) (front, (e, (next, (a, (fits, (more, begun)))))) =
      let x = same a fits in (front, (e, ((λ zs s. form_refused into p' _ _ (next zs s)), (into a, (x.1, (more, rw (x.0) begun))))))
  form_follows room ts (Err Sunk) h = h

pub form_rule : {Tok A B : Type 0} {room more : ℕ} {First Next : Heads Tok} {p p' : Parser Tok A} {f : A → List Tok} {G : A → Type 0} (into : A → B) (g : B → List Tok) (H : B → Type 0)
    → ((a : A) → G a → (g (into a) ≡ f a) × H (into a)) → ((b : B) → H b → (a : A) × ((into a ≡ b) × G a))
    → Rule room more First Next p p' f G → Rule room more First Next (form into p) (form into p') g H
form_rule {Tok = Tok} {B = B} {more = more} {First = First} {Next = Next} {p = p} {p' = p'} {f = f} {G = G} into g H same covers rule = record {
  some = into rule.some;
  fits = (same rule.some rule.fits).1;
  follows = λ ts. form_follows into p' f g G H same _ ts (p ts) (rule.follows ts);
  reads = λ b fits short zs next.
      let from = covers b fits in
      let e : g b ≡ f from.0 = ap g (sym from.1.0) ∙ (same from.0 from.1.1).0 in
      let short' : length (f from.0) < more = rw (← e) short in
      let whole : B → Outcome Tok B = λ x. Ok (x, zs) in
      rw e (form_ok into p' _ _ from.0 (rule.reads from.0 from.1.1 short' zs next) ∙ ap whole from.1.0);
  begins = λ b fits short zs next.
      let from = covers b fits in
      let e : g b ≡ f from.0 = ap g (sym from.1.0) ∙ (same from.0 from.1.1).0 in
      let short' : length (f from.0) < more = rw (← e) short in
      rw e (rule.begins from.0 from.1.1 short' zs next);
}

-- ---- one rule or another, by the next token

module _ {Tok A : Type 0} (test : Tok → Bool) (p' q' : Parser Tok A) (f : A → List Tok) (G H : A → Type 0) where
  on_yes : (ts : List Tok) → sees test ts ≡ true → on test p' q' ts ≡ p' ts
  on_yes ts e = cond_true (sees test ts) (p' ts) (q' ts) e

  on_no : (ts : List Tok) → sees test ts ≡ false → on test p' q' ts ≡ q' ts
  on_no ts e = cond_false (sees test ts) (p' ts) (q' ts) e

  sees_next : (b : Bool) (ts front rest zs : List Tok) → sees test ts ≡ b → ts ≡ front ++ rest → SameHead rest zs → sees test (front ++ zs) ≡ b
  sees_next b ts front rest zs e split s = sym (same_sees test ts (front ++ zs) (same_after front rest ts zs split s)) ∙ e

  on_left : (room : ℕ) (ts : List Tok) → sees test ts ≡ true → (o : Outcome Tok A) → Follows room p' f G ts o → Follows room (on test p' q') f (λ (a : A). G a ⊎ H a) ts o
  unfolding Taken Stuck Begins
  on_left room ts see (Ok (a, rest)) (e, (fits, next)) = (e, (inl fits, λ zs s. on_yes _ (sees_next true ts (f a) rest zs see e s) ∙ next zs s))
  on_left room ts see (Err (Refused rest)) (front, (e, (next, (a, (fits, begun))))) = (front, (e, ((λ zs s. on_yes _ (sees_next true ts front rest zs see e s) ∙ next zs s), (a, (inl fits, begun)))))
  on_left room ts see (Err Sunk) h = h

  on_right : (room : ℕ) (ts : List Tok) → sees test ts ≡ false → (o : Outcome Tok A) → Follows room q' f H ts o → Follows room (on test p' q') f (λ (a : A). G a ⊎ H a) ts o
  unfolding Taken Stuck Begins
  on_right room ts see (Ok (a, rest)) (e, (fits, next)) = (e, (inr fits, λ zs s. on_no _ (sees_next false ts (f a) rest zs see e s) ∙ next zs s))
  on_right room ts see (Err (Refused rest)) (front, (e, (next, (a, (fits, begun))))) = (front, (e, ((λ zs s. on_no _ (sees_next false ts front rest zs see e s) ∙ next zs s), (a, (inr fits, begun)))))
  on_right room ts see (Err Sunk) h = h

  on_follows : (room : ℕ) (p q : Parser Tok A) (ts : List Tok) → Follows room p' f G ts (p ts) → Follows room q' f H ts (q ts) → (b : Bool) → sees test ts ≡ b → Follows room (on test p' q') f (λ (a : A). G a ⊎ H a) ts (cond b (p ts) (q ts))
  on_follows room p q ts left right true see = on_left room ts see (p ts) left
  on_follows room p q ts left right false see = on_right room ts see (q ts) right

  on_reads : (more : ℕ) (First First' Next : Heads Tok) (p q : Parser Tok A) (room : ℕ) → Rule room more First Next p p' f G → Rule room more First' Next q q' f H → Within First (on_head test) → Without First' test
      → (a : A) → G a ⊎ H a → length (f a) < more → (zs : List Tok) → Next (head_of zs) ≡ true → on test p' q' (f a ++ zs) ≡ Ok (a, zs)
  unfolding Within Without
  on_reads more First First' Next p q room left right seen unseen a (inl fits) short zs next = on_yes _ (seen _ (left.begins a fits short zs next)) ∙ left.reads a fits short zs next
  on_reads more First First' Next p q room left right seen unseen a (inr fits) short zs next = on_no _ (unseen _ (right.begins a fits short zs next)) ∙ right.reads a fits short zs next

  on_begins : (more : ℕ) (First First' Next : Heads Tok) (p q : Parser Tok A) (room : ℕ) → Rule room more First Next p p' f G → Rule room more First' Next q q' f H
      → (a : A) → G a ⊎ H a → length (f a) < more → (zs : List Tok) → Next (head_of zs) ≡ true → (First (head_of (f a ++ zs)) || First' (head_of (f a ++ zs))) ≡ true
  on_begins more First First' Next p q room left right a (inl fits) short zs next = either_left _ _ (left.begins a fits short zs next)
  on_begins more First First' Next p q room left right a (inr fits) short zs next = either_right _ _ (right.begins a fits short zs next)

pub on_rule : {Tok A : Type 0} {room more : ℕ} {First First' Next : Heads Tok} {p p' q q' : Parser Tok A} {f : A → List Tok} {G H : A → Type 0} (test : Tok → Bool)
    → Rule room more First Next p p' f G → Rule room more First' Next q q' f H → Within First (on_head test) → Without First' test
    → Rule room more (either First First') Next (on test p q) (on test p' q') f (λ a. G a ⊎ H a)
on_rule {room = room} {more = more} {First = First} {First' = First'} {Next = Next} {p = p} {p' = p'} {q = q} {q' = q'} {f = f} {G = G} {H = H} test left right seen unseen = record {
  some = left.some;
  fits = inl left.fits;
  follows = λ ts. on_follows test p' q' f G H room p q ts (left.follows ts) (right.follows ts) (sees test ts) refl;
  reads = on_reads test p' q' f G H more First First' Next p q room left right seen unseen;
  begins = on_begins test p' q' f G H more First First' Next p q room left right;
}

-- nothing is read
pub pure_rule : {Tok A : Type 0} (room more : ℕ) (Next : Heads Tok) (a : A) (f : A → List Tok) → f a ≡ [] → Rule room more Next Next (pure a) (pure a) f (λ x. x ≡ a)
unfolding Taken
pure_rule {Tok} {A} room more Next a f none = record {
  some = a;
  fits = refl;
  follows = λ ts. (rw none refl, (refl, λ zs s. rw none refl));
  reads = λ x fits short zs next. let whole : A → Outcome Tok A = λ y. Ok (y, zs) in rw (fits, none) refl;
  begins = λ x fits short zs next. rw (fits, none) next;
}

-- ---- other bounds, other words for fitting, and no room

pub weaker_rule : {Tok A : Type 0} {room more : ℕ} {First Next First' Next' : Heads Tok} {p q : Parser Tok A} {f : A → List Tok} {G : A → Type 0}
    → Within First First' → Within Next' Next → Rule room more First Next p q f G → Rule room more First' Next' p q f G
unfolding Within
weaker_rule wider narrower rule = record {
  some = rule.some;
  fits = rule.fits;
  follows = rule.follows;
  reads = λ a fits short zs next. rule.reads a fits short zs (narrower _ next);
  begins = λ a fits short zs next. wider _ (rule.begins a fits short zs (narrower _ next));
}

module _ {Tok A : Type 0} (q : Parser Tok A) (f : A → List Tok) (G H : A → Type 0) (into : (a : A) → G a → H a) where
  fit_follows : (room : ℕ) (ts : List Tok) (o : Outcome Tok A) → Follows room q f G ts o → Follows room q f H ts o
  unfolding Taken Stuck Begins
  fit_follows room ts (Ok (a, rest)) (e, (fits, next)) = (e, (into a fits, next))
  fit_follows room ts (Err (Refused rest)) (front, (e, (next, (a, (fits, begun))))) = (front, (e, (next, (a, (into a fits, begun)))))
  fit_follows room ts (Err Sunk) h = h

pub fit_rule : {Tok A : Type 0} {room more : ℕ} {First Next : Heads Tok} {p q : Parser Tok A} {f : A → List Tok} {G : A → Type 0} (H : A → Type 0)
    → ((a : A) → G a → H a) → ((a : A) → H a → G a) → Rule room more First Next p q f G → Rule room more First Next p q f H
fit_rule {room = room} {p = p} {q = q} {f = f} {G = G} H into from rule = record {
  some = rule.some;
  fits = into rule.some rule.fits;
  follows = λ ts. fit_follows q f G H into room ts (p ts) (rule.follows ts);
  reads = λ a fits short zs next. rule.reads a (from a fits) short zs next;
  begins = λ a fits short zs next. rule.begins a (from a fits) short zs next;
}

-- without room nothing is claimed but that there is none
pub sunk_rule : {Tok A : Type 0} {room more : ℕ} {First Next : Heads Tok} {p q : Parser Tok A} {f : A → List Tok} {G : A → Type 0}
    → Rule room more First Next p q f G → Rule 0 more First Next sunk q f G
sunk_rule rule = record {
  some = rule.some;
  fits = rule.fits;
  follows = λ ts. omega arith;
  reads = rule.reads;
  begins = rule.begins;
}

pub no_room_rule : {Tok A : Type 0} {First Next : Heads Tok} {f : A → List Tok} {G : A → Type 0} (some : A) → G some → Rule 0 0 First Next sunk sunk f G
no_room_rule some fits = record {
  some = some;
  fits = fits;
  follows = λ ts. omega arith;
  reads = λ a fit short zs next. absurd (omega arith);
  begins = λ a fit short zs next. absurd (omega arith);
}

-- ---- a part that may be absent

IsThere : {A : Type 0} → (A → Type 0) → Option A → Type 0
IsThere G None = ⊥
IsThere G (Some x) = G x

there : {A : Type 0} (G : A → Type 0) (o : Option A) → IsThere G o → (a : A) × ((Some a ≡ o) × G a)
unfolding IsThere
there G None h = absurd h
there G (Some x) h = (x, (refl, h))

is_there : {Tok A : Type 0} (f : A → List Tok) (G : A → Type 0) (a : A) → G a → (if_any f (Some a) ≡ f a) × IsThere G (Some a)
unfolding IsThere
is_there f G a fits = (refl, fits)

any_of : {A : Type 0} (G : A → Type 0) (o : Option A) → IsThere G o ⊎ (o ≡ None) → IfAny G o
unfolding IsThere
any_of G None h = tt
any_of G (Some x) (inl h) = h
any_of G (Some x) (inr e) = absurd (cc)

from_any : {A : Type 0} (G : A → Type 0) (o : Option A) → IfAny G o → IsThere G o ⊎ (o ≡ None)
unfolding IsThere
from_any G None h = inr refl
from_any G (Some x) h = inl h

pub optional_rule : {Tok A : Type 0} {room more : ℕ} {First Next : Heads Tok} {p q : Parser Tok A} {f : A → List Tok} {G : A → Type 0} (test : Tok → Bool)
    → Rule room more First Next p q f G → Within First (on_head test) → Without Next test
    → Rule room more (either First Next) Next (optional test p) (optional test q) (if_any f) (IfAny G)
optional_rule {room = room} {more = more} {Next = Next} {f = f} {G = G} test rule seen unseen =
    fit_rule (IfAny G) (any_of G) (from_any G)
    (on_rule test (form_rule Some (if_any f) (IsThere G) (is_there f G) (there G) rule) (pure_rule room more Next None (if_any f) refl) seen unseen)
