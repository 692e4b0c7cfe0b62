-- The laws of a rule hold of its repetition.
use Rattle.std.proofs.Common.{◌≡◌, ℕ, zero, suc, ◌+◌, ◌<◌, ◌≤◌, Bool, true, false, cond, ◌||◌, List, [], ◌∷◌, ◌++◌, length, Option, Some, None, Result, Ok, Err, refl, sym, ◌∙◌, ap, subst, append_assoc, append-nil, length-append, arith}
use Rattle.parsing.specs.Parser.{Fail, Refused, Sunk, Outcome, Parser, and_then, pure, head_of, on_head, sees, on, many_from, many}
use Rattle.parsing.specs.Rule.{Heads, either, joined, Each, Within, Without, SameHead, Begins, Stuck, Taken, Follows, Rule}
use Rattle.parsing.proofs.Steps.{true_not_false, either_left, either_right, cond_true, cond_false, same_sees, same_after}

joined-one : {Tok A : Type 0} (f : A → List Tok) (xs : List A) (x : A) → joined f (xs ++ x ∷ []) ≡ joined f xs ++ f x
joined-one f [] x = simp append-nil
joined-one f (y ∷ xs) x = rw (joined-one f xs x) (simp append_assoc)

each-one : {A : Type 0} (G : A → Type 0) (xs : List A) (x : A) → Each G xs → G x → Each G (xs ++ x ∷ [])
each-one G [] x h e = (e, tt)
each-one G (y ∷ xs) x h e = (h.0, each-one G xs x h.1 e)

module _ {Tok A : Type 0} (test : Tok → Bool) (q : Parser Tok A) (f : A → List Tok) (G : A → Type 0) where
  stops : (m : ℕ) (found : List A) (ts : List Tok) → sees test ts ≡ false → many_from test q m found ts ≡ Ok (found, ts)
  unfolding many_from
  stops zero found ts e = refl
  stops (suc m) found ts e = rw e refl

  turns : (m : ℕ) (found : List A) (ts rest : List Tok) (x : A) → sees test ts ≡ true → q ts ≡ Ok (x, rest) → many_from test q (suc m) found ts ≡ many_from test q m (found ++ x ∷ []) rest
  unfolding many_from
  turns m found ts rest x e h = rw (e, h) refl

  refuses : (m : ℕ) (found : List A) (ts rest : List Tok) → sees test ts ≡ true → q ts ≡ Err (Refused rest) → many_from test q (suc m) found ts ≡ Err (Refused rest)
  unfolding many_from
  refuses m found ts rest e h = rw (e, h) refl

  some_room : (us : List Tok) → sees test us ≡ true → length us ≤ 0 → ⊥
  some_room [] e long = cc
  some_room (u ∷ us) e long = omega arith

  -- what the turns from here on say of the tokens: those taken stand in `front`
  LoopTaken : List A → List Tok → List A → List Tok → Type 0
  LoopTaken found ts ys rest = (front : List Tok) × ((ts ≡ front ++ rest) × ((joined f ys ≡ joined f found ++ front) × (Each G ys
      × ((zs : List Tok) → SameHead rest zs → (m : ℕ) → length (front ++ zs) ≤ m → many_from test q m found (front ++ zs) ≡ Ok (ys, zs)))))

  LoopStuck : List A → List Tok → List Tok → Type 0
  LoopStuck found ts rest = (front : List Tok) × ((ts ≡ front ++ rest)
      × (((zs : List Tok) → SameHead rest zs → (m : ℕ) → length (front ++ zs) ≤ m → many_from test q m found (front ++ zs) ≡ Err (Refused zs))
      × ((ys : List A) × (Each G ys × ((more : List Tok) × (joined f ys ≡ joined f found ++ front ++ more))))))

  LoopFollows : ℕ → List A → List Tok → Outcome Tok (List A) → Type 0
  LoopFollows room found ts (Ok p) = LoopTaken found ts p.0 p.1
  LoopFollows room found ts (Err (Refused rest)) = LoopStuck found ts rest
  LoopFollows room found ts (Err Sunk) = room ≤ length ts

  loop_ends : (room : ℕ) (found : List A) (ts : List Tok) → Each G found → sees test ts ≡ false → LoopFollows room found ts (Ok (found, ts))
  unfolding LoopFollows LoopTaken
  loop_ends room found ts each e = ([], (refl, (sym (append-nil (joined f found)), (each, λ zs s m long. stops m found zs (sym (same_sees test ts zs s) ∙ e)))))

  next_turn : (found : List A) (ts r1 : List Tok) (x : A) (front rest zs : List Tok) → sees test ts ≡ true → 0 < length (f x) → ts ≡ f x ++ r1 → r1 ≡ front ++ rest
      → ((us : List Tok) → SameHead r1 us → q (f x ++ us) ≡ Ok (x, us)) → SameHead rest zs → (m : ℕ) → length (f x ++ front ++ zs) ≤ m → (o : Outcome Tok (List A))
      → ((m2 : ℕ) → length (front ++ zs) ≤ m2 → many_from test q m2 (found ++ x ∷ []) (front ++ zs) ≡ o) → many_from test q m found (f x ++ front ++ zs) ≡ o
  next_turn found ts r1 x front rest zs e some split split2 same s zero long o ih =
      let whole : length (f x ++ front ++ zs) ≡ length (f x) + length front + length zs = simp length-append in absurd (omega arith)
  next_turn found ts r1 x front rest zs e some split split2 same s (suc m) long o ih =
      let next : SameHead r1 (front ++ zs) = same_after front rest r1 zs split2 s in
      let whole : length (f x ++ front ++ zs) ≡ length (f x) + length front + length zs = simp length-append in
      let part : length (front ++ zs) ≡ length front + length zs = simp length-append in
      let see : sees test (f x ++ (front ++ zs)) ≡ true = sym (same_sees test ts (f x ++ (front ++ zs)) (same_after (f x) r1 ts (front ++ zs) split next)) ∙ e in
      rw append_assoc (turns m found (f x ++ (front ++ zs)) (front ++ zs) x see (same (front ++ zs) next) ∙ ih m (omega arith))

  loop_next : (room : ℕ) (found : List A) (ts r1 : List Tok) (x : A) → sees test ts ≡ true → 0 < length (f x) → Taken q f G ts x r1 → (o : Outcome Tok (List A)) → LoopFollows room (found ++ x ∷ []) r1 o → LoopFollows room found ts o
  unfolding LoopFollows LoopTaken LoopStuck Taken
  loop_next room found ts r1 x e some (split, (fits, same)) (Ok (ys, rest)) (front, (split2, (taken, (all, same2)))) = (
    f x ++ front,
    (
      rw (split, split2, append_assoc) refl,
      (
        rw (taken, joined-one f found x) (simp append_assoc),
        (
          all,
          λ zs s m long. next_turn found ts r1 x front rest zs e some split split2 same s m long (Ok (ys, zs)) (same2 zs s),
        ),
      ),
    ),
  )
  loop_next room found ts r1 x e some (split, (fits, same)) (Err (Refused rest)) (front, (split2, (same2, (ys, (all, (more, begun)))))) = (
    f x ++ front,
    (
      rw (split, split2, append_assoc) refl,
      (
        (λ zs s m long. next_turn found ts r1 x front rest zs e some split split2 same s m long (Err (Refused zs)) (same2 zs s)),
        (ys, (all, (more, rw (begun, joined-one f found x) (simp append_assoc)))),
      ),
    ),
  )
  loop_next room found ts r1 x e some (split, (fits, same)) (Err Sunk) h =
      let long : length ts ≡ length (f x) + length r1 = rw split (length-append (f x) r1) in omega arith

  refused_turn : (found : List A) (ts front rest zs : List Tok) → sees test ts ≡ true → ts ≡ front ++ rest → q (front ++ zs) ≡ Err (Refused zs) → SameHead rest zs → (m : ℕ) → length (front ++ zs) ≤ m → many_from test q m found (front ++ zs) ≡ Err (Refused zs)
  refused_turn found ts front rest zs e split same s zero long =
      let see : sees test (front ++ zs) ≡ true = sym (same_sees test ts (front ++ zs) (same_after front rest ts zs split s)) ∙ e in absurd (some_room (front ++ zs) see long)
  refused_turn found ts front rest zs e split same s (suc m) long =
      let see : sees test (front ++ zs) ≡ true = sym (same_sees test ts (front ++ zs) (same_after front rest ts zs split s)) ∙ e in refuses m found (front ++ zs) zs see same

  loop_refused : (found : List A) (ts rest : List Tok) → Each G found → sees test ts ≡ true → Stuck q f G ts rest → LoopStuck found ts rest
  unfolding LoopStuck Stuck Begins
  loop_refused found ts rest each e (front, (split, (same, (x, (fits, (more, begun)))))) = (
    front,
    (
      split,
      (
        (λ zs s m long. refused_turn found ts front rest zs e split (same zs s) s m long),
        (found ++ x ∷ [], (each-one G found x each fits, (more, rw (joined-one f found x, begun) (simp append_assoc)))),
      ),
    ),
  )

  fits_of : (ts : List Tok) (x : A) (rest : List Tok) → Taken q f G ts x rest → G x
  unfolding Taken
  fits_of ts x rest taken = taken.1.0

  split_of : (ts : List Tok) (x : A) (rest : List Tok) → Taken q f G ts x rest → ts ≡ f x ++ rest
  unfolding Taken
  split_of ts x rest taken = taken.0

  module _ (p : Parser Tok A) (room : ℕ) (nonempty : (a : A) → G a → 0 < length (f a)) (turn : (ts : List Tok) → Follows room q f G ts (p ts)) where
    loop_turn : (n : ℕ) → ((found : List A) (ts : List Tok) → Each G found → length ts ≤ n → LoopFollows room found ts (many_from test p n found ts))
        → (found : List A) (ts : List Tok) → Each G found → length ts ≤ suc n → sees test ts ≡ true → (o : Outcome Tok A) → Follows room q f G ts o
        → LoopFollows room found ts (and_then o (λ x. many_from test p n (found ++ x ∷ [])))
    unfolding LoopFollows
    loop_turn n ih found ts each long e (Ok (x, r1)) taken =
        let some : 0 < length (f x) = nonempty x (fits_of ts x r1 taken) in
        let whole : length ts ≡ length (f x) + length r1 = rw (split_of ts x r1 taken) (length-append (f x) r1) in
        loop_next room found ts r1 x e some taken (many_from test p n (found ++ x ∷ []) r1)
        (ih (found ++ x ∷ []) r1 (each-one G found x each (fits_of ts x r1 taken)) (omega arith))
    loop_turn n ih found ts each long e (Err (Refused rest)) stuck = loop_refused found ts rest each e stuck
    loop_turn n ih found ts each long e (Err Sunk) h = h

    loop_or_end : (n : ℕ) → ((found : List A) (ts : List Tok) → Each G found → length ts ≤ n → LoopFollows room found ts (many_from test p n found ts))
        → (found : List A) (ts : List Tok) → Each G found → length ts ≤ suc n → (b : Bool) → sees test ts ≡ b
        → LoopFollows room found ts (cond b (and_then (p ts) (λ x. many_from test p n (found ++ x ∷ []))) (Ok (found, ts)))
    loop_or_end n ih found ts each long true e = loop_turn n ih found ts each long e (p ts) (turn ts)
    loop_or_end n ih found ts each long false e = loop_ends room found ts each e

    loop_follows : (n : ℕ) (found : List A) (ts : List Tok) → Each G found → length ts ≤ n → LoopFollows room found ts (many_from test p n found ts)
    unfolding many_from
    loop_follows zero found [] each long = loop_ends room found [] each refl
    loop_follows zero found (t ∷ ts) each long = absurd (omega arith)
    loop_follows (suc n) found ts each long = loop_or_end n (loop_follows n) found ts each long (sees test ts) refl

  many_follows : (room : ℕ) (ts : List Tok) (o : Outcome Tok (List A)) → LoopFollows room [] ts o → Follows room (many test q) (joined f) (Each G) ts o
  unfolding LoopFollows LoopTaken LoopStuck Taken Stuck Begins many
  many_follows room ts (Ok (ys, rest)) (front, (split, (taken, (all, same)))) =
      let e : joined f ys ≡ front = taken in (rw (e, split) refl, (all, λ zs s. rw e (same zs s (length (front ++ zs)) (omega arith))))
  many_follows room ts (Err (Refused rest)) (front, (split, (same, (ys, (all, (more, begun)))))) =
      (front, (split, ((λ zs s. same zs s (length (front ++ zs)) (omega arith)), (ys, (all, (more, begun))))))
  many_follows room ts (Err Sunk) h = h

  many_begins : (room more : ℕ) (First Next Next' : Heads Tok) (p : Parser Tok A) → Rule room more First Next' p q f G → Within (either First Next) Next'
      → (ys : List A) → Each G ys → length (joined f ys) < more → (zs : List Tok) → Next (head_of zs) ≡ true → either First Next (head_of (joined f ys ++ zs)) ≡ true
  unfolding Within
  many_begins room more First Next Next' p rule within [] each short zs next = either_right _ _ next
  many_begins room more First Next Next' p rule within (y ∷ ys) each short zs next =
      let whole : length (f y ++ joined f ys) ≡ length (f y) + length (joined f ys) = simp length-append in
      rw append_assoc (either_left _ _ (rule.begins y each.0 (omega arith) (joined f ys ++ zs) (within _ (many_begins room more First Next Next' p rule within ys each.1 (omega arith) zs next))))

  many_reads : (room more : ℕ) (First Next Next' : Heads Tok) (p : Parser Tok A) → Rule room more First Next' p q f G → Within First (on_head test) → Without Next test → Within (either First Next) Next'
      → ((a : A) → G a → 0 < length (f a))
      → (m : ℕ) (found ys : List A) → Each G ys → length (joined f ys) < more → (zs : List Tok) → Next (head_of zs) ≡ true → length (joined f ys ++ zs) ≤ m
      → many_from test q m found (joined f ys ++ zs) ≡ Ok (found ++ ys, zs)
  unfolding Within Without
  many_reads room more First Next Next' p rule seen unseen within nonempty m found [] each short zs next long = rw (append-nil found) (stops m found zs (unseen _ next))
  many_reads room more First Next Next' p rule seen unseen within nonempty zero found (y ∷ ys) each short zs next long =
      let whole : length (f y ++ joined f ys ++ zs) ≡ length (f y) + length (joined f ys) + length zs = simp length-append in
      let some : 0 < length (f y) = nonempty y each.0 in absurd (omega arith)
  many_reads room more First Next Next' p rule seen unseen within nonempty (suc m) found (y ∷ ys) each short zs next long =
      let whole : length (f y ++ joined f ys ++ zs) ≡ length (f y) + length (joined f ys) + length zs = simp length-append in
      let whole2 : length (f y ++ joined f ys) ≡ length (f y) + length (joined f ys) = simp length-append in
      let part : length (joined f ys ++ zs) ≡ length (joined f ys) + length zs = simp length-append in
      let some : 0 < length (f y) = nonempty y each.0 in
      let after : Next' (head_of (joined f ys ++ zs)) ≡ true = within _ (many_begins room more First Next Next' p rule within ys each.1 (omega arith) zs next) in
      let see : sees test (f y ++ (joined f ys ++ zs)) ≡ true = seen _ (rule.begins y each.0 (omega arith) (joined f ys ++ zs) after) in
      let again = many_reads room more First Next Next' p rule seen unseen within nonempty m (found ++ y ∷ []) ys each.1 (omega arith) zs next (omega arith) in
      rw append_assoc (turns m found (f y ++ (joined f ys ++ zs)) (joined f ys ++ zs) y see (rule.reads y each.0 (omega arith) (joined f ys ++ zs) after) ∙ rw append_assoc at again)

pub many_rule : {Tok A : Type 0} {room more : ℕ} {First Next' : Heads Tok} {p q : Parser Tok A} {f : A → List Tok} {G : A → Type 0} (test : Tok → Bool) (Next : Heads Tok)
    → ((a : A) → G a → 0 < length (f a)) → Rule room more First Next' p q f G → Within First (on_head test) → Without Next test → Within (either First Next) Next'
    → Rule room more (either First Next) Next (many test p) (many test q) (joined f) (Each G)
unfolding many
many_rule {room = room} {more = more} {First = First} {Next' = Next'} {p = p} {q = q} {f = f} {G = G} test Next nonempty rule seen unseen within = record {
  some = [];
  fits = tt;
  follows = λ ts. many_follows test q f G room ts (many_from test p (length ts) [] ts) (loop_follows test q f G p room nonempty rule.follows (length ts) [] ts tt (omega arith));
  reads = λ ys each short zs next. many_reads test q f G room more First Next Next' p rule seen unseen within nonempty (length (joined f ys ++ zs)) [] ys each short zs next (omega arith);
  begins = many_begins test q f G room more First Next Next' p rule within;
}
