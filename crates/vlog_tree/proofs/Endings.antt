-- The laws of a row whose trees may end in an `if` without an `else`: no `else` comes after such a tree.
use Rattle.std.proofs.Common.{◌≡◌, ℕ, suc, ◌+◌, ◌<◌, ◌≤◌, Bool, true, false, cond, not, ◌==◌, List, [], ◌∷◌, ◌++◌, length, Option, Some, None, Ok, codes, refl, sym, ◌∙◌, ◌⊎◌, inl, inr, ap, subst, append_assoc, append-nil, length-append, arith}
use Rattle.parsing.specs.Parser.{Outcome, Parser, seq, form, on, optional, sunk, sees, head_of}
use Rattle.parsing.specs.Rule.{Heads, either, IfAny, Within, Without, Rule}
use Rattle.parsing.proofs.Steps.{seq_ok, form_ok, cond_true, cond_false}
use Rattle.parsing.proofs.Rules.{seq_rule, seq_rule_by, form_rule, on_rule, pure_rule, optional_rule, fit_rule, sunk_rule, no_room_rule}
use Rattle.vlog_tree.specs.declared.token.VToken.{VToken}
use Rattle.vlog_tree.specs.Terminals.{Tokens, is_word}
use Rattle.vlog_tree.specs.Parts.{flat_option}
use Rattle.vlog_tree.proofs.Sorts.{or_left, or_right, or_cases, among, sort_at, heads, Sorted, subset, disjoint, heads_within, within_test, without_test, either_within, else_word_sorted}
use Rattle.vlog_tree.proofs.Build.{Reading, Holds, Image, flat_rule, absent_flat, lower}

-- no next token at all
unfoldable pub nothing : Heads VToken
nothing h = false

-- what may come after: `else` too where the tree doesn't end in an open `if`
abbrev pub after : List ℕ → Bool → List ℕ
after N open_ = cond open_ N (27 ∷ N)

pub record Ending {A : Type 0} (room more : ℕ) (S N : List ℕ) (opens : A → Bool) (p q : Parser VToken A) (flat : A → Tokens) (Fits : A → Type 0) : Type 0 where
  pub base : Rule room more nothing nothing p q flat Fits
  pub reads : (a : A) → Fits a → length (flat a) < more → (zs : Tokens) → among (after N (opens a)) (sort_at (head_of zs)) ≡ true → q (flat a ++ zs) ≡ Ok (a, zs)
  pub begins : (a : A) → Fits a → length (flat a) < more → (zs : Tokens) → among (after N (opens a)) (sort_at (head_of zs)) ≡ true → among S (sort_at (head_of (flat a ++ zs))) ≡ true

base_of : {A : Type 0} {room more : ℕ} {First Next : Heads VToken} {p q : Parser VToken A} {f : A → Tokens} {G : A → Type 0} → Rule room more First Next p q f G → Rule room more nothing nothing p q f G
unfolding nothing
base_of rule = record { some = rule.some; fits = rule.fits; follows = rule.follows; reads = λ a fits short zs next. absurd (cc); begins = λ a fits short zs next. absurd (cc) }

to_any : (N : List ℕ) (b : Bool) (k : ℕ) → among (after N b) k ≡ true → among (27 ∷ N) k ≡ true
to_any N true k h = or_right _ _ h
to_any N false k h = h

from_all : (N : List ℕ) (b : Bool) (k : ℕ) → among N k ≡ true → among (after N b) k ≡ true
from_all N true k h = h
from_all N false k h = or_right _ _ h

-- a row before which `else` may always come
pub always : {A : Type 0} {room more : ℕ} {S N : List ℕ} {p q : Parser VToken A} {f : A → Tokens} {G : A → Type 0} (opens : A → Bool) → Reading room more S (27 ∷ N) p q f G → Ending room more S N opens p q f G
always {N = N} opens reading = record {
  base = base_of reading.rule;
  reads = λ a fits short zs next. reading.rule.reads a fits short zs (to_any N (opens a) _ next);
  begins = λ a fits short zs next. reading.rule.begins a fits short zs (to_any N (opens a) _ next);
}

-- where no `else` comes
pub settled : {A : Type 0} {room more : ℕ} {S N : List ℕ} {opens : A → Bool} {p q : Parser VToken A} {f : A → Tokens} {G : A → Type 0} → Ending room more S N opens p q f G → Reading room more S N p q f G
settled {N = N} {opens = opens} ending = record {
  rule = record {
    some = ending.base.some;
    fits = ending.base.fits;
    follows = ending.base.follows;
    reads = λ a fits short zs next. ending.reads a fits short zs (from_all N (opens a) _ next);
    begins = λ a fits short zs next. ending.begins a fits short zs (from_all N (opens a) _ next);
  };
}

-- ---- one after the other

then_by : {A B : Type 0} {room more space less : ℕ} {S N S' N' : List ℕ} {opens : B → Bool} {p p' : Parser VToken A} {k k' : Parser VToken B} {f : A → Tokens} {g : B → Tokens} {G : A → Type 0} {H : B → Type 0}
    → ((a : A) → G a → room ≤ space + length (f a)) → ((a : A) → G a → more ≤ less + length (f a)) → subset S' N ≡ true
    → Reading room more S N p p' f G → Ending space less S' N' opens k k' g H
    → Ending {A = A × B} room more S N' (λ ab. opens ab.1) (seq p (λ _. k)) (seq p' (λ _. k')) (λ ab. f ab.0 ++ g ab.1) (λ ab. G ab.0 × H ab.1)
unfolding nothing Within
then_by {more = more} {less = less} {S = S} {N = N} {S' = S'} {p' = p'} {k' = k'} {f = f} {g = g} gap gap' sub first second = record {
  base = seq_rule_by gap gap' (base_of first.rule) (λ _. second.base) (λ h e. e);
  reads = λ ab fits short zs next.
      let long : length (f ab.0 ++ g ab.1) ≡ length (f ab.0) + length (g ab.1) = length-append (f ab.0) (g ab.1) in
      let bound : more ≤ less + length (f ab.0) = gap' ab.0 fits.0 in
      let short1 : length (f ab.0) < more = omega arith in
      let short2 : length (g ab.1) < less = omega arith in
      rw append_assoc (seq_ok p' (λ _. k') _ _ _ ab.0 ab.1
      (first.rule.reads ab.0 fits.0 short1 (g ab.1 ++ zs) (heads_within S' N sub _ (second.begins ab.1 fits.1 short2 zs next)))
      (second.reads ab.1 fits.1 short2 zs next));
  begins = λ ab fits short zs next.
      let long : length (f ab.0 ++ g ab.1) ≡ length (f ab.0) + length (g ab.1) = length-append (f ab.0) (g ab.1) in
      let bound : more ≤ less + length (f ab.0) = gap' ab.0 fits.0 in
      let short1 : length (f ab.0) < more = omega arith in
      let short2 : length (g ab.1) < less = omega arith in
      rw append_assoc (first.rule.begins ab.0 fits.0 short1 (g ab.1 ++ zs) (heads_within S' N sub _ (second.begins ab.1 fits.1 short2 zs next)));
}

pub then_ending : {A B : Type 0} {room more : ℕ} {S N S' N' : List ℕ} {opens : B → Bool} {p p' : Parser VToken A} {k k' : Parser VToken B} {f : A → Tokens} {g : B → Tokens} {G : A → Type 0} {H : B → Type 0}
    → subset S' N ≡ true → Reading room more S N p p' f G → Ending room more S' N' opens k k' g H
    → Ending {A = A × B} room more S N' (λ ab. opens ab.1) (seq p (λ _. k)) (seq p' (λ _. k')) (λ ab. f ab.0 ++ g ab.1) (λ ab. G ab.0 × H ab.1)
then_ending sub first second = then_by (λ a fits. omega arith) (λ a fits. omega arith) sub first second

-- the first takes a token, so what comes after it needs less room
pub then_step_ending : {A B : Type 0} {room more : ℕ} {S N S' N' : List ℕ} {opens : B → Bool} {p p' : Parser VToken A} {k k' : Parser VToken B} {f : A → Tokens} {g : B → Tokens} {G : A → Type 0} {H : B → Type 0}
    → subset S' N ≡ true → ((a : A) → G a → 0 < length (f a)) → Reading (suc room) (suc more) S N p p' f G → Ending room more S' N' opens k k' g H
    → Ending {A = A × B} (suc room) (suc more) S N' (λ ab. opens ab.1) (seq p (λ _. k)) (seq p' (λ _. k')) (λ ab. f ab.0 ++ g ab.1) (λ ab. G ab.0 × H ab.1)
then_step_ending sub some first second = then_by (λ a fits. omega (arith, some a fits)) (λ a fits. omega (arith, some a fits)) sub first second

-- ---- in another form

pub as_ending : {A B : Type 0} {room more : ℕ} {S N : List ℕ} {opens : A → Bool} {p p' : Parser VToken A} {f : A → Tokens} {G : A → Type 0} (into : A → B) (g : B → Tokens) (H : B → Type 0) (opens' : B → Bool)
    → ((a : A) → opens' (into a) ≡ opens a) → ((a : A) → G a → (g (into a) ≡ f a) × H (into a)) → ((b : B) → H b → (a : A) × ((into a ≡ b) × G a))
    → Ending room more S N opens p p' f G → Ending room more S N opens' (form into p) (form into p') g H
as_ending {B = B} {more = more} {S = S} {N = N} {opens = opens} {p' = p'} {f = f} {G = G} into g H opens' open_ same covers ending = record {
  base = base_of (form_rule into g H same covers ending.base);
  reads = λ b fits short zs next.
      let from = covers b fits in
      let e : g b ≡ f from.0 = ap g (sym from.1.0) ∙ (same from.0 from.1.1).0 in
      let short' : length (f from.0) < more = rw (← e) short in
      let o : opens' b ≡ opens from.0 = ap opens' (sym from.1.0) ∙ open_ from.0 in
      let next' : among (after N (opens from.0)) (sort_at (head_of zs)) ≡ true = subst (λ x. among (after N x) (sort_at (head_of zs)) ≡ true) o next in
      let whole : B → Outcome VToken B = λ x. Ok (x, zs) in
      rw e (form_ok into p' _ _ from.0 (ending.reads from.0 from.1.1 short' zs next') ∙ ap whole from.1.0);
  begins = λ b fits short zs next.
      let from = covers b fits in
      let e : g b ≡ f from.0 = ap g (sym from.1.0) ∙ (same from.0 from.1.1).0 in
      let short' : length (f from.0) < more = rw (← e) short in
      let o : opens' b ≡ opens from.0 = ap opens' (sym from.1.0) ∙ open_ from.0 in
      let next' : among (after N (opens from.0)) (sort_at (head_of zs)) ≡ true = subst (λ x. among (after N x) (sort_at (head_of zs)) ≡ true) o next in
      rw e (ending.begins from.0 from.1.1 short' zs next');
}

pub image_ending : {A B : Type 0} {room more : ℕ} {S N : List ℕ} {opens : A → Bool} {p p' : Parser VToken A} {f : A → Tokens} {G : A → Type 0} (into : A → B) (g : B → Tokens) (opens' : B → Bool)
    → ((a : A) → opens' (into a) ≡ opens a) → ((a : A) → G a → g (into a) ≡ f a)
    → Ending room more S N opens p p' f G → Ending room more S N opens' (form into p) (form into p') g (Image into G)
image_ending {G = G} into g opens' open_ same ending = as_ending into g (Image into G) opens' open_ (λ a fits. (same a fits, (a, (refl, fits)))) (λ b h. h) ending

-- ---- one or the other, and other words for fitting

module _ {A : Type 0} (test : VToken → Bool) (p' q' : Parser VToken A) where
  on_yes : (ts : Tokens) → sees test ts ≡ true → on test p' q' ts ≡ p' ts
  on_yes ts e = cond_true (sees test ts) (p' ts) (q' ts) e

  on_no : (ts : Tokens) → sees test ts ≡ false → on test p' q' ts ≡ q' ts
  on_no ts e = cond_false (sees test ts) (p' ts) (q' ts) e

pub or_ending : {A : Type 0} {room more : ℕ} {S S' N : List ℕ} {opens : A → Bool} {p p' q q' : Parser VToken A} {f : A → Tokens} {G H : A → Type 0} (test : VToken → Bool) (T : List ℕ)
    → Sorted test T → among S 0 ≡ false → subset S T ≡ true → disjoint S' T ≡ true → Ending room more S N opens p p' f G → Ending room more S' N opens q q' f H
    → Ending room more (S ++ S') N opens (on test p q) (on test p' q') f (λ a. G a ⊎ H a)
unfolding nothing Within Without
or_ending {A} {more = more} {S = S} {S' = S'} {N = N} {opens = opens} {p' = p'} {q' = q'} {f = f} {G = G} {H = H} test T sorted no_end sub away left right = record {
  base = base_of (on_rule test left.base right.base (λ h e. absurd (cc)) (λ h e. absurd (cc)));
  reads = reading;
  begins = λ a fits short zs next. either_within S S' _ (beginning a fits short zs next);
}
  where
    reading : (a : A) → G a ⊎ H a → length (f a) < more → (zs : Tokens) → among (after N (opens a)) (sort_at (head_of zs)) ≡ true → on test p' q' (f a ++ zs) ≡ Ok (a, zs)
    reading a (inl fits) short zs next = on_yes test p' q' _ (within_test test T S sorted no_end sub _ (left.begins a fits short zs next)) ∙ left.reads a fits short zs next
    reading a (inr fits) short zs next = on_no test p' q' _ (without_test test T S' sorted away _ (right.begins a fits short zs next)) ∙ right.reads a fits short zs next

    beginning : (a : A) → G a ⊎ H a → length (f a) < more → (zs : Tokens) → among (after N (opens a)) (sort_at (head_of zs)) ≡ true → either (heads S) (heads S') (head_of (f a ++ zs)) ≡ true
    beginning a (inl fits) short zs next = or_left _ _ (left.begins a fits short zs next)
    beginning a (inr fits) short zs next = or_right _ _ (right.begins a fits short zs next)

pub fitting_ending : {A : Type 0} {room more : ℕ} {S N : List ℕ} {opens : A → Bool} {p q : Parser VToken A} {f : A → Tokens} {G : A → Type 0} (H : A → Type 0)
    → ((a : A) → G a → H a) → ((a : A) → H a → G a) → Ending room more S N opens p q f G → Ending room more S N opens p q f H
fitting_ending H into from ending = record {
  base = fit_rule H into from ending.base;
  reads = λ a fits short zs next. ending.reads a (from a fits) short zs next;
  begins = λ a fits short zs next. ending.begins a (from a fits) short zs next;
}

wider_after : (N N' : List ℕ) (b : Bool) (h : Option VToken) → subset N' N ≡ true → among (after N' b) (sort_at h) ≡ true → among (after N b) (sort_at h) ≡ true
unfolding Within
wider_after N N' true h sub e = heads_within N' N sub h e
wider_after N N' false h sub e = by_case (or_cases _ _ e)
  where
    by_case : ((sort_at h == 27) ≡ true) ⊎ (among N' (sort_at h) ≡ true) → among (27 ∷ N) (sort_at h) ≡ true
    by_case (inl i) = or_left _ _ i
    by_case (inr i) = or_right _ _ (heads_within N' N sub h i)

pub wider_ending : {A : Type 0} {room more : ℕ} {S N : List ℕ} {opens : A → Bool} {p q : Parser VToken A} {f : A → Tokens} {G : A → Type 0} (S' N' : List ℕ)
    → subset S S' ≡ true → subset N' N ≡ true → Ending room more S N opens p q f G → Ending room more S' N' opens p q f G
unfolding Within
wider_ending {S = S} {N = N} {opens = opens} S' N' sub sub' ending = record {
  base = ending.base;
  reads = λ a fits short zs next. ending.reads a fits short zs (wider_after N N' (opens a) (head_of zs) sub' next);
  begins = λ a fits short zs next. heads_within S S' sub _ (ending.begins a fits short zs (wider_after N N' (opens a) (head_of zs) sub' next));
}

-- ---- less room, and none

pub lower_ending : {A : Type 0} {room more : ℕ} {S N : List ℕ} {opens : A → Bool} {p q : Parser VToken A} {f : A → Tokens} {G : A → Type 0} → Ending (suc room) (suc more) S N opens p q f G → Ending room more S N opens p q f G
lower_ending ending = record {
  base = lower ending.base;
  reads = λ a fits short zs next. ending.reads a fits (omega arith) zs next;
  begins = λ a fits short zs next. ending.begins a fits (omega arith) zs next;
}

pub sunk_ending : {A : Type 0} {room more : ℕ} {S N : List ℕ} {opens : A → Bool} {p q : Parser VToken A} {f : A → Tokens} {G : A → Type 0} → Ending room more S N opens p q f G → Ending 0 more S N opens sunk q f G
sunk_ending ending = record { base = sunk_rule ending.base; reads = ending.reads; begins = ending.begins }

pub no_room_ending : {A : Type 0} {S N : List ℕ} {opens : A → Bool} {f : A → Tokens} {G : A → Type 0} (some : A) → G some → Ending 0 0 S N opens sunk sunk f G
no_room_ending some fits = record { base = no_room_rule some fits; reads = λ a fit short zs next. absurd (omega arith); begins = λ a fit short zs next. absurd (omega arith) }

-- ---- a branch, and an `else` with another where the branch doesn't end in an open `if`

unfoldable pub ElseFits : {E : Type 0} → (E → Type 0) → Bool → Option E → Type 0
ElseFits H true o = o ≡ None
ElseFits H false o = IfAny H o

pub else_there : {E : Type 0} (fits : E → Bool) (b : Bool) (e : E) → ElseFits (Holds fits) b (Some e) → (not b ≡ true) × (fits e ≡ true)
unfolding ElseFits
else_there fits true e h = absurd (cc)
else_there fits false e h = (refl, h)

pub there_else : {E : Type 0} (fits : E → Bool) (b : Bool) (e : E) → not b ≡ true → fits e ≡ true → ElseFits (Holds fits) b (Some e)
unfolding ElseFits
there_else fits true e n h = absurd (cc)
there_else fits false e n h = h

pub no_else : {E : Type 0} (fits : E → Bool) (b : Bool) → ElseFits (Holds fits) b None
unfolding ElseFits
no_else fits true = refl
no_else fits false = tt

abbrev pub branch_opens : {A E : Type 0} → (E → Bool) → A × Option E → Bool
branch_opens opens (a, None) = true
branch_opens opens (a, Some e) = opens e

module _ {A E : Type 0} (opens : A → Bool) (opens' : E → Bool) (p p' : Parser VToken A) (e e' : Parser VToken E) (f : A → Tokens) (g : E → Tokens) (G : A → Type 0) (H : E → Type 0) where
  unfoldable pub part : Parser VToken E → Bool → Parser VToken (Option E)
  part x b = cond b (λ ts. Ok (None, ts)) (optional (is_word (codes "else")) x)

  part_base : (room more : ℕ) → Rule room more nothing nothing e e' g H → (b : Bool) → Rule room more nothing nothing (part e b) (part e' b) (flat_option g) (ElseFits H b)
  unfolding nothing Within Without ElseFits part
  part_base room more rule true = pure_rule room more nothing None (flat_option g) refl
  part_base room more rule false = base_of (flat_rule (flat_option g) (absent_flat g) (optional_rule (is_word (codes "else")) rule (λ h x. absurd (cc)) (λ h x. absurd (cc))))

  no_part : (N : List ℕ) → disjoint N (27 ∷ []) ≡ true → (b : Bool) (zs : Tokens) → among N (sort_at (head_of zs)) ≡ true → part e' b zs ≡ Ok (None, zs)
  unfolding part Without
  no_part N away true zs next = refl
  no_part N away false zs next = rw (without_test (is_word (codes "else")) (27 ∷ []) N else_word_sorted away (head_of zs) next) refl

  some_part : (b : Bool) (x : E) (zs : Tokens) → ElseFits H b (Some x) → sees (is_word (codes "else")) (g x ++ zs) ≡ true → e' (g x ++ zs) ≡ Ok (x, zs) → part e' b (g x ++ zs) ≡ Ok (Some x, zs)
  unfolding part ElseFits
  some_part true x zs h see r = absurd (cc)
  some_part false x zs h see r = rw (see, r) refl

  else_of : (b : Bool) (x : E) → ElseFits H b (Some x) → (b ≡ false) × H x
  unfolding ElseFits
  else_of true x h = absurd (cc)
  else_of false x h = (refl, h)

  pub branches_ending : (room more : ℕ) (S N : List ℕ) → disjoint N (27 ∷ []) ≡ true → Ending room more S N opens p p' f G → Ending room more (27 ∷ []) N opens' e e' g H
      → Ending {A = A × Option E} room more S N (branch_opens opens') (seq p (λ a. part e (opens a))) (seq p' (λ a. part e' (opens a))) (λ ab. f ab.0 ++ flat_option g ab.1) (λ ab. G ab.0 × ElseFits H (opens ab.0) ab.1)
  unfolding nothing Within
  branches_ending room more S N away inner other = record {
    base = base_of (seq_rule inner.base (λ a. part_base room more other.base (opens a)) (λ h x. x));
    reads = reading;
    begins = beginning;
  }
    where
      after_branch : (a : A) (x : E) → ElseFits H (opens a) (Some x) → length (g x) < more → (zs : Tokens) → among (after N (opens' x)) (sort_at (head_of zs)) ≡ true → among (after N (opens a)) (sort_at (head_of (g x ++ zs))) ≡ true
      after_branch a x h short zs next =
          let d = else_of (opens a) x h in
          let k : among (27 ∷ []) (sort_at (head_of (g x ++ zs))) ≡ true = other.begins x d.1 short zs next in
          rw (d.0) (heads_within (27 ∷ []) (27 ∷ N) refl (head_of (g x ++ zs)) k)

      reading : (ab : A × Option E) → G ab.0 × ElseFits H (opens ab.0) ab.1 → length (f ab.0 ++ flat_option g ab.1) < more → (zs : Tokens) → among (after N (branch_opens opens' ab)) (sort_at (head_of zs)) ≡ true
          → seq p' (λ a. part e' (opens a)) ((f ab.0 ++ flat_option g ab.1) ++ zs) ≡ Ok (ab, zs)
      reading (a, None) fits short zs next =
          let short1 : length (f a) < more = rw append-nil at short in
          rw append-nil (seq_ok p' (λ a. part e' (opens a)) _ zs zs a None (inner.reads a fits.0 short1 zs (from_all N (opens a) _ next)) (no_part N away (opens a) zs next))
      reading (a, Some x) fits short zs next =
          let long : length (f a ++ g x) ≡ length (f a) + length (g x) = length-append (f a) (g x) in
          let short1 : length (f a) < more = omega arith in
          let short2 : length (g x) < more = omega arith in
          let d = else_of (opens a) x fits.1 in
          let k : among (27 ∷ []) (sort_at (head_of (g x ++ zs))) ≡ true = other.begins x d.1 short2 zs next in
          let see : sees (is_word (codes "else")) (g x ++ zs) ≡ true = within_test (is_word (codes "else")) (27 ∷ []) (27 ∷ []) else_word_sorted refl refl (head_of (g x ++ zs)) k in
          rw append_assoc (seq_ok p' (λ a. part e' (opens a)) _ (g x ++ zs) zs a (Some x) (inner.reads a fits.0 short1 (g x ++ zs) (after_branch a x fits.1 short2 zs next)) (some_part (opens a) x zs fits.1 see (other.reads x d.1 short2 zs next)))

      beginning : (ab : A × Option E) → G ab.0 × ElseFits H (opens ab.0) ab.1 → length (f ab.0 ++ flat_option g ab.1) < more → (zs : Tokens) → among (after N (branch_opens opens' ab)) (sort_at (head_of zs)) ≡ true
          → among S (sort_at (head_of ((f ab.0 ++ flat_option g ab.1) ++ zs))) ≡ true
      beginning (a, None) fits short zs next =
          let short1 : length (f a) < more = rw append-nil at short in
          rw append-nil (inner.begins a fits.0 short1 zs (from_all N (opens a) _ next))
      beginning (a, Some x) fits short zs next =
          let long : length (f a ++ g x) ≡ length (f a) + length (g x) = length-append (f a) (g x) in
          let short1 : length (f a) < more = omega arith in
          let short2 : length (g x) < more = omega arith in
          rw append_assoc (inner.begins a fits.0 short1 (g x ++ zs) (after_branch a x fits.1 short2 zs next))
