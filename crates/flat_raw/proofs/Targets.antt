-- Targets of items, by two tests of membership.
use Rattle.std.proofs.Common.{◌≡◌, ◌⊎◌, inl, inr, ℕ, ◌+◌, ◌<◌, Bool, true, false, ◌&&◌, ◌||◌, ◌==◌, List, [], ◌∷◌, length, refl, sym, ◌∙◌, ap, subst, eq-eqb}
use Rattle.std.specs.Prelude.{slice_index, nat_lt, IsTrue, ◌↔◌}
use Rattle.std.specs.List.{list_all, list_any}
use Rattle.std.proofs.lemmas.Bool.{eqb-true}
use Rattle.flat_orders.specs.Orders.{among}
use Rattle.flat_raw.specs.Assigned.{AreTargets}

pub and_left : (a b : Bool) → a && b ≡ true → a ≡ true
and_left true b h = refl
and_left false b h = cc

pub and_right : (a b : Bool) → a && b ≡ true → b ≡ true
and_right true b h = h
and_right false b h = cc

pub and_both : (a b : Bool) → a ≡ true → b ≡ true → a && b ≡ true
and_both true b h k = k
and_both false b h k = cc

or_by : (a b : Bool) → a || b ≡ true → (a ≡ true) ⊎ (b ≡ true)
or_by true b h = inl refl
or_by false b h = inr h

same_by : (a b : Bool) → (a ≡ true → b ≡ true) → (b ≡ true → a ≡ true) → a ≡ b
same_by true b h k = sym (h refl)
same_by false true h k = k refl
same_by false false h k = refl

-- what is true of all is true of each that stands there
pub at_each : (p : ℕ → Bool) (ns : List ℕ) (n : ℕ) → list_all p ns ≡ true → among n ns ≡ true → p n ≡ true
at_each p [] n h k = cc
at_each p (m ∷ ns) n h k = elim (or_by (m == n) (among n ns) k) [
  | inl e ↦ subst (λ x. p x ≡ true) (eqb-true m n e) (and_left (p m) (list_all p ns) h)
  | inr more ↦ at_each p ns n (and_right (p m) (list_all p ns) h) more
]

eq_self : (n : ℕ) → (n == n) ≡ true
eq_self n = eq-eqb n n refl

or_right : (a b : Bool) → b ≡ true → a || b ≡ true
or_right true b h = refl
or_right false b h = h

or_left : (a b : Bool) → a ≡ true → a || b ≡ true
or_left true b h = refl
or_left false b h = cc

pub of_each : (p : ℕ → Bool) (ns : List ℕ) → ((n : ℕ) → among n ns ≡ true → p n ≡ true) → list_all p ns ≡ true
of_each p [] h = refl
of_each p (m ∷ ns) h = and_both (p m) (list_all p ns) (h m (or_left (m == m) (among m ns) (eq_self m))) (of_each p ns (λ n k. h n (or_right (m == n) (among n ns) k)))

is_true : (b : Bool) → IsTrue b → b ≡ true
is_true b h = h

to_true : (b : Bool) → b ≡ true → IsTrue b
to_true b h = h

abbrev pub StandIn : ℕ → List ℕ → List ℕ → Bool
StandIn bound ns others = list_all (λ n. nat_lt n bound && among n others) ns

abbrev IsRising : List ℕ → Type 0
IsRising targets = (j : ℕ) → j + 1 < length targets → slice_index targets j < slice_index targets (j + 1)

pub targets_are : (bound : ℕ) (targets nets : List ℕ) (inside rising there back r : Bool) → inside ≡ list_all (λ n. nat_lt n bound) nets → (IsTrue rising ↔ IsRising targets)
    → there ≡ StandIn bound targets nets → back ≡ StandIn bound nets targets → r ≡ inside && (rising && (there && back)) → (IsTrue r ↔ AreTargets bound targets nets)
targets_are bound targets nets inside rising there back r i s t b is = (to, from) where
  to : IsTrue r → AreTargets bound targets nets
  to h =
      let all : inside && (rising && (there && back)) ≡ true = sym is ∙ is_true r h in
      let rest : rising && (there && back) ≡ true = and_right inside _ all in
      let two : there && back ≡ true = and_right rising _ rest in
      record {
        inside = sym i ∙ and_left inside _ all;
        rising = s.0 (to_true rising (and_left rising _ rest));
        same = λ n. same_by (among n targets) (among n nets)
            (λ k. and_right (nat_lt n bound) (among n nets) (at_each (λ n. nat_lt n bound && among n nets) targets n (sym t ∙ and_left there back two) k))
            (λ k. and_right (nat_lt n bound) (among n targets) (at_each (λ n. nat_lt n bound && among n targets) nets n (sym b ∙ and_right there back two) k));
      }

  from : AreTargets bound targets nets → IsTrue r
  from h =
      to_true r (is ∙ and_both inside _ (i ∙ h.inside) (and_both rising _ (is_true rising (s.1 h.rising)) (and_both there back
      (t ∙ of_each (λ n. nat_lt n bound && among n nets) targets (λ n k. let in_nets : among n nets ≡ true = sym (h.same n) ∙ k in and_both (nat_lt n bound) (among n nets) (at_each (λ n. nat_lt n bound) nets n h.inside in_nets) in_nets))
      (b ∙ of_each (λ n. nat_lt n bound && among n targets) nets (λ n k. and_both (nat_lt n bound) (among n targets) (at_each (λ n. nat_lt n bound) nets n h.inside k) (h.same n ∙ k))))))
