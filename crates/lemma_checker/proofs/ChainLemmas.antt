-- What holds of each clause of a list, and of each resolvent, holds of what a chain gives.
use Rattle.std.proofs.Common.{◌≡◌, ℕ, zero, suc, ◌+◌, ◌*◌, ◌<◌, ◌≤◌, ◌⊎◌, Bool, true, List, [], ◌∷◌, ◌++◌, length, map, take, Option, Some, None, Result, Ok, Err, slice_get, refl, ap, ◌∙◌, sym, subst, inl, inr, arith, length-append}
use Rattle.std.specs.Result.{OnOk, OnErr}
use Rattle.std.proofs.lemmas.Option.{cond_some, option_and_then_some, slice_get_within}
use Rattle.std.proofs.lemmas.Bool.{or_cases, and_parts}
use Rattle.std.proofs.lemmas.List.{take-append-le, take_at, map_push}
use Rattle.lemma_checker.specs.declared.literal.Literal.{Literal}
use Rattle.lemma_checker.specs.declared.chain.Chain.{Chain}
use Rattle.lemma_checker.specs.Clauses.{set_of, IsOver, AreOver}
use Rattle.lemma_checker.specs.Chains.{clashes, resolved, resolve_with, numbered, chain_from, chain_result, AreDerived}
use Rattle.lemma_checker.specs.Checker.{AreAllBelow, link}
use Rattle.lemma_checker.proofs.ListLemmas.{get_push, get_either}

-- a property of sets of literals that each clause of the list has, and each resolvent of two that have it
pub record IsKept (clauses : List (List Literal)) (P : (ℕ → Bool) → Type 0) : Type 0 where
  pub clause : (i : ℕ) (c : List Literal) → slice_get clauses i ≡ Some c → P (set_of c)
  pub step : (p : ℕ) (f g : ℕ → Bool) → clashes p f g ≡ true → P f → P g → P (resolved p f g)

pub kept_numbered : (clauses : List (List Literal)) (P : (ℕ → Bool) → Type 0) → IsKept clauses P → (k : ℕ) (c : List Literal) → numbered clauses k ≡ Some c → P (set_of c)
kept_numbered clauses P k zero c is = absurd (cc)
kept_numbered clauses P k (suc i) c is = k.clause i c is

-- a step that resolves
pub record Resolves (p : ℕ) (f : ℕ → Bool) (o : Option (List Literal)) (g : ℕ → Bool) : Type 0 where
  pub clause : List Literal
  pub is : o ≡ Some clause
  pub clash : clashes p f (set_of clause) ≡ true
  pub result : resolved p f (set_of clause) ≡ g

pub resolves_from : (p : ℕ) (f : ℕ → Bool) (o : Option (List Literal)) (g : ℕ → Bool) → resolve_with p f o ≡ Some g → Resolves p f o g
unfolding resolve_with
resolves_from p f None g is = absurd (cc)
resolves_from p f (Some c) g is =
    let parts : (clashes p f (set_of c) ≡ true) × (resolved p f (set_of c) ≡ g) = cond_some _ _ _ is in
    record { clause = c; is = refl; clash = parts.0; result = parts.1 }

pub from_keeps : (clauses : List (List Literal)) (P : (ℕ → Bool) → Type 0) → IsKept clauses P → (f : ℕ → Bool) (ids pivots : List ℕ) (g : ℕ → Bool) → chain_from clauses f ids pivots ≡ Some g → P f → P g
from_keeps clauses P k f [] [] g is h = let e : f ≡ g = cc in subst P e h
from_keeps clauses P k f [] (p ∷ ps) g is h = absurd (cc)
from_keeps clauses P k f (i ∷ ids) [] g is h = absurd (cc)
from_keeps clauses P k f (i ∷ ids) (p ∷ ps) g is h =
    option_and_then_some (λ (e : ℕ → Bool). chain_from clauses e ids ps) (resolve_with p f (numbered clauses i)) g is
    (λ e at_step later.
    let r : Resolves p f (numbered clauses i) e = resolves_from p f (numbered clauses i) e at_step in
    from_keeps clauses P k e ids ps g later
    (subst P r.result (k.step p f (set_of r.clause) r.clash h (kept_numbered clauses P k i r.clause r.is))))

pub chain_keeps : (clauses : List (List Literal)) (P : (ℕ → Bool) → Type 0) → IsKept clauses P → (ids pivots : List ℕ) (g : ℕ → Bool) → chain_result clauses ids pivots ≡ Some g → P g
chain_keeps clauses P k [] pivots g is = absurd (cc)
chain_keeps clauses P k (i ∷ ids) pivots g is =
    option_and_then_some (λ (c : List Literal). chain_from clauses (set_of c) ids pivots) (numbered clauses i) g is
    (λ c first later. from_keeps clauses P k (set_of c) ids pivots g later (kept_numbered clauses P k i c first))

-- a set of literals of the variables 1 to `vars`
pub record IsSetOver (vars : ℕ) (f : ℕ → Bool) : Type 0 where
  pub low : (l : ℕ) → f l ≡ true → 2 ≤ l
  pub high : (l : ℕ) → f l ≡ true → l < 2 * vars + 2

pub over_kept : (vars : ℕ) (clauses : List (List Literal)) → AreOver vars clauses → IsKept clauses (IsSetOver vars)
unfolding resolved
over_kept vars clauses o = record {
  clause = λ i c is. record { low = (o.each i c is).low; high = (o.each i c is).high };
  step = λ p f g _ a b. record {
    low = λ l h. elim (or_cases (f l) (g l) (and_parts _ _ h).1) [ inl x ↦ a.low l x | inr y ↦ b.low l y ];
    high = λ l h. elim (or_cases (f l) (g l) (and_parts _ _ h).1) [ inl x ↦ a.high l x | inr y ↦ b.high l y ];
  };
}

pub over_join : (vars : ℕ) (a b : List (List Literal)) → AreOver vars a → AreOver vars b → AreOver vars (a ++ b)
over_join vars a b p q = record { each = λ i c is. elim (get_either a b i c is) [ inl x ↦ p.each i c x | inr y ↦ q.each y.0 c y.1 ] }

pub over_push : (vars : ℕ) (a : List (List Literal)) (c : List Literal) → AreOver vars a → IsOver vars c → AreOver vars (a ++ c ∷ [])
over_push vars a c p q = record { each = λ i d is. elim (get_push a c i d is) [ inl x ↦ p.each i d x | inr e ↦ subst (λ (z : List Literal). IsOver vars z) (sym e.1) q ] }

-- what a chain gives is of the clauses' variables
pub chain_over : (vars : ℕ) (clauses : List (List Literal)) (ids pivots : List ℕ) (c : List Literal) → AreOver vars clauses → chain_result clauses ids pivots ≡ Some (set_of c) → IsOver vars c
chain_over vars clauses ids pivots c o is =
    let s : IsSetOver vars (set_of c) = chain_keeps clauses (IsSetOver vars) (over_kept vars clauses o) ids pivots (set_of c) is in
    record { low = s.low; high = s.high }

pub all_below : (vars : ℕ) (a b : List (List Literal)) → AreOver vars a → AreOver vars b → AreAllBelow (2 * vars + 2) (a ++ b)
all_below vars a b p q = let o : AreOver vars (a ++ b) = over_join vars a b p q in record { each = λ i c is. record { each = (o.each i c is).high } }

-- one clause more, with its chain
derived_more : (clauses added : List (List Literal)) (links : List (List ℕ × List ℕ)) (c : List Literal) (first second : List ℕ) → AreDerived clauses added links → chain_result (clauses ++ added) first second ≡ Some (set_of c) → AreDerived clauses (added ++ c ∷ []) (links ++ (first, second) ∷ [])
derived_more clauses added links c first second d is = record {
  lengths = omega (arith, d.lengths, length-append links ((first, second) ∷ []), length-append added (c ∷ []));
  each = λ i x ids pivots at_clause at_chain. elim (get_push added c i x at_clause) [
    | inl old ↦
        let lt : i < length added = slice_get_within added i x old in
        let before : take i (added ++ c ∷ []) ≡ take i added = take-append-le i added (c ∷ []) (omega arith) in
        elim (get_push links (first, second) i (ids, pivots) at_chain) [
          | inl old_chain ↦ ap (λ (z : List (List Literal)). chain_result (clauses ++ z) ids pivots) before ∙ d.each i x ids pivots old old_chain
          | inr e ↦ absurd (omega (arith, d.lengths, e.0))
        ]
    | inr e ↦
        let all : take i (added ++ c ∷ []) ≡ added = take_at added (c ∷ []) i (sym e.0) in
        elim (get_push links (first, second) i (ids, pivots) at_chain) [
          | inl old_chain ↦ absurd (omega (arith, d.lengths, e.0, slice_get_within links i (ids, pivots) old_chain))
          | inr f ↦
              let ids_are : ids ≡ first = ap (λ (z : List ℕ × List ℕ). z.0) f.1 in
              let pivots_are : pivots ≡ second = ap (λ (z : List ℕ × List ℕ). z.1) f.1 in
              rw (all, ids_are, pivots_are, e.1) is
        ]
  ];
}

pub derived_push : (clauses added : List (List Literal)) (chains : List Chain) (c : List Literal) (chain : Chain) → AreDerived clauses added (map link chains) → chain_result (clauses ++ added) chain.ids.items chain.pivots.items ≡ Some (set_of c) → AreDerived clauses (added ++ c ∷ []) (map link (chains ++ chain ∷ []))
derived_push clauses added chains c chain d is = rw (map_push link chains chain) (derived_more clauses added (map link chains) c chain.ids.items chain.pivots.items d is)

-- both lists grew, or neither
pub grown : {A B E : Type 0} (r : Result (Unit {0}) E) (a b : List A) (x : A) (c d : List B) (y : B) → OnOk r (b ≡ a ++ x ∷ []) → OnOk r (d ≡ c ++ y ∷ []) → OnErr r ((b ≡ a) × (d ≡ c)) → ((b ≡ a) × (d ≡ c)) ⊎ ((b ≡ a ++ x ∷ []) × (d ≡ c ++ y ∷ []))
grown (Ok u) a b x c d y p q e = inr (p, q)
grown (Err u) a b x c d y p q e = inl e
