-- Sets of latch clauses: their literals at an edge, and in the state after it.
use Rattle.std.proofs.Common.{◌≡◌, ℕ, zero, suc, ◌+◌, ◌/◌, ◌<◌, Bool, true, false, not, ◌||◌, eqb, cond, List, [], ◌∷◌, length, map, slice_get, get_or, Some, refl, ap, sym, ◌∙◌, subst, inl, inr, arith, true≢false}
use Rattle.std.specs.List.{list_any}
use Rattle.std.proofs.lemmas.Bool.{eqb-true, and_parts, or_cases, or_left, or_right}
use Rattle.std.proofs.lemmas.Option.{slice_get-get_or}
use Rattle.lemma_checker.specs.declared.literal.Literal.{Literal}
use Rattle.lemma_checker.specs.Clauses.{literal_true, clause_true}
use Rattle.gate_graph.specs.declared.nodes.Node.TheVariants as node
use Rattle.gate_graph.specs.declared.parts.Latch.{Latch}
use Rattle.gate_graph.specs.declared.circuits.Circuit.{Circuit}
use Rattle.gate_graph.specs.Values.{at, value}
use Rattle.gate_graph.specs.Latches.{StartsAtZero}
use Rattle.gate_graph.specs.Runs.{next_state}
use Rattle.unroll_cnf.specs.declared.latch_literal.LatchLiteral.{LatchLiteral}
use Rattle.unroll_cnf.specs.Latches.{holds, meets, MeetsAll, not_live, is_not_live, weakened, IsOfLatches, AreOfLatches}
use Rattle.unroll_cnf.specs.Queries.{plain, negated, denied, literal_at, latch_places, latch_literal, set_clause, no_latch, next_literal, broken_clauses, all_broken, some_of}
use Rattle.unroll_cnf.specs.Meaning.{shifted}
use Rattle.unroll_cnf.proofs.EachLemmas.{Each, IsTrueIn, each_nil, each_append, each_left, each_right, each_map, map_each}
use Rattle.unroll_cnf.proofs.LiteralLemmas.{plain_value, negated_value, denied_value, signed_value, literal_value}
use Rattle.unroll_cnf.proofs.PlaceLemmas.{latch_node, length-latch_places}
use Rattle.unroll_cnf.proofs.FrameLemmas.{wire_same, next_entry}

-- a test of a mapped list
pub any_map : {X Y : Type 0} (p : Y → Bool) (q : X → Bool) (f : X → Y) (xs : List X) → ((i : ℕ) (x : X) → slice_get xs i ≡ Some x → p (f x) ≡ q x) → list_any p (map f xs) ≡ list_any q xs
any_map p q f [] h = refl
any_map p q f (x ∷ xs) h = rw (h 0 x refl, any_map p q f xs (λ i y is. h (suc i) y is)) refl

-- latch 0 is there
pub live_there : (c : Circuit) → 0 < length c.latches.items
live_there c = live_of c.latches.items c.live
  where
    live_of : (latches : List Latch) → StartsAtZero latches → 0 < length latches
    live_of [] h = absurd (let e : ⊥ = cc in e)
    live_of (l ∷ ls) h = omega arith

-- the weakened clause holds where the state meets the clause
same_not_live : (s : List Bool) (l : LatchLiteral) → is_not_live l ≡ true → not (at s 0) ≡ true → holds s l ≡ true
same_not_live s l h t =
    let parts : (eqb l.latch 0 ≡ true) × (l.negated ≡ true) = and_parts (eqb l.latch 0) l.negated h in
    let latch : l.latch ≡ 0 = eqb-true l.latch 0 parts.0 in
    rw (parts.1, latch) t

not_live_holds : (s : List Bool) (d : List LatchLiteral) → list_any is_not_live d ≡ true → not (at s 0) ≡ true → list_any (holds s) d ≡ true
not_live_holds s [] h t = absurd (true≢false (sym h))
not_live_holds s (l ∷ d) h t = elim (or_cases (is_not_live l) (list_any is_not_live d) h) [
  | inl here ↦ or_left (holds s l) (list_any (holds s) d) (same_not_live s l here t)
  | inr later ↦ or_right (holds s l) (list_any (holds s) d) (not_live_holds s d later t)
]

either_way : (b a : Bool) → (b ≡ true → a ≡ true) → a ≡ (b || a)
either_way true a h = h refl
either_way false a h = refl

weakened_by : (s : List Bool) (d : List LatchLiteral) (b : Bool) → list_any is_not_live d ≡ b → list_any (holds s) (cond b d (not_live ∷ d)) ≡ (not (at s 0) || list_any (holds s) d)
weakened_by s d true h = either_way (not (at s 0)) (list_any (holds s) d) (not_live_holds s d h)
weakened_by s d false h = refl

pub weakened_value : (s : List Bool) (d : List LatchLiteral) → list_any (holds s) (weakened d) ≡ meets s d
unfolding weakened meets
weakened_value s d = weakened_by s d (list_any is_not_live d) refl

weakened_of : (n : ℕ) (d : List LatchLiteral) (b : Bool) → 0 < n → IsOfLatches n d → IsOfLatches n (cond b d (not_live ∷ d))
weakened_of n d true lt of = of
weakened_of n d false lt of = record { each = each_of n d lt of }
  where
    each_of : (n : ℕ) (d : List LatchLiteral) → 0 < n → IsOfLatches n d → (j : ℕ) (l : LatchLiteral) → slice_get (not_live ∷ d) j ≡ Some l → l.latch < n
    each_of n d lt of zero l is = let e : not_live ≡ l = cc in subst (λ (m : LatchLiteral). m.latch < n) e lt
    each_of n d lt of (suc j) l is = of.each j l is

pub weakened_latches : (c : Circuit) (d : List LatchLiteral) → IsOfLatches (length c.latches.items) d → IsOfLatches (length c.latches.items) (weakened d)
unfolding weakened
weakened_latches c d of = weakened_of (length c.latches.items) d (list_any is_not_live d) (live_there c) of

-- the latches at an edge whose first variable is k have the values of a state
pub record HasState (c : Circuit) (v : ℕ → Bool) (k : ℕ) (s : List Bool) : Type 0 where
  pub latch : (i n : ℕ) → slice_get c.graph i ≡ Some (node.Latch n) → shifted v k i ≡ at s n

-- a latch literal at an edge
pub latch_value : (c : Circuit) (v : ℕ → Bool) (k : ℕ) (s : List Bool) (l : LatchLiteral) → HasState c v k s → l.latch < length c.latches.items → literal_true v (latch_literal c k l).0 ≡ holds s l
unfolding latch_literal
latch_value c v k s l p lt =
    let place : ℕ = get_or (latch_places 0 c.graph) l.latch 0 in
    let within : l.latch < length (latch_places 0 c.graph) = omega (arith, length-latch_places 0 c.graph, c.latched) in
    let here : slice_get c.graph place ≡ Some (node.Latch l.latch) = latch_node c.graph l.latch place c.counted (slice_get-get_or (latch_places 0 c.graph) l.latch 0 within) in
    let value : literal_true v (plain (place + k)).0 ≡ at s l.latch = plain_value v (place + k) ∙ p.latch place l.latch here in
    signed_value v l.negated (plain (place + k)) ∙ ap (λ b. cond l.negated (not b) b) value

pub set_clause_value : (c : Circuit) (v : ℕ → Bool) (k : ℕ) (s : List Bool) (d : List LatchLiteral) → HasState c v k s → IsOfLatches (length c.latches.items) d → clause_true v (set_clause c k d) ≡ meets s d
set_clause_value c v k s d p of =
    let wide : IsOfLatches (length c.latches.items) (weakened d) = weakened_latches c d of in
    any_map (λ (m : Literal). literal_true v m.0) (holds s) (latch_literal c k) (weakened d) (λ i l is. latch_value c v k s l p (wide.each i l is))
    ∙ weakened_value s d

pub set_to : (c : Circuit) (v : ℕ → Bool) (k : ℕ) (s : List Bool) (set : List (List LatchLiteral)) → HasState c v k s → AreOfLatches (length c.latches.items) set → Each (IsTrueIn v) (map (set_clause c k) set) → MeetsAll s set
set_to c v k s set p of e = record { each = λ i d is. sym (set_clause_value c v k s d p (of.each i d is)) ∙ map_each (IsTrueIn v) (set_clause c k) set e i d is }

pub set_from : (c : Circuit) (v : ℕ → Bool) (k : ℕ) (s : List Bool) (set : List (List LatchLiteral)) → HasState c v k s → AreOfLatches (length c.latches.items) set → MeetsAll s set → Each (IsTrueIn v) (map (set_clause c k) set)
set_from c v k s set p of m = each_map (IsTrueIn v) (set_clause c k) set (λ i d is. set_clause_value c v k s d p (of.each i d is) ∙ m.each i d is)

-- the literals of a weakened clause at an edge have their values in the state after it
pub record HasNext (c : Circuit) (v : ℕ → Bool) (k : ℕ) (s x : List Bool) (d : List LatchLiteral) : Type 0 where
  pub each : (i : ℕ) (l : LatchLiteral) → slice_get (weakened d) i ≡ Some l → literal_true v (next_literal c k l).0 ≡ holds (next_state c s x) l

-- a latch literal in the next state
pub next_value : (c : Circuit) (v : ℕ → Bool) (k : ℕ) (s x : List Bool) (l : LatchLiteral) → l.latch < length c.latches.items → ((m : Latch) → slice_get c.latches.items l.latch ≡ Some m → shifted v k (m.next.0 / 2) ≡ value s x c.graph (m.next.0 / 2)) → literal_true v (next_literal c k l).0 ≡ holds (next_state c s x) l
unfolding next_literal
next_value c v k s x l lt same =
    let latch : Latch = get_or c.latches.items l.latch no_latch in
    let here : slice_get c.latches.items l.latch ≡ Some latch = slice_get-get_or c.latches.items l.latch no_latch lt in
    let value : literal_true v (literal_at k latch.next).0 ≡ at (next_state c s x) l.latch = literal_value v k latch.next ∙ (wire_same (shifted v k) (value s x c.graph) latch.next (same latch here) ∙ sym (next_entry c s x l.latch latch here)) in
    signed_value v l.negated (literal_at k latch.next) ∙ ap (λ b. cond l.negated (not b) b) value

-- a clause whose variable is true is broken
not_or : (a : Bool) (b : Bool) → (not a || (not b || false)) ≡ true → a ≡ true → b ≡ false
not_or true true h e = sym h
not_or true false h e = refl
not_or false b h e = absurd (true≢false (sym e))

or_not : (a : Bool) (b : Bool) → (a ≡ true → b ≡ false) → (not a || (not b || false)) ≡ true
or_not true b h = rw (h refl) refl
or_not false b h = refl

none_holds : {X : Type 0} (p : X → Bool) (xs : List X) → ((i : ℕ) (x : X) → slice_get xs i ≡ Some x → p x ≡ false) → list_any p xs ≡ false
none_holds p [] h = refl
none_holds p (x ∷ xs) h = rw (h 0 x refl) (none_holds p xs (λ i y is. h (suc i) y is))

holds_none : {X : Type 0} (p : X → Bool) (xs : List X) → list_any p xs ≡ false → (i : ℕ) (x : X) → slice_get xs i ≡ Some x → p x ≡ false
holds_none p [] h i x is = absurd (let e : ⊥ = cc in e)
holds_none p (y ∷ xs) h zero x is = let e : y ≡ x = cc in subst (λ z. p z ≡ false) e (or_false_left (p y) (list_any p xs) h)
  where
    or_false_left : (a b : Bool) → (a || b) ≡ false → a ≡ false
    or_false_left true b h = h
    or_false_left false b h = refl
holds_none p (y ∷ xs) h (suc i) x is = holds_none p xs (or_false_right (p y) (list_any p xs) h) i x is
  where
    or_false_right : (a b : Bool) → (a || b) ≡ false → b ≡ false
    or_false_right true b h = absurd (true≢false h)
    or_false_right false b h = h

broken_value : (c : Circuit) (v : ℕ → Bool) (k y : ℕ) (l : LatchLiteral) → clause_true v (negated y ∷ denied (next_literal c k l) ∷ []) ≡ (not (v y) || (not (literal_true v (next_literal c k l).0) || false))
broken_value c v k y l = rw (negated_value v y, denied_value v (next_literal c k l)) refl

pub broken_to : (c : Circuit) (v : ℕ → Bool) (k y : ℕ) (s x : List Bool) (d : List LatchLiteral) → HasNext c v k s x d → Each (IsTrueIn v) (broken_clauses c k y d) → v y ≡ true → meets (next_state c s x) d ≡ false
broken_to c v k y s x d p e named =
    sym (weakened_value (next_state c s x) d)
    ∙ none_holds (holds (next_state c s x)) (weakened d) (λ i l is.
    sym (p.each i l is)
    ∙ not_or (v y) (literal_true v (next_literal c k l).0) (sym (broken_value c v k y l) ∙ map_each (IsTrueIn v) (λ (m : LatchLiteral). negated y ∷ denied (next_literal c k m) ∷ []) (weakened d) e i l is) named)

pub broken_from : (c : Circuit) (v : ℕ → Bool) (k y : ℕ) (s x : List Bool) (d : List LatchLiteral) → HasNext c v k s x d → (v y ≡ true → meets (next_state c s x) d ≡ false) → Each (IsTrueIn v) (broken_clauses c k y d)
broken_from c v k y s x d p h =
    each_map (IsTrueIn v) (λ (m : LatchLiteral). negated y ∷ denied (next_literal c k m) ∷ []) (weakened d) (λ i l is.
    broken_value c v k y l
    ∙ or_not (v y) (literal_true v (next_literal c k l).0) (λ named.
    p.each i l is
    ∙ holds_none (holds (next_state c s x)) (weakened d) (weakened_value (next_state c s x) d ∙ h named) i l is))

-- all clauses of the set, each with its variable from y on
pub all_broken_to : (c : Circuit) (v : ℕ → Bool) (k y : ℕ) (s x : List Bool) (set : List (List LatchLiteral)) → ((j : ℕ) (d : List LatchLiteral) → slice_get set j ≡ Some d → HasNext c v k s x d) → Each (IsTrueIn v) (all_broken c k y set) → (j : ℕ) (d : List LatchLiteral) → slice_get set j ≡ Some d → v (j + y) ≡ true → meets (next_state c s x) d ≡ false
all_broken_to c v k y s x [] p e j d is named = absurd (let e : ⊥ = cc in e)
all_broken_to c v k y s x (d' ∷ ds) p e zero d is named =
    let same : d' ≡ d = cc in
    let place : 0 + y ≡ y = omega arith in
    let here : meets (next_state c s x) d' ≡ false = broken_to c v k y s x d' (p 0 d' refl) (each_left (IsTrueIn v) (broken_clauses c k y d') (all_broken c k (y + 1) ds) e) (ap v (sym place) ∙ named) in
    subst (λ (z : List LatchLiteral). meets (next_state c s x) z ≡ false) same here
all_broken_to c v k y s x (d' ∷ ds) p e (suc j) d is named =
    let place : suc j + y ≡ j + (y + 1) = omega arith in
    all_broken_to c v k (y + 1) s x ds (λ i z h. p (suc i) z h) (each_right (IsTrueIn v) (broken_clauses c k y d') (all_broken c k (y + 1) ds) e) j d is (ap v (sym place) ∙ named)

pub all_broken_from : (c : Circuit) (v : ℕ → Bool) (k y : ℕ) (s x : List Bool) (set : List (List LatchLiteral)) → ((j : ℕ) (d : List LatchLiteral) → slice_get set j ≡ Some d → HasNext c v k s x d) → ((j : ℕ) (d : List LatchLiteral) → slice_get set j ≡ Some d → v (j + y) ≡ true → meets (next_state c s x) d ≡ false) → Each (IsTrueIn v) (all_broken c k y set)
all_broken_from c v k y s x [] p h = each_nil (IsTrueIn v)
all_broken_from c v k y s x (d ∷ ds) p h =
    each_append (IsTrueIn v) (broken_clauses c k y d) (all_broken c k (y + 1) ds)
    (broken_from c v k y s x d (p 0 d refl) (λ named. let place : y ≡ 0 + y = omega arith in h 0 d refl (ap v (sym place) ∙ named)))
    (all_broken_from c v k (y + 1) s x ds (λ i z q. p (suc i) z q) (λ j z is named. let place : j + (y + 1) ≡ suc j + y = omega arith in h (suc j) z is (ap v (sym place) ∙ named)))

-- some clause of the set is named
pub record IsNamed (v : ℕ → Bool) (y : ℕ) (set : List (List LatchLiteral)) : Type 0 where
  pub place : ℕ
  pub clause : List LatchLiteral
  pub at_place : slice_get set place ≡ Some clause
  pub named : v (place + y) ≡ true

pub some_to : (v : ℕ → Bool) (y : ℕ) (set : List (List LatchLiteral)) → clause_true v (some_of y set) ≡ true → IsNamed v y set
some_to v y [] h = absurd (true≢false (sym h))
some_to v y (d ∷ ds) h = elim (or_cases (literal_true v (plain y).0) (clause_true v (some_of (y + 1) ds)) h) [
  | inl here ↦ record { place = 0; clause = d; at_place = refl; named = let place : 0 + y ≡ y = omega arith in ap v place ∙ (sym (plain_value v y) ∙ here) }
  | inr later ↦
      let r : IsNamed v (y + 1) ds = some_to v (y + 1) ds later in
      record { place = suc r.place; clause = r.clause; at_place = r.at_place; named = let place : suc r.place + y ≡ r.place + (y + 1) = omega arith in ap v place ∙ r.named }
]

pub some_from : (v : ℕ → Bool) (y : ℕ) (set : List (List LatchLiteral)) (j : ℕ) (d : List LatchLiteral) → slice_get set j ≡ Some d → v (j + y) ≡ true → clause_true v (some_of y set) ≡ true
some_from v y [] j d is named = absurd (let e : ⊥ = cc in e)
some_from v y (d' ∷ ds) zero d is named =
    let place : y ≡ 0 + y = omega arith in
    or_left (literal_true v (plain y).0) (clause_true v (some_of (y + 1) ds)) (plain_value v y ∙ (ap v place ∙ named))
some_from v y (d' ∷ ds) (suc j) d is named =
    let place : j + (y + 1) ≡ suc j + y = omega arith in
    or_right (literal_true v (plain y).0) (clause_true v (some_of (y + 1) ds)) (some_from v (y + 1) ds j d is (ap v place ∙ named))

-- a set that a state does not meet has a clause that it does not meet
pub record IsUnmet (s : List Bool) (set : List (List LatchLiteral)) : Type 0 where
  pub place : ℕ
  pub clause : List LatchLiteral
  pub at_place : slice_get set place ≡ Some clause
  pub unmet : meets s clause ≡ false

meets_none : (s : List Bool) → MeetsAll s []
meets_none s = record { each = λ i d is. absurd (let e : ⊥ = cc in e) }

meets_cons : (s : List Bool) (d : List LatchLiteral) (ds : List (List LatchLiteral)) → meets s d ≡ true → MeetsAll s ds → MeetsAll s (d ∷ ds)
meets_cons s d ds h m = record { each = each_of s d ds h m }
  where
    each_of : (s : List Bool) (d : List LatchLiteral) (ds : List (List LatchLiteral)) → meets s d ≡ true → MeetsAll s ds → (i : ℕ) (z : List LatchLiteral) → slice_get (d ∷ ds) i ≡ Some z → meets s z ≡ true
    each_of s d ds h m zero z is = let e : d ≡ z = cc in subst (λ (y : List LatchLiteral). meets s y ≡ true) e h
    each_of s d ds h m (suc i) z is = m.each i z is

pub unmet_of : (s : List Bool) (set : List (List LatchLiteral)) → (MeetsAll s set → ⊥) → IsUnmet s set
unmet_of s [] h = absurd (h (meets_none s))
unmet_of s (d ∷ ds) h = by_value s d ds h (meets s d) refl (λ g. unmet_of s ds g)
  where
    by_value : (s : List Bool) (d : List LatchLiteral) (ds : List (List LatchLiteral)) → (MeetsAll s (d ∷ ds) → ⊥) → (b : Bool) → meets s d ≡ b → ((MeetsAll s ds → ⊥) → IsUnmet s ds) → IsUnmet s (d ∷ ds)
    by_value s d ds h false e more = record { place = 0; clause = d; at_place = refl; unmet = e }
    by_value s d ds h true e more =
        let r : IsUnmet s ds = more (λ m. h (meets_cons s d ds e m)) in
        record { place = suc r.place; clause = r.clause; at_place = r.at_place; unmet = r.unmet }
