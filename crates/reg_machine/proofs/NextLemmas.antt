-- One more field has its next state.
use Rattle.std.proofs.Common.{◌≡◌, ◌≢◌, ℕ, ◌+◌, ◌<◌, ◌≤◌, Bool, true, false, List, Some, slice_get, slice_index, length, refl, arith, ap, subst, ◌∙◌, sym, below_more, set, take, map, [], ◌∷◌, ◌++◌, cond, zero, suc, ◌^◌}
use Rattle.std.specs.Prelude.{slice_index_or}
use Rattle.std.proofs.lemmas.List.{get_or-set_same, get_or-set_other, get_or-take, take_more, take_all, map-append, length-map, length-take-le}
use Rattle.std.proofs.lemmas.Option.{same_Some, slice_get_within, get_or_from_slice_get}
use Rattle.std.proofs.lemmas.Nat.{pow_pos}
use Rattle.field_policies.specs.declared.field.Field.{Field}
use Rattle.field_policies.specs.declared.map.RegMap.{RegMap}
use Rattle.reg_machine.specs.Conditions.{IsState}
use Rattle.reg_machine.specs.Steps.{Edge}
use Rattle.reg_machine.specs.Nexts.{AreNext, IsNextState, IsReset}
use Rattle.reg_machine.specs.States.{State, next_state, next_value}
use Rattle.reg_machine.proofs.StateLemmas.{is_for_each, number_is, same_state, state_with}

pub next_init : (e : Edge) (values : List ℕ) (used known : List Bool) (values' : List ℕ) → AreNext e values used known 0 values' used known
next_init e values used known values' = record { done = λ k lt. absurd (omega (arith, lt)); used_left = λ k h. refl; known_left = λ k h. refl }

pub next_more : (e : Edge) (values : List ℕ) (used known : List Bool) (n : ℕ) (values' : List ℕ) (used' known' : List Bool) (v : ℕ) (u k : Bool)
    → n < length values' → n < length used' → n < length known' → AreNext e values used known n values' used' known'
    → ((f : Field) → slice_get e.view.fields n ≡ Some f → IsNextState e f (slice_index values n) (slice_index_or used' n false) (slice_index_or known' n false) v u k)
    → AreNext e values used known (n + 1) (set values' n v) (set used' n u) (set known' n k)
next_more e values used known n values' used' known' v u k lv lu lk a s = record {
  done = below_more _ n
      (λ i lt f at. let ne : i ≢ n = omega (arith, lt) in
      subst (λ x. IsNextState e f (slice_index values i) (slice_index_or used i false) (slice_index_or known i false) x (slice_index_or (set used' n u) i false) (slice_index_or (set known' n k) i false)) (sym (get_or-set_other values' n i v 0 ne))
      (subst (λ x. IsNextState e f (slice_index values i) (slice_index_or used i false) (slice_index_or known i false) (slice_index values' i) x (slice_index_or (set known' n k) i false)) (sym (get_or-set_other used' n i u false ne))
      (subst (λ x. IsNextState e f (slice_index values i) (slice_index_or used i false) (slice_index_or known i false) (slice_index values' i) (slice_index_or used' i false) x) (sym (get_or-set_other known' n i k false ne)) (a.done i lt f at))))
      (λ f at.
      subst (λ x. IsNextState e f (slice_index values n) (slice_index_or used n false) (slice_index_or known n false) x (slice_index_or (set used' n u) n false) (slice_index_or (set known' n k) n false)) (sym (get_or-set_same values' n v 0 lv))
      (subst (λ x. IsNextState e f (slice_index values n) (slice_index_or used n false) (slice_index_or known n false) v x (slice_index_or (set known' n k) n false)) (sym (get_or-set_same used' n u false lu))
      (subst (λ x. IsNextState e f (slice_index values n) (slice_index_or used n false) (slice_index_or known n false) v u x) (sym (get_or-set_same known' n k false lk))
      (subst (λ x. IsNextState e f (slice_index values n) x (slice_index_or known n false) v u k) (a.used_left n (omega arith))
      (subst (λ x. IsNextState e f (slice_index values n) (slice_index_or used' n false) x v u k) (a.known_left n (omega arith)) (s f at))))));
  used_left = λ i h. let ne : i ≢ n = omega (arith, h) in get_or-set_other used' n i u false ne ∙ a.used_left i (omega (arith, h));
  known_left = λ i h. let ne : i ≢ n = omega (arith, h) in get_or-set_other known' n i k false ne ∙ a.known_left i (omega (arith, h));
}

-- ---- the machine's lists

pub reset_more : (fields : List Field) (i : ℕ) (f : Field) (values : List ℕ) (used known : List Bool) (v : ℕ) (k : Bool) → slice_get fields i ≡ Some f → v ≡ cond f.wire 0 f.reset → k ≡ f.starts_known
    → IsReset (take i fields) values used known → IsReset (take (i + 1) fields) (values ++ v ∷ []) (used ++ false ∷ []) (known ++ k ∷ [])
reset_more fields i f values used known v k at p q r =
    let longer : take (i + 1) fields ≡ take i fields ++ f ∷ [] = take_more fields i f (slice_get_within fields i f at) ∙ ap (λ g. take i fields ++ g ∷ []) (get_or_from_slice_get fields i f f at) in
    subst (λ fs. IsReset fs (values ++ v ∷ []) (used ++ false ∷ []) (known ++ k ∷ [])) (sym longer) (record {
      values_are = ap (λ x. x ++ v ∷ []) r.values_are ∙ ap (λ x. map (λ f. cond f.wire 0 f.reset) (take i fields) ++ x ∷ []) p ∙ sym (map-append (λ (f : Field). cond f.wire 0 f.reset) (take i fields) (f ∷ []));
      used_are = ap (λ x. x ++ false ∷ []) r.used_are ∙ sym (map-append (λ (f : Field). false) (take i fields) (f ∷ []));
      known_are = ap (λ x. x ++ k ∷ []) r.known_are ∙ ap (λ x. map (λ f. f.starts_known) (take i fields) ++ x ∷ []) q ∙ sym (map-append (λ (f : Field). f.starts_known) (take i fields) (f ∷ []));
    })

pub reset_all : (fields : List Field) (i : ℕ) (values : List ℕ) (used known : List Bool) → length fields ≤ i → IsReset (take i fields) values used known → IsReset fields values used known
reset_all fields i values used known h r = subst (λ fs. IsReset fs values used known) (take_all i fields h) r

-- what a map of the fields has at a place
mapped_at : {A : Type 0} (g : Field → A) (fields : List Field) (n : ℕ) (f : Field) (x : A) → slice_get fields n ≡ Some f → slice_get (map g fields) n ≡ Some x → x ≡ g f
mapped_at g [] n f x p q = cc
mapped_at g (y ∷ ys) zero f x p q = sym (same_Some _ _ q) ∙ ap g (same_Some _ _ p)
mapped_at g (y ∷ ys) (suc n) f x p q = mapped_at g ys n f x p q

reset_fits : (f : Field) → f.reset < 2 ^ f.width → cond f.wire 0 f.reset < 2 ^ f.width
reset_fits f h = fits f.wire
  where
    fits : (b : Bool) → cond b 0 f.reset < 2 ^ f.width
    fits true = pow_pos f.width
    fits false = h

pub reset_fits_map : (map : RegMap) (values : List ℕ) (used known : List Bool) → IsReset map.fields.items values used known → IsState map.fields.items values used known
reset_fits_map m values used known r = record {
  values_of = record {
    one_each = ap length r.values_are ∙ length-map m.fields.items _;
    fit = λ n v f at here. let is : v ≡ cond f.wire 0 f.reset = mapped_at (λ (f : Field). cond f.wire 0 f.reset) m.fields.items n f v at (ap (λ xs. slice_get xs n) (sym r.values_are) ∙ here) in
        subst (λ x. x < 2 ^ f.width) (sym is) (reset_fits f (m.fits.fits n f at));
  };
  used_of = ap length r.used_are ∙ length-map m.fields.items _;
  known_of = ap length r.known_are ∙ length-map m.fields.items _;
}

-- a wire's entry or a stored field's
either : (b : Bool) (v w x : ℕ) → (b ≡ true → v ≡ w) → (b ≡ false → v ≡ x) → v ≡ cond b w x
either true v w x p q = p refl
either false v w x p q = q refl

-- the lists of every field's next state are the next state
pub next_all : (e : Edge) (s : State) (next values' : List ℕ) (used' known' : List Bool) → length s.values ≡ length e.view.fields → length s.values ≤ length next → values' ≡ take (length s.values) next
    → length used' ≡ length e.view.fields → length known' ≡ length e.view.fields
    → AreNext e s.values s.used s.known (length e.view.fields) next used' known' → state_with values' used' known' ≡ next_state e s
unfolding next_state
next_all e s next values' used' known' len room are lu lk a = same_state _ _ _ _ _ _
    (is_for_each (next_value e s) 0 e.view.fields values' (ap length are ∙ length-take-le (length s.values) next room ∙ len)
    (λ n f at. let lt : n < length e.view.fields = slice_get_within e.view.fields n f at in
    here n lt ∙ either f.wire (slice_index next n) _ _ ((a.done n lt f at).wire) (λ w. number_is f.width _ _ ((a.done n lt f at).stored w))))
    (is_for_each _ false e.view.fields used' lu (λ n f at. (a.done n (slice_get_within e.view.fields n f at) f at).flag))
    (is_for_each _ false e.view.fields known' lk (λ n f at. (a.done n (slice_get_within e.view.fields n f at) f at).knows))
  where
    here : (n : ℕ) → n < length e.view.fields → slice_index values' n ≡ slice_index next n
    here n lt = ap (λ xs. slice_index xs n) are ∙ get_or-take (length s.values) next n 0 (omega (arith, len, lt))

pub next_fits : (e : Edge) (values : List ℕ) (used known : List Bool) (next values' : List ℕ) (used' known' : List Bool) → length values ≡ length e.view.fields → length values ≤ length next → values' ≡ take (length values) next
    → length used' ≡ length e.view.fields → length known' ≡ length e.view.fields
    → AreNext e values used known (length e.view.fields) next used' known' → IsState e.view.fields values' used' known'
next_fits e values used known next values' used' known' len room are lu lk a = record {
  values_of = record {
    one_each = ap length are ∙ length-take-le (length values) next room ∙ len;
    fit = λ n v f at here. let lt : n < length e.view.fields = slice_get_within e.view.fields n f at in
        let is : slice_index next n ≡ v = sym (get_or-take (length values) next n 0 (omega (arith, len, lt))) ∙ ap (λ xs. slice_index xs n) (sym are) ∙ get_or_from_slice_get values' n v 0 here in
        subst (λ x. x < 2 ^ f.width) is ((a.done n lt f at).fits);
  };
  used_of = lu;
  known_of = lk;
}

pub reset_pushed : (fields : List Field) (i : ℕ) (f : Field) (values values' : List ℕ) (used used' known known' : List Bool) (v : ℕ) → slice_get fields i ≡ Some f → v ≡ cond f.wire 0 f.reset
    → values' ≡ values ++ v ∷ [] → used' ≡ used ++ false ∷ [] → known' ≡ known ++ f.starts_known ∷ [] → IsReset (take i fields) values used known → IsReset (take (i + 1) fields) values' used' known'
reset_pushed fields i f values values' used used' known known' v at p a b c r =
    subst (λ x. IsReset (take (i + 1) fields) x used' known') (sym a) (subst (λ x. IsReset (take (i + 1) fields) (values ++ v ∷ []) x known') (sym b)
    (subst (λ x. IsReset (take (i + 1) fields) (values ++ v ∷ []) (used ++ false ∷ []) x) (sym c) (reset_more fields i f values used known v f.starts_known at p refl r)))

pub reset_empty : (fields : List Field) (values : List ℕ) (used known : List Bool) → values ≡ [] → used ≡ [] → known ≡ [] → IsReset (take 0 fields) values used known
reset_empty fields values used known a b c = record { values_are = a; used_are = b; known_are = c }
