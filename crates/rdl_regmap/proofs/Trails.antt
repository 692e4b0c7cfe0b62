-- Ways from a component to those below it, and that a walk comes to each of them and to nothing else.
use Rattle.std.proofs.Common.{◌≡◌, ◌⊎◌, inl, inr, ℕ, zero, suc, ◌<◌, ◌≤◌, Bool, true, false, List, [], ◌∷◌, ◌++◌, length, refl, sym, ◌∙◌, ap, subst, arith, append-nil, append_assoc, if◌then◌else◌}
use Rattle.std.specs.List.{AllByRecursion}
use Rattle.std.proofs.lemmas.Bool.{cases_Bool, cases_eq, true≢false}
use Rattle.rdl_tree.specs.declared.tree.RdlDef.{out-RdlDef}
use Rattle.rdl_text.specs.Components.{Component}
use Rattle.rdl_text.specs.Instances.{kind_of, is_field}
use Rattle.rdl_values.specs.OneInstance.{Instance}
use Rattle.rdl_values.specs.OneFrame.{Target, Frame, Trail}
use Rattle.rdl_values.specs.Instances.{instances_of, count_of}
use Rattle.rdl_values.specs.Frames.{targets_of, frame_of}
use Rattle.rdl_values.specs.Walks as plain
use Rattle.rdl_layout.specs.declared.size.Extent.{Extent}
use Rattle.rdl_layout.specs.Laid.{Sized, size_in, extent_of}
use Rattle.rdl_layout.specs.Walks.{Gives, address_of, over, over_elements, over_instances, over_inside}
use Rattle.rdl_regmap.proofs.Has.{Has, has_left, has_right, has_cases}
use Rattle.rdl_regmap.proofs.Visits.{Visit, visit}

abbrev pub targets_in : Component → List Target
targets_in c = targets_of (out-RdlDef c.definition).items

-- from a component by instances in it, one inside of the other
pub data IsTrail : Component → Trail → Component → Type 0 where
  here : (c : Component) → IsTrail c [] c
  step : (c : Component) (i : Instance) (k : ℕ) (t : Trail) (d : Component)
      → Has i (instances_of c) → k < count_of i → IsTrail i.component t d → IsTrail c (frame_of (targets_in c) i k ∷ t) d

abbrev pub HasNoField : Trail → Type 0
HasNoField t = AllByRecursion (λ (f : Frame). is_field f.kind ≡ false) t

-- ---- the walk with addresses: what it comes to is on such a way

pub record IsReached (up : Trail) (c : Component) (v : Visit) : Type 0 where
  pub rest : Trail
  pub is : v.trail ≡ up ++ rest
  pub trail : IsTrail c rest v.component
  pub fieldless : HasNoField rest

record ByElement (see : Gives Visit) (up : Trail) (targets : List Target) (i : Instance) (v : Visit) (n : ℕ) : Type 0 where
  at : ℕ
  number : ℕ
  below : number < n
  seen : Has v (see at (up ++ frame_of targets i number ∷ []) i.component)

by_element : (see : Gives Visit) (base : ℕ) (up : Trail) (targets : List Target) (i : Instance) (e : Extent) (v : Visit) (n : ℕ)
    → Has v (over_elements see base up targets i e n) → ByElement see up targets i v n
by_element see base up targets i e v zero h = absurd h
by_element see base up targets i e v (suc k) h = elim (has_cases v (over_elements see base up targets i e k) (see (address_of base e k) (up ++ frame_of targets i k ∷ []) i.component) h) [
  | inl l ↦ let b : ByElement see up targets i v k = by_element see base up targets i e v k l in record { at = b.at; number = b.number; below = omega (arith, b.below); seen = b.seen }
  | inr r ↦ record { at = address_of base e k; number = k; below = omega arith; seen = r }
]

record ByInstance (see : Gives Visit) (up : Trail) (targets : List Target) (v : Visit) (is : List Instance) : Type 0 where
  instance : Instance
  among : Has instance is
  plain : is_field (kind_of instance.component) ≡ false
  element : ByElement see up targets instance v (count_of instance)

picked : {A : Type 0} (v : A) (b : Bool) (xs ys : List A) → Has v (if b then xs else ys) → ((b ≡ true) × Has v xs) ⊎ ((b ≡ false) × Has v ys)
picked v true xs ys h = inl (refl, h)
picked v false xs ys h = inr (refl, h)

more_instances : (see : Gives Visit) (up : Trail) (targets : List Target) (v : Visit) (i : Instance) (is : List Instance) → ByInstance see up targets v is → ByInstance see up targets v (i ∷ is)
more_instances see up targets v i is b = record { instance = b.instance; among = inr b.among; plain = b.plain; element = b.element }

by_instance : (see : Gives Visit) (size : Sized) (base : ℕ) (up : Trail) (targets : List Target) (next : ℕ) (v : Visit) (is : List Instance)
    → Has v (over_instances see size base up targets next is) → ByInstance see up targets v is
by_instance see size base up targets next v [] h = absurd h
by_instance see size base up targets next v (i ∷ is) h = elim (picked v (is_field (kind_of i.component)) (over_instances see size base up targets next is) _ h) [
  | inl e ↦ more_instances see up targets v i is (by_instance see size base up targets next v is e.1)
  | inr e ↦ elim (has_cases v (over_elements see base up targets i (extent_of size up targets next i) (count_of i)) (over_instances see size base up targets (extent_of size up targets next i).end is) e.1) [
    | inl l ↦ record { instance = i; among = inl refl; plain = e.0; element = by_element see base up targets i (extent_of size up targets next i) v (count_of i) l }
    | inr r ↦ more_instances see up targets v i is (by_instance see size base up targets (extent_of size up targets next i).end v is r)
  ]
]

pub reached : (room base : ℕ) (up : Trail) (c : Component) (v : Visit) → Has v (over visit room base up c) → IsReached up c v
unfolding over
reached zero base up c v h = elim h [
  | inl e ↦ record { rest = []; is = ap (λ (w : Visit). w.trail) e ∙ sym (append-nil up); trail = subst (λ (w : Visit). IsTrail c [] w.component) (sym e) (IsTrail.here c); fieldless = tt }
  | inr r ↦ absurd r
]
reached (suc room) base up c v h = elim h [
  | inl e ↦ record { rest = []; is = ap (λ (w : Visit). w.trail) e ∙ sym (append-nil up); trail = subst (λ (w : Visit). IsTrail c [] w.component) (sym e) (IsTrail.here c); fieldless = tt }
  | inr r ↦
      let b : ByInstance (over visit room) up (targets_in c) v (instances_of c) = by_instance (over visit room) (size_in room) base up (targets_in c) 0 v (instances_of c) r in
      let f : Frame = frame_of (targets_in c) b.instance b.element.number in
      let w : IsReached (up ++ f ∷ []) b.instance.component v = reached room b.element.at (up ++ f ∷ []) b.instance.component v b.element.seen in
      record {
        rest = f ∷ w.rest;
        is = w.is ∙ append_assoc up (f ∷ []) w.rest;
        trail = IsTrail.step c b.instance b.element.number w.rest v.component b.among b.element.below w.trail;
        fieldless = (b.plain, w.fieldless);
      }
]

-- ---- and it comes to each

pub record IsVisited (up : Trail) (d : Component) (all : List Visit) : Type 0 where
  pub at : ℕ
  pub among : Has (record { address = at; trail = up; component = d }) all

element_seen : (see : Gives Visit) (base : ℕ) (up : Trail) (targets : List Target) (i : Instance) (e : Extent) (v : Visit) (n k : ℕ) → k < n
    → Has v (see (address_of base e k) (up ++ frame_of targets i k ∷ []) i.component) → Has v (over_elements see base up targets i e n)
element_seen see base up targets i e v zero k lt h = absurd (omega (arith, lt))
element_seen see base up targets i e v (suc n) k lt h = elim (cases_eq k n) [
  | inl same ↦ has_right v (over_elements see base up targets i e n) _ (subst (λ m. Has v (see (address_of base e m) (up ++ frame_of targets i m ∷ []) i.component)) same h)
  | inr other ↦ has_left v (over_elements see base up targets i e n) _ (element_seen see base up targets i e v n k (omega (arith, lt, other)) h)
]

-- of an element, wherever it stands
abbrev SeenAnywhere : Gives Visit → Trail → Component → Trail → Component → Type 0
SeenAnywhere see up c t d = (base : ℕ) → IsVisited t d (see base up c)

seen_then : (b : Bool) (t : Trail) (d : Component) (xs ys : List Visit) → b ≡ true → IsVisited t d xs → IsVisited t d (if b then xs else ys)
seen_then true t d xs ys e v = v
seen_then false t d xs ys e v = cc

seen_else : (b : Bool) (t : Trail) (d : Component) (xs ys : List Visit) → b ≡ false → IsVisited t d ys → IsVisited t d (if b then xs else ys)
seen_else true t d xs ys e v = cc
seen_else false t d xs ys e v = v

instance_seen : (see : Gives Visit) (size : Sized) (base : ℕ) (up : Trail) (targets : List Target) (next : ℕ) (is : List Instance) (i : Instance) (k : ℕ) (t : Trail) (d : Component)
    → Has i is → k < count_of i → is_field (kind_of i.component) ≡ false
    → SeenAnywhere see (up ++ frame_of targets i k ∷ []) i.component t d → IsVisited t d (over_instances see size base up targets next is)
instance_seen see size base up targets next [] i k t d h lt plain seen = absurd h
instance_seen see size base up targets next (j ∷ is) i k t d h lt plain seen = elim (cases_Bool (is_field (kind_of j.component))) [
  | inl e ↦ elim h [
    | inl same ↦ absurd (true≢false (sym e ∙ ap (λ (x : Instance). is_field (kind_of x.component)) (sym same) ∙ plain))
    | inr r ↦ seen_then (is_field (kind_of j.component)) t d (over_instances see size base up targets next is) _ e (instance_seen see size base up targets next is i k t d r lt plain seen)
  ]
  | inr e ↦ elim h [
    | inl same ↦ seen_else (is_field (kind_of j.component)) t d (over_instances see size base up targets next is) _ e (
        let x : Extent = extent_of size up targets next j in
        let v : IsVisited t d (see (address_of base x k) (up ++ frame_of targets i k ∷ []) i.component) = seen (address_of base x k) in
        record {
          at = v.at;
          among = has_left _ (over_elements see base up targets j x (count_of j)) _
              (element_seen see base up targets j x _ (count_of j) k (subst (λ (y : Instance). k < count_of y) same lt)
              (subst (λ (y : Instance). Has (record { address = v.at; trail = t; component = d }) (see (address_of base x k) (up ++ frame_of targets y k ∷ []) y.component)) same v.among));
        })
    | inr r ↦ seen_else (is_field (kind_of j.component)) t d (over_instances see size base up targets next is) _ e (
        let x : Extent = extent_of size up targets next j in
        let v : IsVisited t d (over_instances see size base up targets x.end is) = instance_seen see size base up targets x.end is i k t d r lt plain seen in
        record { at = v.at; among = has_right _ (over_elements see base up targets j x (count_of j)) _ v.among })
  ]
]

pub visited : (room base : ℕ) (up : Trail) (c : Component) (t : Trail) (d : Component) → IsTrail c t d → HasNoField t → length t ≤ room
    → IsVisited (up ++ t) d (over visit room base up c)
unfolding over
visited zero base up c t d (IsTrail.here _) none le = record { at = base; among = inl (ap (λ (x : Trail). record { address = base; trail = x; component = c }) (append-nil up)) }
visited (suc room) base up c t d (IsTrail.here _) none le = record { at = base; among = inl (ap (λ (x : Trail). record { address = base; trail = x; component = c }) (append-nil up)) }
visited zero base up c t d (IsTrail.step _ i k s _ among lt more) none le = absurd (omega (arith, le))
visited (suc room) base up c t d (IsTrail.step _ i k s _ among lt more) none le =
    let f : Frame = frame_of (targets_in c) i k in
    let v : IsVisited (up ++ (f ∷ s)) d (over_inside (over visit room) (size_in room) base up c) =
    instance_seen (over visit room) (size_in room) base up (targets_in c) 0 (instances_of c) i k (up ++ (f ∷ s)) d among lt none.0
    (λ b. subst (λ (x : Trail). IsVisited x d (over visit room b (up ++ f ∷ []) i.component)) (append_assoc up (f ∷ []) s) (visited room b (up ++ f ∷ []) i.component s d more none.1 (omega (arith, le)))) in
    record { at = v.at; among = inr v.among }

-- ---- the walk without addresses gives what is given at each

plain_element : {A : Type 0} (go : plain.Gives A) (up : Trail) (targets : List Target) (i : Instance) (p : A) (n k : ℕ) → k < n
    → Has p (go (up ++ frame_of targets i k ∷ []) i.component) → Has p (plain.over_elements go up targets i n)
plain_element go up targets i p zero k lt h = absurd (omega (arith, lt))
plain_element go up targets i p (suc n) k lt h = elim (cases_eq k n) [
  | inl same ↦ has_right p (plain.over_elements go up targets i n) _ (subst (λ m. Has p (go (up ++ frame_of targets i m ∷ []) i.component)) same h)
  | inr other ↦ has_left p (plain.over_elements go up targets i n) _ (plain_element go up targets i p n k (omega (arith, lt, other)) h)
]

plain_instance : {A : Type 0} (go : plain.Gives A) (up : Trail) (targets : List Target) (p : A) (is : List Instance) (i : Instance) (k : ℕ)
    → Has i is → k < count_of i → Has p (go (up ++ frame_of targets i k ∷ []) i.component) → Has p (plain.over_instances go up targets is)
plain_instance go up targets p [] i k h lt seen = absurd h
plain_instance go up targets p (j ∷ is) i k h lt seen = elim h [
  | inl same ↦ has_left p (plain.over_elements go up targets j (count_of j)) _
      (plain_element go up targets j p (count_of j) k (subst (λ (y : Instance). k < count_of y) same lt)
      (subst (λ (y : Instance). Has p (go (up ++ frame_of targets y k ∷ []) y.component)) same seen))
  | inr r ↦ has_right p (plain.over_elements go up targets j (count_of j)) _ (plain_instance go up targets p is i k r lt seen)
]

pub given_at : {A : Type 0} (give : plain.Gives A) (p : A) (room : ℕ) (up : Trail) (c : Component) (t : Trail) (d : Component) → IsTrail c t d → length t ≤ room
    → Has p (give (up ++ t) d) → Has p (plain.over give room up c)
unfolding plain.over
given_at give p zero up c t d (IsTrail.here _) le h = subst (λ (x : Trail). Has p (give x c)) (append-nil up) h
given_at give p (suc room) up c t d (IsTrail.here _) le h = has_left p (give up c) _ (subst (λ (x : Trail). Has p (give x c)) (append-nil up) h)
given_at give p zero up c t d (IsTrail.step _ i k s _ among lt more) le h = absurd (omega (arith, le))
given_at give p (suc room) up c t d (IsTrail.step _ i k s _ among lt more) le h =
    has_right p (give up c) _
    (plain_instance (plain.over give room) up (targets_in c) p (instances_of c) i k among lt
    (given_at give p room (up ++ frame_of (targets_in c) i k ∷ []) i.component s d more (omega (arith, le))
    (subst (λ (x : Trail). Has p (give x d)) (sym (append_assoc up (frame_of (targets_in c) i k ∷ []) s)) h)))

-- ---- a walk stays within its room where there aren't too many instances
