-- What is refused in the bodies of a body's definitions, one definition at a time.
use Rattle.std.proofs.Common.{◌≡◌, ℕ, ◌+◌, ◌<◌, ◌⊎◌, inl, inr, List, [], ◌∷◌, ◌++◌, Contains, Some, slice_get, take, length, arith, subst, sym, refl, ◌∙◌, ◌↔◌, below_more, Result, OnOk, Option}
use Rattle.std.specs.declared.alloc.AllocError.{AllocError}
use Rattle.rdl_text.specs.Instances.{body_of}
use Rattle.std.proofs.lemmas.Option.{same_Some, slice_get_within}
use Rattle.std.proofs.lemmas.List.Elements.{Contains-append_left, Contains-append_right, Contains-append_cases}
use Rattle.bit_base.specs.declared.place.Place.{Place}
use Rattle.rdl_tree.specs.declared.tree.RdlItem.{RdlItem, out-RdlItem}
use Rattle.rdl_tree.specs.declared.tree.RdlItem.TheOpen.{RdlItem-F}
use Rattle.rdl_tree.specs.declared.tree.RdlDef.{RdlDef, out-RdlDef}
use Rattle.rdl_text.specs.declared.instance.Body.{Body}
use Rattle.rdl_text.specs.declared.text.Check.{Check}
use Rattle.rdl_text.specs.Chains.{Chain}
use Rattle.rdl_text.specs.Refusals.{IsRefused, refused_from}
use Rattle.rdl_text.specs.Inside.{Inside, InsideOf}

-- refused in one of the first bodies
pub record InsideBelow (what : Check) (outer : Chain) (items : List RdlItem) (n : ℕ) (p : Place) : Type 0 where
  pub index : ℕ
  pub item : RdlItem
  pub below : index < n
  pub here : slice_get items index ≡ Some item
  pub within : Inside what outer (take index items) (out-RdlItem item) p

-- to be refused inside of the item at k is to be in the list
abbrev ListedAt : Check → Chain → List RdlItem → List Place → Place → ℕ → Type 0
ListedAt what outer items b p k = (y : RdlItem) → slice_get items k ≡ Some y → Inside what outer (take k items) (out-RdlItem y) p → Contains b p

-- one more body
pub more_inside : (what : Check) (outer : Chain) (items : List RdlItem) (z a b : List Place) (n : ℕ) (x : RdlItem) → slice_get items n ≡ Some x
    → ((p : Place) → Contains a p ↔ (Contains z p ⊎ InsideBelow what outer items n p))
    → ((p : Place) → Contains b p ↔ (Contains a p ⊎ Inside what outer (take n items) (out-RdlItem x) p))
    → (p : Place) → Contains b p ↔ (Contains z p ⊎ InsideBelow what outer items (n + 1) p)
more_inside what outer items z a b n x at before now p = (to, from)
  where
    to : Contains b p → Contains z p ⊎ InsideBelow what outer items (n + 1) p
    to h = elim ((now p).0 h) [
      | inl ha ↦ elim ((before p).0 ha) [ inl hz ↦ inl hz | inr w ↦ inr (record { index = w.index; item = w.item; below = omega (arith, w.below); here = w.here; within = w.within }) ]
      | inr i ↦ inr (record { index = n; item = x; below = omega arith; here = at; within = i })
    ]

    earlier : (k : ℕ) → k < n → ListedAt what outer items b p k
    earlier k lt y here within = (now p).1 (inl ((before p).1 (inr (record { index = k; item = y; below = lt; here = here; within = within }))))

    last : ListedAt what outer items b p n
    last y here within = (now p).1 (inr (subst (λ (z : RdlItem). Inside what outer (take n items) (out-RdlItem z) p) (same_Some _ _ (sym here ∙ at)) within))

    passes : (k : ℕ) → k < n + 1 → ListedAt what outer items b p k
    passes = below_more (ListedAt what outer items b p) n earlier last

    from : Contains z p ⊎ InsideBelow what outer items (n + 1) p → Contains b p
    from h = elim h [ inl hz ↦ (now p).1 (inl ((before p).1 (inl hz))) | inr w ↦ passes w.index w.below w.item w.here w.within ]

-- what is refused inside of an item is refused inside of the body
is_inside : (what : Check) (outer : Chain) (kind : Body) (items : List RdlItem) (p : Place) (k : ℕ) (x : RdlItem) → slice_get items k ≡ Some x
    → (y : RdlItem-F RdlItem RdlDef) → out-RdlItem x ≡ y → Inside what outer (take k items) y p → IsRefused what outer kind items p
is_inside what outer kind items p k x here (RdlItem-F.Def d) e h = IsRefused.inside outer kind items p k x d here e h
is_inside what outer kind items p k x here (RdlItem-F.Use u) e h = absurd h
is_inside what outer kind items p k x here (RdlItem-F.Default a b c) e h = absurd h
is_inside what outer kind items p k x here (RdlItem-F.Prop a b) e h = absurd h
is_inside what outer kind items p k x here (RdlItem-F.Dynamic a b c d) e h = absurd h
is_inside what outer kind items p k x here (RdlItem-F.Enum a) e h = absurd h

own_or_inside : (what : Check) (outer : Chain) (kind : Body) (items : List RdlItem) (p : Place) → IsRefused what outer kind items p
    → Contains (refused_from what outer kind items [] items) p ⊎ InsideBelow what outer items (length items) p
own_or_inside what outer kind items p (IsRefused.own _ _ _ _ c) = inl c
own_or_inside what outer kind items p (IsRefused.inside _ _ _ _ k x d here e h) =
    inr (record { index = k; item = x; below = slice_get_within items k x here; here = here; within = subst (λ (y : RdlItem-F RdlItem RdlDef). Inside what outer (take k items) y p) (sym e) h })

-- the body's own refusals and those of all its bodies
pub all_inside : (what : Check) (outer : Chain) (kind : Body) (items : List RdlItem) (old own new : List Place) (n : ℕ) → own ≡ old ++ refused_from what outer kind items [] items → n ≡ length items
    → ((p : Place) → Contains new p ↔ (Contains own p ⊎ InsideBelow what outer items n p))
    → (p : Place) → Contains new p ↔ (Contains old p ⊎ IsRefused what outer kind items p)
all_inside what outer kind items old own new n e all h p = (to, from)
  where
    to : Contains new p → Contains old p ⊎ IsRefused what outer kind items p
    to c = elim ((h p).0 c) [
      | inl o ↦ elim (Contains-append_cases old (refused_from what outer kind items [] items) p (subst (λ (xs : List Place). Contains xs p) e o)) [ inl before ↦ inl before | inr own_one ↦ inr (IsRefused.own outer kind items p own_one) ]
      | inr w ↦ inr (is_inside what outer kind items p w.index w.item w.here _ refl w.within)
    ]

    back : Contains (old ++ refused_from what outer kind items [] items) p → Contains new p
    back c = (h p).1 (inl (subst (λ (xs : List Place). Contains xs p) (sym e) c))

    from : Contains old p ⊎ IsRefused what outer kind items p → Contains new p
    from c = elim c [
      | inl before ↦ back (Contains-append_left old (refused_from what outer kind items [] items) p before)
      | inr m ↦ elim (own_or_inside what outer kind items p m) [
        | inl own_one ↦ back (Contains-append_right old (refused_from what outer kind items [] items) p own_one)
        | inr w ↦ (h p).1 (inr (subst (λ k. InsideBelow what outer items k p) (sym all) w))
      ]
    ]

-- what is refused inside of a definition
pub inside_def : (what : Check) (r : Result (Unit {0}) AllocError) (old new : List Place) (outer chain : Chain) (before items : List RdlItem) (kind : Body) (o : Option RdlDef) (d : RdlDef)
    → Some d ≡ o → chain ≡ outer ++ before ∷ [] → kind ≡ body_of (out-RdlDef d).kind → items ≡ (out-RdlDef d).items
    → OnOk r ((p : Place) → Contains new p ↔ (Contains old p ⊎ IsRefused what chain kind items p)) → OnOk r ((p : Place) → Contains new p ↔ (Contains old p ⊎ InsideOf what outer before o p))
inside_def what r old new outer chain before items kind o d is chains kinds bodies h =
    let a = subst (λ (c : Chain). OnOk r ((p : Place) → Contains new p ↔ (Contains old p ⊎ IsRefused what c kind items p))) chains h in
    let b = subst (λ (k : Body). OnOk r ((p : Place) → Contains new p ↔ (Contains old p ⊎ IsRefused what (outer ++ before ∷ []) k items p))) kinds a in
    let c = subst (λ (xs : List RdlItem). OnOk r ((p : Place) → Contains new p ↔ (Contains old p ⊎ IsRefused what (outer ++ before ∷ []) (body_of (out-RdlDef d).kind) xs p))) bodies b in
    subst (λ (z : Option RdlDef). OnOk r ((p : Place) → Contains new p ↔ (Contains old p ⊎ InsideOf what outer before z p))) is c
