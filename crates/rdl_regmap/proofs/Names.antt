-- No two instances of a body in whose text nothing is refused have one name.
use Rattle.std.proofs.Common.{◌≡◌, inl, inr, ℕ, Bool, true, false, ◌||◌, List, [], ◌∷◌, ◌++◌, Option, Some, None, bytes_eq, refl, sym, ◌∙◌, ap, subst}
use Rattle.std.specs.List.{list_any, IsDistinct}
use Rattle.std.proofs.lemmas.Bool.{true≢false}
use Rattle.std.proofs.lemmas.Slice.Eq.{bytes_eq-Decides}
use Rattle.rdl_tree.specs.declared.tree.RdlItem.{RdlItem, out-RdlItem}
use Rattle.rdl_tree.specs.declared.tree.RdlItem.TheOpen.{RdlItem-F}
use Rattle.rdl_tree.specs.declared.tree.RdlDef.{RdlDef, out-RdlDef}
use Rattle.rdl_tree.specs.declared.tree.RdlInst.{RdlInst}
use Rattle.rdl_tree.specs.declared.tree.RdlInsts.{RdlInsts}
use Rattle.rdl_tree.specs.declared.tree.RdlNextInst.{RdlNextInst}
use Rattle.rdl_tree.specs.Tree.{is_text}
use Rattle.rdl_text.specs.declared.instance.Body.{Body}
use Rattle.rdl_text.specs.declared.text.Check.TheVariants as check
use Rattle.rdl_text.specs.Chains.{Chain}
use Rattle.rdl_text.specs.Components.{Component}
use Rattle.rdl_text.specs.Instances.{kind_of}
use Rattle.rdl_text.specs.Types.{type_of}
use Rattle.rdl_text.specs.Names.{is_among, has_inst, has_any_inst, instantiates, is_instantiated, repeated, repeated_next, repeated_any}
use Rattle.rdl_values.specs.OneInstance.{Instance}
use Rattle.rdl_values.specs.Instances.{next_with, all_with, any_with, used_with, instances_by, instances_from, instances_of}
use Rattle.rdl_regmap.proofs.Has.{Has, has_left, has_right, has_cases, none_left, none_right}
use Rattle.rdl_regmap.proofs.Bodies.{Each, NothingRefused, own_none, FineComponent}
use Rattle.rdl_regmap.proofs.Instances.{no_place, no_left, no_right}
use Rattle.rdl_regmap.proofs.Places.{all_by, distinct_append, of_all}

abbrev pub same_name : Instance → Instance → Bool
same_name i j = bytes_eq i.inst.name.text j.inst.name.text

-- ---- of one list

record IsNew (before : List RdlItem) (first : RdlInst) (seen : List RdlNextInst) (j : Instance) : Type 0 where
  before_it : is_instantiated before j.inst.name.text ≡ false
  first_one : bytes_eq first.name.text j.inst.name.text ≡ false
  seen_ones : (m : RdlNextInst) → Has m seen → bytes_eq m.inst.name.text j.inst.name.text ≡ false

none_among : (name : List ℕ) (seen : List RdlNextInst) (m : RdlNextInst) → is_among name seen ≡ false → Has m seen → bytes_eq m.inst.name.text name ≡ false
none_among name [] m out h = absurd h
none_among name (n ∷ ns) m out h = elim h [
  | inl e ↦ ap (λ (x : RdlNextInst). bytes_eq x.inst.name.text name) e ∙ no_left _ _ out
  | inr r ↦ none_among name ns m (no_right (is_text name n.inst.name) _ out) r
]

next_new : (c : Component) (before : List RdlItem) (first : RdlInst) (seen ns : List RdlNextInst) (j : Instance) → repeated_next before first seen ns ≡ [] → Has j (next_with c ns) → IsNew before first seen j
next_new c before first seen [] j none h = absurd h
next_new c before first seen (n ∷ ns) j none h =
    let here : (is_instantiated before n.inst.name.text || is_text n.inst.name.text first.name || is_among n.inst.name.text seen) ≡ false = no_place _ _ (none_left _ _ none) in
    let two : (is_instantiated before n.inst.name.text || is_text n.inst.name.text first.name) ≡ false = no_left _ (is_among n.inst.name.text seen) here in
    elim h [
      | inl e ↦ subst (λ (x : Instance). IsNew before first seen x) (sym e) (record {
        before_it = no_left (is_instantiated before n.inst.name.text) _ two;
        first_one = no_right (is_instantiated before n.inst.name.text) _ two;
        seen_ones = λ m i. none_among n.inst.name.text seen m (no_right (is_instantiated before n.inst.name.text || is_text n.inst.name.text first.name) _ here) i;
      })
      | inr r ↦
          let q : IsNew before first (seen ++ n ∷ []) j = next_new c before first (seen ++ n ∷ []) ns j (none_right _ _ none) r in
          record { before_it = q.before_it; first_one = q.first_one; seen_ones = λ m i. q.seen_ones m (has_left m seen (n ∷ []) i) }
    ]

next_distinct : (c : Component) (before : List RdlItem) (first : RdlInst) (seen ns : List RdlNextInst) → repeated_next before first seen ns ≡ [] → IsDistinct same_name (next_with c ns)
unfolding IsDistinct
next_distinct c before first seen [] none = tt
next_distinct c before first seen (n ∷ ns) none = (
  all_by (λ (j : Instance). same_name (record { inst = n.inst; component = c }) j ≡ false) (next_with c ns) (λ j h.
      (next_new c before first (seen ++ n ∷ []) ns j (none_right _ _ none) h).seen_ones n (has_right n seen (n ∷ []) (inl refl))),
  next_distinct c before first (seen ++ n ∷ []) ns (none_right _ _ none),
)

all_distinct : (c : Component) (before : List RdlItem) (is : RdlInsts) → repeated before is ≡ [] → IsDistinct same_name (all_with c is)
unfolding IsDistinct
all_distinct c before is none = (
  all_by (λ (j : Instance). same_name (record { inst = is.first; component = c }) j ≡ false) (next_with c is.more) (λ j h. (next_new c before is.first [] is.more j (none_right _ _ none) h).first_one),
  next_distinct c before is.first [] is.more (none_right _ _ none),
)

all_new : (c : Component) (before : List RdlItem) (is : RdlInsts) (j : Instance) → repeated before is ≡ [] → Has j (all_with c is) → is_instantiated before j.inst.name.text ≡ false
all_new c before is j none h = elim h [
  | inl e ↦ ap (λ (x : Instance). is_instantiated before x.inst.name.text) e ∙ no_place _ _ (none_left _ _ none)
  | inr r ↦ (next_new c before is.first [] is.more j (none_right _ _ none) r).before_it
]

-- one that has not the name of any of a list
not_next : (c : Component) (name : List ℕ) (ns : List RdlNextInst) (i : Instance) → is_among name ns ≡ false → Has i (next_with c ns) → bytes_eq i.inst.name.text name ≡ false
not_next c name [] i out h = absurd h
not_next c name (n ∷ ns) i out h = elim h [
  | inl e ↦ ap (λ (x : Instance). bytes_eq x.inst.name.text name) e ∙ no_left _ _ out
  | inr r ↦ not_next c name ns i (no_right (is_text name n.inst.name) _ out) r
]

not_all : (c : Component) (name : List ℕ) (is : RdlInsts) (i : Instance) → has_inst name is ≡ false → Has i (all_with c is) → bytes_eq i.inst.name.text name ≡ false
not_all c name is i out h = elim h [
  | inl e ↦ ap (λ (x : Instance). bytes_eq x.inst.name.text name) e ∙ no_left _ _ out
  | inr r ↦ not_next c name is.more i (no_right (is_text name is.first.name) _ out) r
]

-- ---- of one item

no_instances : IsDistinct same_name []
unfolding IsDistinct
no_instances = tt

record OfItem (outer : Chain) (before : List RdlItem) (y : RdlItem-F RdlItem RdlDef) : Type 0 where
  distinct : IsDistinct same_name (instances_by outer before y)
  new : (j : Instance) → Has j (instances_by outer before y) → is_instantiated before j.inst.name.text ≡ false

of_item : (outer : Chain) (kind : Body) (items before : List RdlItem) (x : RdlItem) → NothingRefused check.Names outer kind items before x → (y : RdlItem-F RdlItem RdlDef) → out-RdlItem x ≡ y → OfItem outer before y
of_item outer kind items before x none (RdlItem-F.Def d) is = by (out-RdlDef d).insts refl
  where
    comp : Component
    comp = record { definition = d; chain = outer ++ before ∷ [] }

    by : (o : Option RdlInsts) → (out-RdlDef d).insts ≡ o → OfItem outer before (RdlItem-F.Def d)
    by None e = record {
      distinct = subst (λ (o : Option RdlInsts). IsDistinct same_name (any_with comp o)) (sym e) no_instances;
      new = λ j h. absurd (subst (λ (o : Option RdlInsts). Has j (any_with comp o)) e h);
    }
    by (Some insts) e =
        let n = rw is at none in
        let r : repeated_any before (Some insts) ≡ [] = subst (λ (o : Option RdlInsts). repeated_any before o ≡ []) e (none_right _ _ n) in
        record {
          distinct = subst (λ (o : Option RdlInsts). IsDistinct same_name (any_with comp o)) (sym e) (all_distinct comp before insts r);
          new = λ j h. all_new comp before insts j r (subst (λ (o : Option RdlInsts). Has j (any_with comp o)) e h);
        }
of_item outer kind items before x none (RdlItem-F.Use u) is = by (type_of (outer ++ before ∷ []) u.name.text) refl
  where
    by : (o : Option Component) → type_of (outer ++ before ∷ []) u.name.text ≡ o → OfItem outer before (RdlItem-F.Use u)
    by None e = record {
      distinct = subst (λ (o : Option Component). IsDistinct same_name (used_with o u.insts)) (sym e) no_instances;
      new = λ j h. absurd (subst (λ (o : Option Component). Has j (used_with o u.insts)) e h);
    }
    by (Some c) e =
        let n = rw is at none in
        let r : repeated before u.insts ≡ [] = none_right _ _ n in
        record {
          distinct = subst (λ (o : Option Component). IsDistinct same_name (used_with o u.insts)) (sym e) (all_distinct c before u.insts r);
          new = λ j h. all_new c before u.insts j r (subst (λ (o : Option Component). Has j (used_with o u.insts)) e h);
        }
of_item outer kind items before x none (RdlItem-F.Enum n) is = record { distinct = no_instances; new = λ j h. absurd h }
of_item outer kind items before x none (RdlItem-F.Default a b d) is = record { distinct = no_instances; new = λ j h. absurd h }
of_item outer kind items before x none (RdlItem-F.Prop a b) is = record { distinct = no_instances; new = λ j h. absurd h }
of_item outer kind items before x none (RdlItem-F.Dynamic a b d f) is = record { distinct = no_instances; new = λ j h. absurd h }

not_item : (outer : Chain) (before : List RdlItem) (name : List ℕ) (i : Instance) (y : RdlItem-F RdlItem RdlDef) → instantiates name y ≡ false → Has i (instances_by outer before y) → bytes_eq i.inst.name.text name ≡ false
not_item outer before name i (RdlItem-F.Def d) out h = by (out-RdlDef d).insts refl
  where
    comp : Component
    comp = record { definition = d; chain = outer ++ before ∷ [] }

    by : (o : Option RdlInsts) → (out-RdlDef d).insts ≡ o → bytes_eq i.inst.name.text name ≡ false
    by None e = absurd (subst (λ (o : Option RdlInsts). Has i (any_with comp o)) e h)
    by (Some insts) e = not_all comp name insts i (subst (λ (o : Option RdlInsts). has_any_inst name o ≡ false) e out) (subst (λ (o : Option RdlInsts). Has i (any_with comp o)) e h)
not_item outer before name i (RdlItem-F.Use u) out h = by (type_of (outer ++ before ∷ []) u.name.text) refl
  where
    by : (o : Option Component) → type_of (outer ++ before ∷ []) u.name.text ≡ o → bytes_eq i.inst.name.text name ≡ false
    by None e = absurd (subst (λ (o : Option Component). Has i (used_with o u.insts)) e h)
    by (Some c) e = not_all c name u.insts i out (subst (λ (o : Option Component). Has i (used_with o u.insts)) e h)
not_item outer before name i (RdlItem-F.Enum n) out h = absurd h
not_item outer before name i (RdlItem-F.Default a b d) out h = absurd h
not_item outer before name i (RdlItem-F.Prop a b) out h = absurd h
not_item outer before name i (RdlItem-F.Dynamic a b d f) out h = absurd h

-- ---- of a body

any_append_left : (test : RdlItem → Bool) (xs ys : List RdlItem) → list_any test (xs ++ ys) ≡ false → list_any test xs ≡ false
any_append_left test [] ys out = refl
any_append_left test (x ∷ xs) ys out = both_out (test x) (list_any test xs) (no_left _ _ out) (any_append_left test xs ys (no_right (test x) _ out))
  where
    both_out : (a b : Bool) → a ≡ false → b ≡ false → (a || b) ≡ false
    both_out false false e f = refl
    both_out false true e f = cc
    both_out true b e f = cc

any_append_end : (test : RdlItem → Bool) (xs : List RdlItem) (x : RdlItem) → list_any test (xs ++ x ∷ []) ≡ false → test x ≡ false
any_append_end test [] x out = no_left _ _ out
any_append_end test (y ∷ xs) x out = any_append_end test xs x (no_right (test y) _ out)

record OfItems (outer : Chain) (before xs : List RdlItem) : Type 0 where
  distinct : IsDistinct same_name (instances_from outer before xs)
  new : (j : Instance) → Has j (instances_from outer before xs) → is_instantiated before j.inst.name.text ≡ false

of_items : (outer : Chain) (kind : Body) (items before xs : List RdlItem) → Each (NothingRefused check.Names outer kind items) before xs → OfItems outer before xs
of_items outer kind items before [] all = record { distinct = no_instances; new = λ j h. absurd h }
of_items outer kind items before (x ∷ xs) all =
    let here : OfItem outer before (out-RdlItem x) = of_item outer kind items before x all.0 (out-RdlItem x) refl in
    let more : OfItems outer (before ++ x ∷ []) xs = of_items outer kind items (before ++ x ∷ []) xs all.1 in
    record {
      distinct = distinct_append same_name (instances_by outer before (out-RdlItem x)) (instances_from outer (before ++ x ∷ []) xs) here.distinct more.distinct (λ i j h k.
          not_item outer before j.inst.name.text i (out-RdlItem x) (any_append_end (λ (z : RdlItem). instantiates j.inst.name.text (out-RdlItem z)) before x (more.new j k)) h);
      new = λ j h. elim (has_cases j (instances_by outer before (out-RdlItem x)) (instances_from outer (before ++ x ∷ []) xs) h) [
        | inl l ↦ here.new j l
        | inr r ↦ any_append_left (λ (z : RdlItem). instantiates j.inst.name.text (out-RdlItem z)) before (x ∷ []) (more.new j r)
      ];
    }

pub names_differ : (c : Component) → FineComponent c → IsDistinct same_name (instances_of c)
names_differ c fine = (of_items c.chain (kind_of c) (out-RdlDef c.definition).items [] (out-RdlDef c.definition).items (own_none check.Names c.chain (kind_of c) (out-RdlDef c.definition).items fine.own)).distinct

-- ---- so a name tells the instance

same_by : (is : List Instance) (i j : Instance) → IsDistinct same_name is → Has i is → Has j is → i.inst.name.text ≡ j.inst.name.text → i ≡ j
unfolding IsDistinct
same_by [] i j d h k e = absurd h
same_by (x ∷ xs) i j d h k e = elim h [
  | inl p ↦ elim k [
    | inl q ↦ p ∙ sym q
    | inr r ↦ absurd (true≢false (sym ((bytes_eq-Decides x.inst.name.text j.inst.name.text).1 (ap (λ (z : Instance). z.inst.name.text) (sym p) ∙ e)) ∙ of_all (λ z. same_name x z ≡ false) xs j d.0 r))
  ]
  | inr s ↦ elim k [
    | inl q ↦ absurd (true≢false (sym ((bytes_eq-Decides x.inst.name.text i.inst.name.text).1 (ap (λ (z : Instance). z.inst.name.text) (sym q) ∙ sym e)) ∙ of_all (λ z. same_name x z ≡ false) xs i d.0 s))
    | inr r ↦ same_by xs i j d.1 s r e
  ]
]

pub one_of_name : (c : Component) (i j : Instance) → FineComponent c → Has i (instances_of c) → Has j (instances_of c) → i.inst.name.text ≡ j.inst.name.text → i ≡ j
one_of_name c i j fine h k e = same_by (instances_of c) i j (names_differ c fine) h k e
