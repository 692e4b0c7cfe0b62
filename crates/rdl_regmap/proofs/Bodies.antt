-- Bodies in whose text nothing is refused, and the components of such bodies.
use Rattle.std.proofs.Common.{◌≡◌, ℕ, Bool, true, false, List, [], ◌∷◌, ◌++◌, length, take, Option, Some, None, slice_get, refl, sym, ◌∙◌, ap, subst, append-nil, append_assoc}
use Rattle.bit_base.specs.declared.place.Place.{Place}
use Rattle.rdl_tree.specs.declared.tree.RdlItem.{RdlItem, out-RdlItem}
use Rattle.rdl_tree.specs.declared.tree.RdlItem.TheOpen.{RdlItem-F}
use Rattle.rdl_tree.specs.declared.tree.RdlDef.{RdlDef, out-RdlDef}
use Rattle.rdl_text.specs.declared.instance.Body.{Body}
use Rattle.rdl_text.specs.declared.scope.Meaning.{Meaning}
use Rattle.rdl_text.specs.declared.scope.Meaning.TheVariants as meaning
use Rattle.rdl_text.specs.declared.text.Check.{Check}
use Rattle.rdl_text.specs.Chains.{Chain}
use Rattle.rdl_text.specs.Components.{Component}
use Rattle.rdl_text.specs.Instances.{body_of, kind_of}
use Rattle.rdl_text.specs.Types.{is_named, named_by, named_in, meaning_from, meaning_of, type_of}
use Rattle.rdl_text.specs.Refusals.{refused_by, refused_from, IsRefused}
use Rattle.std.specs.Prelude.{⊤}
use Rattle.rdl_regmap.proofs.Has.{OptionCase, option_case, none_left, none_right, none_in}

-- ---- each item of a list, with those before it

abbrev pub Each : (List RdlItem → RdlItem → Type 0) → List RdlItem → List RdlItem → Type 0
Each P before [] = ⊤
Each P before (x ∷ xs) = P before x × Each P (before ++ x ∷ []) xs

pub each_more : (P : List RdlItem → RdlItem → Type 0) (before xs : List RdlItem) (x : RdlItem) → Each P before xs → P (before ++ xs) x → Each P before (xs ++ x ∷ [])
each_more P before [] x all here = (subst (λ (b : List RdlItem). P b x) (append-nil before) here, tt)
each_more P before (y ∷ ys) x all here = (all.0, each_more P (before ++ y ∷ []) ys x all.1 (subst (λ (b : List RdlItem). P b x) (sym (append_assoc before (y ∷ []) ys)) here))

-- ---- bodies

abbrev pub FineBody : Chain → Body → List RdlItem → Type 0
FineBody outer kind items = (c : Check) (p : Place) → IsRefused c outer kind items p → ⊥

-- of each definition the body
abbrev pub InnerFine : Chain → List RdlItem → RdlItem → Type 0
InnerFine outer before x = (d : RdlDef) → out-RdlItem x ≡ RdlItem-F.Def d → FineBody (outer ++ before ∷ []) (body_of (out-RdlDef d).kind) (out-RdlDef d).items

abbrev pub NothingRefused : Check → Chain → Body → List RdlItem → List RdlItem → RdlItem → Type 0
NothingRefused c outer kind items before x = refused_by c outer kind items before (out-RdlItem x) ≡ []

none_from : (c : Check) (outer : Chain) (kind : Body) (items before xs : List RdlItem) → refused_from c outer kind items before xs ≡ [] → Each (NothingRefused c outer kind items) before xs
none_from c outer kind items before [] e = tt
none_from c outer kind items before (x ∷ xs) e =
    (none_left (refused_by c outer kind items before (out-RdlItem x)) _ e, none_from c outer kind items (before ++ x ∷ []) xs (none_right (refused_by c outer kind items before (out-RdlItem x)) _ e))

pub own_none : (c : Check) (outer : Chain) (kind : Body) (items : List RdlItem) → FineBody outer kind items → Each (NothingRefused c outer kind items) [] items
own_none c outer kind items fine = none_from c outer kind items [] items (none_in _ (λ p h. fine c p (IsRefused.own outer kind items p h)))

at_end : (before xs : List RdlItem) (x : RdlItem) → slice_get (before ++ x ∷ xs) (length before) ≡ Some x
at_end [] xs x = refl
at_end (b ∷ before) xs x = at_end before xs x

take_end : (before xs : List RdlItem) → take (length before) (before ++ xs) ≡ before
take_end [] xs = refl
take_end (b ∷ before) xs = ap (λ (ys : List RdlItem). b ∷ ys) (take_end before xs)

inner_from : (outer : Chain) (kind : Body) (items : List RdlItem) → FineBody outer kind items → (before xs : List RdlItem) → items ≡ before ++ xs → Each (InnerFine outer) before xs
inner_from outer kind items fine before [] e = tt
inner_from outer kind items fine before (x ∷ xs) e = (
  λ d is c p h. fine c p (IsRefused.inside outer kind items p (length before) x d
      (subst (λ (ys : List RdlItem). slice_get ys (length before) ≡ Some x) (sym e) (at_end before xs x)) is
      (subst (λ (ys : List RdlItem). IsRefused c (outer ++ ys ∷ []) (body_of (out-RdlDef d).kind) (out-RdlDef d).items p)
      (sym (ap (take (length before)) e ∙ take_end before (x ∷ xs))) h)),
  inner_from outer kind items fine (before ++ x ∷ []) xs (e ∙ sym (append_assoc before (x ∷ []) xs)),
)

pub inner_fine : (outer : Chain) (kind : Body) (items : List RdlItem) → FineBody outer kind items → Each (InnerFine outer) [] items
inner_fine outer kind items fine = inner_from outer kind items fine [] items refl

-- ---- chains of fine bodies

abbrev pub FineChain : Chain → Chain → Type 0
FineChain outer [] = ⊤
FineChain outer (before ∷ inner) = Each (InnerFine outer) [] before × FineChain (outer ++ before ∷ []) inner

pub chain_more : (outer chain : Chain) (before : List RdlItem) → FineChain outer chain → Each (InnerFine (outer ++ chain)) [] before → FineChain outer (chain ++ before ∷ [])
chain_more outer [] before all here = (subst (λ (c : Chain). Each (InnerFine c) [] before) (append-nil outer) here, tt)
chain_more outer (b ∷ chain) before all here =
    (all.0, chain_more (outer ++ b ∷ []) chain before all.1 (subst (λ (c : Chain). Each (InnerFine c) [] before) (sym (append_assoc outer (b ∷ []) chain)) here))

pub record FineComponent (c : Component) : Type 0 where
  pub own : FineBody c.chain (kind_of c) (out-RdlDef c.definition).items
  pub around : FineChain [] c.chain

-- a definition in a fine body, behind these items
pub defined : (outer : Chain) (before : List RdlItem) (x : RdlItem) (d : RdlDef) → FineChain [] outer → Each (InnerFine outer) [] before → InnerFine outer before x → out-RdlItem x ≡ RdlItem-F.Def d
    → FineComponent (record { definition = d; chain = outer ++ before ∷ [] })
defined outer before x d chain all here is = record { own = here d is; around = chain_more [] outer before chain all }

-- ---- what a name means

some_type : (c d : Component) → Some (meaning.Type c) ≡ Some (meaning.Type d) → c ≡ d
some_type c d e = cc

fine_named_by : (outer : Chain) (before : List RdlItem) (name : List ℕ) (x : RdlItem) (c : Component) → FineChain [] outer → Each (InnerFine outer) [] before → InnerFine outer before x
    → (y : RdlItem-F RdlItem RdlDef) → out-RdlItem x ≡ y → named_by outer before name y ≡ Some (meaning.Type c) → FineComponent c
fine_named_by outer before name x c chain all here (RdlItem-F.Def d) is e = by (is_named name (out-RdlDef d).name) refl
  where
    by : (b : Bool) → is_named name (out-RdlDef d).name ≡ b → FineComponent c
    by true t = subst FineComponent (some_type _ _ (rw t at e)) (defined outer before x d chain all here is)
    by false t = let no = rw t at e in cc
fine_named_by outer before name x c chain all here (RdlItem-F.Enum n) is e = by (Rattle.rdl_tree.specs.Tree.is_text name n.name) refl
  where
    by : (b : Bool) → Rattle.rdl_tree.specs.Tree.is_text name n.name ≡ b → FineComponent c
    by true t = let no = rw t at e in cc
    by false t = let no = rw t at e in cc
fine_named_by outer before name x c chain all here (RdlItem-F.Use u) is e = cc
fine_named_by outer before name x c chain all here (RdlItem-F.Default a b d) is e = cc
fine_named_by outer before name x c chain all here (RdlItem-F.Prop a b) is e = cc
fine_named_by outer before name x c chain all here (RdlItem-F.Dynamic a b d f) is e = cc

fine_named_in : (outer : Chain) (before : List RdlItem) (name : List ℕ) (xs : List RdlItem) (c : Component) → FineChain [] outer → Each (InnerFine outer) [] before → Each (InnerFine outer) before xs
    → named_in outer before name xs ≡ Some (meaning.Type c) → FineComponent c
fine_named_in outer before name [] c chain all more e = cc
fine_named_in outer before name (x ∷ xs) c chain all more e = elim (option_case (named_in outer (before ++ x ∷ []) name xs)) [
  | OptionCase.IsNone t ↦ fine_named_by outer before name x c chain all more.0 (out-RdlItem x) refl (rw t at e)
  | OptionCase.IsSome m t ↦ fine_named_in outer (before ++ x ∷ []) name xs c chain (each_more (InnerFine outer) [] before x all more.0) more.1 (t ∙ (rw t at e))
]

fine_meaning : (outer : Chain) (name : List ℕ) (chain : Chain) (c : Component) → FineChain [] outer → FineChain outer chain → meaning_from outer name chain ≡ Some (meaning.Type c) → FineComponent c
fine_meaning outer name [] c out all e = cc
fine_meaning outer name (before ∷ inner) c out all e = elim (option_case (meaning_from (outer ++ before ∷ []) name inner)) [
  | OptionCase.IsNone t ↦ fine_named_in outer [] name before c out tt all.0 (rw t at e)
  | OptionCase.IsSome m t ↦ fine_meaning (outer ++ before ∷ []) name inner c (chain_more [] outer before out all.0) all.1 (t ∙ (rw t at e))
]

pub fine_type : (chain : Chain) (name : List ℕ) (c : Component) → FineChain [] chain → type_of chain name ≡ Some c → FineComponent c
fine_type chain name c all e = by (meaning_of chain name) refl
  where
    by : (m : Option Meaning) → meaning_of chain name ≡ m → FineComponent c
    by None t = let no = rw t at e in cc
    by (Some meaning.Values) t = let no = rw t at e in cc
    by (Some (meaning.Type d)) t = fine_meaning [] name chain c tt all (t ∙ ap (λ (x : Component). Some (meaning.Type x)) (some_is d c (rw t at e)))
      where
        some_is : (a b : Component) → Some a ≡ Some b → a ≡ b
        some_is a b q = cc
