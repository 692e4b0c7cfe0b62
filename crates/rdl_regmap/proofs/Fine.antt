-- A description that nothing refuses is clear.
use Rattle.std.proofs.Common.{◌≡◌, inl, inr, Bool, true, false, List, [], ◌∷◌, ◌++◌, Option, Some, is_some, refl, sym, ◌∙◌, ap, subst}
use Rattle.rdl_tree.specs.declared.tree.RdlFile.{RdlFile}
use Rattle.rdl_tree.specs.declared.tree.RdlItem.{RdlItem, out-RdlItem}
use Rattle.rdl_tree.specs.declared.tree.RdlItem.TheOpen.{RdlItem-F}
use Rattle.rdl_tree.specs.declared.tree.RdlDef.{RdlDef, out-RdlDef}
use Rattle.rdl_text.specs.declared.instance.Body.{Body}
use Rattle.rdl_text.specs.declared.instance.Body.TheVariants as body
use Rattle.rdl_text.specs.declared.text.Check.TheVariants as check
use Rattle.rdl_text.specs.Components.{Component}
use Rattle.rdl_text.specs.Instances.{body_of, kind_of}
use Rattle.rdl_text.specs.Names.{can_be_top, is_addrmap}
use Rattle.rdl_values.specs.Instances.{top_by, top_from, top_of}
use Rattle.rdl_effects.specs.declared.effect.Effect.TheVariants as effect
use Rattle.rdl_effects.specs.Bodies.{refused_at}
use Rattle.rdl_effects.specs.Limits.{has_too_many}
use Rattle.rdl_effects.specs.Refusals.{over_top, conflicts_of}
use Rattle.rdl_layout.specs.Misplaced.{misplaced_at}
use Rattle.rdl_layout.specs.Registers.{below, misplaced_of}
use Rattle.rdl_elab.specs.Refusals.{IsFine, whole}
use Rattle.rdl_regmap.proofs.Has.{OptionCase, option_case, none_in}
use Rattle.rdl_regmap.proofs.Bodies.{FineBody}
use Rattle.rdl_regmap.proofs.Instances.{yes_right, top_is_fine}
use Rattle.rdl_regmap.proofs.Givens.{IsClear}

text_fine : (file : RdlFile) → IsFine file → FineBody [] body.File file.items
text_fine file fine check.Names q h = fine.names q (inl h)
text_fine file fine check.Properties q h = fine.properties q (inl (inl h))
text_fine file fine check.Values q h = fine.values q (inl (inl h))

pub is_few : (file : RdlFile) → IsFine file → has_too_many file ≡ false
is_few file fine = by (has_too_many file) refl
  where
    by : (b : Bool) → has_too_many file ≡ b → has_too_many file ≡ false
    by true e = absurd (fine.sizes whole (inl e, refl))
    by false e = e

addrmap_is : (k : Body) → is_addrmap k ≡ true → k ≡ body.Addrmap
addrmap_is body.File e = cc
addrmap_is body.Addrmap e = refl
addrmap_is body.Regfile e = cc
addrmap_is body.Reg e = cc
addrmap_is body.Field e = cc

top_kind : (before xs : List RdlItem) (c : Component) → top_from before xs ≡ Some c → kind_of c ≡ body.Addrmap
top_kind before [] c e = cc
top_kind before (x ∷ xs) c e = elim (option_case (top_from (before ++ x ∷ []) xs)) [
  | OptionCase.IsNone t ↦ here (out-RdlItem x) (rw t at e)
  | OptionCase.IsSome m t ↦ top_kind (before ++ x ∷ []) xs c (t ∙ (rw t at e))
]
  where
    here : (y : RdlItem-F RdlItem RdlDef) → top_by before y ≡ Some c → kind_of c ≡ body.Addrmap
    here (RdlItem-F.Def d) q = by_top (can_be_top (RdlItem-F.Def d)) refl
      where
        some_is : (a b : Component) → Some a ≡ Some b → a ≡ b
        some_is a b r = cc

        by_top : (b : Bool) → can_be_top (RdlItem-F.Def d) ≡ b → kind_of c ≡ body.Addrmap
        by_top true t = ap kind_of (sym (some_is _ _ (rw t at q))) ∙ addrmap_is (body_of (out-RdlDef d).kind) (yes_right (is_some (out-RdlDef d).name) _ t)
        by_top false t = let no = rw t at q in cc
    here (RdlItem-F.Use u) q = cc
    here (RdlItem-F.Enum n) q = cc
    here (RdlItem-F.Default a b d) q = cc
    here (RdlItem-F.Prop a b) q = cc
    here (RdlItem-F.Dynamic a b d f) q = cc

pub is_clear : (file : RdlFile) (top : Component) → IsFine file → top_of file ≡ Some top → IsClear top
is_clear file top fine e =
    let few : has_too_many file ≡ false = is_few file fine in
    record {
      fine = top_is_fine file.items top (text_fine file fine) e;
      kind = top_kind [] file.items top e;
      few = rw e at few;
      conflicts = subst (λ (o : Option Component). over_top (refused_at effect.Values) o ≡ []) e (none_in (conflicts_of effect.Values file) (λ q h. fine.values q (inr (few, inl h))));
      misplaced = subst (λ (o : Option Component). below misplaced_at o ≡ []) e (none_in (misplaced_of file) (λ q h. fine.places q (few, inl h)));
    }
