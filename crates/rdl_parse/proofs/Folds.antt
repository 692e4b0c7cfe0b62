-- The tokens of an item and of a definition, part by part, and when each fits.
use Rattle.std.proofs.Common.{◌≡◌, Bool, true, ◌&&◌, List, [], ◌∷◌, ◌++◌, map, Option, codes, refl, sym, ◌∙◌, ap, subst}
use Rattle.std.specs.List.{list_all}
use Rattle.std.proofs.lemmas.List.Folds.{list_all-map}
use Rattle.rdl_tree.specs.declared.token.RdlToken.{RdlToken}
use Rattle.rdl_tree.specs.declared.tree.RdlItem.{RdlItem, out-RdlItem, roll-RdlItem, roll-out-RdlItem}
use Rattle.rdl_tree.specs.declared.tree.RdlItem.TheVariants as item
use Rattle.rdl_tree.specs.declared.tree.RdlItem.TheOpen.{RdlItem-F, RdlDef-F}
use Rattle.rdl_tree.specs.declared.tree.RdlItem.TheFolds.{fold-roll-RdlItem, fold-roll-RdlDef}
use Rattle.rdl_tree.specs.declared.tree.RdlDef.{RdlDef, out-RdlDef, roll-RdlDef, roll-out-RdlDef}
use Rattle.rdl_tree.specs.declared.tree.RdlUse.{RdlUse}
use Rattle.rdl_tree.specs.declared.tree.RdlProp.{RdlProp}
use Rattle.rdl_tree.specs.declared.tree.RdlPath.{RdlPath}
use Rattle.rdl_tree.specs.declared.tree.RdlEnum.{RdlEnum}
use Rattle.rdl_tree.specs.Tree.{Tokens, flat_item_layer, flat_def_layer, flat_item, flat_def, flat_use, flat_prop, flat_path, flat_enum, fits_item_layer, fits_def_layer, fits_item, fits_def, fits_use, fits_prop, fits_path, fits_enum, flat_kind, flat_option, flat_token, flat_list, flat_insts, fits_kind, fits_option, fits_insts, is_text, is_name, is_named_or_used}

pub flat-Def : (d : RdlDef) → flat_item (item.Def d) ≡ flat_def d
flat-Def d = ap flat_item (sym (item.rolls-Def d)) ∙ fold-roll-RdlItem Tokens Tokens flat_item_layer flat_def_layer (RdlItem-F.Def d)

pub fits-Def : (d : RdlDef) → fits_item (item.Def d) ≡ (fits_def d)
fits-Def d = ap fits_item (sym (item.rolls-Def d)) ∙ fold-roll-RdlItem Bool Bool fits_item_layer fits_def_layer (RdlItem-F.Def d)

pub flat-Use : (u : RdlUse) → flat_item (item.Use u) ≡ flat_use u
flat-Use u = ap flat_item (sym (item.rolls-Use u)) ∙ fold-roll-RdlItem Tokens Tokens flat_item_layer flat_def_layer (RdlItem-F.Use u)

pub fits-Use : (u : RdlUse) → fits_item (item.Use u) ≡ (fits_use u)
fits-Use u = ap fits_item (sym (item.rolls-Use u)) ∙ fold-roll-RdlItem Bool Bool fits_item_layer fits_def_layer (RdlItem-F.Use u)

pub flat-Default : (w : RdlToken) (p : RdlProp) (s : RdlToken) → flat_item (item.Default w p s) ≡ w ∷ flat_prop p ++ s ∷ []
flat-Default w p s = ap flat_item (sym (item.rolls-Default w p s)) ∙ fold-roll-RdlItem Tokens Tokens flat_item_layer flat_def_layer (RdlItem-F.Default w p s)

pub fits-Default : (w : RdlToken) (p : RdlProp) (s : RdlToken) → fits_item (item.Default w p s) ≡ (is_text (codes "default") w && fits_prop p && is_text (codes ";") s)
fits-Default w p s = ap fits_item (sym (item.rolls-Default w p s)) ∙ fold-roll-RdlItem Bool Bool fits_item_layer fits_def_layer (RdlItem-F.Default w p s)

pub flat-Prop : (p : RdlProp) (s : RdlToken) → flat_item (item.Prop p s) ≡ flat_prop p ++ s ∷ []
flat-Prop p s = ap flat_item (sym (item.rolls-Prop p s)) ∙ fold-roll-RdlItem Tokens Tokens flat_item_layer flat_def_layer (RdlItem-F.Prop p s)

pub fits-Prop : (p : RdlProp) (s : RdlToken) → fits_item (item.Prop p s) ≡ (fits_prop p && is_text (codes ";") s)
fits-Prop p s = ap fits_item (sym (item.rolls-Prop p s)) ∙ fold-roll-RdlItem Bool Bool fits_item_layer fits_def_layer (RdlItem-F.Prop p s)

pub flat-Dynamic : (q : RdlPath) (a : RdlToken) (p : RdlProp) (s : RdlToken) → flat_item (item.Dynamic q a p s) ≡ flat_path q ++ a ∷ flat_prop p ++ s ∷ []
flat-Dynamic q a p s = ap flat_item (sym (item.rolls-Dynamic q a p s)) ∙ fold-roll-RdlItem Tokens Tokens flat_item_layer flat_def_layer (RdlItem-F.Dynamic q a p s)

pub fits-Dynamic : (q : RdlPath) (a : RdlToken) (p : RdlProp) (s : RdlToken) → fits_item (item.Dynamic q a p s) ≡ (fits_path q && is_text (codes "->") a && fits_prop p && is_text (codes ";") s)
fits-Dynamic q a p s = ap fits_item (sym (item.rolls-Dynamic q a p s)) ∙ fold-roll-RdlItem Bool Bool fits_item_layer fits_def_layer (RdlItem-F.Dynamic q a p s)

pub flat-Enum : (e : RdlEnum) → flat_item (item.Enum e) ≡ flat_enum e
flat-Enum e = ap flat_item (sym (item.rolls-Enum e)) ∙ fold-roll-RdlItem Tokens Tokens flat_item_layer flat_def_layer (RdlItem-F.Enum e)

pub fits-Enum : (e : RdlEnum) → fits_item (item.Enum e) ≡ (fits_enum e)
fits-Enum e = ap fits_item (sym (item.rolls-Enum e)) ∙ fold-roll-RdlItem Bool Bool fits_item_layer fits_def_layer (RdlItem-F.Enum e)

pub flat-roll : (d : RdlDef-F RdlItem RdlDef) → flat_def (roll-RdlDef d) ≡ (flat_kind d.kind ∷ flat_option flat_token d.name ++ d.open ∷ flat_list flat_item d.items ++ d.close ∷ flat_option flat_insts d.insts ++ d.semi ∷ [])
flat-roll d = fold-roll-RdlDef Tokens Tokens flat_item_layer flat_def_layer d

pub fits-roll : (d : RdlDef-F RdlItem RdlDef) → fits_def (roll-RdlDef d) ≡ (fits_kind d.kind && fits_option is_name d.name && is_text (codes "{") d.open && list_all fits_item d.items && is_text (codes "}") d.close
    && fits_option fits_insts d.insts && is_named_or_used d.name d.insts && is_text (codes ";") d.semi)
fits-roll d = fold-roll-RdlDef Bool Bool fits_item_layer fits_def_layer d ∙ rw (list_all-map (λ fits. fits) fits_item d.items) refl

module _ (P : RdlItem → Type 0) (of_def : (d : RdlDef) → P (item.Def d)) (of_use : (u : RdlUse) → P (item.Use u)) (of_default : (w : RdlToken) (p : RdlProp) (s : RdlToken) → P (item.Default w p s)) (of_prop : (p : RdlProp) (s : RdlToken) → P (item.Prop p s)) (of_dynamic : (q : RdlPath) (a : RdlToken) (p : RdlProp) (s : RdlToken) → P (item.Dynamic q a p s)) (of_enum : (e : RdlEnum) → P (item.Enum e)) where
  by_open : (o : RdlItem-F RdlItem RdlDef) → P (roll-RdlItem o)
  by_open (RdlItem-F.Def d) = subst P (sym (item.rolls-Def d)) (of_def d)
  by_open (RdlItem-F.Use u) = subst P (sym (item.rolls-Use u)) (of_use u)
  by_open (RdlItem-F.Default w p s) = subst P (sym (item.rolls-Default w p s)) (of_default w p s)
  by_open (RdlItem-F.Prop p s) = subst P (sym (item.rolls-Prop p s)) (of_prop p s)
  by_open (RdlItem-F.Dynamic q a p s) = subst P (sym (item.rolls-Dynamic q a p s)) (of_dynamic q a p s)
  by_open (RdlItem-F.Enum e) = subst P (sym (item.rolls-Enum e)) (of_enum e)

  pub by_variant : (t : RdlItem) → P t
  by_variant t = subst P (roll-out-RdlItem t) (by_open (out-RdlItem t))
