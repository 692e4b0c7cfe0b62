-- The tokens of the items of modules by their parts, and when each fits.
use Rattle.std.proofs.Common.{◌≡◌, Bool, true, false, ◌&&◌, not, List, [], ◌∷◌, ◌++◌, Option, Some, None, is_some, codes, refl, sym, ◌∙◌, ap, subst}
use Rattle.std.specs.List.{list_all}
use Rattle.std.proofs.lemmas.List.Folds.{list_all-map}
use Rattle.vlog_tree.specs.declared.token.VToken.{VToken}
use Rattle.vlog_tree.specs.Terminals.{Tokens, is_mark, is_word, is_name, is_constant_word}
use Rattle.vlog_tree.specs.Parts.{flat_option, flat_list, fits_option}
use Rattle.vlog_tree.specs.declared.tree_modules.VGbody.{VGbody, out-VGbody, roll-VGbody, roll-out-VGbody}
use Rattle.vlog_tree.specs.declared.tree_modules.VGbody.TheVariants as VGbody
use Rattle.vlog_tree.specs.declared.tree_modules.VMitem.{VMitem, out-VMitem, roll-VMitem, roll-out-VMitem}
use Rattle.vlog_tree.specs.declared.tree_modules.VMitem.TheVariants as VMitem
use Rattle.vlog_tree.specs.declared.tree_modules.VGelse.{VGelse, roll-VGelse}
use Rattle.vlog_tree.specs.declared.tree_modules.VGbody.TheOpen.{VGbody-F, VMitem-F, VGelse-F}
use Rattle.vlog_tree.specs.declared.tree_modules.VGbody.TheFolds.{fold-roll-VGbody, fold-roll-VMitem, fold-roll-VGelse}
use Rattle.vlog_tree.specs.declared.tree_modules.VKind.{VKind}
use Rattle.vlog_tree.specs.declared.tree_modules.VType.{VType}
use Rattle.vlog_tree.specs.declared.tree_modules.VNet.{VNet}
use Rattle.vlog_tree.specs.declared.tree_modules.VNextNet.{VNextNet}
use Rattle.vlog_tree.specs.declared.tree_modules.VConstant.{VConstant}
use Rattle.vlog_tree.specs.declared.tree_modules.VNextConstant.{VNextConstant}
use Rattle.vlog_tree.specs.declared.tree_modules.VDriver.{VDriver}
use Rattle.vlog_tree.specs.declared.tree_modules.VNextDriver.{VNextDriver}
use Rattle.vlog_tree.specs.declared.tree_modules.VNextName.{VNextName}
use Rattle.vlog_tree.specs.declared.tree_modules.VPortHead.{VPortHead}
use Rattle.vlog_tree.specs.declared.tree_modules.VInstance.{VInstance}
use Rattle.vlog_tree.specs.declared.tree_modules.VForHead.{VForHead}
use Rattle.vlog_tree.specs.declared.tree_statements.VStmt.{VStmt}
use Rattle.vlog_tree.specs.declared.tree_statements.VEvent.{VEvent}
use Rattle.vlog_tree.specs.declared.tree_statements.VLabel.{VLabel}
use Rattle.vlog_tree.specs.declared.tree_statements.VIfHead.{VIfHead}
use Rattle.vlog_tree.specs.Modules.{flat_gbody_layer, flat_gbody, grade_gbody_layer, grade_gbody, flat_mitem_layer, flat_mitem, grade_mitem_layer, grade_mitem, fits_mitem, flat_gelse_layer, flat_gelse, grade_gelse_layer, grade_gelse, flat_kind, fits_kind, flat_type, fits_type, flat_net, fits_net, flat_next_net, fits_next_net, flat_constant, fits_constant, flat_next_constant, fits_next_constant, flat_driver, fits_driver, flat_next_driver, fits_next_driver, flat_next_name, fits_next_name, flat_port_head, fits_port_head, flat_instance, fits_instance, flat_for_head, fits_for_head}
use Rattle.vlog_tree.specs.Statements.{flat_stmt, fits_stmt, flat_event, fits_event, flat_label, fits_label, flat_if_head, fits_if_head, ends_open}

pub flat_gbody_Item : (item : VMitem) → flat_gbody (VGbody.Item item) ≡ (flat_mitem item)
flat_gbody_Item item = ap flat_gbody (sym (VGbody.rolls-Item item)) ∙ fold-roll-VGbody Tokens Tokens Tokens flat_gbody_layer flat_mitem_layer flat_gelse_layer (VGbody-F.Item item)

pub grade_gbody_Item : (item : VMitem) → grade_gbody (VGbody.Item item) ≡ (((grade_mitem item).0, ((grade_mitem item).1, false)))
grade_gbody_Item item = ap grade_gbody (sym (VGbody.rolls-Item item)) ∙ fold-roll-VGbody (Bool × (Bool × Bool)) (Bool × Bool) (Bool × Bool) grade_gbody_layer grade_mitem_layer grade_gelse_layer (VGbody-F.Item item)

pub flat_gbody_Block : (word : VToken) (label : Option VLabel) (items : List VMitem) (end : VToken) → flat_gbody (VGbody.Block word label items end) ≡ (word ∷ flat_option flat_label label ++ (flat_list flat_mitem items ++ (end ∷ [])))
flat_gbody_Block word label items end = ap flat_gbody (sym (VGbody.rolls-Block word label items end)) ∙ fold-roll-VGbody Tokens Tokens Tokens flat_gbody_layer flat_mitem_layer flat_gelse_layer (VGbody-F.Block word label items end)

pub grade_gbody_Block : (word : VToken) (label : Option VLabel) (items : List VMitem) (end : VToken) → grade_gbody (VGbody.Block word label items end) ≡ ((is_word (codes "begin") word && fits_option fits_label label && list_all (λ g. (grade_mitem g).0) items && is_word (codes "end") end, (false, is_some label)))
grade_gbody_Block word label items end = ap grade_gbody (sym (VGbody.rolls-Block word label items end)) ∙ fold-roll-VGbody (Bool × (Bool × Bool)) (Bool × Bool) (Bool × Bool) grade_gbody_layer grade_mitem_layer grade_gelse_layer (VGbody-F.Block word label items end) ∙ rw (list_all-map (λ (x : (Bool × Bool)). x.0) grade_mitem items) refl

module _ (P : VGbody → Type 0) (of_Item : (item : VMitem) → P (VGbody.Item item)) (of_Block : (word : VToken) (label : Option VLabel) (items : List VMitem) (end : VToken) → P (VGbody.Block word label items end)) where
  open_gbody : (o : VGbody-F VGbody VMitem VGelse) → P (roll-VGbody o)
  open_gbody (VGbody-F.Item item) = subst P (sym (VGbody.rolls-Item item)) (of_Item item)
  open_gbody (VGbody-F.Block word label items end) = subst P (sym (VGbody.rolls-Block word label items end)) (of_Block word label items end)

  pub by_gbody : (t : VGbody) → P t
  by_gbody t = subst P (roll-out-VGbody t) (open_gbody (out-VGbody t))

pub flat_mitem_Ports : (head : VPortHead) (first : VToken) (more : List VNextName) (semi : VToken) → flat_mitem (VMitem.Ports head first more semi) ≡ (flat_port_head head ++ (first ∷ flat_list flat_next_name more ++ (semi ∷ [])))
flat_mitem_Ports head first more semi = ap flat_mitem (sym (VMitem.rolls-Ports head first more semi)) ∙ fold-roll-VMitem Tokens Tokens Tokens flat_gbody_layer flat_mitem_layer flat_gelse_layer (VMitem-F.Ports head first more semi)

pub grade_mitem_Ports : (head : VPortHead) (first : VToken) (more : List VNextName) (semi : VToken) → grade_mitem (VMitem.Ports head first more semi) ≡ (fits_port_head head && is_name first && list_all fits_next_name more && is_mark (codes ";") semi, false)
grade_mitem_Ports head first more semi = ap grade_mitem (sym (VMitem.rolls-Ports head first more semi)) ∙ fold-roll-VMitem (Bool × (Bool × Bool)) (Bool × Bool) (Bool × Bool) grade_gbody_layer grade_mitem_layer grade_gelse_layer (VMitem-F.Ports head first more semi)

pub flat_mitem_Nets : (kind : VKind) (shape : VType) (first : VNet) (more : List VNextNet) (semi : VToken) → flat_mitem (VMitem.Nets kind shape first more semi) ≡ (flat_kind kind ++ (flat_type shape ++ (flat_net first ++ (flat_list flat_next_net more ++ (semi ∷ [])))))
flat_mitem_Nets kind shape first more semi = ap flat_mitem (sym (VMitem.rolls-Nets kind shape first more semi)) ∙ fold-roll-VMitem Tokens Tokens Tokens flat_gbody_layer flat_mitem_layer flat_gelse_layer (VMitem-F.Nets kind shape first more semi)

pub grade_mitem_Nets : (kind : VKind) (shape : VType) (first : VNet) (more : List VNextNet) (semi : VToken) → grade_mitem (VMitem.Nets kind shape first more semi) ≡ (fits_kind kind && fits_type shape && fits_net first && list_all fits_next_net more && is_mark (codes ";") semi, false)
grade_mitem_Nets kind shape first more semi = ap grade_mitem (sym (VMitem.rolls-Nets kind shape first more semi)) ∙ fold-roll-VMitem (Bool × (Bool × Bool)) (Bool × Bool) (Bool × Bool) grade_gbody_layer grade_mitem_layer grade_gelse_layer (VMitem-F.Nets kind shape first more semi)

pub flat_mitem_Constants : (word : VToken) (shape : VType) (first : VConstant) (more : List VNextConstant) (semi : VToken) → flat_mitem (VMitem.Constants word shape first more semi) ≡ (word ∷ flat_type shape ++ (flat_constant first ++ (flat_list flat_next_constant more ++ (semi ∷ []))))
flat_mitem_Constants word shape first more semi = ap flat_mitem (sym (VMitem.rolls-Constants word shape first more semi)) ∙ fold-roll-VMitem Tokens Tokens Tokens flat_gbody_layer flat_mitem_layer flat_gelse_layer (VMitem-F.Constants word shape first more semi)

pub grade_mitem_Constants : (word : VToken) (shape : VType) (first : VConstant) (more : List VNextConstant) (semi : VToken) → grade_mitem (VMitem.Constants word shape first more semi) ≡ (is_constant_word word && fits_type shape && fits_constant first && list_all fits_next_constant more && is_mark (codes ";") semi, false)
grade_mitem_Constants word shape first more semi = ap grade_mitem (sym (VMitem.rolls-Constants word shape first more semi)) ∙ fold-roll-VMitem (Bool × (Bool × Bool)) (Bool × Bool) (Bool × Bool) grade_gbody_layer grade_mitem_layer grade_gelse_layer (VMitem-F.Constants word shape first more semi)

pub flat_mitem_Genvars : (word : VToken) (first : VToken) (more : List VNextName) (semi : VToken) → flat_mitem (VMitem.Genvars word first more semi) ≡ (word ∷ first ∷ flat_list flat_next_name more ++ (semi ∷ []))
flat_mitem_Genvars word first more semi = ap flat_mitem (sym (VMitem.rolls-Genvars word first more semi)) ∙ fold-roll-VMitem Tokens Tokens Tokens flat_gbody_layer flat_mitem_layer flat_gelse_layer (VMitem-F.Genvars word first more semi)

pub grade_mitem_Genvars : (word : VToken) (first : VToken) (more : List VNextName) (semi : VToken) → grade_mitem (VMitem.Genvars word first more semi) ≡ (is_word (codes "genvar") word && is_name first && list_all fits_next_name more && is_mark (codes ";") semi, false)
grade_mitem_Genvars word first more semi = ap grade_mitem (sym (VMitem.rolls-Genvars word first more semi)) ∙ fold-roll-VMitem (Bool × (Bool × Bool)) (Bool × Bool) (Bool × Bool) grade_gbody_layer grade_mitem_layer grade_gelse_layer (VMitem-F.Genvars word first more semi)

pub flat_mitem_Assigns : (word : VToken) (first : VDriver) (more : List VNextDriver) (semi : VToken) → flat_mitem (VMitem.Assigns word first more semi) ≡ (word ∷ flat_driver first ++ (flat_list flat_next_driver more ++ (semi ∷ [])))
flat_mitem_Assigns word first more semi = ap flat_mitem (sym (VMitem.rolls-Assigns word first more semi)) ∙ fold-roll-VMitem Tokens Tokens Tokens flat_gbody_layer flat_mitem_layer flat_gelse_layer (VMitem-F.Assigns word first more semi)

pub grade_mitem_Assigns : (word : VToken) (first : VDriver) (more : List VNextDriver) (semi : VToken) → grade_mitem (VMitem.Assigns word first more semi) ≡ (is_word (codes "assign") word && fits_driver first && list_all fits_next_driver more && is_mark (codes ";") semi, false)
grade_mitem_Assigns word first more semi = ap grade_mitem (sym (VMitem.rolls-Assigns word first more semi)) ∙ fold-roll-VMitem (Bool × (Bool × Bool)) (Bool × Bool) (Bool × Bool) grade_gbody_layer grade_mitem_layer grade_gelse_layer (VMitem-F.Assigns word first more semi)

pub flat_mitem_Always : (word : VToken) (at : VToken) (event : VEvent) (stmt : VStmt) → flat_mitem (VMitem.Always word at event stmt) ≡ (word ∷ at ∷ flat_event event ++ (flat_stmt stmt))
flat_mitem_Always word at event stmt = ap flat_mitem (sym (VMitem.rolls-Always word at event stmt)) ∙ fold-roll-VMitem Tokens Tokens Tokens flat_gbody_layer flat_mitem_layer flat_gelse_layer (VMitem-F.Always word at event stmt)

pub grade_mitem_Always : (word : VToken) (at : VToken) (event : VEvent) (stmt : VStmt) → grade_mitem (VMitem.Always word at event stmt) ≡ ((is_word (codes "always") word && is_mark (codes "@") at && fits_event event && fits_stmt stmt, ends_open stmt))
grade_mitem_Always word at event stmt = ap grade_mitem (sym (VMitem.rolls-Always word at event stmt)) ∙ fold-roll-VMitem (Bool × (Bool × Bool)) (Bool × Bool) (Bool × Bool) grade_gbody_layer grade_mitem_layer grade_gelse_layer (VMitem-F.Always word at event stmt)

pub flat_mitem_Initial : (word : VToken) (stmt : VStmt) → flat_mitem (VMitem.Initial word stmt) ≡ (word ∷ flat_stmt stmt)
flat_mitem_Initial word stmt = ap flat_mitem (sym (VMitem.rolls-Initial word stmt)) ∙ fold-roll-VMitem Tokens Tokens Tokens flat_gbody_layer flat_mitem_layer flat_gelse_layer (VMitem-F.Initial word stmt)

pub grade_mitem_Initial : (word : VToken) (stmt : VStmt) → grade_mitem (VMitem.Initial word stmt) ≡ ((is_word (codes "initial") word && fits_stmt stmt, ends_open stmt))
grade_mitem_Initial word stmt = ap grade_mitem (sym (VMitem.rolls-Initial word stmt)) ∙ fold-roll-VMitem (Bool × (Bool × Bool)) (Bool × Bool) (Bool × Bool) grade_gbody_layer grade_mitem_layer grade_gelse_layer (VMitem-F.Initial word stmt)

pub flat_mitem_Generate : (word : VToken) (items : List VMitem) (end : VToken) → flat_mitem (VMitem.Generate word items end) ≡ (word ∷ flat_list flat_mitem items ++ (end ∷ []))
flat_mitem_Generate word items end = ap flat_mitem (sym (VMitem.rolls-Generate word items end)) ∙ fold-roll-VMitem Tokens Tokens Tokens flat_gbody_layer flat_mitem_layer flat_gelse_layer (VMitem-F.Generate word items end)

pub grade_mitem_Generate : (word : VToken) (items : List VMitem) (end : VToken) → grade_mitem (VMitem.Generate word items end) ≡ (is_word (codes "generate") word && list_all fits_mitem items && is_word (codes "endgenerate") end, false)
grade_mitem_Generate word items end = ap grade_mitem (sym (VMitem.rolls-Generate word items end)) ∙ fold-roll-VMitem (Bool × (Bool × Bool)) (Bool × Bool) (Bool × Bool) grade_gbody_layer grade_mitem_layer grade_gelse_layer (VMitem-F.Generate word items end) ∙ rw (list_all-map (λ (x : (Bool × Bool)). x.0) grade_mitem items) refl

pub flat_mitem_Instance : (instance : VInstance) → flat_mitem (VMitem.Instance instance) ≡ (flat_instance instance)
flat_mitem_Instance instance = ap flat_mitem (sym (VMitem.rolls-Instance instance)) ∙ fold-roll-VMitem Tokens Tokens Tokens flat_gbody_layer flat_mitem_layer flat_gelse_layer (VMitem-F.Instance instance)

pub grade_mitem_Instance : (instance : VInstance) → grade_mitem (VMitem.Instance instance) ≡ (fits_instance instance, false)
grade_mitem_Instance instance = ap grade_mitem (sym (VMitem.rolls-Instance instance)) ∙ fold-roll-VMitem (Bool × (Bool × Bool)) (Bool × Bool) (Bool × Bool) grade_gbody_layer grade_mitem_layer grade_gelse_layer (VMitem-F.Instance instance)

pub flat_mitem_For : (head : VForHead) (body : VGbody) → flat_mitem (VMitem.For head body) ≡ (flat_for_head head ++ (flat_gbody body))
flat_mitem_For head body = ap flat_mitem (sym (VMitem.rolls-For head body)) ∙ fold-roll-VMitem Tokens Tokens Tokens flat_gbody_layer flat_mitem_layer flat_gelse_layer (VMitem-F.For head body)

pub grade_mitem_For : (head : VForHead) (body : VGbody) → grade_mitem (VMitem.For head body) ≡ ((fits_for_head head && (grade_gbody body).0 && (grade_gbody body).1.1, false))
grade_mitem_For head body = ap grade_mitem (sym (VMitem.rolls-For head body)) ∙ fold-roll-VMitem (Bool × (Bool × Bool)) (Bool × Bool) (Bool × Bool) grade_gbody_layer grade_mitem_layer grade_gelse_layer (VMitem-F.For head body)

pub flat_mitem_If : (head : VIfHead) (branch : VGbody) (other : Option VGelse) → flat_mitem (VMitem.If head branch other) ≡ (flat_if_head head ++ (flat_gbody branch ++ (flat_option flat_gelse other)))
flat_mitem_If head branch None = ap flat_mitem (sym (VMitem.rolls-If head branch None)) ∙ fold-roll-VMitem Tokens Tokens Tokens flat_gbody_layer flat_mitem_layer flat_gelse_layer (VMitem-F.If head branch None)
flat_mitem_If head branch (Some other) = ap flat_mitem (sym (VMitem.rolls-If head branch (Some other))) ∙ fold-roll-VMitem Tokens Tokens Tokens flat_gbody_layer flat_mitem_layer flat_gelse_layer (VMitem-F.If head branch (Some other))

pub grade_mitem_If_alone : (head : VIfHead) (branch : VGbody) → grade_mitem (VMitem.If head branch None) ≡ ((fits_if_head head && (grade_gbody branch).0, true))
grade_mitem_If_alone head branch = ap grade_mitem (sym (VMitem.rolls-If head branch None)) ∙ fold-roll-VMitem (Bool × (Bool × Bool)) (Bool × Bool) (Bool × Bool) grade_gbody_layer grade_mitem_layer grade_gelse_layer (VMitem-F.If head branch None)

pub grade_mitem_If_with : (head : VIfHead) (branch : VGbody) (other : VGelse) → grade_mitem (VMitem.If head branch (Some other)) ≡ ((fits_if_head head && (grade_gbody branch).0 && not (grade_gbody branch).1.0 && (grade_gelse other).0, (grade_gelse other).1))
grade_mitem_If_with head branch other = ap grade_mitem (sym (VMitem.rolls-If head branch (Some other))) ∙ fold-roll-VMitem (Bool × (Bool × Bool)) (Bool × Bool) (Bool × Bool) grade_gbody_layer grade_mitem_layer grade_gelse_layer (VMitem-F.If head branch (Some other))

module _ (P : VMitem → Type 0) (of_Ports : (head : VPortHead) (first : VToken) (more : List VNextName) (semi : VToken) → P (VMitem.Ports head first more semi)) (of_Nets : (kind : VKind) (shape : VType) (first : VNet) (more : List VNextNet) (semi : VToken) → P (VMitem.Nets kind shape first more semi)) (of_Constants : (word : VToken) (shape : VType) (first : VConstant) (more : List VNextConstant) (semi : VToken) → P (VMitem.Constants word shape first more semi)) (of_Genvars : (word : VToken) (first : VToken) (more : List VNextName) (semi : VToken) → P (VMitem.Genvars word first more semi)) (of_Assigns : (word : VToken) (first : VDriver) (more : List VNextDriver) (semi : VToken) → P (VMitem.Assigns word first more semi)) (of_Always : (word : VToken) (at : VToken) (event : VEvent) (stmt : VStmt) → P (VMitem.Always word at event stmt)) (of_Initial : (word : VToken) (stmt : VStmt) → P (VMitem.Initial word stmt)) (of_Generate : (word : VToken) (items : List VMitem) (end : VToken) → P (VMitem.Generate word items end)) (of_Instance : (instance : VInstance) → P (VMitem.Instance instance)) (of_For : (head : VForHead) (body : VGbody) → P (VMitem.For head body)) (of_If : (head : VIfHead) (branch : VGbody) (other : Option VGelse) → P (VMitem.If head branch other)) where
  open_mitem : (o : VMitem-F VGbody VMitem VGelse) → P (roll-VMitem o)
  open_mitem (VMitem-F.Ports head first more semi) = subst P (sym (VMitem.rolls-Ports head first more semi)) (of_Ports head first more semi)
  open_mitem (VMitem-F.Nets kind shape first more semi) = subst P (sym (VMitem.rolls-Nets kind shape first more semi)) (of_Nets kind shape first more semi)
  open_mitem (VMitem-F.Constants word shape first more semi) = subst P (sym (VMitem.rolls-Constants word shape first more semi)) (of_Constants word shape first more semi)
  open_mitem (VMitem-F.Genvars word first more semi) = subst P (sym (VMitem.rolls-Genvars word first more semi)) (of_Genvars word first more semi)
  open_mitem (VMitem-F.Assigns word first more semi) = subst P (sym (VMitem.rolls-Assigns word first more semi)) (of_Assigns word first more semi)
  open_mitem (VMitem-F.Always word at event stmt) = subst P (sym (VMitem.rolls-Always word at event stmt)) (of_Always word at event stmt)
  open_mitem (VMitem-F.Initial word stmt) = subst P (sym (VMitem.rolls-Initial word stmt)) (of_Initial word stmt)
  open_mitem (VMitem-F.Generate word items end) = subst P (sym (VMitem.rolls-Generate word items end)) (of_Generate word items end)
  open_mitem (VMitem-F.Instance instance) = subst P (sym (VMitem.rolls-Instance instance)) (of_Instance instance)
  open_mitem (VMitem-F.For head body) = subst P (sym (VMitem.rolls-For head body)) (of_For head body)
  open_mitem (VMitem-F.If head branch other) = subst P (sym (VMitem.rolls-If head branch other)) (of_If head branch other)

  pub by_mitem : (t : VMitem) → P t
  by_mitem t = subst P (roll-out-VMitem t) (open_mitem (out-VMitem t))

pub flat_gelse_roll : (v : VGelse-F VGbody VMitem VGelse) → flat_gelse (roll-VGelse v) ≡ (v.word ∷ flat_gbody v.body)
flat_gelse_roll v = fold-roll-VGelse Tokens Tokens Tokens flat_gbody_layer flat_mitem_layer flat_gelse_layer v

pub grade_gelse_roll : (v : VGelse-F VGbody VMitem VGelse) → grade_gelse (roll-VGelse v) ≡ (is_word (codes "else") v.word && (grade_gbody v.body).0, (grade_gbody v.body).1.0)
grade_gelse_roll v = fold-roll-VGelse (Bool × (Bool × Bool)) (Bool × Bool) (Bool × Bool) grade_gbody_layer grade_mitem_layer grade_gelse_layer v
