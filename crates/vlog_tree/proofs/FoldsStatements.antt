-- The tokens of statements by their parts, and when each fits.
use Rattle.std.proofs.Common.{◌≡◌, Bool, true, false, ◌&&◌, not, nat_le, List, [], ◌∷◌, ◌++◌, map, Option, Some, None, codes, refl, sym, ◌∙◌, ap, subst}
use Rattle.std.specs.List.{list_all}
use Rattle.std.proofs.lemmas.List.Folds.{list_all-map}
use Rattle.vlog_tree.specs.declared.token.VToken.{VToken}
use Rattle.vlog_tree.specs.Terminals.{Tokens, is_mark, is_word, is_assigning, is_case_word}
use Rattle.vlog_tree.specs.Parts.{flat_option, flat_list, flat_token, fits_option, count_true}
use Rattle.vlog_tree.specs.declared.tree_statements.VCitem.{VCitem, out-VCitem, roll-VCitem, roll-out-VCitem}
use Rattle.vlog_tree.specs.declared.tree_statements.VCitem.TheVariants as VCitem
use Rattle.vlog_tree.specs.declared.tree_statements.VStmt.{VStmt, out-VStmt, roll-VStmt, roll-out-VStmt}
use Rattle.vlog_tree.specs.declared.tree_statements.VStmt.TheVariants as VStmt
use Rattle.vlog_tree.specs.declared.tree_statements.VElse.{VElse, roll-VElse}
use Rattle.vlog_tree.specs.declared.tree_statements.VCitem.TheOpen.{VCitem-F, VStmt-F, VElse-F}
use Rattle.vlog_tree.specs.declared.tree_statements.VCitem.TheFolds.{fold-roll-VCitem, fold-roll-VStmt, fold-roll-VElse}
use Rattle.vlog_tree.specs.declared.tree_expressions.VExpr.{VExpr}
use Rattle.vlog_tree.specs.declared.tree_expressions.VNextExpr.{VNextExpr}
use Rattle.vlog_tree.specs.declared.tree_expressions.VLval.{VLval}
use Rattle.vlog_tree.specs.declared.tree_statements.VLabel.{VLabel}
use Rattle.vlog_tree.specs.declared.tree_statements.VIfHead.{VIfHead}
use Rattle.vlog_tree.specs.Statements.{flat_citem_layer, flat_citem, grade_citem_layer, grade_citem, flat_stmt_layer, flat_stmt, grade_stmt_layer, grade_stmt, fits_stmt, flat_else_layer, flat_else, grade_else_layer, grade_else, flat_label, fits_label, flat_if_head, fits_if_head}
use Rattle.vlog_tree.specs.Expressions.{flat_expr, fits_expr, flat_next_expr, fits_next_expr, flat_lval, fits_lval}

pub flat_citem_Labels : (first : VExpr) (more : List VNextExpr) (colon : VToken) (stmt : VStmt) → flat_citem (VCitem.Labels first more colon stmt) ≡ (flat_expr first ++ (flat_list flat_next_expr more ++ (colon ∷ flat_stmt stmt)))
flat_citem_Labels first more colon stmt = ap flat_citem (sym (VCitem.rolls-Labels first more colon stmt)) ∙ fold-roll-VCitem Tokens Tokens Tokens flat_citem_layer flat_stmt_layer flat_else_layer (VCitem-F.Labels first more colon stmt)

pub grade_citem_Labels : (first : VExpr) (more : List VNextExpr) (colon : VToken) (stmt : VStmt) → grade_citem (VCitem.Labels first more colon stmt) ≡ (fits_expr first && list_all fits_next_expr more && is_mark (codes ":") colon && fits_stmt stmt, false)
grade_citem_Labels first more colon stmt = ap grade_citem (sym (VCitem.rolls-Labels first more colon stmt)) ∙ fold-roll-VCitem (Bool × Bool) (Bool × Bool) (Bool × Bool) grade_citem_layer grade_stmt_layer grade_else_layer (VCitem-F.Labels first more colon stmt)

pub flat_citem_Default : (word : VToken) (colon : Option VToken) (stmt : VStmt) → flat_citem (VCitem.Default word colon stmt) ≡ (word ∷ flat_option flat_token colon ++ (flat_stmt stmt))
flat_citem_Default word colon stmt = ap flat_citem (sym (VCitem.rolls-Default word colon stmt)) ∙ fold-roll-VCitem Tokens Tokens Tokens flat_citem_layer flat_stmt_layer flat_else_layer (VCitem-F.Default word colon stmt)

pub grade_citem_Default : (word : VToken) (colon : Option VToken) (stmt : VStmt) → grade_citem (VCitem.Default word colon stmt) ≡ (is_word (codes "default") word && fits_option (is_mark (codes ":")) colon && fits_stmt stmt, true)
grade_citem_Default word colon stmt = ap grade_citem (sym (VCitem.rolls-Default word colon stmt)) ∙ fold-roll-VCitem (Bool × Bool) (Bool × Bool) (Bool × Bool) grade_citem_layer grade_stmt_layer grade_else_layer (VCitem-F.Default word colon stmt)

module _ (P : VCitem → Type 0) (of_Labels : (first : VExpr) (more : List VNextExpr) (colon : VToken) (stmt : VStmt) → P (VCitem.Labels first more colon stmt)) (of_Default : (word : VToken) (colon : Option VToken) (stmt : VStmt) → P (VCitem.Default word colon stmt)) where
  open_citem : (o : VCitem-F VCitem VStmt VElse) → P (roll-VCitem o)
  open_citem (VCitem-F.Labels first more colon stmt) = subst P (sym (VCitem.rolls-Labels first more colon stmt)) (of_Labels first more colon stmt)
  open_citem (VCitem-F.Default word colon stmt) = subst P (sym (VCitem.rolls-Default word colon stmt)) (of_Default word colon stmt)

  pub by_citem : (t : VCitem) → P t
  by_citem t = subst P (roll-out-VCitem t) (open_citem (out-VCitem t))

pub flat_stmt_Empty : (semi : VToken) → flat_stmt (VStmt.Empty semi) ≡ (semi ∷ [])
flat_stmt_Empty semi = ap flat_stmt (sym (VStmt.rolls-Empty semi)) ∙ fold-roll-VStmt Tokens Tokens Tokens flat_citem_layer flat_stmt_layer flat_else_layer (VStmt-F.Empty semi)

pub grade_stmt_Empty : (semi : VToken) → grade_stmt (VStmt.Empty semi) ≡ (is_mark (codes ";") semi, false)
grade_stmt_Empty semi = ap grade_stmt (sym (VStmt.rolls-Empty semi)) ∙ fold-roll-VStmt (Bool × Bool) (Bool × Bool) (Bool × Bool) grade_citem_layer grade_stmt_layer grade_else_layer (VStmt-F.Empty semi)

pub flat_stmt_Block : (word : VToken) (label : Option VLabel) (stmts : List VStmt) (end : VToken) → flat_stmt (VStmt.Block word label stmts end) ≡ (word ∷ flat_option flat_label label ++ (flat_list flat_stmt stmts ++ (end ∷ [])))
flat_stmt_Block word label stmts end = ap flat_stmt (sym (VStmt.rolls-Block word label stmts end)) ∙ fold-roll-VStmt Tokens Tokens Tokens flat_citem_layer flat_stmt_layer flat_else_layer (VStmt-F.Block word label stmts end)

pub grade_stmt_Block : (word : VToken) (label : Option VLabel) (stmts : List VStmt) (end : VToken) → grade_stmt (VStmt.Block word label stmts end) ≡ (is_word (codes "begin") word && fits_option fits_label label && list_all fits_stmt stmts && is_word (codes "end") end, false)
grade_stmt_Block word label stmts end = ap grade_stmt (sym (VStmt.rolls-Block word label stmts end)) ∙ fold-roll-VStmt (Bool × Bool) (Bool × Bool) (Bool × Bool) grade_citem_layer grade_stmt_layer grade_else_layer (VStmt-F.Block word label stmts end) ∙ rw (list_all-map (λ (x : (Bool × Bool)). x.0) grade_stmt stmts) refl

pub flat_stmt_Assign : (left : VLval) (mark : VToken) (value : VExpr) (semi : VToken) → flat_stmt (VStmt.Assign left mark value semi) ≡ (flat_lval left ++ (mark ∷ flat_expr value ++ (semi ∷ [])))
flat_stmt_Assign left mark value semi = ap flat_stmt (sym (VStmt.rolls-Assign left mark value semi)) ∙ fold-roll-VStmt Tokens Tokens Tokens flat_citem_layer flat_stmt_layer flat_else_layer (VStmt-F.Assign left mark value semi)

pub grade_stmt_Assign : (left : VLval) (mark : VToken) (value : VExpr) (semi : VToken) → grade_stmt (VStmt.Assign left mark value semi) ≡ (fits_lval left && is_assigning mark && fits_expr value && is_mark (codes ";") semi, false)
grade_stmt_Assign left mark value semi = ap grade_stmt (sym (VStmt.rolls-Assign left mark value semi)) ∙ fold-roll-VStmt (Bool × Bool) (Bool × Bool) (Bool × Bool) grade_citem_layer grade_stmt_layer grade_else_layer (VStmt-F.Assign left mark value semi)

pub flat_stmt_If : (head : VIfHead) (branch : VStmt) (other : Option VElse) → flat_stmt (VStmt.If head branch other) ≡ (flat_if_head head ++ (flat_stmt branch ++ (flat_option flat_else other)))
flat_stmt_If head branch None = ap flat_stmt (sym (VStmt.rolls-If head branch None)) ∙ fold-roll-VStmt Tokens Tokens Tokens flat_citem_layer flat_stmt_layer flat_else_layer (VStmt-F.If head branch None)
flat_stmt_If head branch (Some other) = ap flat_stmt (sym (VStmt.rolls-If head branch (Some other))) ∙ fold-roll-VStmt Tokens Tokens Tokens flat_citem_layer flat_stmt_layer flat_else_layer (VStmt-F.If head branch (Some other))

pub grade_stmt_If_alone : (head : VIfHead) (branch : VStmt) → grade_stmt (VStmt.If head branch None) ≡ ((fits_if_head head && (grade_stmt branch).0, true))
grade_stmt_If_alone head branch = ap grade_stmt (sym (VStmt.rolls-If head branch None)) ∙ fold-roll-VStmt (Bool × Bool) (Bool × Bool) (Bool × Bool) grade_citem_layer grade_stmt_layer grade_else_layer (VStmt-F.If head branch None)

pub grade_stmt_If_with : (head : VIfHead) (branch : VStmt) (other : VElse) → grade_stmt (VStmt.If head branch (Some other)) ≡ ((fits_if_head head && (grade_stmt branch).0 && not (grade_stmt branch).1 && (grade_else other).0, (grade_else other).1))
grade_stmt_If_with head branch other = ap grade_stmt (sym (VStmt.rolls-If head branch (Some other))) ∙ fold-roll-VStmt (Bool × Bool) (Bool × Bool) (Bool × Bool) grade_citem_layer grade_stmt_layer grade_else_layer (VStmt-F.If head branch (Some other))

pub flat_stmt_Case : (word : VToken) (open_ : VToken) (selector : VExpr) (close : VToken) (items : List VCitem) (end : VToken) → flat_stmt (VStmt.Case word open_ selector close items end) ≡ (word ∷ open_ ∷ flat_expr selector ++ (close ∷ flat_list flat_citem items ++ (end ∷ [])))
flat_stmt_Case word open_ selector close items end = ap flat_stmt (sym (VStmt.rolls-Case word open_ selector close items end)) ∙ fold-roll-VStmt Tokens Tokens Tokens flat_citem_layer flat_stmt_layer flat_else_layer (VStmt-F.Case word open_ selector close items end)

pub grade_stmt_Case : (word : VToken) (open_ : VToken) (selector : VExpr) (close : VToken) (items : List VCitem) (end : VToken) → grade_stmt (VStmt.Case word open_ selector close items end) ≡ ((is_case_word word && is_mark (codes "(") open_ && fits_expr selector && is_mark (codes ")") close && list_all (λ g. (grade_citem g).0) items && nat_le (count_true (map (λ g. g.1) (map grade_citem items))) 1 && is_word (codes "endcase") end, false))
grade_stmt_Case word open_ selector close items end = ap grade_stmt (sym (VStmt.rolls-Case word open_ selector close items end)) ∙ fold-roll-VStmt (Bool × Bool) (Bool × Bool) (Bool × Bool) grade_citem_layer grade_stmt_layer grade_else_layer (VStmt-F.Case word open_ selector close items end) ∙ rw (list_all-map (λ (x : (Bool × Bool)). x.0) grade_citem items) refl

module _ (P : VStmt → Type 0) (of_Empty : (semi : VToken) → P (VStmt.Empty semi)) (of_Block : (word : VToken) (label : Option VLabel) (stmts : List VStmt) (end : VToken) → P (VStmt.Block word label stmts end)) (of_Assign : (left : VLval) (mark : VToken) (value : VExpr) (semi : VToken) → P (VStmt.Assign left mark value semi)) (of_If : (head : VIfHead) (branch : VStmt) (other : Option VElse) → P (VStmt.If head branch other)) (of_Case : (word : VToken) (open_ : VToken) (selector : VExpr) (close : VToken) (items : List VCitem) (end : VToken) → P (VStmt.Case word open_ selector close items end)) where
  open_stmt : (o : VStmt-F VCitem VStmt VElse) → P (roll-VStmt o)
  open_stmt (VStmt-F.Empty semi) = subst P (sym (VStmt.rolls-Empty semi)) (of_Empty semi)
  open_stmt (VStmt-F.Block word label stmts end) = subst P (sym (VStmt.rolls-Block word label stmts end)) (of_Block word label stmts end)
  open_stmt (VStmt-F.Assign left mark value semi) = subst P (sym (VStmt.rolls-Assign left mark value semi)) (of_Assign left mark value semi)
  open_stmt (VStmt-F.If head branch other) = subst P (sym (VStmt.rolls-If head branch other)) (of_If head branch other)
  open_stmt (VStmt-F.Case word open_ selector close items end) = subst P (sym (VStmt.rolls-Case word open_ selector close items end)) (of_Case word open_ selector close items end)

  pub by_stmt : (t : VStmt) → P t
  by_stmt t = subst P (roll-out-VStmt t) (open_stmt (out-VStmt t))

pub flat_else_roll : (v : VElse-F VCitem VStmt VElse) → flat_else (roll-VElse v) ≡ (v.word ∷ flat_stmt v.stmt)
flat_else_roll v = fold-roll-VElse Tokens Tokens Tokens flat_citem_layer flat_stmt_layer flat_else_layer v

pub grade_else_roll : (v : VElse-F VCitem VStmt VElse) → grade_else (roll-VElse v) ≡ (is_word (codes "else") v.word && (grade_stmt v.stmt).0, (grade_stmt v.stmt).1)
grade_else_roll v = fold-roll-VElse (Bool × Bool) (Bool × Bool) (Bool × Bool) grade_citem_layer grade_stmt_layer grade_else_layer v
