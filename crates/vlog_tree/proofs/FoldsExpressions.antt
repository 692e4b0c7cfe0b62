-- The tokens of expressions and left sides by their parts, and when each fits.
use Rattle.std.proofs.Common.{◌≡◌, Bool, ◌&&◌, ℕ, List, [], ◌∷◌, ◌++◌, Option, Some, None, codes, refl, sym, ◌∙◌, ap, subst}
use Rattle.std.specs.List.{list_all}
use Rattle.std.proofs.lemmas.List.Folds.{list_all-map}
use Rattle.vlog_tree.specs.declared.token.VToken.{VToken}
use Rattle.vlog_tree.specs.Terminals.{Tokens, is_mark, is_name, is_number, is_function, is_unary, is_binary, level_of}
use Rattle.vlog_tree.specs.Parts.{flat_option, flat_list, fits_option}
use Rattle.vlog_tree.specs.declared.tree_expressions.VExpr.{VExpr, out-VExpr, roll-VExpr, roll-out-VExpr}
use Rattle.vlog_tree.specs.declared.tree_expressions.VExpr.TheVariants as VExpr
use Rattle.vlog_tree.specs.declared.tree_expressions.VPrim.{VPrim, out-VPrim, roll-VPrim, roll-out-VPrim}
use Rattle.vlog_tree.specs.declared.tree_expressions.VPrim.TheVariants as VPrim
use Rattle.vlog_tree.specs.declared.tree_expressions.VSelect.{VSelect, out-VSelect, roll-VSelect, roll-out-VSelect}
use Rattle.vlog_tree.specs.declared.tree_expressions.VSelect.TheVariants as VSelect
use Rattle.vlog_tree.specs.declared.tree_expressions.VNextExpr.{VNextExpr, roll-VNextExpr}
use Rattle.vlog_tree.specs.declared.tree_expressions.VExpr.TheOpen.{VExpr-F, VPrim-F, VSelect-F, VNextExpr-F}
use Rattle.vlog_tree.specs.declared.tree_expressions.VExpr.TheFolds.{fold-roll-VExpr, fold-roll-VPrim, fold-roll-VSelect, fold-roll-VNextExpr}
use Rattle.vlog_tree.specs.declared.tree_expressions.VLval.{VLval, out-VLval, roll-VLval, roll-out-VLval}
use Rattle.vlog_tree.specs.declared.tree_expressions.VLval.TheVariants as VLval
use Rattle.vlog_tree.specs.declared.tree_expressions.VNextLval.{VNextLval, roll-VNextLval}
use Rattle.vlog_tree.specs.declared.tree_expressions.VLval.TheOpen.{VLval-F, VNextLval-F}
use Rattle.vlog_tree.specs.declared.tree_expressions.VLval.TheFolds.{fold-roll-VLval, fold-roll-VNextLval}
use Rattle.vlog_tree.specs.Expressions.{flat_expr_layer, flat_expr, grade_expr_layer, grade_expr, fits_expr, flat_prim_layer, flat_prim, fits_prim_layer, fits_prim, flat_select_layer, flat_select, fits_select_layer, fits_select, flat_next_expr_layer, flat_next_expr, fits_next_expr_layer, fits_next_expr, flat_lval_layer, flat_lval, fits_lval_layer, fits_lval, flat_next_lval_layer, flat_next_lval, fits_next_lval_layer, fits_next_lval, fits_to, fits_below}

pub flat_expr_Prim : (prim : VPrim) → flat_expr (VExpr.Prim prim) ≡ (flat_prim prim)
flat_expr_Prim prim = ap flat_expr (sym (VExpr.rolls-Prim prim)) ∙ fold-roll-VExpr Tokens Tokens Tokens Tokens flat_expr_layer flat_prim_layer flat_select_layer flat_next_expr_layer (VExpr-F.Prim prim)

pub grade_expr_Prim : (prim : VPrim) → grade_expr (VExpr.Prim prim) ≡ (((fits_prim prim), 0))
grade_expr_Prim prim = ap grade_expr (sym (VExpr.rolls-Prim prim)) ∙ fold-roll-VExpr (Bool × ℕ) Bool Bool Bool grade_expr_layer fits_prim_layer fits_select_layer fits_next_expr_layer (VExpr-F.Prim prim)

pub flat_expr_Unary : (operator : VToken) (operand : VExpr) → flat_expr (VExpr.Unary operator operand) ≡ (operator ∷ flat_expr operand)
flat_expr_Unary operator operand = ap flat_expr (sym (VExpr.rolls-Unary operator operand)) ∙ fold-roll-VExpr Tokens Tokens Tokens Tokens flat_expr_layer flat_prim_layer flat_select_layer flat_next_expr_layer (VExpr-F.Unary operator operand)

pub grade_expr_Unary : (operator : VToken) (operand : VExpr) → grade_expr (VExpr.Unary operator operand) ≡ ((is_unary operator && fits_to 0 (grade_expr operand), 0))
grade_expr_Unary operator operand = ap grade_expr (sym (VExpr.rolls-Unary operator operand)) ∙ fold-roll-VExpr (Bool × ℕ) Bool Bool Bool grade_expr_layer fits_prim_layer fits_select_layer fits_next_expr_layer (VExpr-F.Unary operator operand)

pub flat_expr_Binary : (left : VExpr) (operator : VToken) (right : VExpr) → flat_expr (VExpr.Binary left operator right) ≡ (flat_expr left ++ (operator ∷ flat_expr right))
flat_expr_Binary left operator right = ap flat_expr (sym (VExpr.rolls-Binary left operator right)) ∙ fold-roll-VExpr Tokens Tokens Tokens Tokens flat_expr_layer flat_prim_layer flat_select_layer flat_next_expr_layer (VExpr-F.Binary left operator right)

pub grade_expr_Binary : (left : VExpr) (operator : VToken) (right : VExpr) → grade_expr (VExpr.Binary left operator right) ≡ ((is_binary operator && fits_to (level_of operator) (grade_expr left) && fits_below (level_of operator) (grade_expr right), level_of operator))
grade_expr_Binary left operator right = ap grade_expr (sym (VExpr.rolls-Binary left operator right)) ∙ fold-roll-VExpr (Bool × ℕ) Bool Bool Bool grade_expr_layer fits_prim_layer fits_select_layer fits_next_expr_layer (VExpr-F.Binary left operator right)

pub flat_expr_Choice : (test : VExpr) (query : VToken) (yes_value : VExpr) (colon : VToken) (no_value : VExpr) → flat_expr (VExpr.Choice test query yes_value colon no_value) ≡ (flat_expr test ++ (query ∷ flat_expr yes_value ++ (colon ∷ flat_expr no_value)))
flat_expr_Choice test query yes_value colon no_value = ap flat_expr (sym (VExpr.rolls-Choice test query yes_value colon no_value)) ∙ fold-roll-VExpr Tokens Tokens Tokens Tokens flat_expr_layer flat_prim_layer flat_select_layer flat_next_expr_layer (VExpr-F.Choice test query yes_value colon no_value)

pub grade_expr_Choice : (test : VExpr) (query : VToken) (yes_value : VExpr) (colon : VToken) (no_value : VExpr) → grade_expr (VExpr.Choice test query yes_value colon no_value) ≡ ((fits_below 12 (grade_expr test) && is_mark (codes "?") query && (grade_expr yes_value).0 && is_mark (codes ":") colon && (grade_expr no_value).0, 12))
grade_expr_Choice test query yes_value colon no_value = ap grade_expr (sym (VExpr.rolls-Choice test query yes_value colon no_value)) ∙ fold-roll-VExpr (Bool × ℕ) Bool Bool Bool grade_expr_layer fits_prim_layer fits_select_layer fits_next_expr_layer (VExpr-F.Choice test query yes_value colon no_value)

module _ (P : VExpr → Type 0) (of_Prim : (prim : VPrim) → P (VExpr.Prim prim)) (of_Unary : (operator : VToken) (operand : VExpr) → P (VExpr.Unary operator operand)) (of_Binary : (left : VExpr) (operator : VToken) (right : VExpr) → P (VExpr.Binary left operator right)) (of_Choice : (test : VExpr) (query : VToken) (yes_value : VExpr) (colon : VToken) (no_value : VExpr) → P (VExpr.Choice test query yes_value colon no_value)) where
  open_expr : (o : VExpr-F VExpr VPrim VSelect VNextExpr) → P (roll-VExpr o)
  open_expr (VExpr-F.Prim prim) = subst P (sym (VExpr.rolls-Prim prim)) (of_Prim prim)
  open_expr (VExpr-F.Unary operator operand) = subst P (sym (VExpr.rolls-Unary operator operand)) (of_Unary operator operand)
  open_expr (VExpr-F.Binary left operator right) = subst P (sym (VExpr.rolls-Binary left operator right)) (of_Binary left operator right)
  open_expr (VExpr-F.Choice test query yes_value colon no_value) = subst P (sym (VExpr.rolls-Choice test query yes_value colon no_value)) (of_Choice test query yes_value colon no_value)

  pub by_expr : (t : VExpr) → P t
  by_expr t = subst P (roll-out-VExpr t) (open_expr (out-VExpr t))

pub flat_prim_Number : (number : VToken) → flat_prim (VPrim.Number number) ≡ (number ∷ [])
flat_prim_Number number = ap flat_prim (sym (VPrim.rolls-Number number)) ∙ fold-roll-VPrim Tokens Tokens Tokens Tokens flat_expr_layer flat_prim_layer flat_select_layer flat_next_expr_layer (VPrim-F.Number number)

pub fits_prim_Number : (number : VToken) → fits_prim (VPrim.Number number) ≡ (is_number number)
fits_prim_Number number = ap fits_prim (sym (VPrim.rolls-Number number)) ∙ fold-roll-VPrim (Bool × ℕ) Bool Bool Bool grade_expr_layer fits_prim_layer fits_select_layer fits_next_expr_layer (VPrim-F.Number number)

pub flat_prim_Name : (name : VToken) (select : Option VSelect) → flat_prim (VPrim.Name name select) ≡ (name ∷ flat_option flat_select select)
flat_prim_Name name None = ap flat_prim (sym (VPrim.rolls-Name name None)) ∙ fold-roll-VPrim Tokens Tokens Tokens Tokens flat_expr_layer flat_prim_layer flat_select_layer flat_next_expr_layer (VPrim-F.Name name None)
flat_prim_Name name (Some select) = ap flat_prim (sym (VPrim.rolls-Name name (Some select))) ∙ fold-roll-VPrim Tokens Tokens Tokens Tokens flat_expr_layer flat_prim_layer flat_select_layer flat_next_expr_layer (VPrim-F.Name name (Some select))

pub fits_prim_Name : (name : VToken) (select : Option VSelect) → fits_prim (VPrim.Name name select) ≡ (is_name name && fits_option fits_select select)
fits_prim_Name name None = ap fits_prim (sym (VPrim.rolls-Name name None)) ∙ fold-roll-VPrim (Bool × ℕ) Bool Bool Bool grade_expr_layer fits_prim_layer fits_select_layer fits_next_expr_layer (VPrim-F.Name name None)
fits_prim_Name name (Some select) = ap fits_prim (sym (VPrim.rolls-Name name (Some select))) ∙ fold-roll-VPrim (Bool × ℕ) Bool Bool Bool grade_expr_layer fits_prim_layer fits_select_layer fits_next_expr_layer (VPrim-F.Name name (Some select))

pub flat_prim_Group : (open_ : VToken) (expr : VExpr) (close : VToken) → flat_prim (VPrim.Group open_ expr close) ≡ (open_ ∷ flat_expr expr ++ (close ∷ []))
flat_prim_Group open_ expr close = ap flat_prim (sym (VPrim.rolls-Group open_ expr close)) ∙ fold-roll-VPrim Tokens Tokens Tokens Tokens flat_expr_layer flat_prim_layer flat_select_layer flat_next_expr_layer (VPrim-F.Group open_ expr close)

pub fits_prim_Group : (open_ : VToken) (expr : VExpr) (close : VToken) → fits_prim (VPrim.Group open_ expr close) ≡ (is_mark (codes "(") open_ && fits_expr expr && is_mark (codes ")") close)
fits_prim_Group open_ expr close = ap fits_prim (sym (VPrim.rolls-Group open_ expr close)) ∙ fold-roll-VPrim (Bool × ℕ) Bool Bool Bool grade_expr_layer fits_prim_layer fits_select_layer fits_next_expr_layer (VPrim-F.Group open_ expr close)

pub flat_prim_Join : (open_ : VToken) (first : VExpr) (more : List VNextExpr) (close : VToken) → flat_prim (VPrim.Join open_ first more close) ≡ (open_ ∷ flat_expr first ++ (flat_list flat_next_expr more ++ (close ∷ [])))
flat_prim_Join open_ first more close = ap flat_prim (sym (VPrim.rolls-Join open_ first more close)) ∙ fold-roll-VPrim Tokens Tokens Tokens Tokens flat_expr_layer flat_prim_layer flat_select_layer flat_next_expr_layer (VPrim-F.Join open_ first more close)

pub fits_prim_Join : (open_ : VToken) (first : VExpr) (more : List VNextExpr) (close : VToken) → fits_prim (VPrim.Join open_ first more close) ≡ (is_mark (codes "{") open_ && fits_expr first && list_all fits_next_expr more && is_mark (codes "}") close)
fits_prim_Join open_ first more close = ap fits_prim (sym (VPrim.rolls-Join open_ first more close)) ∙ fold-roll-VPrim (Bool × ℕ) Bool Bool Bool grade_expr_layer fits_prim_layer fits_select_layer fits_next_expr_layer (VPrim-F.Join open_ first more close) ∙ rw (list_all-map (λ (x : Bool). x) fits_next_expr more) refl

pub flat_prim_Repeat : (open_ : VToken) (count : VExpr) (inner_open : VToken) (first : VExpr) (more : List VNextExpr) (inner_close : VToken) (close : VToken) → flat_prim (VPrim.Repeat open_ count inner_open first more inner_close close) ≡ (open_ ∷ flat_expr count ++ (inner_open ∷ flat_expr first ++ (flat_list flat_next_expr more ++ (inner_close ∷ close ∷ []))))
flat_prim_Repeat open_ count inner_open first more inner_close close = ap flat_prim (sym (VPrim.rolls-Repeat open_ count inner_open first more inner_close close)) ∙ fold-roll-VPrim Tokens Tokens Tokens Tokens flat_expr_layer flat_prim_layer flat_select_layer flat_next_expr_layer (VPrim-F.Repeat open_ count inner_open first more inner_close close)

pub fits_prim_Repeat : (open_ : VToken) (count : VExpr) (inner_open : VToken) (first : VExpr) (more : List VNextExpr) (inner_close : VToken) (close : VToken) → fits_prim (VPrim.Repeat open_ count inner_open first more inner_close close) ≡ (is_mark (codes "{") open_ && fits_expr count && is_mark (codes "{") inner_open && fits_expr first && list_all fits_next_expr more && is_mark (codes "}") inner_close && is_mark (codes "}") close)
fits_prim_Repeat open_ count inner_open first more inner_close close = ap fits_prim (sym (VPrim.rolls-Repeat open_ count inner_open first more inner_close close)) ∙ fold-roll-VPrim (Bool × ℕ) Bool Bool Bool grade_expr_layer fits_prim_layer fits_select_layer fits_next_expr_layer (VPrim-F.Repeat open_ count inner_open first more inner_close close) ∙ rw (list_all-map (λ (x : Bool). x) fits_next_expr more) refl

pub flat_prim_Call : (function : VToken) (open_ : VToken) (expr : VExpr) (close : VToken) → flat_prim (VPrim.Call function open_ expr close) ≡ (function ∷ open_ ∷ flat_expr expr ++ (close ∷ []))
flat_prim_Call function open_ expr close = ap flat_prim (sym (VPrim.rolls-Call function open_ expr close)) ∙ fold-roll-VPrim Tokens Tokens Tokens Tokens flat_expr_layer flat_prim_layer flat_select_layer flat_next_expr_layer (VPrim-F.Call function open_ expr close)

pub fits_prim_Call : (function : VToken) (open_ : VToken) (expr : VExpr) (close : VToken) → fits_prim (VPrim.Call function open_ expr close) ≡ (is_function function && is_mark (codes "(") open_ && fits_expr expr && is_mark (codes ")") close)
fits_prim_Call function open_ expr close = ap fits_prim (sym (VPrim.rolls-Call function open_ expr close)) ∙ fold-roll-VPrim (Bool × ℕ) Bool Bool Bool grade_expr_layer fits_prim_layer fits_select_layer fits_next_expr_layer (VPrim-F.Call function open_ expr close)

module _ (P : VPrim → Type 0) (of_Number : (number : VToken) → P (VPrim.Number number)) (of_Name : (name : VToken) (select : Option VSelect) → P (VPrim.Name name select)) (of_Group : (open_ : VToken) (expr : VExpr) (close : VToken) → P (VPrim.Group open_ expr close)) (of_Join : (open_ : VToken) (first : VExpr) (more : List VNextExpr) (close : VToken) → P (VPrim.Join open_ first more close)) (of_Repeat : (open_ : VToken) (count : VExpr) (inner_open : VToken) (first : VExpr) (more : List VNextExpr) (inner_close : VToken) (close : VToken) → P (VPrim.Repeat open_ count inner_open first more inner_close close)) (of_Call : (function : VToken) (open_ : VToken) (expr : VExpr) (close : VToken) → P (VPrim.Call function open_ expr close)) where
  open_prim : (o : VPrim-F VExpr VPrim VSelect VNextExpr) → P (roll-VPrim o)
  open_prim (VPrim-F.Number number) = subst P (sym (VPrim.rolls-Number number)) (of_Number number)
  open_prim (VPrim-F.Name name select) = subst P (sym (VPrim.rolls-Name name select)) (of_Name name select)
  open_prim (VPrim-F.Group open_ expr close) = subst P (sym (VPrim.rolls-Group open_ expr close)) (of_Group open_ expr close)
  open_prim (VPrim-F.Join open_ first more close) = subst P (sym (VPrim.rolls-Join open_ first more close)) (of_Join open_ first more close)
  open_prim (VPrim-F.Repeat open_ count inner_open first more inner_close close) = subst P (sym (VPrim.rolls-Repeat open_ count inner_open first more inner_close close)) (of_Repeat open_ count inner_open first more inner_close close)
  open_prim (VPrim-F.Call function open_ expr close) = subst P (sym (VPrim.rolls-Call function open_ expr close)) (of_Call function open_ expr close)

  pub by_prim : (t : VPrim) → P t
  by_prim t = subst P (roll-out-VPrim t) (open_prim (out-VPrim t))

pub flat_select_Bit : (open_ : VToken) (index : VExpr) (close : VToken) → flat_select (VSelect.Bit open_ index close) ≡ (open_ ∷ flat_expr index ++ (close ∷ []))
flat_select_Bit open_ index close = ap flat_select (sym (VSelect.rolls-Bit open_ index close)) ∙ fold-roll-VSelect Tokens Tokens Tokens Tokens flat_expr_layer flat_prim_layer flat_select_layer flat_next_expr_layer (VSelect-F.Bit open_ index close)

pub fits_select_Bit : (open_ : VToken) (index : VExpr) (close : VToken) → fits_select (VSelect.Bit open_ index close) ≡ (is_mark (codes "[") open_ && fits_expr index && is_mark (codes "]") close)
fits_select_Bit open_ index close = ap fits_select (sym (VSelect.rolls-Bit open_ index close)) ∙ fold-roll-VSelect (Bool × ℕ) Bool Bool Bool grade_expr_layer fits_prim_layer fits_select_layer fits_next_expr_layer (VSelect-F.Bit open_ index close)

pub flat_select_Range : (open_ : VToken) (high : VExpr) (colon : VToken) (low : VExpr) (close : VToken) → flat_select (VSelect.Range open_ high colon low close) ≡ (open_ ∷ flat_expr high ++ (colon ∷ flat_expr low ++ (close ∷ [])))
flat_select_Range open_ high colon low close = ap flat_select (sym (VSelect.rolls-Range open_ high colon low close)) ∙ fold-roll-VSelect Tokens Tokens Tokens Tokens flat_expr_layer flat_prim_layer flat_select_layer flat_next_expr_layer (VSelect-F.Range open_ high colon low close)

pub fits_select_Range : (open_ : VToken) (high : VExpr) (colon : VToken) (low : VExpr) (close : VToken) → fits_select (VSelect.Range open_ high colon low close) ≡ (is_mark (codes "[") open_ && fits_expr high && is_mark (codes ":") colon && fits_expr low && is_mark (codes "]") close)
fits_select_Range open_ high colon low close = ap fits_select (sym (VSelect.rolls-Range open_ high colon low close)) ∙ fold-roll-VSelect (Bool × ℕ) Bool Bool Bool grade_expr_layer fits_prim_layer fits_select_layer fits_next_expr_layer (VSelect-F.Range open_ high colon low close)

pub flat_select_Upward : (open_ : VToken) (low : VExpr) (upward : VToken) (width : VExpr) (close : VToken) → flat_select (VSelect.Upward open_ low upward width close) ≡ (open_ ∷ flat_expr low ++ (upward ∷ flat_expr width ++ (close ∷ [])))
flat_select_Upward open_ low upward width close = ap flat_select (sym (VSelect.rolls-Upward open_ low upward width close)) ∙ fold-roll-VSelect Tokens Tokens Tokens Tokens flat_expr_layer flat_prim_layer flat_select_layer flat_next_expr_layer (VSelect-F.Upward open_ low upward width close)

pub fits_select_Upward : (open_ : VToken) (low : VExpr) (upward : VToken) (width : VExpr) (close : VToken) → fits_select (VSelect.Upward open_ low upward width close) ≡ (is_mark (codes "[") open_ && fits_expr low && is_mark (codes "+:") upward && fits_expr width && is_mark (codes "]") close)
fits_select_Upward open_ low upward width close = ap fits_select (sym (VSelect.rolls-Upward open_ low upward width close)) ∙ fold-roll-VSelect (Bool × ℕ) Bool Bool Bool grade_expr_layer fits_prim_layer fits_select_layer fits_next_expr_layer (VSelect-F.Upward open_ low upward width close)

module _ (P : VSelect → Type 0) (of_Bit : (open_ : VToken) (index : VExpr) (close : VToken) → P (VSelect.Bit open_ index close)) (of_Range : (open_ : VToken) (high : VExpr) (colon : VToken) (low : VExpr) (close : VToken) → P (VSelect.Range open_ high colon low close)) (of_Upward : (open_ : VToken) (low : VExpr) (upward : VToken) (width : VExpr) (close : VToken) → P (VSelect.Upward open_ low upward width close)) where
  open_select : (o : VSelect-F VExpr VPrim VSelect VNextExpr) → P (roll-VSelect o)
  open_select (VSelect-F.Bit open_ index close) = subst P (sym (VSelect.rolls-Bit open_ index close)) (of_Bit open_ index close)
  open_select (VSelect-F.Range open_ high colon low close) = subst P (sym (VSelect.rolls-Range open_ high colon low close)) (of_Range open_ high colon low close)
  open_select (VSelect-F.Upward open_ low upward width close) = subst P (sym (VSelect.rolls-Upward open_ low upward width close)) (of_Upward open_ low upward width close)

  pub by_select : (t : VSelect) → P t
  by_select t = subst P (roll-out-VSelect t) (open_select (out-VSelect t))

pub flat_next_expr_roll : (v : VNextExpr-F VExpr VPrim VSelect VNextExpr) → flat_next_expr (roll-VNextExpr v) ≡ (v.comma ∷ flat_expr v.expr)
flat_next_expr_roll v = fold-roll-VNextExpr Tokens Tokens Tokens Tokens flat_expr_layer flat_prim_layer flat_select_layer flat_next_expr_layer v

pub fits_next_expr_roll : (v : VNextExpr-F VExpr VPrim VSelect VNextExpr) → fits_next_expr (roll-VNextExpr v) ≡ (is_mark (codes ",") v.comma && fits_expr v.expr)
fits_next_expr_roll v = fold-roll-VNextExpr (Bool × ℕ) Bool Bool Bool grade_expr_layer fits_prim_layer fits_select_layer fits_next_expr_layer v

pub flat_lval_Name : (name : VToken) (select : Option VSelect) → flat_lval (VLval.Name name select) ≡ (name ∷ flat_option flat_select select)
flat_lval_Name name select = ap flat_lval (sym (VLval.rolls-Name name select)) ∙ fold-roll-VLval Tokens Tokens flat_lval_layer flat_next_lval_layer (VLval-F.Name name select)

pub fits_lval_Name : (name : VToken) (select : Option VSelect) → fits_lval (VLval.Name name select) ≡ (is_name name && fits_option fits_select select)
fits_lval_Name name select = ap fits_lval (sym (VLval.rolls-Name name select)) ∙ fold-roll-VLval Bool Bool fits_lval_layer fits_next_lval_layer (VLval-F.Name name select)

pub flat_lval_Join : (open_ : VToken) (first : VLval) (more : List VNextLval) (close : VToken) → flat_lval (VLval.Join open_ first more close) ≡ (open_ ∷ flat_lval first ++ (flat_list flat_next_lval more ++ (close ∷ [])))
flat_lval_Join open_ first more close = ap flat_lval (sym (VLval.rolls-Join open_ first more close)) ∙ fold-roll-VLval Tokens Tokens flat_lval_layer flat_next_lval_layer (VLval-F.Join open_ first more close)

pub fits_lval_Join : (open_ : VToken) (first : VLval) (more : List VNextLval) (close : VToken) → fits_lval (VLval.Join open_ first more close) ≡ (is_mark (codes "{") open_ && fits_lval first && list_all fits_next_lval more && is_mark (codes "}") close)
fits_lval_Join open_ first more close = ap fits_lval (sym (VLval.rolls-Join open_ first more close)) ∙ fold-roll-VLval Bool Bool fits_lval_layer fits_next_lval_layer (VLval-F.Join open_ first more close) ∙ rw (list_all-map (λ (x : Bool). x) fits_next_lval more) refl

module _ (P : VLval → Type 0) (of_Name : (name : VToken) (select : Option VSelect) → P (VLval.Name name select)) (of_Join : (open_ : VToken) (first : VLval) (more : List VNextLval) (close : VToken) → P (VLval.Join open_ first more close)) where
  open_lval : (o : VLval-F VLval VNextLval) → P (roll-VLval o)
  open_lval (VLval-F.Name name select) = subst P (sym (VLval.rolls-Name name select)) (of_Name name select)
  open_lval (VLval-F.Join open_ first more close) = subst P (sym (VLval.rolls-Join open_ first more close)) (of_Join open_ first more close)

  pub by_lval : (t : VLval) → P t
  by_lval t = subst P (roll-out-VLval t) (open_lval (out-VLval t))

pub flat_next_lval_roll : (v : VNextLval-F VLval VNextLval) → flat_next_lval (roll-VNextLval v) ≡ (v.comma ∷ flat_lval v.lval)
flat_next_lval_roll v = fold-roll-VNextLval Tokens Tokens flat_lval_layer flat_next_lval_layer v

pub fits_next_lval_roll : (v : VNextLval-F VLval VNextLval) → fits_next_lval (roll-VNextLval v) ≡ (is_mark (codes ",") v.comma && fits_lval v.lval)
fits_next_lval_roll v = fold-roll-VNextLval Bool Bool fits_lval_layer fits_next_lval_layer v
