-- The tokens of expressions and left sides, part by part, and which of them fit the grammar (IEEE 1364-2005, 5.1, A.8).
use Rattle.std.specs.Prelude.{Bool, ◌&&◌, ◌++◌, ℕ, nat_le, nat_lt, [], ◌∷◌, codes}
use Rattle.std.specs.List.{list_all}
use Rattle.vlog_tree.specs.Terminals.{Tokens, is_mark, is_name, is_number, is_function, is_unary, is_binary, level_of}
use Rattle.vlog_tree.specs.Parts.{flat_option, joined, fits_option}
use Rattle.vlog_tree.specs.declared.tree_expressions.VExpr.{VExpr}
use Rattle.vlog_tree.specs.declared.tree_expressions.VExpr.TheOpen.{VExpr-F, VPrim-F, VSelect-F, VNextExpr-F}
use Rattle.vlog_tree.specs.declared.tree_expressions.VExpr.TheFolds.{fold-VExpr, fold-VPrim, fold-VSelect, fold-VNextExpr}
use Rattle.vlog_tree.specs.declared.tree_expressions.VPrim.{VPrim}
use Rattle.vlog_tree.specs.declared.tree_expressions.VSelect.{VSelect}
use Rattle.vlog_tree.specs.declared.tree_expressions.VNextExpr.{VNextExpr}
use Rattle.vlog_tree.specs.declared.tree_expressions.VLval.{VLval}
use Rattle.vlog_tree.specs.declared.tree_expressions.VLval.TheOpen.{VLval-F, VNextLval-F}
use Rattle.vlog_tree.specs.declared.tree_expressions.VLval.TheFolds.{fold-VLval, fold-VNextLval}
use Rattle.vlog_tree.specs.declared.tree_expressions.VNextLval.{VNextLval}

-- An expression of which it is known whether it fits and of what level it is: it fits as an operand that may be of this level, or of a tighter one alone.
abbrev pub fits_to : ℕ → Bool × ℕ → Bool
fits_to level g = g.0 && nat_le g.1 level

abbrev pub fits_below : ℕ → Bool × ℕ → Bool
fits_below level g = g.0 && nat_lt g.1 level

abbrev pub flat_expr_layer : VExpr-F Tokens Tokens Tokens Tokens → Tokens
flat_expr_layer (VExpr-F.Prim prim) = prim
flat_expr_layer (VExpr-F.Unary operator operand) = operator ∷ operand
flat_expr_layer (VExpr-F.Binary left operator right) = left ++ (operator ∷ right)
flat_expr_layer (VExpr-F.Choice test query yes_value colon no_value) = test ++ (query ∷ yes_value ++ (colon ∷ no_value))

abbrev pub flat_prim_layer : VPrim-F Tokens Tokens Tokens Tokens → Tokens
flat_prim_layer (VPrim-F.Number number) = number ∷ []
flat_prim_layer (VPrim-F.Name name select) = name ∷ flat_option (λ ts. ts) select
flat_prim_layer (VPrim-F.Group open_ expr close) = open_ ∷ expr ++ (close ∷ [])
flat_prim_layer (VPrim-F.Join open_ first more close) = open_ ∷ first ++ (joined more ++ (close ∷ []))
flat_prim_layer (VPrim-F.Repeat open_ count inner_open first more inner_close close) = open_ ∷ count ++ (inner_open ∷ first ++ (joined more ++ (inner_close ∷ close ∷ [])))
flat_prim_layer (VPrim-F.Call function open_ expr close) = function ∷ open_ ∷ expr ++ (close ∷ [])

abbrev pub flat_select_layer : VSelect-F Tokens Tokens Tokens Tokens → Tokens
flat_select_layer (VSelect-F.Bit open_ index close) = open_ ∷ index ++ (close ∷ [])
flat_select_layer (VSelect-F.Range open_ high colon low close) = open_ ∷ high ++ (colon ∷ low ++ (close ∷ []))
flat_select_layer (VSelect-F.Upward open_ low upward width close) = open_ ∷ low ++ (upward ∷ width ++ (close ∷ []))

abbrev pub flat_next_expr_layer : VNextExpr-F Tokens Tokens Tokens Tokens → Tokens
flat_next_expr_layer v = v.comma ∷ v.expr

abbrev pub flat_expr : VExpr → Tokens
flat_expr = fold-VExpr Tokens Tokens Tokens Tokens flat_expr_layer flat_prim_layer flat_select_layer flat_next_expr_layer

abbrev pub flat_prim : VPrim → Tokens
flat_prim = fold-VPrim Tokens Tokens Tokens Tokens flat_expr_layer flat_prim_layer flat_select_layer flat_next_expr_layer

abbrev pub flat_select : VSelect → Tokens
flat_select = fold-VSelect Tokens Tokens Tokens Tokens flat_expr_layer flat_prim_layer flat_select_layer flat_next_expr_layer

abbrev pub flat_next_expr : VNextExpr → Tokens
flat_next_expr = fold-VNextExpr Tokens Tokens Tokens Tokens flat_expr_layer flat_prim_layer flat_select_layer flat_next_expr_layer

abbrev pub grade_expr_layer : VExpr-F (Bool × ℕ) Bool Bool Bool → Bool × ℕ
grade_expr_layer (VExpr-F.Prim prim) = (prim, 0)
grade_expr_layer (VExpr-F.Unary operator operand) = (is_unary operator && fits_to 0 operand, 0)
grade_expr_layer (VExpr-F.Binary left operator right) =
    (is_binary operator && fits_to (level_of operator) left && fits_below (level_of operator) right, level_of operator)
grade_expr_layer (VExpr-F.Choice test query yes_value colon no_value) =
    (fits_below 12 test && is_mark (codes "?") query && yes_value.0 && is_mark (codes ":") colon && no_value.0, 12)

abbrev pub fits_prim_layer : VPrim-F (Bool × ℕ) Bool Bool Bool → Bool
fits_prim_layer (VPrim-F.Number number) = is_number number
fits_prim_layer (VPrim-F.Name name select) = is_name name && fits_option (λ fits. fits) select
fits_prim_layer (VPrim-F.Group open_ expr close) = is_mark (codes "(") open_ && expr.0 && is_mark (codes ")") close
fits_prim_layer (VPrim-F.Join open_ first more close) = is_mark (codes "{") open_ && first.0 && list_all (λ fits. fits) more && is_mark (codes "}") close
fits_prim_layer (VPrim-F.Repeat open_ count inner_open first more inner_close close) = is_mark (codes "{") open_ && count.0 && is_mark (codes "{") inner_open && first.0 && list_all (λ fits. fits) more && is_mark (codes "}") inner_close && is_mark (codes "}") close
fits_prim_layer (VPrim-F.Call function open_ expr close) = is_function function && is_mark (codes "(") open_ && expr.0 && is_mark (codes ")") close

abbrev pub fits_select_layer : VSelect-F (Bool × ℕ) Bool Bool Bool → Bool
fits_select_layer (VSelect-F.Bit open_ index close) = is_mark (codes "[") open_ && index.0 && is_mark (codes "]") close
fits_select_layer (VSelect-F.Range open_ high colon low close) = is_mark (codes "[") open_ && high.0 && is_mark (codes ":") colon && low.0 && is_mark (codes "]") close
fits_select_layer (VSelect-F.Upward open_ low upward width close) = is_mark (codes "[") open_ && low.0 && is_mark (codes "+:") upward && width.0 && is_mark (codes "]") close

abbrev pub fits_next_expr_layer : VNextExpr-F (Bool × ℕ) Bool Bool Bool → Bool
fits_next_expr_layer v = is_mark (codes ",") v.comma && v.expr.0

abbrev pub grade_expr : VExpr → Bool × ℕ
grade_expr = fold-VExpr (Bool × ℕ) Bool Bool Bool grade_expr_layer fits_prim_layer fits_select_layer fits_next_expr_layer

abbrev pub fits_prim : VPrim → Bool
fits_prim = fold-VPrim (Bool × ℕ) Bool Bool Bool grade_expr_layer fits_prim_layer fits_select_layer fits_next_expr_layer

abbrev pub fits_select : VSelect → Bool
fits_select = fold-VSelect (Bool × ℕ) Bool Bool Bool grade_expr_layer fits_prim_layer fits_select_layer fits_next_expr_layer

abbrev pub fits_next_expr : VNextExpr → Bool
fits_next_expr = fold-VNextExpr (Bool × ℕ) Bool Bool Bool grade_expr_layer fits_prim_layer fits_select_layer fits_next_expr_layer

abbrev pub fits_expr : VExpr → Bool
fits_expr v = (grade_expr v).0

abbrev pub flat_lval_layer : VLval-F Tokens Tokens → Tokens
flat_lval_layer (VLval-F.Name name select) = name ∷ flat_option flat_select select
flat_lval_layer (VLval-F.Join open_ first more close) = open_ ∷ first ++ (joined more ++ (close ∷ []))

abbrev pub flat_next_lval_layer : VNextLval-F Tokens Tokens → Tokens
flat_next_lval_layer v = v.comma ∷ v.lval

abbrev pub flat_lval : VLval → Tokens
flat_lval = fold-VLval Tokens Tokens flat_lval_layer flat_next_lval_layer

abbrev pub flat_next_lval : VNextLval → Tokens
flat_next_lval = fold-VNextLval Tokens Tokens flat_lval_layer flat_next_lval_layer

abbrev pub fits_lval_layer : VLval-F Bool Bool → Bool
fits_lval_layer (VLval-F.Name name select) = is_name name && fits_option fits_select select
fits_lval_layer (VLval-F.Join open_ first more close) = is_mark (codes "{") open_ && first && list_all (λ fits. fits) more && is_mark (codes "}") close

abbrev pub fits_next_lval_layer : VNextLval-F Bool Bool → Bool
fits_next_lval_layer v = is_mark (codes ",") v.comma && v.lval

abbrev pub fits_lval : VLval → Bool
fits_lval = fold-VLval Bool Bool fits_lval_layer fits_next_lval_layer

abbrev pub fits_next_lval : VNextLval → Bool
fits_next_lval = fold-VNextLval Bool Bool fits_lval_layer fits_next_lval_layer
