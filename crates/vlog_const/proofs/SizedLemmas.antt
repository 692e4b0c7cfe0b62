-- What each row of the grammar becomes.
use Rattle.std.proofs.Common.{◌≡◌, ℕ, List, [], ◌∷◌, map, Option, Some, None, refl, sym, ◌∙◌, ap}
use Rattle.vlog_tree.specs.declared.token.VToken.{VToken}
use Rattle.vlog_tree.specs.Terminals.{level_of}
use Rattle.vlog_tree.specs.declared.tree_expressions.VExpr.{VExpr}
use Rattle.vlog_tree.specs.declared.tree_expressions.VExpr.TheVariants as VExpr
use Rattle.vlog_tree.specs.declared.tree_expressions.VPrim.{VPrim}
use Rattle.vlog_tree.specs.declared.tree_expressions.VPrim.TheVariants as VPrim
use Rattle.vlog_tree.specs.declared.tree_expressions.VSelect.{VSelect}
use Rattle.vlog_tree.specs.declared.tree_expressions.VSelect.TheVariants as VSelect
use Rattle.vlog_tree.specs.declared.tree_expressions.VNextExpr.{VNextExpr, out-VNextExpr, roll-out-VNextExpr}
use Rattle.vlog_tree.specs.declared.tree_expressions.VExpr.TheOpen.{VExpr-F, VPrim-F, VSelect-F}
use Rattle.vlog_tree.specs.declared.tree_expressions.VExpr.TheFolds.{fold-VNextExpr, fold-roll-VExpr, fold-roll-VPrim, fold-roll-VSelect, fold-roll-VNextExpr}
use Rattle.std.specs.Prelude.{option_map}
use Rattle.vlog_values.specs.declared.sized.SizedExpr.{SizedExpr}
use Rattle.vlog_const.specs.declared.names.Named.{Named}
use Rattle.vlog_const.specs.Names.{found}
use Rattle.vlog_const.specs.Literals.{literal_of}
use Rattle.vlog_const.specs.Sized.{Selecting, prefix_of, infix_at, function_named, number_node, named_node, bit_node, range_node, upward_node, group_node, prefix_node, infix_node, choice_node, join_node, repeat_node, call_node, sized_expr_layer, sized_prim_layer, sized_select_layer, sized_next_layer, sized_of, sized_prim, sized_select, sized_next}

module _ (scope : List (List ℕ × Named)) where
  pub expr_Prim : (e : VExpr) (prim : VPrim) → e ≡ VExpr.Prim prim → sized_of scope e ≡ sized_prim scope prim
  unfolding sized_of sized_prim sized_select
  expr_Prim e prim q = ap (sized_of scope) q ∙ ap (sized_of scope) (sym (VExpr.rolls-Prim prim)) ∙ fold-roll-VExpr SizedExpr SizedExpr Selecting SizedExpr (sized_expr_layer scope) (sized_prim_layer scope) (sized_select_layer scope) (sized_next_layer scope) (VExpr-F.Prim prim)

  pub expr_Unary : (e : VExpr) (operator : VToken) (operand : VExpr) → e ≡ VExpr.Unary operator operand → sized_of scope e ≡ prefix_node (prefix_of operator.text) operator.place (sized_of scope operand)
  unfolding sized_of sized_prim sized_select
  expr_Unary e operator operand q = ap (sized_of scope) q ∙ ap (sized_of scope) (sym (VExpr.rolls-Unary operator operand)) ∙ fold-roll-VExpr SizedExpr SizedExpr Selecting SizedExpr (sized_expr_layer scope) (sized_prim_layer scope) (sized_select_layer scope) (sized_next_layer scope) (VExpr-F.Unary operator operand)

  pub expr_Binary : (e : VExpr) (left : VExpr) (operator : VToken) (right : VExpr) → e ≡ VExpr.Binary left operator right → sized_of scope e ≡ infix_node (infix_at (level_of operator) operator.text) (sized_of scope left) (sized_of scope right)
  unfolding sized_of sized_prim sized_select
  expr_Binary e left operator right q = ap (sized_of scope) q ∙ ap (sized_of scope) (sym (VExpr.rolls-Binary left operator right)) ∙ fold-roll-VExpr SizedExpr SizedExpr Selecting SizedExpr (sized_expr_layer scope) (sized_prim_layer scope) (sized_select_layer scope) (sized_next_layer scope) (VExpr-F.Binary left operator right)

  pub expr_Choice : (e : VExpr) (test : VExpr) (query : VToken) (yes_value : VExpr) (colon : VToken) (no_value : VExpr) → e ≡ VExpr.Choice test query yes_value colon no_value → sized_of scope e ≡ choice_node (sized_of scope test) (sized_of scope yes_value) (sized_of scope no_value)
  unfolding sized_of sized_prim sized_select
  expr_Choice e test query yes_value colon no_value q = ap (sized_of scope) q ∙ ap (sized_of scope) (sym (VExpr.rolls-Choice test query yes_value colon no_value)) ∙ fold-roll-VExpr SizedExpr SizedExpr Selecting SizedExpr (sized_expr_layer scope) (sized_prim_layer scope) (sized_select_layer scope) (sized_next_layer scope) (VExpr-F.Choice test query yes_value colon no_value)

  next_of : VNextExpr → SizedExpr
  next_of = fold-VNextExpr SizedExpr SizedExpr Selecting SizedExpr (sized_expr_layer scope) (sized_prim_layer scope) (sized_select_layer scope) (sized_next_layer scope)

  next_is : (v : VNextExpr) → next_of v ≡ sized_next scope v
  unfolding next_of sized_of
  next_is v = ap next_of (sym (roll-out-VNextExpr v)) ∙ fold-roll-VNextExpr SizedExpr SizedExpr Selecting SizedExpr (sized_expr_layer scope) (sized_prim_layer scope) (sized_select_layer scope) (sized_next_layer scope) (out-VNextExpr v)

  all_next : (more : List VNextExpr) → map next_of more ≡ map (sized_next scope) more
  all_next [] = refl
  all_next (v ∷ more) = λ i. next_is v i ∷ all_next more i

  pub prim_Number : (e : VPrim) (number : VToken) → e ≡ VPrim.Number number → sized_prim scope e ≡ number_node number.place (literal_of number.text)
  unfolding sized_of sized_prim sized_select
  prim_Number e number q = ap (sized_prim scope) q ∙ ap (sized_prim scope) (sym (VPrim.rolls-Number number)) ∙ fold-roll-VPrim SizedExpr SizedExpr Selecting SizedExpr (sized_expr_layer scope) (sized_prim_layer scope) (sized_select_layer scope) (sized_next_layer scope) (VPrim-F.Number number)

  pub prim_Name : (e : VPrim) (name : VToken) (select : Option VSelect) → e ≡ VPrim.Name name select → sized_prim scope e ≡ named_node name.place (found name.text scope) (option_map (sized_select scope) select)
  unfolding sized_of sized_prim sized_select
  prim_Name e name None q = ap (sized_prim scope) q ∙ ap (sized_prim scope) (sym (VPrim.rolls-Name name None)) ∙ fold-roll-VPrim SizedExpr SizedExpr Selecting SizedExpr (sized_expr_layer scope) (sized_prim_layer scope) (sized_select_layer scope) (sized_next_layer scope) (VPrim-F.Name name None)
  prim_Name e name (Some select) q = ap (sized_prim scope) q ∙ ap (sized_prim scope) (sym (VPrim.rolls-Name name (Some select))) ∙ fold-roll-VPrim SizedExpr SizedExpr Selecting SizedExpr (sized_expr_layer scope) (sized_prim_layer scope) (sized_select_layer scope) (sized_next_layer scope) (VPrim-F.Name name (Some select))

  pub prim_Group : (e : VPrim) (open_ : VToken) (expr : VExpr) (close : VToken) → e ≡ VPrim.Group open_ expr close → sized_prim scope e ≡ group_node open_.place (sized_of scope expr)
  unfolding sized_of sized_prim sized_select
  prim_Group e open_ expr close q = ap (sized_prim scope) q ∙ ap (sized_prim scope) (sym (VPrim.rolls-Group open_ expr close)) ∙ fold-roll-VPrim SizedExpr SizedExpr Selecting SizedExpr (sized_expr_layer scope) (sized_prim_layer scope) (sized_select_layer scope) (sized_next_layer scope) (VPrim-F.Group open_ expr close)

  pub prim_Join : (e : VPrim) (open_ : VToken) (first : VExpr) (more : List VNextExpr) (close : VToken) → e ≡ VPrim.Join open_ first more close → sized_prim scope e ≡ join_node open_.place (sized_of scope first ∷ map (sized_next scope) more)
  unfolding sized_of sized_prim sized_select next_of
  prim_Join e open_ first more close q = ap (sized_prim scope) q ∙ ap (sized_prim scope) (sym (VPrim.rolls-Join open_ first more close)) ∙ fold-roll-VPrim SizedExpr SizedExpr Selecting SizedExpr (sized_expr_layer scope) (sized_prim_layer scope) (sized_select_layer scope) (sized_next_layer scope) (VPrim-F.Join open_ first more close) ∙ ap (λ l. join_node open_.place (sized_of scope first ∷ l)) (all_next more)

  pub prim_Repeat : (e : VPrim) (open_ : VToken) (count : VExpr) (inner_open : VToken) (first : VExpr) (more : List VNextExpr) (inner_close : VToken) (close : VToken) → e ≡ VPrim.Repeat open_ count inner_open first more inner_close close → sized_prim scope e ≡ repeat_node open_.place (sized_of scope count) (sized_of scope first ∷ map (sized_next scope) more)
  unfolding sized_of sized_prim sized_select next_of
  prim_Repeat e open_ count inner_open first more inner_close close q = ap (sized_prim scope) q ∙ ap (sized_prim scope) (sym (VPrim.rolls-Repeat open_ count inner_open first more inner_close close)) ∙ fold-roll-VPrim SizedExpr SizedExpr Selecting SizedExpr (sized_expr_layer scope) (sized_prim_layer scope) (sized_select_layer scope) (sized_next_layer scope) (VPrim-F.Repeat open_ count inner_open first more inner_close close) ∙ ap (λ l. repeat_node open_.place (sized_of scope count) (sized_of scope first ∷ l)) (all_next more)

  pub prim_Call : (e : VPrim) (function : VToken) (open_ : VToken) (expr : VExpr) (close : VToken) → e ≡ VPrim.Call function open_ expr close → sized_prim scope e ≡ call_node (function_named function.text) function.place (sized_of scope expr)
  unfolding sized_of sized_prim sized_select
  prim_Call e function open_ expr close q = ap (sized_prim scope) q ∙ ap (sized_prim scope) (sym (VPrim.rolls-Call function open_ expr close)) ∙ fold-roll-VPrim SizedExpr SizedExpr Selecting SizedExpr (sized_expr_layer scope) (sized_prim_layer scope) (sized_select_layer scope) (sized_next_layer scope) (VPrim-F.Call function open_ expr close)

  pub select_Bit : (e : VSelect) (open_ : VToken) (index : VExpr) (close : VToken) → e ≡ VSelect.Bit open_ index close → sized_select scope e ≡ bit_node open_.place (sized_of scope index)
  unfolding sized_of sized_prim sized_select
  select_Bit e open_ index close q = ap (sized_select scope) q ∙ ap (sized_select scope) (sym (VSelect.rolls-Bit open_ index close)) ∙ fold-roll-VSelect SizedExpr SizedExpr Selecting SizedExpr (sized_expr_layer scope) (sized_prim_layer scope) (sized_select_layer scope) (sized_next_layer scope) (VSelect-F.Bit open_ index close)

  pub select_Range : (e : VSelect) (open_ : VToken) (high : VExpr) (colon : VToken) (low : VExpr) (close : VToken) → e ≡ VSelect.Range open_ high colon low close → sized_select scope e ≡ range_node open_.place (sized_of scope high) (sized_of scope low)
  unfolding sized_of sized_prim sized_select
  select_Range e open_ high colon low close q = ap (sized_select scope) q ∙ ap (sized_select scope) (sym (VSelect.rolls-Range open_ high colon low close)) ∙ fold-roll-VSelect SizedExpr SizedExpr Selecting SizedExpr (sized_expr_layer scope) (sized_prim_layer scope) (sized_select_layer scope) (sized_next_layer scope) (VSelect-F.Range open_ high colon low close)

  pub select_Upward : (e : VSelect) (open_ : VToken) (low : VExpr) (upward : VToken) (width : VExpr) (close : VToken) → e ≡ VSelect.Upward open_ low upward width close → sized_select scope e ≡ upward_node open_.place (sized_of scope low) (sized_of scope width)
  unfolding sized_of sized_prim sized_select
  select_Upward e open_ low upward width close q = ap (sized_select scope) q ∙ ap (sized_select scope) (sym (VSelect.rolls-Upward open_ low upward width close)) ∙ fold-roll-VSelect SizedExpr SizedExpr Selecting SizedExpr (sized_expr_layer scope) (sized_prim_layer scope) (sized_select_layer scope) (sized_next_layer scope) (VSelect-F.Upward open_ low upward width close)
