-- The tokens of events and statements, part by part, and which of them fit the grammar (IEEE 1364-2005, clause 9, A.6).
use Rattle.std.specs.Prelude.{Bool, true, false, ◌&&◌, not, ◌++◌, nat_le, [], ◌∷◌, map, Some, None, codes}
use Rattle.std.specs.List.{list_all}
use Rattle.vlog_tree.specs.Terminals.{Tokens, is_mark, is_word, is_name, is_edge, is_separator, is_assigning, is_case_word}
use Rattle.vlog_tree.specs.Parts.{flat_option, flat_list, flat_token, joined, fits_option, count_true}
use Rattle.vlog_tree.specs.Expressions.{flat_expr, fits_expr, flat_next_expr, fits_next_expr, flat_lval, fits_lval}
use Rattle.vlog_tree.specs.declared.tree_statements.VEv.{VEv}
use Rattle.vlog_tree.specs.declared.tree_statements.VNextEv.{VNextEv}
use Rattle.vlog_tree.specs.declared.tree_statements.VEvent.{VEvent}
use Rattle.vlog_tree.specs.declared.tree_statements.VLabel.{VLabel}
use Rattle.vlog_tree.specs.declared.tree_statements.VIfHead.{VIfHead}
use Rattle.vlog_tree.specs.declared.tree_statements.VStmt.{VStmt}
use Rattle.vlog_tree.specs.declared.tree_statements.VCitem.TheOpen.{VCitem-F, VStmt-F, VElse-F}
use Rattle.vlog_tree.specs.declared.tree_statements.VCitem.TheFolds.{fold-VCitem, fold-VStmt, fold-VElse}
use Rattle.vlog_tree.specs.declared.tree_statements.VElse.{VElse}
use Rattle.vlog_tree.specs.declared.tree_statements.VCitem.{VCitem}

abbrev pub flat_ev : VEv → Tokens
flat_ev v = flat_option flat_token v.edge ++ (v.name ∷ [])

abbrev pub fits_ev : VEv → Bool
fits_ev v = fits_option is_edge v.edge && is_name v.name

abbrev pub flat_next_ev : VNextEv → Tokens
flat_next_ev v = v.separator ∷ flat_ev v.event

abbrev pub fits_next_ev : VNextEv → Bool
fits_next_ev v = is_separator v.separator && fits_ev v.event

abbrev pub flat_event : VEvent → Tokens
flat_event (VEvent.Any star) = star ∷ []
flat_event (VEvent.AnyInBrackets open_ star close) = open_ ∷ star ∷ close ∷ []
flat_event (VEvent.Listed open_ first more close) = open_ ∷ flat_ev first ++ (flat_list flat_next_ev more ++ (close ∷ []))

abbrev pub fits_event : VEvent → Bool
fits_event (VEvent.Any star) = is_mark (codes "*") star
fits_event (VEvent.AnyInBrackets open_ star close) = is_mark (codes "(") open_ && is_mark (codes "*") star && is_mark (codes ")") close
fits_event (VEvent.Listed open_ first more close) = is_mark (codes "(") open_ && fits_ev first && list_all fits_next_ev more && is_mark (codes ")") close

abbrev pub flat_label : VLabel → Tokens
flat_label v = v.colon ∷ v.name ∷ []

abbrev pub fits_label : VLabel → Bool
fits_label v = is_mark (codes ":") v.colon && is_name v.name

abbrev pub flat_if_head : VIfHead → Tokens
flat_if_head v = v.word ∷ v.open ∷ flat_expr v.test ++ (v.close ∷ [])

abbrev pub fits_if_head : VIfHead → Bool
fits_if_head v = is_word (codes "if") v.word && is_mark (codes "(") v.open && fits_expr v.test && is_mark (codes ")") v.close

abbrev pub flat_citem_layer : VCitem-F Tokens Tokens Tokens → Tokens
flat_citem_layer (VCitem-F.Labels first more colon stmt) = flat_expr first ++ (flat_list flat_next_expr more ++ (colon ∷ stmt))
flat_citem_layer (VCitem-F.Default word colon stmt) = word ∷ flat_option flat_token colon ++ (stmt)

abbrev pub flat_stmt_layer : VStmt-F Tokens Tokens Tokens → Tokens
flat_stmt_layer (VStmt-F.Empty semi) = semi ∷ []
flat_stmt_layer (VStmt-F.Block word label stmts end) = word ∷ flat_option flat_label label ++ (joined stmts ++ (end ∷ []))
flat_stmt_layer (VStmt-F.Assign left mark value semi) = flat_lval left ++ (mark ∷ flat_expr value ++ (semi ∷ []))
flat_stmt_layer (VStmt-F.If head branch other) = flat_if_head head ++ (branch ++ (flat_option (λ ts. ts) other))
flat_stmt_layer (VStmt-F.Case word open_ selector close items end) = word ∷ open_ ∷ flat_expr selector ++ (close ∷ joined items ++ (end ∷ []))

abbrev pub flat_else_layer : VElse-F Tokens Tokens Tokens → Tokens
flat_else_layer v = v.word ∷ v.stmt

abbrev pub flat_citem : VCitem → Tokens
flat_citem = fold-VCitem Tokens Tokens Tokens flat_citem_layer flat_stmt_layer flat_else_layer

abbrev pub flat_stmt : VStmt → Tokens
flat_stmt = fold-VStmt Tokens Tokens Tokens flat_citem_layer flat_stmt_layer flat_else_layer

abbrev pub flat_else : VElse → Tokens
flat_else = fold-VElse Tokens Tokens Tokens flat_citem_layer flat_stmt_layer flat_else_layer

abbrev pub grade_citem_layer : VCitem-F (Bool × Bool) (Bool × Bool) (Bool × Bool) → Bool × Bool
grade_citem_layer (VCitem-F.Labels first more colon stmt) = (fits_expr first && list_all fits_next_expr more && is_mark (codes ":") colon && stmt.0, false)
grade_citem_layer (VCitem-F.Default word colon stmt) = (is_word (codes "default") word && fits_option (is_mark (codes ":")) colon && stmt.0, true)

abbrev pub grade_stmt_layer : VStmt-F (Bool × Bool) (Bool × Bool) (Bool × Bool) → Bool × Bool
grade_stmt_layer (VStmt-F.Empty semi) = (is_mark (codes ";") semi, false)
grade_stmt_layer (VStmt-F.Block word label stmts end) = (is_word (codes "begin") word && fits_option fits_label label && list_all (λ g. g.0) stmts && is_word (codes "end") end, false)
grade_stmt_layer (VStmt-F.Assign left mark value semi) = (fits_lval left && is_assigning mark && fits_expr value && is_mark (codes ";") semi, false)
grade_stmt_layer (VStmt-F.If head branch None) = (fits_if_head head && branch.0, true)
grade_stmt_layer (VStmt-F.If head branch (Some other)) = (fits_if_head head && branch.0 && not branch.1 && other.0, other.1)
grade_stmt_layer (VStmt-F.Case word open_ selector close items end) =
    (is_case_word word && is_mark (codes "(") open_ && fits_expr selector && is_mark (codes ")") close && list_all (λ g. g.0) items && nat_le (count_true (map (λ g. g.1) items)) 1 && is_word (codes "endcase") end, false)

abbrev pub grade_else_layer : VElse-F (Bool × Bool) (Bool × Bool) (Bool × Bool) → Bool × Bool
grade_else_layer v = (is_word (codes "else") v.word && v.stmt.0, v.stmt.1)

abbrev pub grade_citem : VCitem → Bool × Bool
grade_citem = fold-VCitem (Bool × Bool) (Bool × Bool) (Bool × Bool) grade_citem_layer grade_stmt_layer grade_else_layer

abbrev pub grade_stmt : VStmt → Bool × Bool
grade_stmt = fold-VStmt (Bool × Bool) (Bool × Bool) (Bool × Bool) grade_citem_layer grade_stmt_layer grade_else_layer

abbrev pub grade_else : VElse → Bool × Bool
grade_else = fold-VElse (Bool × Bool) (Bool × Bool) (Bool × Bool) grade_citem_layer grade_stmt_layer grade_else_layer

abbrev pub fits_citem : VCitem → Bool
fits_citem v = (grade_citem v).0

abbrev pub fits_stmt : VStmt → Bool
fits_stmt v = (grade_stmt v).0

abbrev pub fits_else : VElse → Bool
fits_else v = (grade_else v).0

-- The statement ends in an `if` without an `else`: the next `else` would be that one's.
abbrev pub ends_open : VStmt → Bool
ends_open v = (grade_stmt v).1
