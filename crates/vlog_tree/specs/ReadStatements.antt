-- The rows of events and statements as functions on lists of tokens.
use Rattle.std.specs.Prelude.{Bool, true, false, ◌||◌, ◌++◌, ℕ, zero, suc, List, [], ◌∷◌, Option, Some, None, Result, Ok, Err, ◌⊎◌, codes}
use Rattle.std.proofs.Common.{inl, inr}
use Rattle.parsing.specs.Parser.{Parser, seq, form, expect, on, optional, many, sunk, finish}
use Rattle.vlog_tree.specs.declared.token.VToken.{VToken}
use Rattle.vlog_tree.specs.Terminals.{is_mark, is_word, is_name, is_number, is_function, is_unary, is_level, is_edge, is_separator, is_assigning, is_case_word, is_constant_word}
use Rattle.vlog_tree.specs.declared.tree_statements.VEv.{VEv}
use Rattle.vlog_tree.specs.declared.tree_statements.VNextEv.{VNextEv}
use Rattle.vlog_tree.specs.declared.tree_statements.VEvent.{VEvent}
use Rattle.vlog_tree.specs.declared.tree_statements.VEvent.TheVariants as VEvent
use Rattle.vlog_tree.specs.declared.tree_statements.VLabel.{VLabel}
use Rattle.vlog_tree.specs.declared.tree_statements.VIfHead.{VIfHead}
use Rattle.vlog_tree.specs.declared.tree_statements.VStmt.{VStmt}
use Rattle.vlog_tree.specs.declared.tree_statements.VStmt.TheVariants as VStmt
use Rattle.vlog_tree.specs.declared.tree_statements.VElse.{VElse, roll-VElse}
use Rattle.vlog_tree.specs.declared.tree_statements.VCitem.{VCitem}
use Rattle.vlog_tree.specs.declared.tree_statements.VCitem.TheVariants as VCitem
use Rattle.vlog_tree.specs.declared.tree_expressions.VExpr.{VExpr}
use Rattle.vlog_tree.specs.declared.tree_expressions.VExpr.TheVariants as VExpr
use Rattle.vlog_tree.specs.declared.tree_expressions.VLval.{VLval}
use Rattle.vlog_tree.specs.declared.tree_expressions.VLval.TheVariants as VLval
use Rattle.vlog_tree.specs.declared.tree_expressions.VNextExpr.{VNextExpr, roll-VNextExpr}
use Rattle.std.specs.Prelude.{cond}
use Rattle.vlog_tree.specs.Statements.{ends_open}
use Rattle.vlog_tree.specs.ReadExpressions.{Reader, mark, word, expr, lval, next_exprs, begins_expr, begins_lval}

-- ---- events

unfoldable pub ev : Reader VEv
ev = form (λ p. record { edge = p.0; name = p.1 }) (seq (optional is_edge (expect is_edge)) (λ _. (expect is_name)))

unfoldable pub next_ev : Reader VNextEv
next_ev = form (λ p. record { separator = p.0; event = p.1 }) (seq (expect is_separator) (λ _. ev))

unfoldable pub next_evs : Reader (List VNextEv)
next_evs = many is_separator next_ev

abbrev pub EventEnd : Type 0
EventEnd = (VToken × VToken) ⊎ (VEv × (List VNextEv × VToken))

abbrev pub event_from : VToken × EventEnd → VEvent
event_from (open_, inl (star, close)) = VEvent.AnyInBrackets open_ star close
event_from (open_, inr (first, (more, close))) = VEvent.Listed open_ first more close

unfoldable pub event_end : Reader EventEnd
event_end =
    on (is_mark (codes "*")) (form inl (seq (mark (codes "*")) (λ _. mark (codes ")")))) (form inr (seq ev (λ _. seq next_evs (λ _. mark (codes ")")))))

unfoldable pub event : Reader VEvent
event = on (is_mark (codes "*")) (form VEvent.Any (mark (codes "*"))) (form event_from (seq (mark (codes "(")) (λ _. event_end)))

-- ---- statements, whose own statements are read by `inner`

unfoldable pub label : Reader VLabel
label = form (λ p. record { colon = p.0; name = p.1 }) (seq (mark (codes ":")) (λ _. (expect is_name)))

unfoldable pub if_head : ℕ → Reader VIfHead
if_head room = form (λ p. record { word = p.0; «open» = p.1.0; test = p.1.1.0; close = p.1.1.1 }) (seq (word (codes "if")) (λ _. (seq (mark (codes "(")) (λ _. (seq (expr room) (λ _. (mark (codes ")"))))))))

unfoldable pub any_label : Reader (Option VLabel)
any_label = optional (is_mark (codes ":")) label

unfoldable pub begins_stmt : VToken → Bool
begins_stmt t = is_mark (codes ";") t || is_word (codes "begin") t || begins_lval t || is_word (codes "if") t || is_case_word t

unfoldable pub stmts : Reader VStmt → Reader (List VStmt)
stmts inner = many begins_stmt inner

unfoldable pub block : Reader VStmt → Reader VStmt
block inner =
    form (λ p. VStmt.Block p.0 p.1.0 p.1.1.0 p.1.1.1) (seq (word (codes "begin")) (λ _. seq any_label (λ _. seq (stmts inner) (λ _. word (codes "end")))))

unfoldable pub assign : ℕ → Reader VStmt
assign room =
    form (λ p. VStmt.Assign p.0 p.1.0 p.1.1.0 p.1.1.1) (seq (lval room) (λ _. seq (expect is_assigning) (λ _. seq (expr room) (λ _. mark (codes ";")))))

unfoldable pub else_part : Reader VStmt → Reader VElse
else_part inner = form (λ p. roll-VElse (record { word = p.0; stmt = p.1 })) (seq (word (codes "else")) (λ _. inner))

-- an `else` after this statement is of the `if` before it, where the statement doesn't end in an `if` without one
unfoldable pub any_else : Reader VStmt → VStmt → Reader (Option VElse)
any_else inner branch = cond (ends_open branch) (λ ts. Ok (None, ts)) (optional (is_word (codes "else")) (else_part inner))

unfoldable pub branches : Reader VStmt → Reader (VStmt × Option VElse)
branches inner = seq inner (λ branch. any_else inner branch)

unfoldable pub conditional : ℕ → Reader VStmt → Reader VStmt
conditional room inner = form (λ p. VStmt.If p.0 p.1.0 p.1.1) (seq (if_head room) (λ _. branches inner))

unfoldable pub labelled : ℕ → Reader VStmt → Reader VCitem
labelled room inner =
    form (λ p. VCitem.Labels p.0 p.1.0 p.1.1.0 p.1.1.1)
    (seq (expr room) (λ _. seq (next_exprs (expr room)) (λ _. seq (mark (codes ":")) (λ _. inner))))

unfoldable pub all_labelled : ℕ → Reader VStmt → Reader (List VCitem)
all_labelled room inner = many begins_expr (labelled room inner)

unfoldable pub default_item : Reader VStmt → Reader VCitem
default_item inner =
    form (λ p. VCitem.Default p.0 p.1.0 p.1.1)
    (seq (word (codes "default")) (λ _. seq (optional (is_mark (codes ":")) (mark (codes ":"))) (λ _. inner)))

unfoldable pub default_and_more : ℕ → Reader VStmt → Reader (VCitem × List VCitem)
default_and_more room inner = seq (default_item inner) (λ _. all_labelled room inner)

abbrev pub citems_from : List VCitem × Option (VCitem × List VCitem) → List VCitem
citems_from (before, None) = before
citems_from (before, Some (item, after)) = before ++ (item ∷ []) ++ after

-- at most one default
unfoldable pub citems : ℕ → Reader VStmt → Reader (List VCitem)
citems room inner = form citems_from (seq (all_labelled room inner) (λ _. optional (is_word (codes "default")) (default_and_more room inner)))

unfoldable pub cases : ℕ → Reader VStmt → Reader VStmt
cases room inner =
    form (λ p. VStmt.Case p.0 p.1.0 p.1.1.0 p.1.1.1.0 p.1.1.1.1.0 p.1.1.1.1.1)
    (seq (expect is_case_word) (λ _. seq (mark (codes "(")) (λ _. seq (expr room) (λ _. seq (mark (codes ")")) (λ _. seq (citems room inner) (λ _. word (codes "endcase")))))))

unfoldable pub stmt_of : ℕ → Reader VStmt → Reader VStmt
stmt_of room inner =
    on (is_mark (codes ";")) (form VStmt.Empty (mark (codes ";"))) (on (is_word (codes "begin")) (block inner) (on (is_word (codes "if")) (conditional room inner)
    (on is_case_word (cases room inner) (assign room))))

unfoldable pub stmt : ℕ → Reader VStmt
stmt zero = sunk
stmt (suc room) = stmt_of (suc room) (stmt room)
