-- The rows of expressions and left sides as functions on lists of tokens. Each choice goes by the next token.
use Rattle.std.specs.Prelude.{Bool, true, false, ◌||◌, ◌++◌, ℕ, zero, suc, List, [], ◌∷◌, Option, Some, None, ◌⊎◌, codes}
use Rattle.std.proofs.Common.{inl, inr}
use Rattle.parsing.specs.Parser.{Parser, seq, form, expect, on, optional, many, sunk, finish}
use Rattle.vlog_tree.specs.declared.token.VToken.{VToken}
use Rattle.vlog_tree.specs.Terminals.{is_mark, is_word, is_name, is_number, is_function, is_unary, is_level, is_edge, is_separator, is_assigning, is_case_word, is_constant_word}
use Rattle.vlog_tree.specs.declared.tree_expressions.VExpr.{VExpr}
use Rattle.vlog_tree.specs.declared.tree_expressions.VExpr.TheVariants as VExpr
use Rattle.vlog_tree.specs.declared.tree_expressions.VPrim.{VPrim}
use Rattle.vlog_tree.specs.declared.tree_expressions.VPrim.TheVariants as VPrim
use Rattle.vlog_tree.specs.declared.tree_expressions.VSelect.{VSelect}
use Rattle.vlog_tree.specs.declared.tree_expressions.VSelect.TheVariants as VSelect
use Rattle.vlog_tree.specs.declared.tree_expressions.VNextExpr.{VNextExpr, roll-VNextExpr}
use Rattle.vlog_tree.specs.declared.tree_expressions.VLval.{VLval}
use Rattle.vlog_tree.specs.declared.tree_expressions.VLval.TheVariants as VLval
use Rattle.vlog_tree.specs.declared.tree_expressions.VNextLval.{VNextLval, roll-VNextLval}

abbrev pub Reader : Type 0 → Type 0
Reader A = Parser VToken A

abbrev pub mark : List ℕ → Reader VToken
mark bytes = expect (is_mark bytes)

abbrev pub word : List ℕ → Reader VToken
word bytes = expect (is_word bytes)

unfoldable pub begins_expr : VToken → Bool
begins_expr t = is_number t || is_name t || is_mark (codes "(") t || is_mark (codes "{") t || is_function t || is_unary t

unfoldable pub begins_lval : VToken → Bool
begins_lval t = is_name t || is_mark (codes "{") t

-- ---- what stands in an expression, whose own expressions are read by `inner`

unfoldable pub next_expr : Reader VExpr → Reader VNextExpr
next_expr inner = form (λ p. roll-VNextExpr (record { comma = p.0; expr = p.1 })) (seq (mark (codes ",")) (λ _. inner))

unfoldable pub next_exprs : Reader VExpr → Reader (List VNextExpr)
next_exprs inner = many (is_mark (codes ",")) (next_expr inner)

abbrev pub SelectEnd : Type 0
SelectEnd = (VToken × (VExpr × VToken)) ⊎ ((VToken × (VExpr × VToken)) ⊎ VToken)

abbrev pub select_from : VToken × (VExpr × SelectEnd) → VSelect
select_from (open_, (first, inl (colon, (low, close)))) = VSelect.Range open_ first colon low close
select_from (open_, (first, inr (inl (upward, (width, close))))) = VSelect.Upward open_ first upward width close
select_from (open_, (first, inr (inr close))) = VSelect.Bit open_ first close

-- after the first expression: `:` or `+:` and another, or the end
unfoldable pub select_end : Reader VExpr → Reader SelectEnd
select_end inner =
    on (is_mark (codes ":")) (form inl (seq (mark (codes ":")) (λ _. seq inner (λ _. mark (codes "]")))))
    (on (is_mark (codes "+:")) (form (λ p. inr (inl p)) (seq (mark (codes "+:")) (λ _. seq inner (λ _. mark (codes "]"))))) (form (λ p. inr (inr p)) (mark (codes "]"))))

unfoldable pub select : Reader VExpr → Reader VSelect
select inner = form select_from (seq (mark (codes "[")) (λ _. seq inner (λ _. select_end inner)))

unfoldable pub any_select : Reader VExpr → Reader (Option VSelect)
any_select inner = optional (is_mark (codes "[")) (select inner)

abbrev pub BracedEnd : Type 0
BracedEnd = (VToken × (VExpr × (List VNextExpr × (VToken × VToken)))) ⊎ (List VNextExpr × VToken)

abbrev pub braced_from : VToken × (VExpr × BracedEnd) → VPrim
braced_from (open_, (count, inl (inner_open, (first, (more, (inner_close, close)))))) = VPrim.Repeat open_ count inner_open first more inner_close close
braced_from (open_, (first, inr (more, close))) = VPrim.Join open_ first more close

-- after the first expression: a replication's parts, or a join's further parts
unfoldable pub braced_end : Reader VExpr → Reader BracedEnd
braced_end inner =
    on (is_mark (codes "{"))
    (form inl (seq (mark (codes "{")) (λ _. seq inner (λ _. seq (next_exprs inner) (λ _. seq (mark (codes "}")) (λ _. mark (codes "}")))))))
    (form inr (seq (next_exprs inner) (λ _. mark (codes "}"))))

unfoldable pub braced : Reader VExpr → Reader VPrim
braced inner = form braced_from (seq (mark (codes "{")) (λ _. seq inner (λ _. braced_end inner)))

unfoldable pub named : Reader VExpr → Reader VPrim
named inner = form (λ p. VPrim.Name p.0 p.1) (seq (expect is_name) (λ _. any_select inner))

unfoldable pub group : Reader VExpr → Reader VPrim
group inner = form (λ p. VPrim.Group p.0 p.1.0 p.1.1) (seq (mark (codes "(")) (λ _. seq inner (λ _. mark (codes ")"))))

unfoldable pub call : Reader VExpr → Reader VPrim
call inner =
    form (λ p. VPrim.Call p.0 p.1.0 p.1.1.0 p.1.1.1)
    (seq (expect is_function) (λ _. seq (mark (codes "(")) (λ _. seq inner (λ _. mark (codes ")")))))

unfoldable pub prim : Reader VExpr → Reader VPrim
prim inner =
    on is_number (form VPrim.Number (expect is_number)) (on is_name (named inner) (on (is_mark (codes "(")) (group inner) (on (is_mark (codes "{")) (braced inner) (call inner))))

-- ---- the levels of operators

-- an operand: the operand of a unary operator is read by `again`
unfoldable pub operand_of : Reader VExpr → Reader VExpr → Reader VExpr
operand_of again inner =
    on is_unary (form (λ p. VExpr.Unary p.0 p.1) (seq (expect is_unary) (λ _. again))) (form VExpr.Prim (prim inner))

-- operands with operators between them, to the left
abbrev pub chain : VExpr → List (VToken × VExpr) → VExpr
chain left [] = left
chain left (step ∷ steps) = chain (VExpr.Binary left step.0 step.1) steps

unfoldable pub step : ℕ → Reader VExpr → Reader (VToken × VExpr)
step level operand = seq (expect (is_level level)) (λ _. operand)

unfoldable pub chained : ℕ → Reader VExpr → Reader VExpr
chained level operand = form (λ p. chain p.0 p.1) (seq operand (λ _. many (is_level level) (step level operand)))

-- expressions whose operators are of this level and tighter ones
unfoldable pub upto : Reader VExpr → ℕ → Reader VExpr
upto operand zero = operand
upto operand (suc level) = chained (suc level) (upto operand level)

abbrev pub choice_from : VExpr × Option (VToken × (VExpr × (VToken × VExpr))) → VExpr
choice_from (test, None) = test
choice_from (test, Some (query, (yes_value, (colon, no_value)))) = VExpr.Choice test query yes_value colon no_value

unfoldable pub choice : Reader VExpr → Reader VExpr → Reader VExpr
choice test inner =
    form choice_from (seq test (λ _. optional (is_mark (codes "?")) (seq (mark (codes "?")) (λ _. seq inner (λ _. seq (mark (codes ":")) (λ _. inner))))))

-- operands and expressions that nest down to so many levels
unfoldable mutual
  pub operand : ℕ → Reader VExpr
  operand zero = sunk
  operand (suc room) = operand_of (operand room) (expr room)

  pub expr : ℕ → Reader VExpr
  expr zero = sunk
  expr (suc room) = choice (upto (operand_of (operand room) (expr room)) 11) (expr room)

-- ---- left sides

unfoldable pub next_lval : Reader VLval → Reader VNextLval
next_lval inner = form (λ p. roll-VNextLval (record { comma = p.0; lval = p.1 })) (seq (mark (codes ",")) (λ _. inner))

unfoldable pub next_lvals : Reader VLval → Reader (List VNextLval)
next_lvals inner = many (is_mark (codes ",")) (next_lval inner)

unfoldable pub lval_join : Reader VLval → Reader VLval
lval_join inner =
    form (λ p. VLval.Join p.0 p.1.0 p.1.1.0 p.1.1.1) (seq (mark (codes "{")) (λ _. seq inner (λ _. seq (next_lvals inner) (λ _. mark (codes "}")))))

unfoldable pub lval_name : Reader VExpr → Reader VLval
lval_name index = form (λ p. VLval.Name p.0 p.1) (seq (expect is_name) (λ _. any_select index))

unfoldable pub lval : ℕ → Reader VLval
lval zero = sunk
lval (suc room) = on is_name (lval_name (expr room)) (lval_join (lval room))
