-- An expression of the grammar with its names found, its numbers read and its operands sized (IEEE 1364-2005, clause 5).
use Rattle.std.specs.Prelude.{ℕ, ◌+◌, ◌-◌, true, false, ◌||◌, nat_le, if◌then◌else◌, List, ◌∷◌, map, length, bytes_eq, codes, Option, Some, None, Ok, Err}
use Rattle.bit_base.specs.declared.place.Place.{Place}
use Rattle.bit_base.specs.Operators.{is_any}
use Rattle.vlog_tree.specs.declared.fault.VlogCode.TheVariants.{VlogConst}
use Rattle.vlog_tree.specs.Terminals.{level_of}
use Rattle.vlog_tree.specs.declared.tree_expressions.VExpr.{VExpr}
use Rattle.vlog_tree.specs.declared.tree_expressions.VExpr.TheOpen.{VExpr-F, VPrim-F, VSelect-F, VNextExpr-F}
use Rattle.vlog_tree.specs.declared.tree_expressions.VExpr.TheFolds.{fold-VExpr, fold-VPrim, fold-VSelect}
use Rattle.vlog_tree.specs.declared.tree_expressions.VPrim.{VPrim}
use Rattle.vlog_tree.specs.declared.tree_expressions.VSelect.{VSelect}
use Rattle.vlog_tree.specs.declared.tree_expressions.VNextExpr.{VNextExpr}
use Rattle.vlog_values.specs.declared.facts.Facts.{Facts}
use Rattle.vlog_values.specs.declared.facts.Shape.{Shape}
use Rattle.vlog_values.specs.declared.operators.Prefix.{Prefix}
use Rattle.vlog_values.specs.declared.operators.Prefix.TheVariants as P
use Rattle.vlog_values.specs.declared.operators.Infix.{Infix}
use Rattle.vlog_values.specs.declared.operators.Infix.TheVariants as I
use Rattle.vlog_values.specs.declared.operators.Function.{Function}
use Rattle.vlog_values.specs.declared.operators.Function.TheVariants as F
use Rattle.vlog_values.specs.declared.sized.Signal.{Signal}
use Rattle.vlog_values.specs.declared.sized.SizedExpr.{SizedExpr, roll-SizedExpr}
use Rattle.vlog_values.specs.declared.sized.SizedNode.TheVariants as n
use Rattle.vlog_values.specs.declared.sized.SizedPair.{roll-SizedPair}
use Rattle.vlog_values.specs.declared.sized.SizedChoice.{roll-SizedChoice}
use Rattle.vlog_values.specs.declared.sized.SizedRepeat.{roll-SizedRepeat}
use Rattle.vlog_values.specs.Steps.{Outcome, ◌>>=◌, leading}
use Rattle.vlog_values.specs.Places.{no_values}
use Rattle.vlog_values.specs.Outcomes.{constant_of, count_of, count_in, place_in}
use Rattle.vlog_values.specs.Constants.{read}
use Rattle.vlog_const.specs.declared.literal.Literal.{Literal}
use Rattle.vlog_const.specs.declared.names.Named.{Named}
use Rattle.vlog_const.specs.Literals.{literal_of}
use Rattle.vlog_const.specs.Names.{found}
use Rattle.vlog_const.specs.Sizing.{number_facts, missing_facts, name_facts, select_facts, group_facts, prefix_facts, infix_facts, choice_facts, no_parts, parts_from, join_facts, repeat_facts, call_facts, capped}

-- ---- operators by their marks

abbrev pub prefix_of : List ℕ → Prefix
prefix_of w =
    if bytes_eq w (codes "+") then P.Plus else if bytes_eq w (codes "-") then P.Minus else if bytes_eq w (codes "!") then P.LogicalNot
    else if bytes_eq w (codes "~") then P.Not else if bytes_eq w (codes "&") then P.All else if bytes_eq w (codes "~&") then P.NotAll
    else if bytes_eq w (codes "|") then P.Any else if bytes_eq w (codes "~|") then P.NotAny else if bytes_eq w (codes "^") then P.Parity else P.NotParity

abbrev pub arithmetic_of : List ℕ → Infix
arithmetic_of w =
    if bytes_eq w (codes "**") then I.Power else if bytes_eq w (codes "*") then I.Multiply else if bytes_eq w (codes "/") then I.Divide
    else if bytes_eq w (codes "%") then I.Remainder else if bytes_eq w (codes "+") then I.Add else I.Subtract

abbrev pub shift_of : List ℕ → Infix
shift_of w = if bytes_eq w (codes ">>") then I.ShiftRight else if bytes_eq w (codes ">>>") then I.ShiftSigned else I.ShiftLeft

abbrev pub comparison_of : List ℕ → Infix
comparison_of w =
    if bytes_eq w (codes "<") then I.Less else if bytes_eq w (codes "<=") then I.LessEqual else if bytes_eq w (codes ">") then I.Greater
    else if bytes_eq w (codes ">=") then I.GreaterEqual else if bytes_eq w (codes "==") || bytes_eq w (codes "===") then I.Equal else I.NotEqual

abbrev pub bitwise_of : List ℕ → Infix
bitwise_of w =
    if bytes_eq w (codes "&") then I.And else if bytes_eq w (codes "^") then I.Xor else if bytes_eq w (codes "|") then I.Or
    else if bytes_eq w (codes "&&") then I.LogicalAnd else if bytes_eq w (codes "||") then I.LogicalOr else I.Xnor

-- by the level of the operator, from 1 for `**` to 11 for `||`
abbrev pub infix_at : ℕ → List ℕ → Infix
infix_at level w = if nat_le level 3 then arithmetic_of w else if nat_le level 4 then shift_of w else if nat_le level 6 then comparison_of w else bitwise_of w

abbrev pub function_named : List ℕ → Function
function_named w = if bytes_eq w (codes "$clog2") then F.Clog2 else if bytes_eq w (codes "$signed") then F.Signed else F.Unsigned

-- ---- the nodes

abbrev pub number_node : Place → Literal → SizedExpr
number_node place literal = roll-SizedExpr (record { facts = number_facts place literal.size literal.signed literal.sized (is_any literal.unknown); node = n.Number literal.bits literal.unknown })

abbrev pub missing_node : Place → SizedExpr
missing_node place = roll-SizedExpr (record { facts = missing_facts place; node = n.Missing })

abbrev pub signal_of : ℕ → Shape → ℕ → Signal
signal_of net shape lsb = record { net = net; width = shape.size; lsb = lsb }

abbrev pub name_node : Place → Option Named → SizedExpr
name_node place None = missing_node place
name_node place (Some (Named.Constant value)) = roll-SizedExpr (record { facts = name_facts place (record { size = capped (length value.bits); signed = value.signed }) false; node = n.Constant value.bits })
name_node place (Some (Named.Signal net shape lsb)) = roll-SizedExpr (record { facts = name_facts place (record { size = capped shape.size; signed = shape.signed }) true; node = n.Net (signal_of net shape lsb) })

-- a select, of the net that a name means
abbrev pub Selecting : Type 0
Selecting = Place → Signal → SizedExpr

-- a select of a name that isn't a net
abbrev pub signal_in : Option Named → Option Signal
signal_in None = None
signal_in (Some (Named.Constant value)) = None
signal_in (Some (Named.Signal net shape lsb)) = Some (signal_of net shape lsb)

abbrev pub selected_node : Place → Option Signal → Selecting → SizedExpr
selected_node place None select = missing_node place
selected_node place (Some signal) select = select place signal

-- a name, with or without a select
abbrev pub named_node : Place → Option Named → Option Selecting → SizedExpr
named_node place what None = name_node place what
named_node place what (Some select) = selected_node place (signal_in what) select

abbrev pub bit_node : Place → SizedExpr → Selecting
bit_node bracket index place signal = roll-SizedExpr (record { facts = select_facts place (Ok 1) index.facts.has_unknown; node = n.Bit signal bracket index })

-- how many bits stand from one place down to another
abbrev pub width_between : Place → Option ℕ → Option ℕ → Outcome ℕ
width_between bracket None low = Err (leading VlogConst bracket)
width_between bracket (Some high) None = Err (leading VlogConst bracket)
width_between bracket (Some high) (Some low) = if nat_le low high then Ok (high - low + 1) else Err (leading VlogConst bracket)

abbrev pub range_from : Place → Option ℕ → SizedExpr → Outcome ℕ
range_from bracket high low = constant_of (read low) no_values >>= (λ l. width_between bracket high (place_in low.facts l))

abbrev pub range_width : Place → SizedExpr → SizedExpr → Outcome ℕ
range_width bracket high low = constant_of (read high) no_values >>= (λ h. range_from bracket (place_in high.facts h) low)

abbrev pub range_node : Place → SizedExpr → SizedExpr → Selecting
range_node bracket high low place signal = roll-SizedExpr (record { facts = select_facts place (range_width bracket high low) (high.facts.has_unknown || low.facts.has_unknown); node = n.Range signal bracket (roll-SizedPair (record { left = high; right = low })) })

abbrev pub count_outcome : SizedExpr → Outcome ℕ
count_outcome e = count_of (read e) no_values >>= (λ bits. Ok (count_in bits))

abbrev pub upward_node : Place → SizedExpr → SizedExpr → Selecting
upward_node bracket low width place signal = roll-SizedExpr (record { facts = select_facts place (count_outcome width) (low.facts.has_unknown || width.facts.has_unknown); node = n.Upward signal bracket (roll-SizedPair (record { left = low; right = width })) })

abbrev pub group_node : Place → SizedExpr → SizedExpr
group_node place whole = roll-SizedExpr (record { facts = group_facts place whole.facts; node = n.Group whole })

abbrev pub prefix_node : Prefix → Place → SizedExpr → SizedExpr
prefix_node op place operand = roll-SizedExpr (record { facts = prefix_facts op place operand.facts; node = n.Unary op operand })

abbrev pub infix_node : Infix → SizedExpr → SizedExpr → SizedExpr
infix_node op left right = roll-SizedExpr (record { facts = infix_facts op left.facts right.facts; node = n.Binary op (roll-SizedPair (record { left = left; right = right })) })

abbrev pub choice_node : SizedExpr → SizedExpr → SizedExpr → SizedExpr
choice_node test yes_value no_value = roll-SizedExpr (record { facts = choice_facts test.facts yes_value.facts no_value.facts; node = n.Choice (roll-SizedChoice (record { test = test; yes_value = yes_value; no_value = no_value })) })

abbrev pub known_of : List SizedExpr → List Facts
known_of es = map (λ e. e.facts) es

abbrev pub join_node : Place → List SizedExpr → SizedExpr
join_node place parts = roll-SizedExpr (record { facts = join_facts place (parts_from no_parts (known_of parts)); node = n.Join parts })

abbrev pub repeat_node : Place → SizedExpr → List SizedExpr → SizedExpr
repeat_node place count parts = roll-SizedExpr (record { facts = repeat_facts place (count_outcome count) count.facts (parts_from no_parts (known_of parts)); node = n.Repeat (roll-SizedRepeat (record { count = count; parts = parts })) })

abbrev pub call_node : Function → Place → SizedExpr → SizedExpr
call_node function place argument = roll-SizedExpr (record { facts = call_facts function place argument.facts; node = n.Call function argument })

-- ---- the fold over the tree, for the names of a scope

module _ (scope : List (List ℕ × Named)) where
  abbrev pub sized_expr_layer : VExpr-F SizedExpr SizedExpr Selecting SizedExpr → SizedExpr
  sized_expr_layer (VExpr-F.Prim prim) = prim
  sized_expr_layer (VExpr-F.Unary operator operand) = prefix_node (prefix_of operator.text) operator.place operand
  sized_expr_layer (VExpr-F.Binary left operator right) = infix_node (infix_at (level_of operator) operator.text) left right
  sized_expr_layer (VExpr-F.Choice test query yes_value colon no_value) = choice_node test yes_value no_value

  abbrev pub sized_prim_layer : VPrim-F SizedExpr SizedExpr Selecting SizedExpr → SizedExpr
  sized_prim_layer (VPrim-F.Number number) = number_node number.place (literal_of number.text)
  sized_prim_layer (VPrim-F.Name name select) = named_node name.place (found name.text scope) select
  sized_prim_layer (VPrim-F.Group open_ expr close) = group_node open_.place expr
  sized_prim_layer (VPrim-F.Join open_ first more close) = join_node open_.place (first ∷ more)
  sized_prim_layer (VPrim-F.Repeat open_ count inner_open first more inner_close close) = repeat_node open_.place count (first ∷ more)
  sized_prim_layer (VPrim-F.Call function open_ expr close) = call_node (function_named function.text) function.place expr

  abbrev pub sized_select_layer : VSelect-F SizedExpr SizedExpr Selecting SizedExpr → Selecting
  sized_select_layer (VSelect-F.Bit open_ index close) = bit_node open_.place index
  sized_select_layer (VSelect-F.Range open_ high colon low close) = range_node open_.place high low
  sized_select_layer (VSelect-F.Upward open_ low upward width close) = upward_node open_.place low width

  abbrev pub sized_next_layer : VNextExpr-F SizedExpr SizedExpr Selecting SizedExpr → SizedExpr
  sized_next_layer v = v.expr

  unfoldable pub sized_of : VExpr → SizedExpr
  sized_of = fold-VExpr SizedExpr SizedExpr Selecting SizedExpr sized_expr_layer sized_prim_layer sized_select_layer sized_next_layer

  unfoldable pub sized_prim : VPrim → SizedExpr
  sized_prim = fold-VPrim SizedExpr SizedExpr Selecting SizedExpr sized_expr_layer sized_prim_layer sized_select_layer sized_next_layer

  unfoldable pub sized_select : VSelect → Selecting
  sized_select = fold-VSelect SizedExpr SizedExpr Selecting SizedExpr sized_expr_layer sized_prim_layer sized_select_layer sized_next_layer

  -- the expressions behind commas
  abbrev pub sized_next : VNextExpr → SizedExpr
  sized_next v = sized_of v.expr
