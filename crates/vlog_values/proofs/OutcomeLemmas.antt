-- What each kind of node comes to.
use Rattle.std.proofs.Common.{◌≡◌, Bool, List, [], ◌∷◌, map, Option, refl, sym, ◌∙◌, ap}
use Rattle.bit_base.specs.declared.place.Place.{Place}
use Rattle.vlog_values.specs.declared.facts.Shape.{Shape}
use Rattle.vlog_values.specs.declared.operators.Prefix.{Prefix}
use Rattle.vlog_values.specs.declared.operators.Infix.{Infix}
use Rattle.vlog_values.specs.declared.operators.Function.{Function}
use Rattle.vlog_values.specs.declared.sized.Signal.{Signal}
use Rattle.vlog_values.specs.declared.sized.SizedExpr.{SizedExpr, out-SizedExpr, roll-out-SizedExpr}
use Rattle.vlog_values.specs.declared.sized.SizedNode.{SizedNode}
use Rattle.vlog_values.specs.declared.sized.SizedNode.TheVariants as n
use Rattle.vlog_values.specs.declared.sized.SizedPair.{SizedPair, out-SizedPair, roll-out-SizedPair}
use Rattle.vlog_values.specs.declared.sized.SizedChoice.{SizedChoice, out-SizedChoice, roll-out-SizedChoice}
use Rattle.vlog_values.specs.declared.sized.SizedRepeat.{SizedRepeat, out-SizedRepeat, roll-out-SizedRepeat}
use Rattle.vlog_values.specs.declared.sized.SizedNode.TheOpen.{SizedNode-F}
use Rattle.vlog_values.specs.declared.sized.SizedNode.TheFolds.{fold-SizedNode, fold-SizedPair, fold-SizedChoice, fold-SizedRepeat, fold-roll-SizedExpr, fold-roll-SizedNode, fold-roll-SizedPair, fold-roll-SizedChoice, fold-roll-SizedRepeat}
use Rattle.vlog_values.specs.Places.{no_values}
use Rattle.vlog_values.specs.Outcomes.{Reading, NodeReading, Pair, Three, Counted, node_layer, expr_layer, pair_layer, choice_layer, repeat_layer, reading_of}
use Rattle.vlog_values.specs.Constants.{read, constant_in, constant_site}

node_of : SizedNode → NodeReading
node_of = fold-SizedNode NodeReading Three Reading Pair Counted node_layer choice_layer expr_layer pair_layer repeat_layer

pair_of : SizedPair → Pair
pair_of = fold-SizedPair NodeReading Three Reading Pair Counted node_layer choice_layer expr_layer pair_layer repeat_layer

reading_is : (e : SizedExpr) → reading_of e ≡ record { facts = e.facts; comes_to = node_of e.node e.facts }
unfolding reading_of node_of
reading_is e = ap reading_of (sym (roll-out-SizedExpr e)) ∙ fold-roll-SizedExpr NodeReading Three Reading Pair Counted node_layer choice_layer expr_layer pair_layer repeat_layer (out-SizedExpr e)

-- what stands on an expression sees its facts as they are
pub read_is : (e : SizedExpr) → reading_of e ≡ read e
read_is e = ap (λ f. let r : Reading = record { facts = f; comes_to = (reading_of e).comes_to } in r) (ap (λ r. r.facts) (reading_is e))

pair_is : (p : SizedPair) → pair_of p ≡ (read p.left, read p.right)
unfolding pair_of reading_of
pair_is p =
    ap pair_of (sym (roll-out-SizedPair p)) ∙ fold-roll-SizedPair NodeReading Three Reading Pair Counted node_layer choice_layer expr_layer pair_layer repeat_layer (out-SizedPair p)
    ∙ (λ i. (read_is p.left i, read_is p.right i))

choice_of : SizedChoice → Three
choice_of = fold-SizedChoice NodeReading Three Reading Pair Counted node_layer choice_layer expr_layer pair_layer repeat_layer

choice_is : (p : SizedChoice) → choice_of p ≡ (read p.test, read p.yes_value, read p.no_value)
unfolding choice_of reading_of
choice_is p =
    ap choice_of (sym (roll-out-SizedChoice p)) ∙ fold-roll-SizedChoice NodeReading Three Reading Pair Counted node_layer choice_layer expr_layer pair_layer repeat_layer (out-SizedChoice p)
    ∙ (λ i. (read_is p.test i, read_is p.yes_value i, read_is p.no_value i))

all_read : (es : List SizedExpr) → map reading_of es ≡ map read es
all_read [] = refl
all_read (e ∷ es) = λ i. read_is e i ∷ all_read es i

repeat_of : SizedRepeat → Counted
repeat_of = fold-SizedRepeat NodeReading Three Reading Pair Counted node_layer choice_layer expr_layer pair_layer repeat_layer

repeat_is : (p : SizedRepeat) → repeat_of p ≡ (read (out-SizedRepeat p).count, map read (out-SizedRepeat p).parts)
unfolding repeat_of reading_of
repeat_is p =
    ap repeat_of (sym (roll-out-SizedRepeat p)) ∙ fold-roll-SizedRepeat NodeReading Three Reading Pair Counted node_layer choice_layer expr_layer pair_layer repeat_layer (out-SizedRepeat p)
    ∙ (λ i. (read_is (out-SizedRepeat p).count i, all_read (out-SizedRepeat p).parts i))

-- what an expression comes to is what its node does
comes_as : (context : Option Shape) (e : SizedExpr) (x : SizedNode) (l : SizedNode-F NodeReading Three Reading Pair Counted) → e.node ≡ x → node_of x ≡ node_layer l → constant_in context e ≡ node_layer l e.facts no_values (constant_site context)
comes_as context e x l q is =
    ap (λ r. r.comes_to no_values (constant_site context)) (reading_is e)
    ∙ ap (λ x. node_of x e.facts no_values (constant_site context)) q
    ∙ ap (λ r. r e.facts no_values (constant_site context)) is

pub value_Missing : (context : Option Shape) (e : SizedExpr) → e.node ≡ n.Missing → constant_in context e ≡ node_layer (SizedNode-F.Missing) e.facts no_values (constant_site context)
unfolding node_of reading_of pair_of choice_of repeat_of
value_Missing context e q = comes_as context e (n.Missing) (SizedNode-F.Missing) q (ap node_of (sym (n.rolls-Missing)) ∙ fold-roll-SizedNode NodeReading Three Reading Pair Counted node_layer choice_layer expr_layer pair_layer repeat_layer (SizedNode-F.Missing))

pub value_Number : (context : Option Shape) (e : SizedExpr) (bits : List Bool) (unknown : List Bool) → e.node ≡ n.Number bits unknown → constant_in context e ≡ node_layer (SizedNode-F.Number bits unknown) e.facts no_values (constant_site context)
unfolding node_of reading_of pair_of choice_of repeat_of
value_Number context e bits unknown q = comes_as context e (n.Number bits unknown) (SizedNode-F.Number bits unknown) q (ap node_of (sym (n.rolls-Number bits unknown)) ∙ fold-roll-SizedNode NodeReading Three Reading Pair Counted node_layer choice_layer expr_layer pair_layer repeat_layer (SizedNode-F.Number bits unknown))

pub value_Constant : (context : Option Shape) (e : SizedExpr) (bits : List Bool) → e.node ≡ n.Constant bits → constant_in context e ≡ node_layer (SizedNode-F.Constant bits) e.facts no_values (constant_site context)
unfolding node_of reading_of pair_of choice_of repeat_of
value_Constant context e bits q = comes_as context e (n.Constant bits) (SizedNode-F.Constant bits) q (ap node_of (sym (n.rolls-Constant bits)) ∙ fold-roll-SizedNode NodeReading Three Reading Pair Counted node_layer choice_layer expr_layer pair_layer repeat_layer (SizedNode-F.Constant bits))

pub value_Net : (context : Option Shape) (e : SizedExpr) (signal : Signal) → e.node ≡ n.Net signal → constant_in context e ≡ node_layer (SizedNode-F.Net signal) e.facts no_values (constant_site context)
unfolding node_of reading_of pair_of choice_of repeat_of
value_Net context e signal q = comes_as context e (n.Net signal) (SizedNode-F.Net signal) q (ap node_of (sym (n.rolls-Net signal)) ∙ fold-roll-SizedNode NodeReading Three Reading Pair Counted node_layer choice_layer expr_layer pair_layer repeat_layer (SizedNode-F.Net signal))

pub value_Bit : (context : Option Shape) (e : SizedExpr) (signal : Signal) (bracket : Place) (index : SizedExpr) → e.node ≡ n.Bit signal bracket index → constant_in context e ≡ node_layer (SizedNode-F.Bit signal bracket (read index)) e.facts no_values (constant_site context)
unfolding node_of reading_of pair_of choice_of repeat_of
value_Bit context e signal bracket index q = comes_as context e (n.Bit signal bracket index) (SizedNode-F.Bit signal bracket (read index)) q (ap node_of (sym (n.rolls-Bit signal bracket index)) ∙ fold-roll-SizedNode NodeReading Three Reading Pair Counted node_layer choice_layer expr_layer pair_layer repeat_layer (SizedNode-F.Bit signal bracket index) ∙ ap (λ x. node_layer (SizedNode-F.Bit signal bracket x)) (read_is index))

pub value_Range : (context : Option Shape) (e : SizedExpr) (signal : Signal) (bracket : Place) (ends : SizedPair) → e.node ≡ n.Range signal bracket ends → constant_in context e ≡ node_layer (SizedNode-F.Range signal bracket (read ends.left, read ends.right)) e.facts no_values (constant_site context)
unfolding node_of reading_of pair_of choice_of repeat_of
value_Range context e signal bracket ends q = comes_as context e (n.Range signal bracket ends) (SizedNode-F.Range signal bracket (read ends.left, read ends.right)) q (ap node_of (sym (n.rolls-Range signal bracket ends)) ∙ fold-roll-SizedNode NodeReading Three Reading Pair Counted node_layer choice_layer expr_layer pair_layer repeat_layer (SizedNode-F.Range signal bracket ends) ∙ ap (λ x. node_layer (SizedNode-F.Range signal bracket x)) (pair_is ends))

pub value_Upward : (context : Option Shape) (e : SizedExpr) (signal : Signal) (bracket : Place) (ends : SizedPair) → e.node ≡ n.Upward signal bracket ends → constant_in context e ≡ node_layer (SizedNode-F.Upward signal bracket (read ends.left, read ends.right)) e.facts no_values (constant_site context)
unfolding node_of reading_of pair_of choice_of repeat_of
value_Upward context e signal bracket ends q = comes_as context e (n.Upward signal bracket ends) (SizedNode-F.Upward signal bracket (read ends.left, read ends.right)) q (ap node_of (sym (n.rolls-Upward signal bracket ends)) ∙ fold-roll-SizedNode NodeReading Three Reading Pair Counted node_layer choice_layer expr_layer pair_layer repeat_layer (SizedNode-F.Upward signal bracket ends) ∙ ap (λ x. node_layer (SizedNode-F.Upward signal bracket x)) (pair_is ends))

pub value_Group : (context : Option Shape) (e : SizedExpr) (whole : SizedExpr) → e.node ≡ n.Group whole → constant_in context e ≡ node_layer (SizedNode-F.Group (read whole)) e.facts no_values (constant_site context)
unfolding node_of reading_of pair_of choice_of repeat_of
value_Group context e whole q = comes_as context e (n.Group whole) (SizedNode-F.Group (read whole)) q (ap node_of (sym (n.rolls-Group whole)) ∙ fold-roll-SizedNode NodeReading Three Reading Pair Counted node_layer choice_layer expr_layer pair_layer repeat_layer (SizedNode-F.Group whole) ∙ ap (λ x. node_layer (SizedNode-F.Group x)) (read_is whole))

pub value_Unary : (context : Option Shape) (e : SizedExpr) (operator : Prefix) (operand : SizedExpr) → e.node ≡ n.Unary operator operand → constant_in context e ≡ node_layer (SizedNode-F.Unary operator (read operand)) e.facts no_values (constant_site context)
unfolding node_of reading_of pair_of choice_of repeat_of
value_Unary context e operator operand q = comes_as context e (n.Unary operator operand) (SizedNode-F.Unary operator (read operand)) q (ap node_of (sym (n.rolls-Unary operator operand)) ∙ fold-roll-SizedNode NodeReading Three Reading Pair Counted node_layer choice_layer expr_layer pair_layer repeat_layer (SizedNode-F.Unary operator operand) ∙ ap (λ x. node_layer (SizedNode-F.Unary operator x)) (read_is operand))

pub value_Binary : (context : Option Shape) (e : SizedExpr) (operator : Infix) (operands : SizedPair) → e.node ≡ n.Binary operator operands → constant_in context e ≡ node_layer (SizedNode-F.Binary operator (read operands.left, read operands.right)) e.facts no_values (constant_site context)
unfolding node_of reading_of pair_of choice_of repeat_of
value_Binary context e operator operands q = comes_as context e (n.Binary operator operands) (SizedNode-F.Binary operator (read operands.left, read operands.right)) q (ap node_of (sym (n.rolls-Binary operator operands)) ∙ fold-roll-SizedNode NodeReading Three Reading Pair Counted node_layer choice_layer expr_layer pair_layer repeat_layer (SizedNode-F.Binary operator operands) ∙ ap (λ x. node_layer (SizedNode-F.Binary operator x)) (pair_is operands))

pub value_Choice : (context : Option Shape) (e : SizedExpr) (parts : SizedChoice) → e.node ≡ n.Choice parts → constant_in context e ≡ node_layer (SizedNode-F.Choice (read parts.test, read parts.yes_value, read parts.no_value)) e.facts no_values (constant_site context)
unfolding node_of reading_of pair_of choice_of repeat_of
value_Choice context e parts q = comes_as context e (n.Choice parts) (SizedNode-F.Choice (read parts.test, read parts.yes_value, read parts.no_value)) q (ap node_of (sym (n.rolls-Choice parts)) ∙ fold-roll-SizedNode NodeReading Three Reading Pair Counted node_layer choice_layer expr_layer pair_layer repeat_layer (SizedNode-F.Choice parts) ∙ ap (λ x. node_layer (SizedNode-F.Choice x)) (choice_is parts))

pub value_Join : (context : Option Shape) (e : SizedExpr) (list : List SizedExpr) → e.node ≡ n.Join list → constant_in context e ≡ node_layer (SizedNode-F.Join (map read list)) e.facts no_values (constant_site context)
unfolding node_of reading_of pair_of choice_of repeat_of
value_Join context e list q = comes_as context e (n.Join list) (SizedNode-F.Join (map read list)) q (ap node_of (sym (n.rolls-Join list)) ∙ fold-roll-SizedNode NodeReading Three Reading Pair Counted node_layer choice_layer expr_layer pair_layer repeat_layer (SizedNode-F.Join list) ∙ ap (λ x. node_layer (SizedNode-F.Join x)) (all_read list))

pub value_Repeat : (context : Option Shape) (e : SizedExpr) (counted : SizedRepeat) → e.node ≡ n.Repeat counted → constant_in context e ≡ node_layer (SizedNode-F.Repeat (read (out-SizedRepeat counted).count, map read (out-SizedRepeat counted).parts)) e.facts no_values (constant_site context)
unfolding node_of reading_of pair_of choice_of repeat_of
value_Repeat context e counted q = comes_as context e (n.Repeat counted) (SizedNode-F.Repeat (read (out-SizedRepeat counted).count, map read (out-SizedRepeat counted).parts)) q (ap node_of (sym (n.rolls-Repeat counted)) ∙ fold-roll-SizedNode NodeReading Three Reading Pair Counted node_layer choice_layer expr_layer pair_layer repeat_layer (SizedNode-F.Repeat counted) ∙ ap (λ x. node_layer (SizedNode-F.Repeat x)) (repeat_is counted))

pub value_Call : (context : Option Shape) (e : SizedExpr) (function : Function) (argument : SizedExpr) → e.node ≡ n.Call function argument → constant_in context e ≡ node_layer (SizedNode-F.Call function (read argument)) e.facts no_values (constant_site context)
unfolding node_of reading_of pair_of choice_of repeat_of
value_Call context e function argument q = comes_as context e (n.Call function argument) (SizedNode-F.Call function (read argument)) q (ap node_of (sym (n.rolls-Call function argument)) ∙ fold-roll-SizedNode NodeReading Three Reading Pair Counted node_layer choice_layer expr_layer pair_layer repeat_layer (SizedNode-F.Call function argument) ∙ ap (λ x. node_layer (SizedNode-F.Call function x)) (read_is argument))
