-- What an expression comes to under a valuation, in the context of its whole, or the first offence in it
-- (IEEE 1364-2005, 5.4 and 5.5, and the limits of this project). A constant is the case without nets.
use Rattle.std.specs.Prelude.{ℕ, ◌+◌, ◌-◌, Bool, true, false, not, ◌&&◌, ◌||◌, nat_lt, nat_le, min, if◌then◌else◌, List, [], ◌∷◌, ◌++◌, Option, Some, None, Ok, Err, pos}
use Rattle.bit_base.specs.declared.place.Place.{Place}
use Rattle.bit_base.specs.Numbers.{number_of, sign_of}
use Rattle.bit_base.specs.Operators.{chosen, is_any}
use Rattle.bit_words.specs.Joins.{repeated}
use Rattle.vlog_tree.specs.declared.fault.VlogCode.{VlogCode}
use Rattle.vlog_tree.specs.declared.fault.VlogCode.TheVariants.{VlogName, VlogConst, VlogWide}
use Rattle.vlog_values.specs.declared.facts.Shape.{Shape}
use Rattle.vlog_values.specs.declared.facts.Offence.{Offence}
use Rattle.vlog_values.specs.declared.facts.Facts.{Facts}
use Rattle.vlog_values.specs.declared.operators.Prefix.{Prefix}
use Rattle.vlog_values.specs.declared.operators.Infix.{Infix}
use Rattle.vlog_values.specs.declared.operators.Function.{Function}
use Rattle.vlog_values.specs.declared.operators.Function.TheVariants.{Clog2, Signed, Unsigned}
use Rattle.vlog_values.specs.declared.sized.Signal.{Signal}
use Rattle.vlog_values.specs.declared.sized.SizedExpr.{SizedExpr}
use Rattle.vlog_values.specs.declared.sized.SizedNode.TheOpen.{SizedNode-F, SizedExpr-F, SizedPair-F, SizedChoice-F, SizedRepeat-F}
use Rattle.vlog_values.specs.declared.sized.SizedNode.TheFolds.{fold-SizedExpr}
use Rattle.vlog_values.specs.Steps.{Outcome, ◌>>=◌, leading, behind, marked, refused, own_shape, is_over, too_wide, widest}
use Rattle.vlog_values.specs.Places.{Values, in_part, whole_number, net_bits, select_bits, place_of, lies_in}
use Rattle.vlog_values.specs.Operations.{in_context, test_in_context, is_signed, common_of, is_test, prefix_limit, prefix_word, prefix_test, InfixKind, Both, Left, Compared, Logical, infix_kind, infix_limit, is_division, is_constant_only, infix_both, infix_left, infix_compared, infix_logical, function_of}

-- where a part stands: whether the whole has to be constant, and the shape that the whole gives to it
pub record Site : Type 0 where
  pub constant : Bool
  pub context : Option Shape

-- an expression as what is known of it and what it comes to
pub record Reading : Type 0 where
  pub facts : Facts
  pub comes_to : Values → Site → Outcome (List Bool)

-- at its own size
abbrev pub alone : Reading → Values → Bool → Outcome (List Bool)
alone r values constant = r.comes_to values (record { constant = constant; context = own_shape r.facts })

-- an expression that has to be constant names no net
abbrev pub constant_of : Reading → Values → Outcome (List Bool)
constant_of r values = marked (if r.facts.names_net then Some VlogConst else None) r.facts.place (alone r values true) (alone r values true)

-- no net and no unknown digit
abbrev pub is_constant : Facts → Bool
is_constant facts = not facts.names_net && not facts.has_unknown

-- what is asked of a value may fail
abbrev pub Check : Type 0
Check = Outcome (Unit {0})

-- a count has to be at least 1
abbrev pub least_one : Facts → List Bool → Check
least_one facts bits = if (is_signed (own_shape facts) && sign_of bits) || not (is_any bits) then Err (leading VlogConst facts.place) else Ok tt

abbrev pub count_of : Reading → Values → Outcome (List Bool)
count_of r values = constant_of r values >>= (λ bits. least_one r.facts bits >>= (λ done. Ok bits))

-- a divisor mustn't be 0
abbrev pub not_zero : Facts → List Bool → Check
not_zero facts bits = if is_any bits then Ok tt else Err (leading VlogConst facts.place)

-- an exponent mustn't be negative
abbrev pub not_negative : Facts → List Bool → Check
not_negative facts bits = if is_signed (own_shape facts) && sign_of bits then Err (leading VlogConst facts.place) else Ok tt

-- a part of a concatenation has a size of its own
abbrev pub or_lone : Option Offence → Outcome (List Bool) → Outcome (List Bool)
or_lone None outcome = outcome
or_lone (Some o) outcome = Err o

abbrev pub part_of : Reading → Values → Bool → Outcome (List Bool)
part_of r values constant = or_lone r.facts.lone (alone r values constant)

-- a part below what stands higher
abbrev pub below : Reading → Values → Bool → List Bool → Outcome (List Bool)
below r values constant higher = behind (part_of r values constant) >>= (λ bits. Ok (bits ++ higher))

-- the parts one after the other, below the higher ones; they are counted from k
abbrev pub parts_of : List Reading → ℕ → Values → Bool → List Bool → Outcome (List Bool)
parts_of [] k values constant higher = Ok higher
parts_of (r ∷ rs) k values constant higher = below r (in_part k values) constant higher >>= parts_of rs (k + 1) values constant

-- a number of bits or of times: 4,096 or more count as 4,096
abbrev pub count_in : List Bool → ℕ
count_in bits = min (number_of bits) 4096

-- ---- selects

abbrev pub place_in : Facts → List Bool → Option ℕ
place_in facts bits = place_of (is_signed (own_shape facts)) bits

-- an offence of a select stands at its `[`
abbrev pub at_bracket : Place → Check
at_bracket bracket = Err (record { leads = false; code = VlogConst; place = bracket })

-- a constant select lies inside its net
abbrev pub inside : Signal → Place → Facts → ℕ → List Bool → Check
inside signal bracket facts width bits = if is_constant facts && not (lies_in signal (place_in facts bits) width) then at_bracket bracket else Ok tt

-- a range of places isn't ascending, and lies inside its net
abbrev pub range_in : Signal → Place → Option ℕ → Option ℕ → Outcome (ℕ × ℕ)
range_in signal bracket None low = Err (record { leads = false; code = VlogConst; place = bracket })
range_in signal bracket (Some high) None = Err (record { leads = false; code = VlogConst; place = bracket })
range_in signal bracket (Some high) (Some low) = if nat_le low high && lies_in signal (Some low) (high - low + 1) then Ok (low, high - low + 1) else Err (record { leads = false; code = VlogConst; place = bracket })

-- so many bits upwards are no more than the net has, where it is known how many
abbrev pub fitting : Signal → Place → Outcome (List Bool) → Check
fitting signal bracket (Ok width) = if nat_lt signal.width (number_of width) then at_bracket bracket else Ok tt
fitting signal bracket (Err o) = Ok tt

-- ---- the kinds of nodes

-- a number whose unknown bits are these, least first
abbrev pub filled : List Bool → List Bool → (ℕ → Bool) → List Bool
filled [] us f = []
filled (b ∷ bs) [] f = b ∷ bs
filled (b ∷ bs) (true ∷ us) f = f 0 ∷ filled bs us (λ k. f (k + 1))
filled (b ∷ bs) (false ∷ us) f = b ∷ filled bs us f

abbrev pub number_comes : List Bool → List Bool → Values → List Bool
number_comes bits unknown values = filled bits unknown (values.hidden [])

-- a number over 128 bits
abbrev pub number_width : Facts → Option Shape → Option VlogCode
number_width facts context = if is_over 128 (own_shape facts) then Some VlogWide else too_wide widest facts context

-- the same, or an unknown digit where a constant is needed
abbrev pub number_mark : Facts → Site → Option VlogCode
number_mark facts site = if site.constant && facts.has_unknown then Some VlogConst else number_width facts site.context

-- an operator before its operand
abbrev pub word_comes : Prefix → Facts → Site → Reading → Values → Outcome (List Bool)
word_comes op facts site r values = refused (too_wide (prefix_limit op) facts site.context) facts.place (behind (r.comes_to (in_part 0 values) site) >>= (λ a. Ok (prefix_word op a)))

abbrev pub test_comes : Prefix → Facts → Site → Reading → Values → Outcome (List Bool)
test_comes op facts site r values = refused (too_wide widest facts site.context) facts.place (behind (alone r (in_part 0 values) site.constant) >>= (λ a. Ok (test_in_context site.context (prefix_test op a))))

-- `/ % **` outside a constant
abbrev pub infix_mark : Infix → Facts → Site → Option VlogCode
infix_mark op facts site = if is_constant_only op && not site.constant && not (is_constant facts) then Some VlogConst else too_wide (infix_limit op) facts site.context

abbrev pub divisor : Infix → Reading → Values → Site → Outcome (List Bool)
divisor op r values site = r.comes_to values site >>= (λ b. (if is_division op then not_zero r.facts b else Ok tt) >>= (λ done. Ok b))

abbrev pub amount : Infix → Reading → Values → Site → Outcome (List Bool)
amount op r values site = alone r values site.constant >>= (λ b. (if is_constant_only op then not_negative r.facts b else Ok tt) >>= (λ done. Ok b))

-- the shape at which two operands are compared, and whether it is over the operator's limit
abbrev pub compared_site : Site → Reading → Reading → Site
compared_site site l r = record { constant = site.constant; context = common_of (own_shape l.facts) (own_shape r.facts) }

abbrev pub compared_mark : Infix → Facts → Site → Site → Option VlogCode
compared_mark op facts site operands = if is_over (infix_limit op) operands.context then Some VlogWide else too_wide widest facts site.context

-- a comparison of operands that stand at a site of their own
abbrev pub compared_comes : Infix → Facts → Site → Site → Reading → Reading → Values → Outcome (List Bool)
compared_comes op facts site operands l r values =
    marked (compared_mark op facts site operands) facts.place (l.comes_to (in_part 0 values) operands)
    (l.comes_to (in_part 0 values) operands >>= (λ a. behind (r.comes_to (in_part 1 values) operands) >>= (λ b. Ok (test_in_context site.context (infix_compared op (is_signed operands.context) a b)))))

abbrev pub infix_comes : Infix → InfixKind → Facts → Site → Reading → Reading → Values → Outcome (List Bool)
infix_comes op Both facts site l r values =
    marked (infix_mark op facts site) facts.place (l.comes_to (in_part 0 values) site)
    (l.comes_to (in_part 0 values) site >>= (λ a. behind (divisor op r (in_part 1 values) site) >>= (λ b. Ok (infix_both op (is_signed site.context) a b))))
infix_comes op Left facts site l r values =
    marked (infix_mark op facts site) facts.place (l.comes_to (in_part 0 values) site)
    (l.comes_to (in_part 0 values) site >>= (λ a. behind (amount op r (in_part 1 values) site) >>= (λ b. Ok (infix_left op (is_signed site.context) a b))))
infix_comes op Compared facts site l r values = compared_comes op facts site (compared_site site l r) l r values
infix_comes op Logical facts site l r values =
    marked (too_wide widest facts site.context) facts.place (alone l (in_part 0 values) site.constant)
    (alone l (in_part 0 values) site.constant >>= (λ a. behind (alone r (in_part 1 values) site.constant) >>= (λ b. Ok (test_in_context site.context (infix_logical op a b)))))

-- a choice, whose test stands at its own size
abbrev pub choice_comes : Facts → Site → Reading → Reading → Reading → Values → Outcome (List Bool)
choice_comes facts site test yes_value no_value values =
    marked (too_wide widest facts site.context) facts.place (alone test (in_part 0 values) site.constant)
    (alone test (in_part 0 values) site.constant >>= (λ c. behind (yes_value.comes_to (in_part 1 values) site) >>= (λ a. behind (no_value.comes_to (in_part 2 values) site) >>= (λ b. Ok (chosen a b c)))))

-- ---- parts of nets, and what stands in brackets

abbrev pub bit_comes : Signal → Place → Facts → Site → Reading → Values → Outcome (List Bool)
bit_comes signal bracket facts site index values =
    refused (too_wide widest facts site.context) facts.place
    (behind (alone index (in_part 0 values) site.constant) >>= (λ at. inside signal bracket index.facts 1 at >>= (λ done. Ok (in_context site.context (select_bits values signal (whole_number (is_signed (own_shape index.facts)) at) 1)))))

abbrev pub range_comes : Signal → Place → Facts → Site → Reading → Reading → Values → Outcome (List Bool)
range_comes signal bracket facts site high low values =
    refused (too_wide widest facts site.context) facts.place
    (behind (constant_of high (in_part 0 values)) >>= (λ h. behind (constant_of low (in_part 1 values)) >>= (λ l. range_in signal bracket (place_in high.facts h) (place_in low.facts l) >>= (λ range. Ok (in_context site.context (select_bits values signal (pos range.0) range.1))))))

abbrev pub upward_comes : Signal → Place → Facts → Site → Reading → Reading → Values → Outcome (List Bool)
upward_comes signal bracket facts site low width values =
    refused (too_wide widest facts site.context) facts.place
    (fitting signal bracket (count_of width (in_part 1 values)) >>= (λ done. behind (alone low (in_part 0 values) site.constant) >>= (λ at. behind (count_of width (in_part 1 values)) >>= (λ w. inside signal bracket low.facts (number_of w) at >>= (λ done. Ok (in_context site.context (select_bits values signal (whole_number (is_signed (own_shape low.facts)) at) (count_in w))))))))

abbrev pub group_comes : Facts → Site → Reading → Values → Outcome (List Bool)
group_comes facts site r values = refused (too_wide widest facts site.context) facts.place (behind (r.comes_to (in_part 0 values) site))

abbrev pub join_comes : Facts → Site → List Reading → Values → Outcome (List Bool)
join_comes facts site parts values = refused (too_wide widest facts site.context) facts.place (parts_of parts 0 values site.constant [] >>= (λ bits. Ok (in_context site.context bits)))

abbrev pub repeat_comes : Facts → Site → Reading → List Reading → Values → Outcome (List Bool)
repeat_comes facts site count parts values =
    refused (too_wide widest facts site.context) facts.place
    (behind (count_of count (in_part 0 values)) >>= (λ n. parts_of parts 1 values site.constant [] >>= (λ bits. Ok (in_context site.context (repeated (count_in n) bits)))))

abbrev pub argument_of : Function → Reading → Values → Bool → Outcome (List Bool)
argument_of Clog2 r values constant = constant_of r values
argument_of Signed r values constant = alone r values constant
argument_of Unsigned r values constant = alone r values constant

abbrev pub call_comes : Function → Facts → Site → Reading → Values → Outcome (List Bool)
call_comes function facts site r values =
    refused (too_wide widest facts site.context) facts.place (behind (argument_of function r (in_part 0 values) site.constant) >>= (λ a. Ok (in_context site.context (function_of function a))))

-- ---- names and numbers

abbrev pub number_outcome : List Bool → List Bool → Facts → Site → Values → Outcome (List Bool)
number_outcome bits unknown facts site values = refused (number_mark facts site) facts.place (Ok (in_context site.context (if facts.has_unknown then number_comes bits unknown values else bits)))

abbrev pub constant_comes : List Bool → Facts → Site → Outcome (List Bool)
constant_comes bits facts site = refused (too_wide widest facts site.context) facts.place (Ok (in_context site.context bits))

-- ---- the fold over the tree

abbrev pub NodeReading : Type 0
NodeReading = Facts → Values → Site → Outcome (List Bool)

-- two, three, and one before several
abbrev pub Pair : Type 0
Pair = Reading × Reading

abbrev pub Three : Type 0
Three = Reading × Reading × Reading

abbrev pub Counted : Type 0
Counted = Reading × List Reading

abbrev pub node_layer : SizedNode-F NodeReading Three Reading Pair Counted → NodeReading
node_layer SizedNode-F.Missing facts values site = Err (leading VlogName facts.place)
node_layer (SizedNode-F.Number bits unknown) facts values site = number_outcome bits unknown facts site values
node_layer (SizedNode-F.Constant bits) facts values site = constant_comes bits facts site
node_layer (SizedNode-F.Net signal) facts values site = constant_comes (net_bits values signal) facts site
node_layer (SizedNode-F.Bit signal bracket index) facts values site = bit_comes signal bracket facts site index values
node_layer (SizedNode-F.Range signal bracket ends) facts values site = range_comes signal bracket facts site ends.0 ends.1 values
node_layer (SizedNode-F.Upward signal bracket ends) facts values site = upward_comes signal bracket facts site ends.0 ends.1 values
node_layer (SizedNode-F.Group r) facts values site = group_comes facts site r values
node_layer (SizedNode-F.Unary op r) facts values site = if is_test op then test_comes op facts site r values else word_comes op facts site r values
node_layer (SizedNode-F.Binary op operands) facts values site = infix_comes op (infix_kind op) facts site operands.0 operands.1 values
node_layer (SizedNode-F.Choice three) facts values site = choice_comes facts site three.0 three.1 three.2 values
node_layer (SizedNode-F.Join parts) facts values site = join_comes facts site parts values
node_layer (SizedNode-F.Repeat counted) facts values site = repeat_comes facts site counted.0 counted.1 values
node_layer (SizedNode-F.Call function argument) facts values site = call_comes function facts site argument values

abbrev pub expr_layer : SizedExpr-F NodeReading Three Reading Pair Counted → Reading
expr_layer e = record { facts = e.facts; comes_to = e.node e.facts }

abbrev pub pair_layer : SizedPair-F NodeReading Three Reading Pair Counted → Pair
pair_layer p = (p.left, p.right)

abbrev pub choice_layer : SizedChoice-F NodeReading Three Reading Pair Counted → Three
choice_layer c = (c.test, c.yes_value, c.no_value)

abbrev pub repeat_layer : SizedRepeat-F NodeReading Three Reading Pair Counted → Counted
repeat_layer r = (r.count, r.parts)

unfoldable pub reading_of : SizedExpr → Reading
reading_of = fold-SizedExpr NodeReading Three Reading Pair Counted node_layer choice_layer expr_layer pair_layer repeat_layer
