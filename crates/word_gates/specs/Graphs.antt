-- Which graph each operator builds: its wires, and the nodes with its gates, as a function of the nodes before. A gate that
-- is there is taken (`and_of`). Of a word, the gates of a place stand behind those of the places before it.
use Rattle.std.specs.Prelude.{ℕ, ◌+◌, ◌-◌, ◌*◌, ◌/◌, ◌%◌, ◌==◌, Bool, true, false, if◌then◌else◌, List, [], ◌∷◌, ◌++◌, length, get_or, take, drop, map, replicate, min}
use Rattle.std.specs.List.{fold}
use Rattle.std.specs.Simd.Lanes.{zip2}
use Rattle.gate_graph.specs.declared.wires.Wire.{Wire}
use Rattle.gate_graph.specs.declared.nodes.Node.{Node}
use Rattle.gate_graph.specs.Sharing.{and_of}
use Rattle.word_gates.specs.Moving.{moved_by}

-- the constant wires, and the wire that is true where this one is false
abbrev pub off : Wire
off = record { 0 = 0 }

abbrev pub on : Wire
on = record { 0 = 1 }

abbrev pub inverse : Wire → Wire
inverse w = record { 0 = if w.0 % 2 == 0 then w.0 + 1 else w.0 - 1 }

abbrev pub inverted_made : Wire × List Node → Wire × List Node
inverted_made made = (inverse made.0, made.1)

-- gates of one place
unfoldable pub or_made : List Node → Wire → Wire → Wire × List Node
or_made ns a b = inverted_made (and_of ns (inverse a) (inverse b))

unfoldable pub xor_made : List Node → Wire → Wire → Wire × List Node
xor_made ns a b =
    let left = and_of ns a (inverse b) in
    let right = and_of left.1 (inverse a) b in
    or_made right.1 left.0 right.0

unfoldable pub pick_made : List Node → Wire → Wire → Wire → Wire × List Node
pick_made ns a b c =
    let left = and_of ns c a in
    let right = and_of left.1 (inverse c) b in
    or_made right.1 left.0 right.0

unfoldable pub sum_made : List Node → Wire → Wire → Wire → Wire × List Node
sum_made ns a b c =
    let half = xor_made ns a b in
    xor_made half.1 half.0 c

unfoldable pub carry_made : List Node → Wire → Wire → Wire → Wire × List Node
carry_made ns a b c =
    let both = and_of ns a b in
    let either = or_made both.1 a b in
    let through = and_of either.1 c either.0 in
    or_made through.1 both.0 through.0

-- the operator of this number: `&`, `|`, `^`, `~^`
unfoldable pub place_made : ℕ → List Node → Wire → Wire → Wire × List Node
place_made operator ns a b =
    if operator == 0 then and_of ns a b else (if operator == 1 then or_made ns a b else (if operator == 2 then xor_made ns a b else inverted_made (xor_made ns a b)))

-- place by place: each place's wire behind those so far
abbrev pub behind : List Wire → Wire × List Node → List Wire × List Node
behind wires made = (wires ++ made.0 ∷ [], made.1)

abbrev pub lanes : {X : Type 0} → (List Node → X → Wire × List Node) → List Node → List X → List Wire × List Node
lanes f ns xs = fold (λ made x. behind made.0 (f made.1 x)) ([], ns) xs

-- what is carried from place to place
abbrev pub carried : {S X : Type 0} → (List Node → S → X → S × List Node) → List Node → S → List X → S × List Node
carried f ns s xs = fold (λ made x. f made.1 made.0 x) (s, ns) xs

abbrev pub pairs : List Wire → List Wire → List (Wire × Wire)
pairs a b = zip2 (λ x y. (x, y)) a b

abbrev pub triples : List Wire → List Wire → List Wire → List (Wire × (Wire × Wire))
triples a b c = zip2 (λ x p. (x, p)) a (pairs b c)

unfoldable pub bitwise_made : ℕ → List Node → List Wire → List Wire → List Wire × List Node
bitwise_made operator ns a b = lanes (λ g p. place_made operator g p.0 p.1) ns (pairs a b)

-- choices
unfoldable pub between_made : List Node → List Wire → List Wire → Wire → List Wire × List Node
between_made ns a b c = lanes (λ g p. pick_made g p.0 p.1 c) ns (pairs a b)

unfoldable pub masked_made : List Node → List Wire → Wire → List Wire × List Node
masked_made ns a c = lanes (λ g x. and_of g x c) ns a

unfoldable pub forced_made : List Node → List Wire → Wire → List Wire × List Node
forced_made ns a c = lanes (λ g x. or_made g x c) ns a

unfoldable pub picked_made : List Node → List Wire → List Wire → List Wire → List Wire × List Node
picked_made ns a b c = lanes (λ g (p : Wire × (Wire × Wire)). pick_made g p.0 p.1.0 p.1.1) ns (triples a b c)

-- reductions
unfoldable pub chain_made : ℕ → List Node → Wire → List Wire → Wire × List Node
chain_made operator ns w a = carried (place_made operator) ns w a

abbrev pub one_made : Wire × List Node → List Wire × List Node
one_made made = (made.0 ∷ [], made.1)

unfoldable pub any_made : List Node → List Wire → Wire × List Node
any_made ns a = chain_made 1 ns off a

unfoldable pub all_made : List Node → List Wire → Wire × List Node
all_made ns a = chain_made 0 ns on a

unfoldable pub parity_made : List Node → List Wire → Wire × List Node
parity_made ns a = chain_made 2 ns off a

unfoldable pub equal_made : List Node → List Wire → List Wire → Wire × List Node
equal_made ns a b =
    let same = bitwise_made 3 ns a b in
    all_made same.1 same.0

unfoldable pub chosen_made : List Node → List Wire → List Wire → List Wire → List Wire × List Node
chosen_made ns a b c =
    let condition = any_made ns c in
    between_made condition.1 a b condition.0

-- sums: at each place the sum of two bits and the carry, and then the next carry
abbrev pub sum_step_made : List Node → List Wire × Wire → Wire × Wire → (List Wire × Wire) × List Node
sum_step_made ns s p =
    let sum = sum_made ns p.0 p.1 s.1 in
    let carry = carry_made sum.1 p.0 p.1 s.1 in
    ((s.0 ++ sum.0 ∷ [], carry.0), carry.1)

unfoldable pub sums_made : List Node → List Wire → List Wire → Wire → List Wire × List Node
sums_made ns a b c =
    let made = carried sum_step_made ns ([], c) (pairs a b) in
    (made.0.0, made.1)

unfoldable pub carry_out_made : List Node → List Wire → List Wire → Wire → Wire × List Node
carry_out_made ns a b c = carried (λ g s p. carry_made g p.0 p.1 s) ns c (pairs a b)

unfoldable pub add_made : List Node → List Wire → List Wire → List Wire × List Node
add_made ns a b = sums_made ns a b off

unfoldable pub sub_made : List Node → List Wire → List Wire → List Wire × List Node
sub_made ns a b = sums_made ns a (map inverse b) on

unfoldable pub negate_made : List Node → List Wire → List Wire × List Node
negate_made ns a = sub_made ns (replicate (length a) off) a

unfoldable pub less_made : List Node → List Wire → List Wire → Wire × List Node
less_made ns a b = inverted_made (carry_out_made ns a (map inverse b) on)

-- the word with its last wire inverted
abbrev pub sign_inverse : List Wire → List Wire
sign_inverse a = take (length a - 1) a ++ map inverse (drop (length a - 1) a)

unfoldable pub less_signed_made : List Node → List Wire → List Wire → Wire × List Node
less_signed_made ns a b = less_made ns (sign_inverse a) (sign_inverse b)

-- shifts: stage by stage, by twice as many places each
abbrev pub stage_made : Bool → Wire → List Node → List Wire × ℕ → Wire → (List Wire × ℕ) × List Node
stage_made left fill ns s bit =
    let made = between_made ns (moved_by left s.1 fill s.0) s.0 bit in
    ((made.0, s.1 * 2), made.1)

unfoldable pub barrel_made : Bool → List Node → List Wire → List Wire → Wire → List Wire × List Node
barrel_made left ns a amount fill =
    let made = carried (stage_made left fill) ns (a, 1) amount in
    (made.0.0, made.1)

-- the far places of an amount, from the twelfth on, say whether something is left
unfoldable pub shifted_made : Bool → List Node → List Wire → List Wire → List Wire × List Node
shifted_made left ns a b =
    let far = any_made ns (drop (min (length b) 11) b) in
    let kept = masked_made far.1 a (inverse far.0) in
    barrel_made left kept.1 kept.0 (take (min (length b) 11) b) off

unfoldable pub shifted_signed_made : List Node → List Wire → List Wire → List Wire × List Node
shifted_signed_made ns a b =
    let far = any_made ns (drop (min (length b) 11) b) in
    let amount = forced_made far.1 (take (min (length b) 11) b) far.0 in
    barrel_made false amount.1 a amount.0 (get_or a (length a - 1) off)

-- products: row by row, each by one place more
unfoldable pub row_made : List Node → List Wire → List Wire → ℕ → Wire → List Wire × List Node
row_made ns sum a places bit =
    let row = masked_made ns (moved_by true places off a) bit in
    add_made row.1 sum row.0

abbrev pub row_step_made : List Wire → List Node → List Wire × ℕ → Wire → (List Wire × ℕ) × List Node
row_step_made a ns s bit =
    let made = row_made ns s.0 a s.1 bit in
    ((made.0, s.1 + 1), made.1)

unfoldable pub product_made : List Node → List Wire → List Wire → List Wire × List Node
product_made ns a b =
    let made = carried (row_step_made a) ns (replicate (length a) off, 0) b in
    (made.0.0, made.1)

-- a word beside a number: each place as the number's bit has it, and nothing left of the number
abbrev pub as_bit : Wire → Bool → Wire
as_bit w bit = if bit then w else inverse w

abbrev pub number_step_made : List Node → Wire × ℕ → Wire → (Wire × ℕ) × List Node
number_step_made ns s w =
    let made = and_of ns s.0 (as_bit w (s.1 % 2 == 1)) in
    ((made.0, s.1 / 2), made.1)

unfoldable pub number_made : List Node → List Wire → ℕ → Wire × List Node
number_made ns a n =
    let made = carried number_step_made ns (on, n) a in
    (if made.0.1 == 0 then made.0.0 else off, made.1)
