-- The value of an expression depends on the bits that it reads alone.
use Rattle.std.proofs.Common.{◌≡◌, ℕ, zero, suc, ◌+◌, ◌-◌, Bool, true, false, ◌||◌, ◌&&◌, List, [], ◌∷◌, ◌++◌, ◌≤◌, ◌<◌, map, Option, Some, None, refl, sym, ◌∙◌, ap, subst, arith}
use Rattle.std.proofs.lemmas.Bool.Decides.{nat_tests}
use Rattle.flat_design.specs.declared.net.Net.{Net}
use Rattle.flat_design.specs.declared.expr.FlatExpr.{FlatExpr, ind-FlatExpr, roll-FlatExpr}
use Rattle.flat_design.specs.declared.expr.FlatNode.{FlatNode, roll-FlatNode}
use Rattle.flat_design.specs.declared.expr.FlatNode.TheOpen.{FlatNode-F, FlatExpr-F}
use Rattle.flat_design.specs.declared.expr.FlatNode.TheFolds.{fold-FlatNode, fold-roll-FlatExpr, fold-roll-FlatNode, map-FlatNode, map-FlatExpr}
use Rattle.flat_design.specs.Bits.{Set, Values, Agree, Offset, of_net, net_at, selected, bit_at, bits_from, lies_inside, offset_of}
use Rattle.bit_base.specs.Numbers.{extended}
use Rattle.bit_base.specs.Operators.{chosen}
use Rattle.bit_words.specs.Joins.{repeated}
use Rattle.flat_design.specs.Values.{Value, NodeValue, value, node_value, expr_value, sized_word, unary_value, binary_value, joined}
use Rattle.flat_design.specs.Laws.{IsFramed}
use Rattle.flat_design.specs.Reads.{Read, NodeRead, read, node_read, expr_read, reads, select_bits, either_reads}

unfoldable pub node_value_of : List Net → Values → FlatNode → NodeValue
node_value_of nets v = fold-FlatNode NodeValue Value (node_value nets v) expr_value

unfoldable pub node_read_of : List Net → FlatNode → NodeRead
node_read_of nets = fold-FlatNode NodeRead Read (node_read nets) expr_read

abbrev NodeFramed : List Net → FlatNode → Type 0
NodeFramed nets n = (size : ℕ) (signed : Bool) → IsFramed (λ v. (signed, sized_word size (node_value_of nets v n size signed))) (node_read_of nets n size signed)

abbrev ExprFramed : List Net → FlatExpr → Type 0
ExprFramed nets e = IsFramed (λ v. value nets v e) (read nets e)

-- ---- how facts of frames are made

framed_as : (f g : Values → Value) (r q : Read) → ((v : Values) → f v ≡ g v) → r ≡ q → IsFramed g q → IsFramed f r
framed_as f g r q same read_same h = record {
  fixed = λ x is v. same v ∙ h.fixed x (ap (λ r. r.0) (sym read_same) ∙ is) v;
  frame = λ v w agree. same v ∙ h.frame v w (λ i on. agree i (ap (λ r. r.1 i) read_same ∙ on)) ∙ sym (same w);
}

-- what isn't a constant
opened : (f : Values → Value) (set : Set) → ((v w : Values) → Agree set v w → f v ≡ f w) → IsFramed f (None, set)
opened f set h = record { fixed = λ x is v. absurd (cc is); frame = h }

left_of : (a b : Set) (v w : Values) → Agree (λ i. a i || b i) v w → Agree a v w
left_of a b v w agree i on = agree i (or_left (a i) (b i) on) where
  or_left : (x y : Bool) → x ≡ true → x || y ≡ true
  or_left true y h = refl
  or_left false y h = absurd (cc h)

right_of : (a b : Set) (v w : Values) → Agree (λ i. a i || b i) v w → Agree b v w
right_of a b v w agree i on = agree i (or_right (a i) (b i) on) where
  or_right : (x y : Bool) → y ≡ true → x || y ≡ true
  or_right true y h = refl
  or_right false y h = h

-- ---- parts of nets

bits_same : (f g : ℕ → Bool) (start count : ℕ) → ((k : ℕ) → start ≤ k → k < start + count → f k ≡ g k) → bits_from f start count ≡ bits_from g start count
bits_same f g start zero h = refl
bits_same f g start (suc count) h = λ i. h start (omega arith) (omega arith) i ∷ bits_same f g (start + 1) count (λ k low high. h k (omega arith) (omega arith)) i

net_same : (net : Net) (v w : Values) → Agree (of_net net) v w → bits_from v net.first net.width ≡ bits_from w net.first net.width
net_same net v w agree = bits_same v w net.first net.width (λ k low high. agree k (inside k low high)) where
  inside : (k : ℕ) → net.first ≤ k → k < net.first + net.width → of_net net k ≡ true
  inside k low high = grind (arith, nat_tests)

selected_of : (net : Net) (o : Offset) (width k : ℕ) → k < width → lies_inside net o k ≡ true → selected net o width (net.first + (o.0 + k - o.1)) ≡ true
selected_of net o width k h is = grind (arith, nat_tests)

selected_in : (net : Net) (o : Offset) (width i : ℕ) → selected net o width i ≡ true → of_net net i ≡ true
selected_in net o width i h = grind (arith, nat_tests)

bit_same : (net : Net) (o : Offset) (width k : ℕ) (v w : Values) → Agree (selected net o width) v w → k < width → bit_at v net o k ≡ bit_at w net o k
bit_same net o width k v w agree h = both (lies_inside net o k) refl where
  both : (b : Bool) → lies_inside net o k ≡ b → bit_at v net o k ≡ bit_at w net o k
  both true e = ap (λ x. lies_inside net o k && x) (agree (net.first + (o.0 + k - o.1)) (selected_of net o width k h e))
  both false e = ap (λ b. b && v (net.first + (o.0 + k - o.1))) e ∙ ap (λ b. b && w (net.first + (o.0 + k - o.1))) (sym e)

select_at : (net : Net) (o : Offset) (width : ℕ) (v w : Values) → Agree (selected net o width) v w → bits_from (bit_at v net o) 0 width ≡ bits_from (bit_at w net o) 0 width
select_at net o width v w agree = bits_same (bit_at v net o) (bit_at w net o) 0 width (λ k low high. bit_same net o width k v w agree (omega arith))

abbrev place_of : Net → Value → Offset
place_of net x = offset_of x.0 x.1 net.lsb

selected_agree : (net : Net) (f : Values → Value) (r : Option Value) (width : ℕ) (v w u : Values) → ((x : Value) → r ≡ Some x → (v : Values) → f v ≡ x) → Agree (select_bits net r width) v w → Agree (selected net (place_of net (f u)) width) v w
selected_agree net f None width v w u fixed agree i on = agree i (selected_in net (place_of net (f u)) width i on)
selected_agree net f (Some x) width v w u fixed agree i on = agree i (ap (λ y. selected net (place_of net y) width i) (sym (fixed x refl u)) ∙ on)

select_same : (net : Net) (f : Values → Value) (r : Read) (width : ℕ) → IsFramed f r → (v w : Values) → Agree (λ i. select_bits net r.0 width i || r.1 i) v w
    → bits_from (bit_at v net (place_of net (f v))) 0 width ≡ bits_from (bit_at w net (place_of net (f w))) 0 width
select_same net f r width framed v w agree =
    ap (λ x. bits_from (bit_at v net (place_of net x)) 0 width) (framed.frame v w (right_of (select_bits net r.0 width) r.1 v w agree))
    ∙ select_at net (place_of net (f w)) width v w (selected_agree net f r.0 width v w w framed.fixed (left_of (select_bits net r.0 width) r.1 v w agree))

-- ---- nodes

abbrev Framed : List Net → Type 0
Framed nets = (e : FlatExpr) × ExprFramed nets e

joined_same : (nets : List Net) (ps : List (Framed nets)) (v w : Values) → Agree (either_reads (map (read nets) (map (λ p. p.0) ps))) v w → joined (map (value nets v) (map (λ p. p.0) ps)) ≡ joined (map (value nets w) (map (λ p. p.0) ps))
joined_same nets [] v w agree = refl
joined_same nets (p ∷ ps) v w agree =
    let first : value nets v p.0 ≡ value nets w p.0 = p.1.frame v w (left_of (reads nets p.0) (either_reads (map (read nets) (map (λ p. p.0) ps))) v w agree) in
    let rest = joined_same nets ps v w (right_of (reads nets p.0) (either_reads (map (read nets) (map (λ p. p.0) ps))) v w agree) in
    λ i. rest i ++ (first i).1

-- a node by its layer
rolled : (nets : List Net) (l : FlatNode-F FlatNode FlatExpr) (size : ℕ) (signed : Bool)
    → IsFramed (λ v. (signed, sized_word size (node_value nets v (map-FlatNode FlatNode FlatExpr NodeValue Value (node_value_of nets v) (value nets v) l) size signed))) (node_read nets (map-FlatNode FlatNode FlatExpr NodeRead Read (node_read_of nets) (read nets) l) size signed)
    → IsFramed (λ v. (signed, sized_word size (node_value_of nets v (roll-FlatNode l) size signed))) (node_read_of nets (roll-FlatNode l) size signed)
unfolding value read node_value_of node_read_of
rolled nets l size signed h = framed_as _ _ _ _ (λ v. ap (λ n. (signed, sized_word size (n size signed))) (fold-roll-FlatNode NodeValue Value (node_value nets v) expr_value l)) (ap (λ n. n size signed) (fold-roll-FlatNode NodeRead Read (node_read nets) expr_read l)) h

abbrev bare : (nets : List Net) → FlatNode-F ((n : FlatNode) × NodeFramed nets n) (Framed nets) → FlatNode-F FlatNode FlatExpr
bare nets y = map-FlatNode ((n : FlatNode) × NodeFramed nets n) (Framed nets) FlatNode FlatExpr (λ p. p.0) (λ p. p.0) y

node_framed : (nets : List Net) (y : FlatNode-F ((n : FlatNode) × NodeFramed nets n) (Framed nets)) → NodeFramed nets (roll-FlatNode (bare nets y))
node_framed nets (FlatNode-F.Constant bits) size signed = rolled nets (FlatNode-F.Constant bits) size signed (record { fixed = λ x is v. cc; frame = λ v w agree. refl })
node_framed nets (FlatNode-F.Net n) size signed = rolled nets (FlatNode-F.Net n) size signed (opened _ _ (λ v w agree. ap (λ bits. (signed, sized_word size bits)) (net_same (net_at nets n) v w agree)))
node_framed nets (FlatNode-F.Select n index width) size signed = rolled nets (FlatNode-F.Select n index.0 width) size signed (opened _ _ (λ v w agree. ap (λ bits. (signed, sized_word size bits)) (select_same (net_at nets n) (λ v. value nets v index.0) (read nets index.0) width index.1 v w agree)))
node_framed nets (FlatNode-F.Unary op a) size signed = rolled nets (FlatNode-F.Unary op a.0) size signed (opened _ _ (λ v w agree. ap (λ x. (signed, sized_word size (unary_value op x.1))) (a.1.frame v w agree)))
node_framed nets (FlatNode-F.Binary op a b) size signed = rolled nets (FlatNode-F.Binary op a.0 b.0) size signed (opened _ _ (λ v w agree.
    let left = a.1.frame v w (left_of (reads nets a.0) (reads nets b.0) v w agree) in
    let right = b.1.frame v w (right_of (reads nets a.0) (reads nets b.0) v w agree) in
    λ i. (signed, sized_word size (binary_value op signed (left i) (right i)))))
node_framed nets (FlatNode-F.Choice test a b) size signed = rolled nets (FlatNode-F.Choice test.0 a.0 b.0) size signed (opened _ _ (λ v w agree.
    let asked = test.1.frame v w (left_of (reads nets test.0) (λ i. reads nets a.0 i || reads nets b.0 i) v w agree) in
    let both = right_of (reads nets test.0) (λ i. reads nets a.0 i || reads nets b.0 i) v w agree in
    let left = a.1.frame v w (left_of (reads nets a.0) (reads nets b.0) v w both) in
    let right = b.1.frame v w (right_of (reads nets a.0) (reads nets b.0) v w both) in
    λ i. (signed, sized_word size (chosen (left i).1 (right i).1 (asked i).1))))
node_framed nets (FlatNode-F.Join count parts) size signed = rolled nets (FlatNode-F.Join count (map (λ p. p.0) parts)) size signed (opened _ _ (λ v w agree. ap (λ bits. (signed, sized_word size (repeated count bits))) (joined_same nets parts v w agree)))
node_framed nets (FlatNode-F.Resize a by_sign) size signed = rolled nets (FlatNode-F.Resize a.0 by_sign) size signed (opened _ _ (λ v w agree. ap (λ x. (signed, sized_word size (extended size by_sign x.1))) (a.1.frame v w agree)))

-- ---- expressions

expr_layer_framed : (nets : List Net) (y : FlatExpr-F ((n : FlatNode) × NodeFramed nets n) (Framed nets)) → ExprFramed nets (roll-FlatExpr (map-FlatExpr ((n : FlatNode) × NodeFramed nets n) (Framed nets) FlatNode FlatExpr (λ p. p.0) (λ p. p.0) y))
unfolding value read node_value_of node_read_of
expr_layer_framed nets y = framed_as _ _ _ _ (λ v. fold-roll-FlatExpr NodeValue Value (node_value nets v) expr_value (map-FlatExpr ((n : FlatNode) × NodeFramed nets n) (Framed nets) FlatNode FlatExpr (λ p. p.0) (λ p. p.0) y)) (fold-roll-FlatExpr NodeRead Read (node_read nets) expr_read (map-FlatExpr ((n : FlatNode) × NodeFramed nets n) (Framed nets) FlatNode FlatExpr (λ p. p.0) (λ p. p.0) y)) (y.node.1 y.size y.signed)

pub expr_framed : (nets : List Net) (e : FlatExpr) → ExprFramed nets e
expr_framed nets e = ind-FlatExpr (NodeFramed nets) (ExprFramed nets)
    (λ x y q. subst (λ x. NodeFramed nets (roll-FlatNode x)) q (node_framed nets y))
    (λ x y q. subst (λ x. ExprFramed nets (roll-FlatExpr x)) q (expr_layer_framed nets y))
    e
