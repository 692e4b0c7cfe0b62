-- An expression has as many bits as its size says, and is the extension of a word of as many as it has without its extensions.
use Rattle.std.proofs.Common.{◌≡◌, ◌⊎◌, inl, inr, ℕ, zero, suc, ◌-◌, ◌^◌, ◌<◌, Bool, true, false, ◌&&◌, List, [], ◌∷◌, ◌++◌, map, take, replicate, length, refl, sym, ◌∙◌, ap, subst, min, arith}
use Rattle.std.specs.Prelude.{if◌then◌else◌, nat_le}
use Rattle.std.proofs.lemmas.List.{length-append, length-replicate}
use Rattle.bit_base.specs.Numbers.{extended, number_of, low_bits, sign_of}
use Rattle.bit_base.proofs.Numbers.{low_bits-number_of, number_of-below}
use Rattle.std.proofs.lemmas.Bool.{cases_order}
use Rattle.flat_design.specs.declared.net.Net.{Net}
use Rattle.flat_design.specs.declared.expr.FlatExpr.{FlatExpr, ind-FlatExpr, roll-FlatExpr, out-FlatExpr, roll-out-FlatExpr}
use Rattle.flat_design.specs.declared.expr.FlatNode.{FlatNode, roll-FlatNode}
use Rattle.flat_design.specs.declared.expr.FlatNode.TheOpen.{FlatNode-F, FlatExpr-F}
use Rattle.flat_design.specs.declared.expr.FlatNode.TheFolds.{fold-FlatNode, fold-roll-FlatExpr, fold-roll-FlatNode, map-FlatNode, map-FlatExpr}
use Rattle.flat_design.specs.Bits.{Values}
use Rattle.flat_design.specs.Values.{Value, NodeValue, value, node_value, expr_value, sized_word}
use Rattle.flat_design.specs.Flows.{Spread, spread, spread_layer, unspread, all_match}
use Rattle.flat_design.proofs.FlowLemmas.{and_left, and_right}

length_taken : {A : Type 0} (n : ℕ) (xs : List A) → length (take n xs) ≡ min n (length xs)
length_taken zero xs = omega arith
length_taken (suc n) [] = omega arith
length_taken (suc n) (x ∷ xs) = let e = length_taken n xs in omega arith

pub length_extended : (size : ℕ) (signed : Bool) (bits : List Bool) → length (extended size signed bits) ≡ size
length_extended size signed bits = omega (arith, length-append (take size bits) (replicate (size - length bits) (signed && sign_of bits)), length_taken size bits, length-replicate (size - length bits) (signed && sign_of bits))

taken_whole : (bits : List Bool) → take (length bits) bits ≡ bits
taken_whole [] = refl
taken_whole (x ∷ bits) = ap (λ l. x ∷ l) (taken_whole bits)

pub sized_same : (size : ℕ) (bits : List Bool) → length bits ≡ size → sized_word size bits ≡ bits
sized_same size bits h = subst (λ n. sized_word n bits ≡ bits) h (at_length bits) where
  none : (n : ℕ) → n ≡ 0 → (xs : List Bool) → xs ++ replicate n false ≡ xs
  none zero e [] = refl
  none zero e (x ∷ xs) = ap (λ l. x ∷ l) (none zero e xs)
  none (suc n) e xs = absurd (omega arith)

  at_length : (bits : List Bool) → sized_word (length bits) bits ≡ bits
  at_length bits = none (length bits - length bits) (omega arith) (take (length bits) bits) ∙ taken_whole bits

expr_is : (nets : List Net) (v : Values) (e : FlatExpr) → value nets v e ≡ (e.signed, sized_word e.size (fold-FlatNode NodeValue Value (node_value nets v) expr_value e.node e.size e.signed))
unfolding value
expr_is nets v e = ap (value nets v) (sym (roll-out-FlatExpr e)) ∙ fold-roll-FlatExpr NodeValue Value (node_value nets v) expr_value (out-FlatExpr e)

pub value_size : (nets : List Net) (v : Values) (e : FlatExpr) → length (value nets v e).1 ≡ e.size
value_size nets v e = ap (λ x. length x.1) (expr_is nets v e) ∙ length_extended e.size false (fold-FlatNode NodeValue Value (node_value nets v) expr_value e.node e.size e.signed)

-- ---- extensions

-- these bits are what some word of the own size gives
pub record IsSpread (bits : List Bool) (s : Spread) : Type 0 where
  pub word : List Bool
  pub own : length word ≡ s.own
  pub is : bits ≡ s.widen word

spread_as : (bits other : List Bool) (s t : Spread) → bits ≡ other → t ≡ s → IsSpread other s → IsSpread bits t
spread_as bits other s t e q h = subst (IsSpread bits) (sym q) (record { word = h.word; own = h.own; is = e ∙ h.is })

unfoldable pub node_value_of : List Net → Values → FlatNode → NodeValue
node_value_of nets v = fold-FlatNode NodeValue Value (node_value nets v) expr_value

abbrev pub expr_spread : FlatExpr-F (ℕ → Spread) Spread → Spread
expr_spread e = e.node e.size

unfoldable pub node_spread_of : FlatNode → ℕ → Spread
node_spread_of = fold-FlatNode (ℕ → Spread) Spread spread_layer expr_spread

abbrev NodeSpread : List Net → Values → FlatNode → Type 0
NodeSpread nets v n = (size : ℕ) (signed : Bool) → IsSpread (sized_word size (node_value_of nets v n size signed)) (node_spread_of n size)

abbrev ExprSpread : List Net → Values → FlatExpr → Type 0
ExprSpread nets v e = IsSpread (value nets v e).1 (spread e)

abbrev Spreads : List Net → Values → Type 0
Spreads nets v = (e : FlatExpr) × ExprSpread nets v e

abbrev Nodes : List Net → Values → Type 0
Nodes nets v = (n : FlatNode) × NodeSpread nets v n

rolled : (nets : List Net) (v : Values) (l : FlatNode-F FlatNode FlatExpr) (size : ℕ) (signed : Bool)
    → IsSpread (sized_word size (node_value nets v (map-FlatNode FlatNode FlatExpr NodeValue Value (node_value_of nets v) (value nets v) l) size signed)) (spread_layer (map-FlatNode FlatNode FlatExpr (ℕ → Spread) Spread node_spread_of spread l) size)
    → IsSpread (sized_word size (node_value_of nets v (roll-FlatNode l) size signed)) (node_spread_of (roll-FlatNode l) size)
unfolding value spread node_value_of node_spread_of
rolled nets v l size signed h = spread_as _ _ _ _ (ap (λ n. sized_word size (n size signed)) (fold-roll-FlatNode NodeValue Value (node_value nets v) expr_value l)) (ap (λ n. n size) (fold-roll-FlatNode (ℕ → Spread) Spread spread_layer expr_spread l)) h

-- what isn't an extension is itself
itself : (size : ℕ) (bits : List Bool) → IsSpread (sized_word size bits) (unspread size)
itself size bits = record { word = sized_word size bits; own = length_extended size false bits; is = refl }

resized : (size : ℕ) (by_sign : Bool) (bits : List Bool) (s : Spread) (fits : Bool) → IsSpread bits s
    → IsSpread (sized_word size (extended size by_sign bits)) (if fits then record { size = size; own = s.own; widen = λ word. extended size by_sign (s.widen word) } else unspread size)
resized size by_sign bits s true h = record { word = h.word; own = h.own; is = sized_same size (extended size by_sign bits) (length_extended size by_sign bits) ∙ ap (extended size by_sign) h.is }
resized size by_sign bits s false h = itself size (extended size by_sign bits)

node_spread : (nets : List Net) (v : Values) (y : FlatNode-F (Nodes nets v) (Spreads nets v)) → NodeSpread nets v (roll-FlatNode (map-FlatNode (Nodes nets v) (Spreads nets v) FlatNode FlatExpr (λ p. p.0) (λ p. p.0) y))
node_spread nets v (FlatNode-F.Constant bits) size signed = rolled nets v (FlatNode-F.Constant bits) size signed (itself size _)
node_spread nets v (FlatNode-F.Net n) size signed = rolled nets v (FlatNode-F.Net n) size signed (itself size _)
node_spread nets v (FlatNode-F.Select n index width) size signed = rolled nets v (FlatNode-F.Select n index.0 width) size signed (itself size _)
node_spread nets v (FlatNode-F.Unary op a) size signed = rolled nets v (FlatNode-F.Unary op a.0) size signed (itself size _)
node_spread nets v (FlatNode-F.Binary op a b) size signed = rolled nets v (FlatNode-F.Binary op a.0 b.0) size signed (itself size _)
node_spread nets v (FlatNode-F.Choice test a b) size signed = rolled nets v (FlatNode-F.Choice test.0 a.0 b.0) size signed (itself size _)
node_spread nets v (FlatNode-F.Join count parts) size signed = rolled nets v (FlatNode-F.Join count (map (λ p. p.0) parts)) size signed (itself size _)
node_spread nets v (FlatNode-F.Resize a by_sign) size signed = rolled nets v (FlatNode-F.Resize a.0 by_sign) size signed (resized size by_sign (value nets v a.0).1 (spread a.0) (nat_le (spread a.0).size size) a.1)

expr_spread_layer : (nets : List Net) (v : Values) (y : FlatExpr-F (Nodes nets v) (Spreads nets v)) → ExprSpread nets v (roll-FlatExpr (map-FlatExpr (Nodes nets v) (Spreads nets v) FlatNode FlatExpr (λ p. p.0) (λ p. p.0) y))
unfolding value spread node_value_of node_spread_of
expr_spread_layer nets v y = spread_as _ _ _ _ (ap (λ x. x.1) (fold-roll-FlatExpr NodeValue Value (node_value nets v) expr_value (map-FlatExpr (Nodes nets v) (Spreads nets v) FlatNode FlatExpr (λ p. p.0) (λ p. p.0) y))) (fold-roll-FlatExpr (ℕ → Spread) Spread spread_layer expr_spread (map-FlatExpr (Nodes nets v) (Spreads nets v) FlatNode FlatExpr (λ p. p.0) (λ p. p.0) y)) (y.node.1 y.size y.signed)

pub is_spread : (nets : List Net) (v : Values) (e : FlatExpr) → ExprSpread nets v e
is_spread nets v e = ind-FlatExpr (NodeSpread nets v) (ExprSpread nets v)
    (λ x y q. subst (λ x. NodeSpread nets v (roll-FlatNode x)) q (node_spread nets v y))
    (λ x y q. subst (λ x. ExprSpread nets v (roll-FlatExpr x)) q (expr_spread_layer nets v y))
    e

-- ---- a test of all numbers below a bound tests each word

matched : (bound size n : ℕ) (p : List Bool → Bool) → all_match bound size p ≡ true → n < bound → p (low_bits size n) ≡ true
matched zero size n p h k = absurd (omega arith)
matched (suc bound) size n p h k = at_or_below (cases_order n bound) (λ below. matched bound size n p (and_left (all_match bound size p) _ h) below) where
  at_or_below : (n ≡ bound) ⊎ (n < bound ⊎ bound < n) → (n < bound → p (low_bits size n) ≡ true) → p (low_bits size n) ≡ true
  at_or_below (inl e) rest = ap (λ k. p (low_bits size k)) e ∙ and_right (all_match bound size p) _ h
  at_or_below (inr (inl below)) rest = rest below
  at_or_below (inr (inr above)) rest = absurd (omega arith)

pub each_word : (size : ℕ) (p : List Bool → Bool) → all_match (2 ^ size) size p ≡ true → (word : List Bool) → length word ≡ size → p word ≡ true
each_word size p h word long = ap p (sym (low_bits-number_of word) ∙ ap (λ n. low_bits n (number_of word)) long) ∙ matched (2 ^ size) size (number_of word) p h (subst (λ n. number_of word < 2 ^ n) long (number_of-below word))
